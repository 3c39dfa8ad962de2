-- What an evaluation is told of its surroundings: what each variable symbol stands for, how many positional operands the
-- call has, and the answers that were given so far. This project.
use Rattle.std.specs.Prelude.{ℕ, ℤ, List, Option}
use Rattle.hl_base.specs.declared.set.Key.{Key}
use Rattle.hl_base.specs.declared.set.Answer.{Answer}
use Rattle.cond_expr.specs.declared.lookups.Found.{Found}

pub record Told : Type 0 where
  pub variable : List ℕ → List ℤ → Found
  pub positionals : ℕ
  pub answer : Key → Option Answer
