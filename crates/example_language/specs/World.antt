-- A world in memory, whose counters go round at 2^32. This project.
use Rattle.std.specs.Prelude.{ℕ, zero, suc, ◌+◌}
use Rattle.kept_values.specs.Trees.{Tree, Leaf, Fork}
use Rattle.asking_core.specs.Worlds.{WorldModel}
use Rattle.asking_core.specs.Counters.{Round, round}

-- the value, the number of counted calls, the depth of calls, and the outermost statement
pub record Held : Type 0 where
  pub value : Tree
  pub calls : Round
  pub depth : Round
  pub at : ℕ

abbrev pub held_answer : Held → Tree → Tree
held_answer s (Leaf zero) = s.value
held_answer s (Leaf (suc n)) = Leaf s.calls.number
held_answer s (Fork a b) = Leaf 0

-- the cells of `plain_expansion`, in 32 bits
abbrev pub round_cells : WorldModel
round_cells = record {
  State = Held;
  answer = held_answer;
  after_put = λ s key value. record s { value = value };
  after_bump = λ s n. record s { calls = round (s.calls.number + n) };
  after_enter = λ s. record s { depth = round (s.depth.number + 1) };
  after_leave = λ s. record s { depth = round (s.depth.number + 4294967295) };
  after_at = λ s n. record s { at = n };
}
