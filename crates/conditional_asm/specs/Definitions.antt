-- Whether a macro definition has the name of an operation (this project): who knows that is asked.
use Rattle.std.specs.Prelude.{ℕ, Bool, true, false, List}
use Rattle.std.specs.Option.{option_map_or}
use Rattle.hl_base.specs.declared.set.Answer.{Answer}
use Rattle.hl_base.specs.declared.set.Answer.TheVariants.{Defined}
use Rattle.hl_base.specs.declared.set.Key.TheVariants.{Op}
use Rattle.cond_expr.specs.Told.{Told}
use Rattle.cond_expr.specs.Outcome.{Outcome, Asks, gives}

-- whether an answer is a definition
abbrev pub is_definition : Answer → Bool
is_definition Defined = true
is_definition other = false

-- whether an operation has a definition, as far as that was answered
abbrev pub defined : List ℕ → Told → Outcome Bool
defined op told = option_map_or (λ answer. gives (is_definition answer)) (told.answer (Op op)) (Asks (Op op))
