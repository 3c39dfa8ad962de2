-- END (HLASM Language Reference SC26-4940, "END instruction"): it places the last pool.
use Rattle.std.specs.Prelude.{ℕ, List, ◌++◌, Option, Result}
use Rattle.expression_grammar.specs.Trees.{Tree}
use Rattle.section_steps.specs.Equates.{some_unread}
use Rattle.section_steps.specs.Marks.{mark_behind, mark_laid}
use Rattle.section_steps.specs.Orgs.{left_of}
use Rattle.section_steps.specs.Pools.{last_behind, said_of_last}
use Rattle.section_steps.specs.States.{State, Laid}

unfoldable pub end_behind : Option (List ℕ) → State → State
end_behind label state = last_behind (mark_behind label state)

unfoldable pub end_laid : Option (Result Tree ℕ) → Option (List ℕ) → State → Laid
end_laid at label state = mark_laid (some_unread at ++ said_of_last (mark_behind label state)) (left_of at) label state
