use Rattle.std.specs.Prelude.{◌<◌, All}
use Rattle.session_cases.proofs.numbers.sizes.Given as goal

-- the sizes so far are positive
abbrev pub invariant-loop-word : goal.invariant-loop-word
invariant-loop-word l = All (λ size. 0 < size) l.sizes.items
