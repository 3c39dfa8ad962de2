use Rattle.std.proofs.Common.{◌≡◌, Some, drop}
use Rattle.std.specs.Str.{chars}
use Rattle.macro_binding.specs.Values as values
use Rattle.macro_binding.proofs.value.subscripted.Given as goal

-- the element so far with the subscripts that are left is the value with all of them
abbrev pub invariant-loop-subscript : goal.invariant-loop-subscript
invariant-loop-subscript l = values.subscripted_at (Some l.value) (drop l.subscript-index l.subscripts) ≡ values.subscripted (chars l.text) l.subscripts
