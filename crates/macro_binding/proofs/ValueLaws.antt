-- Values with subscripts, one step on.
use Rattle.std.proofs.Common.{◌≡◌, ℕ, ℤ, suc, ◌<◌, List, Some, None, sym, ap, ◌∙◌, length, drop, get_or}
use Rattle.std.specs.Option.{option_map}
use Rattle.std.proofs.Math.Seq.{drop-cons}
use Rattle.macro_binding.specs.declared.value.Worth.{Worth}
use Rattle.macro_binding.specs.declared.value.Worth.TheVariants.{OutOfRange}
use Rattle.macro_binding.specs.Values.{element, place_of, subscripted_at}

-- where a subscript is out of range, there is no value
pub out_of_range : (value : List ℕ) (subscripts : List ℤ) (i : ℕ) (d : ℤ) (whole : Worth) →
    subscripted_at (Some value) (drop i subscripts) ≡ whole → i < length subscripts → None ≡ place_of (get_or subscripts i d) → OutOfRange ≡ whole
out_of_range value subscripts i d whole is within none =
    ap (λ at. subscripted_at (option_map (element value) at) (drop (suc i) subscripts)) none
    ∙ sym (ap (subscripted_at (Some value)) (drop-cons subscripts i d within))
    ∙ is
