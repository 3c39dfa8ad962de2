use Rattle.std.proofs.Common.{◌≡◌, ◌∙◌, ap, get_or, pos, rules, to_z, of_z, w32}
use Rattle.macro_binding.specs.Values.{place_of}
use Rattle.macro_binding.proofs.ValueLaws.{out_of_range}
use Rattle.macro_binding.proofs.value.subscripted.Goals as goal

pub returns-in-None : goal.returns-in-None
returns-in-None c =
    let subscript = get_or c.args.subscripts.now c.loop-subscript.subscript-index (pos 0) in
    let fits : to_z w32 (of_z w32 subscript) ≡ subscript = search rules in
    out_of_range _ _ _ (pos 0) _ c.loop-subscript.invariant c.loop-subscript-test.true (c.in-None.ensures ∙ ap place_of fits)
