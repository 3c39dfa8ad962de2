use Rattle.std.proofs.Common.{◌≤◌, ◌∙◌, [], length, sym, subst}
use Rattle.std.proofs.Math.ListN.{get_or-eq_default}
use Rattle.std.proofs.lemmas.Bool.{ltb-false}
use Rattle.std.proofs.lemmas.Str.{chars-nil}
use Rattle.macro_binding.proofs.value.text_at.Goals as goal

pub returns-in-None : goal.returns-in-None
returns-in-None c =
    let past : length c.as_slice.result.now ≤ c.args.place = ltb-false c.args.place (length c.as_slice.result.now) (sym c.in-None.ensures.lookup.0) in
    chars-nil ∙ sym (get_or-eq_default c.args.texts.now [] (subst (λ l. length l ≤ c.args.place) c.as_slice.ensures past))
