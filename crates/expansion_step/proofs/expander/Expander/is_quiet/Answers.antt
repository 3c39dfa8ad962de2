use Rattle.std.proofs.Common.{sym, ap, ◌∙◌, length}
use Rattle.std.specs.Prelude.{nat_lt}
use Rattle.plain_expansion.specs.Marks.{is_quiet}
use Rattle.expansion_step.specs.Meaning.{meaning}
use Rattle.expansion_step.specs.Places.{progress_by}
use Rattle.expansion_step.proofs.Entries.{entrance-quiet}
use Rattle.expansion_step.proofs.expander.Expander.is_quiet.Goals as goal

pub returns-in-Entering : goal.returns-in-Entering
returns-in-Entering g c =
    let m = meaning g.X.CodedLanguage.reads g.X.CodedLanguage.call_of g.X.Call.Kept.code g.X.Key.Kept.code g.X.Value.Kept.code in
    let e = c.in-Entering.entrance in
    ap (λ l. nat_lt (length l) (length c.as_slice-in-Entering.result.now)) c.as_slice.ensures.value
    ∙ ap (λ l. nat_lt (length e.answers.items) (length l)) c.as_slice-in-Entering.ensures.value
    ∙ entrance-quiet m e
    ∙ sym (ap (λ p. is_quiet (progress_by m p)) c.in-Entering.is)
