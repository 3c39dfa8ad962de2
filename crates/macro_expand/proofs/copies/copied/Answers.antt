use Rattle.std.proofs.Common.{◌∙◌, Some, sym, ap}
use Rattle.plain_expansion.specs.Language.{Copying, Effect, Enters}
use Rattle.plain_expansion.specs.Questions.{Comes}
use Rattle.macro_expand.specs.Acts as acts
use Rattle.macro_expand.specs.Acts.{words}
use Rattle.macro_expand.specs.Codes.{passage_by, placed_by}
use Rattle.macro_expand.specs.Passages.{Passage}
use Rattle.macro_expand.specs.declared.said.Said.{Said}
use Rattle.macro_expand.proofs.copies.copied.Goals as goal

pub returns-in_ok-quiet-in-File : goal.returns-in_ok-quiet-in-File
returns-in_ok-quiet-in-File c = λ k e.
    let shown : Said → Said → Passage → Effect words = λ said limited passage. record { said = said; act = Enters limited (Copying passage) } in
    ap (λ s. Some (Comes (shown s c.in_ok-limited-in-File.limited.value (passage_by c.in_ok-passage-in-File.passage)))) c.in_ok-quiet-in-File.ensures
    ∙ ap (λ l. Some (Comes (shown (acts.quiet c.args.notes) l (passage_by c.in_ok-passage-in-File.passage)))) (c.in_ok-limited-in-File.ensures ∙ ap acts.quiet c.in_ok-copy_notes-in-File.ensures)
    ∙ ap (λ p. Some (Comes (shown (acts.quiet c.args.notes) (acts.quiet c.args.notes) p))) (c.in_ok-passage-in-File.ensures e)
    ∙ ap (λ m. Some (Comes (acts.copied (placed_by c.args.here.now e) c.args.name.now c.args.notes m))) (sym c.in-File.is)
