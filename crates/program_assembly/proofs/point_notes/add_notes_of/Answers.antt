use Rattle.std.proofs.Common.{◌++◌, List, ap, sym, ◌∙◌, append_assoc, append-nil}
use Rattle.std.proofs.lemmas.Result.{IfOk-weaker}
use Rattle.std.proofs.lemmas.Bool.{OnTrue_at}
use Rattle.std.specs.Prelude.{slice_get}
use Rattle.hl_base.specs.declared.note.Note.{Note}
use Rattle.trace_arena.specs.Points.{points}
use Rattle.program_assembly.specs.PointNotes.{noted_at, notes_at}
use Rattle.program_assembly.specs.Statements.{rows_at}
use Rattle.program_assembly.proofs.StatementLaws.{noted_there, quiet_point}
use Rattle.program_assembly.proofs.point_notes.add_notes_of.Goals as goal

pub returns-then-says_nothing : goal.returns-then-says_nothing
returns-then-says_nothing c =
    let point = slice_get (points c.args.arena.now.nodes c.args.root.0) c.args.index in
    let no_notes = OnTrue_at c.if-says_nothing.true c.says_nothing.ensures.notes in
    let no_rows = OnTrue_at c.if-says_nothing.true c.says_nothing.ensures.rows in
    sym (append-nil c.args.notes.now)
    ∙ ap (λ (ns : List Note). c.args.notes.now ++ ns) (sym (quiet_point c.args.path.0 c.args.said.now point c.args.item.now c.requires.there no_notes no_rows))

pub returns : goal.returns
returns c =
    let point = slice_get (points c.args.arena.now.nodes c.args.root.0) c.args.index in
    let item = c.args.item.now in
    let said = c.args.said.now in
    let stack = c.in_ok-stack.stack in
    IfOk-weaker c.add_rows.result _ _
    (λ _ is.
    is
    ∙ ap (λ (ns : List Note). ns ++ rows_at stack said) c.in_ok-add_item_notes.ensures
    ∙ append_assoc c.args.notes.now (notes_at stack (noted_at c.args.path.0 item)) (rows_at stack said)
    ∙ ap (λ (ns : List Note). c.args.notes.now ++ ns)
    (ap (λ s. notes_at s (noted_at c.args.path.0 item) ++ rows_at s said) c.in_ok-stack.ensures
    ∙ sym (noted_there c.args.path.0 said point item c.requires.there)))
    c.add_rows.ensures
