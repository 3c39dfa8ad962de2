use Rattle.std.proofs.Common.{◌≡◌, ◌-◌, List, ◌++◌, Bor, length, ap, ◌∙◌, append_assoc}
use Rattle.hl_base.specs.Texts.{lines}
use Rattle.note_rows.specs.declared.row.Row.TheVariants.{MissingEnd}
use Rattle.hl_base.specs.declared.set.Line.{Line}
use Rattle.statement_checks.specs.Layout.{Layout, rows_of}
use Rattle.statement_checks.specs.Views.{layout_view, lines_of}
use Rattle.program_assembly.specs.ColumnNotes.{note_at, column_notes}
use Rattle.program_assembly.specs.Statements.{checked_layout, generated, noted_points, all_noted}
use Rattle.program_assembly.specs.Notes.{end_notes_by}
use Rattle.program_assembly.specs.Runs.{ran_of}
use Rattle.program_assembly.proofs.notes.notes_of.Goals as goal

pub returns : goal.returns
returns c = λ text columns last.
    let path = c.args.path.0 in
    let ran = ran_of c.args.arena.now.nodes c.args.outcome.now in
    let layout : layout_view c.in_ok-layout.layout ≡ checked_layout (generated ran.points) =
    c.in_ok-layout.ensures
    ∙ ap (λ (ls : List (Bor Line)). checked_layout (lines_of ls)) c.as_slice-lines.ensures.value
    ∙ ap checked_layout c.in_ok-lines.ensures in
    let behind : c.add_point_notes.new.notes ≡ column_notes path text ++ all_noted path ran.points =
    c.in_ok-add_point_notes.ensures
    ∙ ap (λ ns. ns ++ noted_points path (rows_of (layout_view c.in_ok-layout.layout)) 0 ran.points) columns
    ∙ ap (λ (l : Layout). column_notes path text ++ noted_points path (rows_of l) 0 ran.points) layout in
    c.in_ok-add_end_notes.ensures
    ∙ ap (λ n. c.add_point_notes.new.notes ++ end_notes_by ran.ended (note_at path n MissingEnd) ran) last
    ∙ ap (λ ns. ns ++ end_notes_by ran.ended (note_at path (length (lines text) - 1) MissingEnd) ran) behind
    ∙ append_assoc (column_notes path text) (all_noted path ran.points) (end_notes_by ran.ended (note_at path (length (lines text) - 1) MissingEnd) ran)
