use Rattle.std.proofs.Common.{◌≡◌, ◌++◌, ap, ◌∙◌}
use Rattle.std.specs.List.{flat_map}
use Rattle.std.specs.Str.{chars}
use Rattle.program_assembly.specs.ColumnNotes.{fault_notes}
use Rattle.program_assembly.proofs.LineLaws.{last_of_text}
use Rattle.program_assembly.proofs.column_notes.columns_of_text.Goals as goal

pub returns : goal.returns
returns c =
    let path = c.args.path.0 in
    let statements = c.as_slice-statements.result.now in
    let here = c.as_slice-statements.ensures ∙ c.in_ok-statements.ensures in
    record {
      notes = c.in_ok-add_column_notes.ensures ∙ ap (λ ns. ns ++ flat_map (fault_notes path) statements) c.new-notes.ensures ∙ ap (flat_map (fault_notes path)) here;
      last = last_of_text (chars c.args.text.now) statements c.last_line-last.result here c.last_line-last.ensures;
    }
