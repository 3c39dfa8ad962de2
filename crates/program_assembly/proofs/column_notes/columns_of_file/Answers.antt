use Rattle.std.proofs.Common.{◌≡◌, ◌++◌, ap, sym, ◌∙◌, map}
use Rattle.std.specs.List.{flat_map}
use Rattle.hl_base.specs.declared.place.PathId.{PathId}
use Rattle.hlasm_statements.specs.Statements.{statements_of}
use Rattle.macro_library.specs.Members.{statements_in}
use Rattle.program_assembly.specs.ColumnNotes.{column_notes, fault_notes}
use Rattle.program_assembly.proofs.LineLaws.{last_of_text, listed-faults, listed-statements}
use Rattle.program_assembly.proofs.column_notes.columns_of_file.Goals as goal

pub returns : goal.returns
returns c =
    let file = c.args.file.now in
    let path = c.path.result in
    let list = c.lines-list.result.now in
    let here : list ≡ statements_in file = c.lines-list.ensures ∙ c.list.ensures in
    record {
      notes =
          c.in_ok-add_line_notes.ensures
          ∙ ap (λ ns. ns ++ flat_map (λ line. fault_notes path.0 line.statement) list) c.new-notes.ensures
          ∙ ap (flat_map (λ line. fault_notes path.0 line.statement)) here
          ∙ listed-faults path.0 file.path (statements_of file.text)
          ∙ ap (λ (p : PathId). column_notes p.0 file.text) c.path.ensures;
      last = last_of_text file.text (map (λ line. line.statement) list) c.last_of_lines-last.result
          (ap (map (λ line. line.statement)) here ∙ listed-statements file.path (statements_of file.text)) c.last_of_lines-last.ensures;
    }
