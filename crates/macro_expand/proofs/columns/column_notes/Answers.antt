use Rattle.std.proofs.Common.{◌∙◌, map, sym, ap}
use Rattle.std.proofs.lemmas.Result.{IfOk-weaker}
use Rattle.hlasm_statements.specs.declared.statement.Statement.{Statement}
use Rattle.macro_expand.specs.Items.{column_note}
use Rattle.macro_expand.proofs.PassageLaws.{faults-there, no-faults}
use Rattle.macro_expand.proofs.columns.column_notes.Goals as goal

pub returns-in-Some : goal.returns-in-Some
returns-in-Some c =
    IfOk-weaker c.notes_in.result _ _
    (λ notes is.
    is
    ∙ ap (λ (s : Statement). map column_note s.faults) c.statement.ensures
    ∙ sym (ap (map column_note) (faults-there c.args.passage.now.listing c.args.place c.in-Some.line.now (sym c.in-Some.ensures))))
    c.notes_in.ensures

pub returns-in-None : goal.returns-in-None
returns-in-None c =
    c.new.ensures ∙ sym (ap (map column_note) (no-faults c.args.passage.now.listing c.args.place (sym c.in-None.ensures)))
