use Rattle.std.proofs.Common.{◌∙◌, ap}
use Rattle.std.specs.Prelude.{slice_index}
use Rattle.instruction_table.specs.Others.{meaning_in, rows_of}
use Rattle.instruction_table.proofs.OtherLaws.{meaning-is}
use Rattle.instruction_table.proofs.table.other_operation.Goals as goal

pub returns : goal.returns
returns c =
    c.meaning_in.ensures
    ∙ ap (meaning_in c.args.name.now) (c.rows_of.ensures ∙ ap rows_of c.first_of.ensures)
    ∙ ap (λ bytes. meaning_in c.args.name.now (rows_of (slice_index bytes 0))) c.as_bytes.ensures.value
    ∙ meaning-is c.args.name.now
