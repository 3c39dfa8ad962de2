use Rattle.std.proofs.Common.{◌≡◌, ◌∙◌, ap, sym, true, cond, None}
use Rattle.std.specs.Prelude.{slice_get}
use Rattle.instruction_table.specs.declared.rows.TheConstants.{FORMATS}
use Rattle.instruction_table.specs.Instructions.{same_name}
use Rattle.instruction_table.proofs.PlaceLaws.{item-is}
use Rattle.instruction_table.proofs.table.format_beside.Goals as goal

pub returns-then-eq : goal.returns-then-eq
returns-then-eq c =
    let same : same_name c.args.row.now.mnemonic c.args.mnemonic ≡ true = cc in
    c.copied.ensures
    ∙ item-is FORMATS c.args.row.now.format c.get.result c.get.ensures.lookup
    ∙ sym (ap (λ b. cond b (slice_get FORMATS c.args.row.now.format) None) same)
