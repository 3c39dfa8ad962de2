use Rattle.std.proofs.Common.{◌≡◌, ◌∙◌, ap, sym, Option, Some, None}
use Rattle.std.specs.Prelude.{slice_get}
use Rattle.std.specs.Option.{option_copied}
use Rattle.instruction_table.specs.declared.rows.Row.{Row}
use Rattle.instruction_table.specs.declared.rows.TheConstants.{INSTRUCTIONS}
use Rattle.instruction_table.specs.Instructions.{format_at}
use Rattle.instruction_table.specs.Places.{place_of}
use Rattle.instruction_table.proofs.PlaceLaws.{item-is}
use Rattle.instruction_table.proofs.table.format_of.Goals as goal

pub returns-in-Some : goal.returns-in-Some
returns-in-Some c =
    let there : Some c.in-Some.row.now ≡ slice_get INSTRUCTIONS (place_of c.args.mnemonic) =
    ap option_copied (sym c.in-Some.is)
    ∙ item-is INSTRUCTIONS c.place_of.result c.get.result c.get.ensures.lookup
    ∙ ap (slice_get INSTRUCTIONS) c.place_of.ensures in
    c.format_beside.ensures ∙ ap (λ row. format_at row c.args.mnemonic) there

pub returns-in-None : goal.returns-in-None
returns-in-None c =
    let missing : ◌≡◌ {A = Option Row} None (slice_get INSTRUCTIONS (place_of c.args.mnemonic)) =
    ap option_copied (sym c.in-None.is)
    ∙ item-is INSTRUCTIONS c.place_of.result c.get.result c.get.ensures.lookup
    ∙ ap (slice_get INSTRUCTIONS) c.place_of.ensures in
    ap (λ row. format_at row c.args.mnemonic) missing
