use Rattle.std.proofs.Common.{◌≡◌, ◌∙◌, ap, sym, ℕ, ◌<◌, List, length}
use Rattle.std.specs.Prelude.{slice_get}
use Rattle.std.proofs.lemmas.Option.{MatchOption-at_some, MatchOption-at_none}
use Rattle.instruction_table.specs.declared.rows.TheConstants.{INSTRUCTIONS}
use Rattle.instruction_table.specs.Instructions.{instructions, look_up, padded, format_at}
use Rattle.instruction_table.specs.Places.{place_of}
use Rattle.instruction_table.proofs.PlaceLaws.{look_up-is, look_up-long}
use Rattle.instruction_table.proofs.table.find.Goals as goal

pub returns-in-Some : goal.returns-in-Some
returns-in-Some c =
    let name : List ℕ = c.as_bytes.result.now in
    let column : c.in-Some.mnemonic ≡ padded name =
    MatchOption-at_some (8 < length name) (λ (column : List ℕ). column ≡ padded name) c.in-Some.mnemonic c.in-Some.is c.padded.ensures in
    c.format_of.ensures
    ∙ ap (λ mnemonic. format_at (slice_get INSTRUCTIONS (place_of mnemonic)) mnemonic) column
    ∙ sym (look_up-is name)
    ∙ ap (λ op. look_up op instructions) (c.as_bytes.ensures.value ∙ c.text.ensures)

pub returns-in-None : goal.returns-in-None
returns-in-None c =
    let name : List ℕ = c.as_bytes.result.now in
    let long : 8 < length name =
    MatchOption-at_none (8 < length name) (λ (column : List ℕ). column ≡ padded name) c.in-None.is c.padded.ensures in
    sym (look_up-long name long) ∙ ap (λ op. look_up op instructions) (c.as_bytes.ensures.value ∙ c.text.ensures)
