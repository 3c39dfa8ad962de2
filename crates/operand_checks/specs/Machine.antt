-- What is said of the operands of a machine instruction (this project; HLASM Language Reference SC26-4940, "Machine instruction
-- statements"): that there are not as many as it has; else of each operand, from left to right.
use Rattle.std.specs.Prelude.{ℕ, Bool, true, false, List, [], ◌∷◌, ◌++◌, length, Option, Some, None, if◌then◌else◌}
use Rattle.expression_notes.specs.Expressions.{listed}
use Rattle.instruction_table.specs.declared.encodings.Encoding.{Encoding}
use Rattle.instruction_table.specs.declared.encodings.Encoding.TheVariants.{Ril}
use Rattle.instruction_table.specs.declared.encodings.Kind.{Kind}
use Rattle.instruction_table.specs.declared.format.Format.{Format}
use Rattle.instruction_table.specs.Formats.{encoding_of, operands_of}
use Rattle.machine_check.specs.Counts.{said_of_count}
use Rattle.machine_operands.specs.Operands as written
use Rattle.machine_operands.specs.Operands.{Operand, Written, begins_literal, operand}
use Rattle.note_rows.specs.declared.row.Row.{Row}
use Rattle.note_rows.specs.declared.row.Row.TheVariants.{Unreadable}
use Rattle.trace_values.specs.declared.section.Reloc.{Reloc}
use Rattle.operand_checks.specs.Addresses.{said_of_address}
use Rattle.operand_checks.specs.Expressions.{said_of_alone}
use Rattle.operand_checks.specs.Literals.{said_within}
use Rattle.operand_checks.specs.Settings.{Setting}

-- of what was read of an operand of this kind, whose literal, if it has one, has this place; that a literal cannot be read is
-- said where it is laid out
abbrev pub said_of_written : Setting → Kind → Option Reloc → Written → List Row
said_of_written setting kind place (written.value tree) = said_of_alone setting kind tree
said_of_written setting kind place (written.address address) = said_of_address setting kind place address
said_of_written setting kind place written.literal_target = []
said_of_written setting kind place written.no_literal = []
said_of_written setting kind place (written.wrong count) = Unreadable count ∷ []

-- of an operand, and then of the addresses in its literal
abbrev pub said_of_operand : Setting → Kind → Option Reloc → Operand → List Row
said_of_operand setting kind place operand =
    said_of_written setting kind place operand.written ++ said_within setting place operand.literal

unfoldable pub said_of_text : Setting → (targets : Bool) → Kind → Option Reloc → List ℕ → List Row
said_of_text setting targets kind place text = said_of_operand setting kind place (operand kind targets text)

-- the first of some places, and those behind it
abbrev pub first_place : List (Option Reloc) → Option Reloc
first_place [] = None
first_place (place ∷ places) = place

abbrev pub other_places : List (Option Reloc) → List (Option Reloc)
other_places [] = []
other_places (place ∷ places) = places

-- operands that begin with an equals sign have the places of literals, in order: the place of an operand's literal, and the places that are left for the operands behind it
abbrev pub place_of : List ℕ → List (Option Reloc) → Option Reloc
place_of text places = if begins_literal text then first_place places else None

abbrev pub places_behind : List ℕ → List (Option Reloc) → List (Option Reloc)
places_behind text places = if begins_literal text then other_places places else places

-- the first of some kinds, and those behind it
abbrev pub first_of : List Kind → Option Kind
first_of [] = None
first_of (kind ∷ kinds) = Some kind

abbrev pub others_of : List Kind → List Kind
others_of [] = []
others_of (kind ∷ kinds) = kinds

-- of an operand of the first kind; there are as many kinds as operands
abbrev pub said_by_kind : Setting → (targets : Bool) → (place : Option Reloc) → Option Kind → List ℕ → List Row
said_by_kind setting targets place None text = []
said_by_kind setting targets place (Some kind) text = said_of_text setting targets kind place text

unfoldable pub said_of_next : Setting → (targets : Bool) → (places : List (Option Reloc)) → List Kind → List ℕ → List Row
said_of_next setting targets places kinds text = said_by_kind setting targets (place_of text places) (first_of kinds) text

-- of operands of these kinds, in order
abbrev pub said_of_operands : Setting → (targets : Bool) → (places : List (Option Reloc)) → List Kind → (texts : List (List ℕ)) → List Row
said_of_operands setting targets places kinds [] = []
said_of_operands setting targets places kinds (text ∷ texts) =
    said_of_next setting targets places kinds text
    ++ said_of_operands setting targets (places_behind text places) (others_of kinds) texts

-- whether an instruction lets literals be targets
abbrev pub is_ril : Encoding → Bool
is_ril Ril = true
is_ril other = false

abbrev pub takes_literal_targets : Format → Bool
takes_literal_targets format = is_ril (encoding_of format)

-- that the number of operands is wrong, alone, or what is said of each
abbrev pub said_by_count : Option Row → List Row → List Row
said_by_count None others = others
said_by_count (Some wrong) others = listed (Some wrong)

-- of a machine instruction whose literals have these places
unfoldable pub said_of_machine : Setting → Format → (places : List (Option Reloc)) → (texts : List (List ℕ)) → List Row
said_of_machine setting format places texts =
    said_by_count (said_of_count format (length texts))
    (said_of_operands setting (takes_literal_targets format) places (operands_of format) texts)
