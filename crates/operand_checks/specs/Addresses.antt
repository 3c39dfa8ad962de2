-- What is said of addresses, from left to right (this project): of the displacement, of an index, a length or a register in its
-- place, and of the base. A literal as displacement is its place in its pool; of one that was refused nothing is said.
use Rattle.std.specs.Prelude.{Bool, List, [], ◌++◌, Option, Some, None, is_some}
use Rattle.expression_grammar.specs.Trees.{Tree}
use Rattle.expression_notes.specs.Expressions.{listed}
use Rattle.instruction_table.specs.declared.encodings.Kind.{Kind}
use Rattle.instruction_table.specs.declared.encodings.Kind.TheVariants.{Register, VectorRegister, VectorIndexed, LengthTo256, LengthTo16}
use Rattle.machine_operands.specs.Operands as written
use Rattle.machine_operands.specs.Operands.{Address, Displacement}
use Rattle.note_rows.specs.declared.row.Row.{Row}
use Rattle.trace_values.specs.declared.section.Reloc.{Reloc}
use Rattle.operand_checks.specs.Displacements.{displacements, said_of_place}
use Rattle.operand_checks.specs.Expressions.{judged, said_of_part}
use Rattle.operand_checks.specs.Settings.{Setting}

-- of a displacement that is an expression
unfoldable pub said_of_displacement : Setting → Kind → (is_based : Bool) → Tree → List Row
said_of_displacement setting kind is_based tree = judged setting tree (said_of_place setting.ranges (displacements kind) is_based)

-- of one that is a literal with this place
unfoldable pub said_of_literal : Setting → Kind → (is_based : Bool) → Reloc → List Row
said_of_literal setting kind is_based place = listed (said_of_place setting.ranges (displacements kind) is_based place)

abbrev pub said_of_literal_if : Setting → Kind → (is_based : Bool) → Option Reloc → List Row
said_of_literal_if setting kind is_based None = []
said_of_literal_if setting kind is_based (Some place) = said_of_literal setting kind is_based place

abbrev pub said_of_either : Setting → Kind → (is_based : Bool) → Option Reloc → Displacement → List Row
said_of_either setting kind is_based place (written.expression tree) = said_of_displacement setting kind is_based tree
said_of_either setting kind is_based place written.literal_place = said_of_literal_if setting kind is_based place

-- what an index, a length or a register in its place is in an address of this kind
abbrev pub first_kind : Kind → Kind
first_kind VectorIndexed = VectorRegister
first_kind LengthTo256 = LengthTo256
first_kind LengthTo16 = LengthTo16
first_kind other = Register

-- of the displacement of an address whose literal, if it has one, has this place
abbrev pub said_of_front : Setting → Kind → Option Reloc → Address → List Row
said_of_front setting kind place address = said_of_either setting kind (is_some address.base) place address.displacement

-- of what stands for an index or a length
abbrev pub said_of_first : Setting → Kind → Option Tree → List Row
said_of_first setting kind first = said_of_part setting (first_kind kind) first

-- of the address
unfoldable pub said_of_address : Setting → Kind → Option Reloc → Address → List Row
said_of_address setting kind place address =
    (said_of_front setting kind place address ++ said_of_first setting kind address.first) ++ said_of_part setting Register address.base
