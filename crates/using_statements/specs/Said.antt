-- What is said of USING and DROP (this project; HLASM Language Reference SC26-4940, "USING instruction", "DROP instruction"): of one
-- that cannot be read this alone; else what there is to say of each expression, in order; once that the bounds, or a register, are
-- none; and of a DROP of which nothing else is said which registers are not in use.
use Rattle.std.specs.Prelude.{ℕ, ◌/◌, ◌%◌, ◌^◌, ◌==◌, not, ◌&&◌, Bool, true, false, List, [], ◌∷◌, ◌++◌, map, Option, Some, None, Result, Ok, Err, is_none, if◌then◌else◌}
use Rattle.std.specs.List.{filter, flat_map}
use Rattle.expression_grammar.specs.Trees.{Tree}
use Rattle.expression_notes.specs.declared.values.Wanted.TheVariants.{Value, Number}
use Rattle.expression_notes.specs.Expressions.{said_of}
use Rattle.note_rows.specs.declared.row.Row.{Row}
use Rattle.note_rows.specs.declared.row.Row.TheVariants.{BadUsing, UnusedRegister}
use Rattle.ordinary_symbols.specs.declared.fault.EvalFault.{EvalFault}
use Rattle.ordinary_symbols.specs.Known.{Knowledge}
use Rattle.ordinary_symbols.specs.Values.{value}
use Rattle.trace_values.specs.declared.section.Reloc.{Reloc}
use Rattle.using_ranges.specs.Ranges.{Held, is_among, is_unused}
use Rattle.using_statements.specs.Values.{may_end, register_of, registers_of}
use Rattle.using_statements.specs.Written.{Bounds, UsingOperands, DropOperands, Everything, Named, using_of, drop_of}

-- that the statement cannot be read, where this is so
abbrev pub bad_if : Bool → List Row
bad_if true = BadUsing ∷ []
bad_if false = []

-- whether a base and an end have values of which the one cannot be the end of the other
abbrev pub is_bad_pair : (base end : Result Reloc EvalFault) → Bool
is_bad_pair (Ok base) (Ok end) = not (may_end base end)
is_bad_pair (Ok base) (Err fault) = false
is_bad_pair (Err fault) end = false

-- of the end, and of the two
unfoldable pub said_of_end : Knowledge → Option Reloc → (start end : Tree) → List Row
said_of_end known here start end = said_of known here Value end ++ bad_if (is_bad_pair (value known here start) (value known here end))

abbrev pub said_of_end_in : Knowledge → Option Reloc → (start : Tree) → Option Tree → List Row
said_of_end_in known here start None = []
said_of_end_in known here start (Some end) = said_of_end known here start end

-- of the bounds: of the base, of the end, and of the two
unfoldable pub said_of_bounds : Knowledge → Option Reloc → Bounds → List Row
said_of_bounds known here bounds = said_of known here Value bounds.start ++ said_of_end_in known here bounds.start bounds.end

-- whether a value is an absolute number that is no register
abbrev pub is_no_register : Result Reloc EvalFault → Bool
is_no_register (Ok found) = is_none found.section && is_none (register_of (Ok found))
is_no_register (Err fault) = false

-- of a register
unfoldable pub said_of_register : Knowledge → Option Reloc → Tree → List Row
said_of_register known here tree = said_of known here Number tree ++ bad_if (is_no_register (value known here tree))

abbrev pub said_of_registers : Knowledge → Option Reloc → List Tree → List Row
said_of_registers known here trees = flat_map (said_of_register known here) trees

-- whether a row says that the statement cannot be read
abbrev pub is_bad : Row → Bool
is_bad BadUsing = true
is_bad other = false

-- rows that do not say so
abbrev pub without_bad : List Row → List Row
without_bad rows = filter (λ row. not (is_bad row)) rows

-- where it is said, it is said once, at the first place
abbrev pub bad_once : List Row → List Row
bad_once [] = []
bad_once (row ∷ rows) = row ∷ (if is_bad row then without_bad rows else bad_once rows)

-- of a USING
abbrev pub said_of_read_using : Knowledge → Option Reloc → Option UsingOperands → List Row
said_of_read_using known here None = BadUsing ∷ []
said_of_read_using known here (Some using) =
    bad_once (said_of_bounds known here using.bounds ++ said_of_registers known here using.registers)

unfoldable pub said_of_using : Knowledge → Option Reloc → (field : List ℕ) → List Row
said_of_using known here field = said_of_read_using known here (using_of field)

-- of registers that are dropped: each that is not in use, once, at its first place
abbrev pub each_once : List ℕ → List ℕ
each_once [] = []
each_once (register ∷ registers) = register ∷ filter (λ other. not (register == other)) (each_once registers)

abbrev pub said_of_unused : Held → List ℕ → List Row
said_of_unused held registers = map (λ register. UnusedRegister register) (filter (is_unused held) (each_once registers))

abbrev pub said_of_dropped : Held → Option (List ℕ) → List Row
said_of_dropped held None = []
said_of_dropped held (Some registers) = said_of_unused held registers

-- of a DROP
abbrev pub said_of_read_drop : Knowledge → Option Reloc → Held → Option DropOperands → List Row
said_of_read_drop known here held None = BadUsing ∷ []
said_of_read_drop known here held (Some Everything) = []
said_of_read_drop known here held (Some (Named trees)) =
    bad_once (said_of_registers known here trees) ++ said_of_dropped held (registers_of known here trees)

unfoldable pub said_of_drop : Knowledge → Option Reloc → Held → (field : List ℕ) → List Row
said_of_drop known here held field = said_of_read_drop known here held (drop_of field)

-- ---- what is kept from one register to the next

-- rows of which it is said already, or not yet, that the statement cannot be read
abbrev pub bad_left : (said : Bool) → List Row → List Row
bad_left true rows = without_bad rows
bad_left false rows = bad_once rows

-- whether a register is marked in a number whose bits tell of registers
abbrev pub is_marked : (mask register : ℕ) → Bool
is_marked mask register = mask / 2 ^ register % 2 == 1

-- of a register that is marked, unless it is one of those before it
abbrev pub said_of_one : (mask : ℕ) (before : List ℕ) → ℕ → List Row
said_of_one mask before register = if is_marked mask register && not (is_among register before) then UnusedRegister register ∷ [] else []
