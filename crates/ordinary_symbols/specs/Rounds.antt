-- Deferred EQUs (this project; HLASM Language Reference SC26-4940, "EQU instruction"): an EQU whose symbols have no value
-- yet is tried again behind the last statement, in rounds, until a round settles none.
use Rattle.std.specs.Prelude.{ℕ, zero, suc, Bool, false, List, [], ◌∷◌, ◌++◌, length, Option, Some, None, Result, Ok, Err, if◌then◌else◌}
use Rattle.std.specs.Option.{is_none}
use Rattle.trace_values.specs.declared.section.Reloc.{Reloc}
use Rattle.trace_values.specs.declared.symbol_row.SymbolRow.{SymbolRow}
use Rattle.expression_grammar.specs.Trees.{Tree}
use Rattle.ordinary_symbols.specs.declared.fault.EvalFault.{EvalFault}
use Rattle.ordinary_symbols.specs.Known.{Knowledge, first_unknown, equated_length}
use Rattle.ordinary_symbols.specs.Table.{Table, Entry, Standing, Settled, Deferred, Faulty, known}
use Rattle.ordinary_symbols.specs.Values.{value}

-- the row of a symbol that gets a value, and with it a length, unless that is given
abbrev pub with_value : SymbolRow → Bool → (length : ℕ) → Reloc → SymbolRow
with_value row sized length value =
    record row { value = Some value; attr = record row.attr { length = if sized then row.attr.length else length } }

-- an EQU whose expression has a value, or a fault
abbrev pub settled : SymbolRow → Bool → (length : ℕ) → Result Reloc EvalFault → Entry
settled row sized length (Ok value) = record { row = with_value row sized length value; standing = Settled }
settled row sized length (Err fault) = record { row = row; standing = Faulty }

-- an EQU is deferred, and something is known of each of its symbols
abbrev pub is_ready : Knowledge → Standing → Bool
is_ready known (Deferred sized tree here) = is_none (first_unknown known tree)
is_ready known other = false

-- an EQU that is ready is settled
abbrev pub settled_by : Knowledge → Standing → SymbolRow → Entry
settled_by known (Deferred sized tree here) row = settled row sized (equated_length known tree) (value known here tree)
settled_by known other row = record { row = row; standing = other }

-- a symbol that is tried: its EQU is settled where it is ready; all else stays as it is
abbrev pub tried : Knowledge → Entry → Entry
tried known entry = if is_ready known entry.standing then settled_by known entry.standing entry.row else entry

-- the symbols after those from one on are tried in turn, each by what is known then
abbrev pub tried_from : (before rest : Table) → Table
tried_from before [] = before
tried_from before (entry ∷ rest) = tried_from (before ++ tried (known (before ++ entry ∷ rest)) entry ∷ []) rest

-- a round
abbrev pub round : Table → Table
round table = tried_from [] table

abbrev pub rounds : ℕ → Table → Table
rounds zero table = table
rounds (suc more) table = rounds more (round table)

-- The symbols behind the last round. Each round but the last settles one EQU at least, so there is no need of more rounds
-- than symbols.
abbrev pub resolved : Table → Table
resolved table = rounds (length table) table
