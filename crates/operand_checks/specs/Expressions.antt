-- What is said of the expressions of machine operands (this project): of one that has a value what is said of that value, of
-- another why it has none.
use Rattle.std.specs.Prelude.{List, [], Option, Some, None, Result, Ok, Err}
use Rattle.expression_grammar.specs.Trees.{Tree}
use Rattle.expression_notes.specs.declared.values.Wanted.TheVariants as wanted
use Rattle.expression_notes.specs.Expressions.{listed, said_of}
use Rattle.instruction_table.specs.declared.encodings.Kind.{Kind}
use Rattle.instruction_table.specs.declared.encodings.Kind.TheVariants.{Target}
use Rattle.machine_check.specs.Targets as targets
use Rattle.machine_check.specs.Values as values
use Rattle.note_rows.specs.declared.row.Row.{Row}
use Rattle.ordinary_symbols.specs.declared.fault.EvalFault.{EvalFault}
use Rattle.ordinary_symbols.specs.Values.{value}
use Rattle.trace_values.specs.declared.section.Reloc.{Reloc}
use Rattle.operand_checks.specs.Settings.{Setting}

-- why an expression has no value
unfoldable pub said_of_fault : Setting → Tree → List Row
said_of_fault setting tree = said_of setting.known setting.here wanted.Value tree

abbrev pub judged_by : Setting → Tree → (Reloc → Option Row) → Result Reloc EvalFault → List Row
judged_by setting tree say (Ok place) = listed (say place)
judged_by setting tree say (Err fault) = said_of_fault setting tree

-- of an expression of whose value something is said
abbrev pub judged : Setting → Tree → (Reloc → Option Row) → List Row
judged setting tree say = judged_by setting tree say (value setting.known setting.here tree)

-- of a register, a mask, an immediate value or a length
unfoldable pub said_of_value : Setting → Kind → Tree → List Row
said_of_value setting kind tree = judged setting tree (λ place. values.said_of_value kind (Ok place))

-- of one that may be left away
abbrev pub said_of_part : Setting → Kind → Option Tree → List Row
said_of_part setting kind None = []
said_of_part setting kind (Some tree) = said_of_value setting kind tree

-- of a relative target, where its instruction has a place
abbrev pub said_of_target_from : Option Reloc → Reloc → Option Row
said_of_target_from None place = None
said_of_target_from (Some here) place = targets.said_of_target here (Ok place)

unfoldable pub said_of_target : Setting → Tree → List Row
said_of_target setting tree = judged setting tree (said_of_target_from setting.here)

-- of an expression that is an operand of this kind
abbrev pub said_of_alone : Setting → Kind → Tree → List Row
said_of_alone setting Target tree = said_of_target setting tree
said_of_alone setting other tree = said_of_value setting other tree
