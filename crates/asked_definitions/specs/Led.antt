-- How far the answers that were given lead, as code says it. This project.
use Rattle.std.specs.Prelude.{Result, Ok, Err}
use Rattle.hl_base.specs.declared.set.Key.TheVariants as key
use Rattle.kept_values.specs.Trees.{Tree}
use Rattle.kept_values.specs.Keys.{key_tree}
use Rattle.plain_expansion.specs.Questions.{Led, Comes, Wants}
use Rattle.macro_library.specs.Contents.{Content, content_of}
use Rattle.macro_library.specs.declared.fault.DefFault.{DefFault}
use Rattle.macro_library.specs.declared.fault.DefFault.TheVariants as fault
use Rattle.asked_definitions.specs.Asked as asked
use Rattle.asked_definitions.specs.declared.definition.AskedDefinition.{AskedDefinition}
use Rattle.asked_definitions.specs.declared.definition.AskedDefinition.TheVariants as definition
use Rattle.asked_definitions.specs.declared.operation.Sought.{Sought}
use Rattle.asked_definitions.specs.declared.operation.Sought.TheVariants as found
use Rattle.asked_definitions.specs.declared.operation.AskedOperation.{AskedOperation}
use Rattle.asked_definitions.specs.declared.operation.AskedOperation.TheVariants as operation

-- to a definition or its first fault, or to a member
abbrev pub definition_led : AskedDefinition → Led Tree (Result Content DefFault)
definition_led (definition.Wants name) = Wants (key_tree (key.Member name))
definition_led (definition.Read read) = Comes (Ok (content_of read))
definition_led (definition.Refused why) = Comes (Err why)

-- what was read: a member that it needs to know of is a fault of its own
abbrev pub answer_of : AskedDefinition → Result Content DefFault
answer_of (definition.Wants name) = Err (fault.Asks name)
answer_of (definition.Read read) = Ok (content_of read)
answer_of (definition.Refused why) = Err why

-- a fault that is no question
abbrev pub IsEnd : DefFault → Type 0
IsEnd (fault.Asks name) = ⊥
IsEnd other = Unit {0}

abbrev pub IsEnded : AskedDefinition → Type 0
IsEnded (definition.Refused why) = IsEnd why
IsEnded other = Unit {0}

-- the same, as what an operation is
abbrev pub defined_led : AskedDefinition → Led Tree asked.Sought
defined_led (definition.Wants name) = Wants (key_tree (key.Member name))
defined_led (definition.Read read) = Comes (asked.is_macro (content_of read))
defined_led (definition.Refused why) = Comes (asked.is_refused why)

-- what an operation is
abbrev pub sought_by : Sought → asked.Sought
sought_by (found.Macro kept) = asked.is_macro (content_of kept.definition.value)
sought_by (found.Refused why) = asked.is_refused why
sought_by found.Unreadable = asked.is_unreadable
sought_by found.Unknown = asked.is_unknown

abbrev pub operation_led : AskedOperation → Led Tree asked.Sought
operation_led (operation.Wants key) = Wants (key_tree key)
operation_led (operation.Found sought) = Comes (sought_by sought)
