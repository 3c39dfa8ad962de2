-- What the values of the program are as readings.
use Rattle.std.specs.Prelude.{List, map, Option, Some, None}
use Rattle.expression_grammar.specs.declared.tree.Expr.{Expr}
use Rattle.expression_grammar.specs.Trees.{Tree}
use Rattle.expression_grammar.specs.Views.{tree_of}
use Rattle.conditional_fields.specs.declared.branch.Goto.{Goto}
use Rattle.conditional_fields.specs.declared.branch.Goto.TheVariants as gotos
use Rattle.conditional_fields.specs.declared.branch.Selector.{Selector}
use Rattle.conditional_fields.specs.declared.template.Found.{Found}
use Rattle.conditional_fields.specs.declared.template.Piece.{Piece}
use Rattle.conditional_fields.specs.declared.template.Piece.TheVariants as pieces
use Rattle.conditional_fields.specs.declared.template.Template.{Template}
use Rattle.statement_reading.specs.declared.body.Body.{Body}
use Rattle.statement_reading.specs.declared.body.Body.TheVariants as body
use Rattle.statement_reading.specs.declared.condition.Choices.{Choices}
use Rattle.statement_reading.specs.declared.fields.Entry.{Entry}
use Rattle.statement_reading.specs.declared.fields.Entry.TheVariants as entry
use Rattle.statement_reading.specs.declared.fields.Fields.{Fields}
use Rattle.statement_reading.specs.declared.message.Message.{Message}
use Rattle.statement_reading.specs.declared.setting.Setting.{Setting}
use Rattle.statement_reading.specs.declared.statement.Instruction.{Instruction}
use Rattle.statement_reading.specs.declared.statement.Instruction.TheVariants as instruction
use Rattle.statement_reading.specs.declared.statement.ReadStatement.{ReadStatement}
use Rattle.statement_reading.specs.Bodies as bodies
use Rattle.statement_reading.specs.Branches as branches
use Rattle.statement_reading.specs.Fields as fields
use Rattle.statement_reading.specs.Messages as messages
use Rattle.statement_reading.specs.Readings as readings
use Rattle.statement_reading.specs.Settings as settings
use Rattle.statement_reading.specs.Symbols as symbols
use Rattle.statement_reading.specs.Templates as templates

-- a piece of a field
abbrev pub part_of : Piece → templates.Part
part_of (pieces.Plain characters) = templates.plain characters
part_of (pieces.Variable tree) = templates.variable (tree_of tree)

abbrev pub parts_of : Template → List templates.Part
parts_of template = map part_of template.pieces.items

-- a variable symbol at the front of a text
abbrev pub found_of : Option Found → Option symbols.Found
found_of None = None
found_of (Some found) = Some (record { tree = tree_of found.tree; count = found.length })

-- a number, or a condition, and a sequence symbol
abbrev pub choice_of : Selector → branches.Choice
choice_of selector = record { tree = tree_of selector.tree; label = selector.label }

abbrev pub choices_of : Choices → List branches.Choice
choices_of choices = map choice_of choices.pairs.items

-- where AGO branches to
abbrev pub branch_of : Goto → branches.Branch
branch_of (gotos.To label) = branches.to label
branch_of (gotos.Among tree first others) = branches.among (tree_of tree) first others.items

-- a SET symbol and its value
abbrev pub setting_of : Setting → settings.Setting
setting_of setting = record { target = tree_of setting.target; value = tree_of setting.value }

-- a severity
abbrev pub severity_of : Option Expr → Option Tree
severity_of None = None
severity_of (Some tree) = Some (tree_of tree)

-- a message
abbrev pub message_of : Message → messages.Message
message_of message = record { severity = severity_of message.severity; text = tree_of message.text }

-- an entry of a generated statement
abbrev pub entry_of : Entry → fields.Entry
entry_of (entry.Written text) = fields.written text
entry_of (entry.Varying template) = fields.varying (parts_of template)

-- the entries of a generated statement
abbrev pub fields_of : Fields → fields.Fields
fields_of f = record { label = entry_of f.label; operands = entry_of f.operands; open_end = f.open_end }

-- what fields say for a task
abbrev pub body_of : Body → bodies.Body
body_of (body.Unread at) = bodies.unread at
body_of (body.Actr count) = bodies.actr (tree_of count)
body_of (body.Ago goto) = bodies.ago (branch_of goto)
body_of (body.Aif choices) = bodies.aif (choices_of choices)
body_of (body.Declares list) = bodies.declares list
body_of (body.Assigns kind setting) = bodies.assigns kind (setting_of setting)
body_of (body.Copies member) = bodies.copies member
body_of (body.CopiesVarying template) = bodies.copies_varying (parts_of template)
body_of (body.Mnote message) = bodies.mnote (message_of message)
body_of (body.Generates f) = bodies.generates (fields_of f)
body_of (body.GeneratesUnread at open_end) = bodies.generates_unread at open_end
body_of (body.Ends f) = bodies.ends (fields_of f)
body_of (body.EndsUnread at open_end) = bodies.ends_unread at open_end
body_of body.Defines = bodies.defines
body_of body.Leaves = bodies.leaves
body_of body.Nothing = bodies.nothing
body_of body.LeavesOut = bodies.leaves_out
body_of body.Calls = bodies.calls

-- what a statement is told to do
abbrev pub instruction_of : Instruction → readings.Instruction
instruction_of instruction.Idle = readings.idle
instruction_of (instruction.Unread at) = readings.unread at
instruction_of (instruction.Nameless op open_end) = readings.nameless op open_end
instruction_of (instruction.Known k) = readings.known k.name k.op k.task k.lasting k.open_end (body_of k.body)
instruction_of (instruction.Varying v) = readings.varying (parts_of v.op) v.label v.operands v.open_end

-- a statement as it was read
abbrev pub reading_of : ReadStatement → readings.Reading
reading_of r = record { label = r.sequence_label; instruction = instruction_of r.instruction }
