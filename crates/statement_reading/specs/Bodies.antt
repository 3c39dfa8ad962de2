-- What the fields of a statement say for a task (this project): a function of their texts.
use Rattle.std.specs.Prelude.{ℕ, Bool, false, List, Result, Ok, Err, encode_utf8_all, if◌then◌else◌}
use Rattle.hl_base.specs.Symbols.{symbol_of}
use Rattle.hl_base.specs.declared.set.Declaration.{Declaration}
use Rattle.hl_base.specs.declared.set.SetKind.{SetKind}
use Rattle.expression_grammar.specs.declared.character.Grammar.TheVariants.{Arithmetic}
use Rattle.expression_grammar.specs.Readings.{read}
use Rattle.expression_grammar.specs.Trees.{Tree}
use Rattle.conditional_fields.specs.Declarations.{declarations}
use Rattle.conditional_fields.specs.Sequences.{named_or, symbol_reach}
use Rattle.statement_reading.specs.declared.task.Task.{Task}
use Rattle.statement_reading.specs.declared.task.Task.TheVariants as task
use Rattle.statement_reading.specs.Branches.{Branch, Choice, goto, choices}
use Rattle.statement_reading.specs.Fields.{Fields, fields, alone, open_as_written}
use Rattle.statement_reading.specs.Messages.{Message, message}
use Rattle.statement_reading.specs.Settings.{Setting, setting}
use Rattle.statement_reading.specs.Templates.{Part, template, has_ampersand}

-- what the fields of a statement say for a task; or that they cannot be read, and up to where they can, and of a generated
-- statement whether its operands end within quotes
pub data Body : Type 0 where
  unread : (at : ℕ) → Body
  actr : (count : Tree) → Body
  ago : (branch : Branch) → Body
  aif : (pairs : List Choice) → Body
  declares : (list : List Declaration) → Body
  assigns : (kind : SetKind) (setting : Setting) → Body
  copies : (member : List ℕ) → Body
  copies_varying : (parts : List Part) → Body
  mnote : (message : Message) → Body
  generates : (fields : Fields) → Body
  generates_unread : (at : ℕ) (open_end : Bool) → Body
  ends : (fields : Fields) → Body
  ends_unread : (at : ℕ) (open_end : Bool) → Body
  defines : Body
  leaves : Body
  nothing : Body
  leaves_out : Body
  calls : Body

-- what was read, or that it cannot be
abbrev pub or_unread : {V : Type 0} → (V → Body) → Result V ℕ → Body
or_unread make (Ok value) = make value
or_unread make (Err at) = unread at

-- a generated statement, whose operands may end within quotes
abbrev pub generating : (open_end : Bool) → Result Fields ℕ → Body
generating open_end (Ok fields) = generates fields
generating open_end (Err at) = generates_unread at open_end

-- END ends whatever its fields are
abbrev pub ending : (open_end : Bool) → Result Fields ℕ → Body
ending open_end (Ok fields) = ends fields
ending open_end (Err at) = ends_unread at open_end

-- the member of a COPY
abbrev pub member : List ℕ → Result (List ℕ) ℕ
member field = named_or (symbol_reach field) (symbol_of (encode_utf8_all field))

-- COPY: a member; or an operand with variable symbols, which is a member once they have values
abbrev pub copying : (operands : List ℕ) → Body
copying operands = if has_ampersand operands then or_unread copies_varying (template operands) else or_unread copies (member operands)

-- what name entry and operands say for a task
abbrev pub body : Task → (label operands : List ℕ) → Body
body task.Actr label operands = or_unread actr (read Arithmetic operands)
body task.Ago label operands = or_unread ago (goto operands)
body task.Aif label operands = or_unread aif (choices operands)
body (task.Declare kind global) label operands = or_unread declares (declarations kind global operands)
body (task.Assign kind) label operands = or_unread (λ one. assigns kind one) (setting kind label operands)
body task.Define label operands = defines
body task.Leave label operands = leaves
body task.Copy label operands = copying operands
body task.Mnote label operands = or_unread mnote (message operands)
body task.Nothing label operands = nothing
body task.Generate label operands = generating (open_as_written operands) (fields label operands)
body task.GenerateAlone label operands = generating false (alone label)
body task.End label operands = ending (open_as_written operands) (fields label operands)
body task.LeaveOut label operands = leaves_out
body task.Call label operands = calls
