-- What the operation of a statement reads of its operands (HLASM Language Reference SC26-4940, "Operation entry", "AGO instruction",
-- "AIF instruction", "COPY instruction"; note codes are this project's).
use Rattle.std.specs.Prelude.{ℕ, ◌==◌, ◌&&◌, Bool, true, false, not, List, Option, Some, None, encode_utf8_all, if◌then◌else◌}
use Rattle.std.specs.List.{list_any}
use Rattle.hl_base.specs.Symbols.{symbol_of}
use Rattle.hl_base.specs.declared.note.Note.{Note}
use Rattle.hl_base.specs.declared.place.Origin.{Origin}
use Rattle.hl_base.specs.declared.place.PathId.{PathId}
use Rattle.hl_base.specs.declared.set.Line.{Line}
use Rattle.hlasm_statements.specs.declared.statement.Statement.{Statement}
use Rattle.statement_names.specs.Uses.{use_of}
use Rattle.statement_names.specs.declared.uses.OperandUse.{OperandUse}
use Rattle.statement_names.specs.declared.uses.OperandUse.TheVariants.{Unread, Branches, Member}
use Rattle.text_pool.specs.Members as members
use Rattle.trace_values.specs.declared.item.TraceItem.{TraceItem}
use Rattle.program_occurrences.specs.Known.{path_in}

-- whether a note of this code is reported of a statement
abbrev pub has_note : (code : ℕ) → TraceItem → Bool
has_note code item = list_any (λ note. note.code == code) item.notes

-- an entry that cannot be read (H010); a call or a COPY that is nested too deep (H046); a COPY whose member is being copied (H048)
abbrev pub is_unreadable : TraceItem → Bool
is_unreadable item = has_note 10 item

abbrev pub is_too_deep : TraceItem → Bool
is_too_deep item = has_note 46 item

abbrev pub is_recursive : TraceItem → Bool
is_recursive item = has_note 48 item

-- the operation as it was generated, or else as it is written
abbrev pub operation_of : Option Line → Statement → List ℕ
operation_of (Some line) statement = encode_utf8_all line.op
operation_of None statement = encode_utf8_all statement.op

abbrev pub operation_in : TraceItem → Statement → List ℕ
operation_in item statement = operation_of item.line statement

-- an AGO or AIF that cannot be read names no sequence symbol
abbrev pub lowered : OperandUse → (unreadable : Bool) → OperandUse
lowered Branches unreadable = if unreadable then Unread else Branches
lowered used unreadable = used

-- a macro call reads none of its operands as names
abbrev pub used_unless : (called : Option Origin) → OperandUse → OperandUse
used_unless None used = used
used_unless (Some origin) used = Unread

-- what the operation of a statement reads of its operands
abbrev pub used_by : TraceItem → Statement → OperandUse
used_by item statement = used_unless item.called (lowered (use_of (operation_in item statement)) (is_unreadable item))

-- a call is entered whose entries can be read, and which is not too deep
abbrev pub is_entered : TraceItem → Bool
is_entered item = not (is_unreadable item) && not (is_too_deep item)

-- a COPY takes a member that is there, where it is not too deep and the member is not being copied
abbrev pub takes : TraceItem → Bool
takes item = not (is_too_deep item) && not (is_recursive item)

-- the file of the member that an operand names
abbrev pub file_of : (List ℕ → members.Member) → Option (List ℕ) → Option PathId
file_of found None = None
file_of found (Some name) = path_in (found name)

abbrev pub file_named : (List ℕ → members.Member) → (operands : List ℕ) → Option PathId
file_named found operands = file_of found (symbol_of operands)

-- the file of the member that a statement took
abbrev pub member_taken : (List ℕ → members.Member) → OperandUse → TraceItem → Statement → Option PathId
member_taken found Member item statement = if takes item then file_named found (encode_utf8_all statement.operands) else None
member_taken found other item statement = None
