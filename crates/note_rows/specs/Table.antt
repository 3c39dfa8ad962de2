-- The notes: their codes, severities and texts (this project). A severity is that of the Language Server Protocol 3.17,
-- `DiagnosticSeverity`. The code is the number behind `H`; what an author says with MNOTE has none.
use Rattle.std.specs.Prelude.{ℕ, Bool, ◌==◌, List, ◌++◌, codes, chars}
use Rattle.std.specs.Fmt.{decimal}
use Rattle.hl_base.specs.declared.note.Note.{Note}
use Rattle.hl_base.specs.declared.note.Severity.{Severity}
use Rattle.hl_base.specs.declared.note.Severity.TheVariants.{Error, Warning}
use Rattle.hl_base.specs.declared.place.Frame.{Frame}
use Rattle.note_rows.specs.declared.row.Row.{Row}
use Rattle.note_rows.specs.declared.row.Row.TheVariants.{MarginText, SurplusLines, MissingEnd, NoOperation, MissingLine, OpenApostrophe, Unreadable, NoValue, OtherType, BadSubscript, Overflow, NoLength, DeclaredTwice, NoNumber, OutsideText, TextTooLong, NoSequenceSymbol, BranchLimit, NoRecord, UndefinedOperation, LeftOutOperation, MissingMend, BadPrototype, OutsideMacro, KeywordTwice, NestedTooDeep, AbsentMember, RecursiveMember, UnreadableMember, DefinitionTooLong, BadConstant, FloatingPoint, BadNominalValue, ValueTooLong, UnknownValue, OutsideSection, SectionTooLong, DefinedTwice, UndefinedSymbol, NotSimple, EquWithoutValue, MisplacedQualifier, WrongOperandCount, BadRegister, BadVectorRegister, BadImmediate, NoUsingRange, BadDisplacement, BadLength, OddTarget, BadUsing, UnusedRegister, UnusedQualifier, BudgetUsedUp, Author}

-- what a note says, whoever's statement it is of
pub record Line : Type 0 where
  pub code : ℕ
  pub severity : Severity
  pub text : List ℕ

-- a text alone
abbrev pub plain : ℕ → Severity → (text : List ℕ) → Line
plain code severity text = record { code = code; severity = severity; text = chars text }

-- a text with a name in it
abbrev pub named : ℕ → Severity → (before name behind : List ℕ) → Line
named code severity before name behind =
    record { code = code; severity = severity; text = chars before ++ chars name ++ chars behind }

-- a text with what stands in the source in it
abbrev pub quoting : ℕ → Severity → (before text behind : List ℕ) → Line
quoting code severity before text behind =
    record { code = code; severity = severity; text = chars before ++ text ++ chars behind }

-- a text with a number in it
abbrev pub counting : ℕ → Severity → (before : List ℕ) → (number : ℕ) → (behind : List ℕ) → Line
counting code severity before number behind =
    record { code = code; severity = severity; text = chars before ++ chars (decimal number) ++ chars behind }

-- the table of notes
abbrev pub line : Row → Line
line MarginText = plain 1 Error (codes "columns 1 to 15 of a continuation line are not blank")
line SurplusLines = plain 2 Error (codes "more than nine continuation lines")
line MissingEnd = plain 3 Warning (codes "END statement is missing")
line NoOperation = plain 4 Error (codes "the statement has no operation")
line MissingLine = plain 5 Warning (codes "the text ends where a continuation line is expected")
line OpenApostrophe = plain 6 Error (codes "an apostrophe is not closed")
line (Unreadable number) = counting 10 Error (codes "the operand cannot be read at character ") number (codes "")
line (NoValue name) = named 20 Error (codes "&") name (codes " has no value here")
line (OtherType name) = named 21 Error (codes "&") name (codes " has another type")
line (BadSubscript name) = named 22 Error (codes "subscript of &") name (codes " is out of range")
line Overflow = plain 23 Error (codes "arithmetic result does not fit 32 bits")
line (NoLength text) = quoting 24 Warning (codes "symbol ") text (codes " has no length attribute")
line (DeclaredTwice name) = named 25 Error (codes "&") name (codes " is already declared")
line (NoNumber name) = named 26 Error (codes "value of &") name (codes " is not a number")
line OutsideText = plain 27 Error (codes "substring begins outside the text")
line TextTooLong = plain 28 Error (codes "text is longer than 1024 characters")
line (NoSequenceSymbol name) = named 30 Error (codes "sequence symbol .") name (codes " is not found")
line BranchLimit = plain 31 Error (codes "the ACTR limit is reached")
line NoRecord = plain 32 Warning (codes "there is no further record")
line (UndefinedOperation text) = quoting 40 Error (codes "operation ") text (codes " is not defined")
line (LeftOutOperation text) = quoting 41 Warning (codes "operation ") text (codes " is left out of this profile")
line MissingMend = plain 42 Error (codes "macro definition has no MEND")
line BadPrototype = plain 43 Error (codes "macro prototype cannot be read")
line (OutsideMacro name) = named 44 Error (codes "") name (codes " stands outside a macro")
line (KeywordTwice name) = named 45 Warning (codes "keyword ") name (codes " is given twice")
line NestedTooDeep = plain 46 Error (codes "calls nest deeper than 128")
line (AbsentMember name) = named 47 Error (codes "member ") name (codes " is not found")
line (RecursiveMember name) = named 48 Error (codes "member ") name (codes " copies itself")
line (UnreadableMember name) = named 49 Error (codes "member ") name (codes " cannot be read")
line (DefinitionTooLong name) = named 50 Error (codes "definition of ") name (codes " has more than 65536 statements")
line BadConstant = plain 60 Error (codes "the constant cannot be read")
line FloatingPoint = plain 61 Warning (codes "floating-point constant is not read")
line BadNominalValue = plain 62 Error (codes "nominal value is wrong for its type")
line ValueTooLong = plain 63 Error (codes "value does not fit its length")
line UnknownValue = plain 64 Error (codes "a value that is already known is needed")
line OutsideSection = plain 65 Error (codes "ORG leaves its section")
line SectionTooLong = plain 66 Error (codes "section is longer than 16777216 bytes")
line (DefinedTwice name) = named 70 Error (codes "symbol ") name (codes " is already defined")
line (UndefinedSymbol name) = named 71 Error (codes "symbol ") name (codes " is not defined")
line NotSimple = plain 72 Error (codes "the expression is not absolute or simply relocatable")
line (EquWithoutValue name) = named 73 Error (codes "EQU ") name (codes " has no value")
line (MisplacedQualifier name) = named 74 Error (codes "qualifier ") name (codes " stands in a wrong place")
line WrongOperandCount = plain 80 Error (codes "wrong number of operands")
line BadRegister = plain 81 Error (codes "register or mask is not 0 to 15")
line BadVectorRegister = plain 81 Error (codes "vector register is not 0 to 31")
line BadImmediate = plain 82 Error (codes "immediate value is out of range")
line NoUsingRange = plain 83 Error (codes "no USING range covers the address")
line BadDisplacement = plain 84 Error (codes "displacement is out of range")
line BadLength = plain 85 Error (codes "length is out of range")
line OddTarget = plain 86 Error (codes "relative target is odd")
line BadUsing = plain 87 Error (codes "USING or DROP cannot be read")
line (UnusedRegister number) = counting 88 Warning (codes "register ") number (codes " is not in use")
line (UnusedQualifier name) = named 89 Error (codes "qualifier ") name (codes " is not in use")
line BudgetUsedUp = plain 90 Error (codes "the statement budget is used up")
line (Author severity text) = record { code = 0; severity = severity; text = text }

-- the note of a row, at the statement with these frames, outermost first
abbrev pub noted : Row → List Frame → Note
noted row stack =
    record { code = (line row).code; severity = (line row).severity; text = (line row).text; stack = stack }

-- whether a note is shown at the start of its line, and not over the statement: a missing END alone
abbrev pub is_at_start : Note → Bool
is_at_start note = note.code == (line MissingEnd).code
