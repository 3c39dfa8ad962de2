-- The texts of a session from a number (this project): ten members, a program of so many calls of them, and its edits.
use Rattle.std.specs.Prelude.{ℕ, zero, suc, ◌+◌, ◌*◌, ◌/◌, ◌%◌, ◌==◌, ◌||◌, Bool, false, List, [], ◌∷◌, ◌++◌, codes, length, if◌then◌else◌}
use Rattle.std.specs.Fmt.{decimal}

-- how many edits there are
abbrev pub edit_count : ℕ
edit_count = 10

-- the text of some lines, each ended by a line feed
abbrev pub text_of : List (List ℕ) → List ℕ
text_of [] = []
text_of (line ∷ lines) = line ++ (10 ∷ text_of lines)

-- ---- members

-- the name of a member: M0 to M9
unfoldable pub member_name : (number : ℕ) → List ℕ
member_name number = codes "M" ++ decimal number

-- its prototype
unfoldable pub prototype : (number : ℕ) → List ℕ
prototype number = codes "&L " ++ (member_name number ++ codes " &P")

-- The macro of a number adds its operand to a total, and keeps it as a constant.
unfoldable pub member_text : (number : ℕ) → List ℕ
member_text number = text_of (
    codes " MACRO"
    ∷ prototype number
    ∷ codes " GBLA &TOT"
    ∷ codes "&TOT SETA &TOT+&P"
    ∷ codes "&L DC F'&P'"
    ∷ codes " MEND"
    ∷ []
    )

-- ---- the program

-- the call that an edit changes: the edits are spread over the calls
abbrev pub edited_call : (count edit : ℕ) → ℕ
edited_call count edit = edit * count / 10

-- whether one of so many edits changed a call
abbrev pub is_edited : (count edits call : ℕ) → Bool
is_edited count zero call = false
is_edited count (suc edit) call = (edited_call count edit == call) || is_edited count edit call

-- the operand of a call: 5 once it was edited
unfoldable pub operand : (count edits call : ℕ) → ℕ
operand count edits call = if is_edited count edits call then 5 else call % 97

-- a call up to its operand, up to the end of it, and whole
unfoldable pub call_front : (call : ℕ) → List ℕ
call_front call = codes "X" ++ (decimal call ++ (codes " " ++ (member_name (call % 10) ++ codes " ")))

unfoldable pub call_text : (count edits call : ℕ) → List ℕ
call_text count edits call = call_front call ++ decimal (operand count edits call)

abbrev pub call_line : (count edits call : ℕ) → List ℕ
call_line count edits call = text_of (call_text count edits call ∷ [])

-- the first so many of the calls
abbrev pub call_lines : (count edits first : ℕ) → List ℕ
call_lines count edits zero = []
call_lines count edits (suc call) = call_lines count edits call ++ call_line count edits call

-- the program of so many calls behind so many edits
unfoldable pub program_text : (count edits : ℕ) → List ℕ
program_text count edits =
    text_of (codes " GBLA &TOT" ∷ codes "BULK CSECT" ∷ []) ++ call_lines count edits count ++ text_of (codes " END" ∷ [])

-- ---- the edits

-- where an edit changes the text: the line of its call, counted from 0, and the columns of its operand as the edits before it left it
abbrev pub edited_line : (count edit : ℕ) → ℕ
edited_line count edit = edited_call count edit + 2

abbrev pub first_column : (count edit : ℕ) → ℕ
first_column count edit = length (call_front (edited_call count edit))

abbrev pub end_column : (count edit : ℕ) → ℕ
end_column count edit = length (call_text count edit (edited_call count edit))
