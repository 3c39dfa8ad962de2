-- What a call comes to goes along a tree of questions, over each frame.
use Rattle.std.proofs.Common.{ℕ, List, [], ◌∷◌, length, Option, Some, None, Result, Ok, Err}
use Rattle.std.specs.Prelude.{nat_lt, take, option_map}
use Rattle.operand_list.specs.Split.{operands_of}
use Rattle.cond_expr.specs.Asking.{IsAsking}
use Rattle.cond_expr.specs.Characters.{limited}
use Rattle.cond_expr.specs.Frames.{Frame, told_by}
use Rattle.cond_expr.specs.Outcome.{Gives, gives, and_then}
use Rattle.cond_expr.specs.Troubles.{too_long}
use Rattle.cond_expr.proofs.AskingParts.{gives-asks, then-asks, test-asks}
use Rattle.statement_reading.specs.Fields.{Entry, written, varying, entry}
use Rattle.conditional_asm.specs.Generating.{entry_text}
use Rattle.conditional_asm.specs.Troubles.{unreadable}
use Rattle.conditional_asm.proofs.AskingActs.{substituted-asks}
use Rattle.macro_operands.specs.Calling.{value_of, value, and_others, values, and_operands, name_entry, call_of}
use Rattle.macro_operands.specs.declared.call.CallValues.{CallValues}

limited-asks : (text : List ℕ) → IsAsking (λ answers. limited text)
limited-asks text = test-asks (nat_lt 1024 (length text)) (λ answers. Gives (take 1024 text) (too_long ∷ [])) (λ answers. gives text) (gives-asks (take 1024 text) (too_long ∷ [])) (gives-asks text [])

text-asks : (frame : Frame) (one : Entry) → IsAsking (λ answers. entry_text one (told_by frame answers))
text-asks frame (written text) = gives-asks text []
text-asks frame (varying parts) = substituted-asks frame parts

value_of-asks : (frame : Frame) (read : Result Entry ℕ) → IsAsking (λ answers. value_of read (told_by frame answers))
value_of-asks frame (Ok one) =
    then-asks (λ answers. entry_text one (told_by frame answers)) (λ answers text. and_then (limited text) (λ cut. gives (Some cut))) (text-asks frame one)
    (λ text. then-asks (λ answers. limited text) (λ answers cut. gives (Some cut)) (limited-asks text) (λ cut. gives-asks (Some cut) []))
value_of-asks frame (Err at) = gives-asks None (unreadable at ∷ [])

pub value-asks : (frame : Frame) (text : List ℕ) → IsAsking (λ answers. value text (told_by frame answers))
value-asks frame text = value_of-asks frame (entry text text)

others-asks : (frame : Frame) (found : Option (List ℕ)) (texts : List (List ℕ)) → IsAsking (λ answers. values texts (told_by frame answers)) → IsAsking (λ answers. and_others found (values texts (told_by frame answers)))
others-asks frame None texts others = gives-asks None []
others-asks frame (Some text) texts others =
    then-asks (λ answers. values texts (told_by frame answers)) (λ answers all. gives (option_map (λ (rest : List (List ℕ)). text ∷ rest) all)) others
    (λ all. gives-asks (option_map (λ (rest : List (List ℕ)). text ∷ rest) all) [])

pub values-asks : (frame : Frame) (texts : List (List ℕ)) → IsAsking (λ answers. values texts (told_by frame answers))
values-asks frame [] = gives-asks (Some []) []
values-asks frame (text ∷ texts) =
    then-asks (λ answers. value text (told_by frame answers)) (λ answers found. and_others found (values texts (told_by frame answers))) (value-asks frame text)
    (λ found. others-asks frame found texts (values-asks frame texts))

operands-asks : (frame : Frame) (found : Option (List ℕ)) (texts : List (List ℕ)) → IsAsking (λ answers. and_operands found (values texts (told_by frame answers)))
operands-asks frame None texts = gives-asks None []
operands-asks frame (Some label) texts =
    let made : Option (List (List ℕ)) → Option CallValues = option_map (λ (all : List (List ℕ)). record { label = label; operands = all }) in
    then-asks (λ answers. values texts (told_by frame answers)) (λ answers all. gives (made all)) (values-asks frame texts) (λ all. gives-asks (made all) [])

-- the tree of a call
pub call-asks : (frame : Frame) (label operands : List ℕ) → IsAsking (λ answers. call_of label operands (told_by frame answers))
call-asks frame label operands =
    then-asks (λ answers. value (name_entry label) (told_by frame answers)) (λ answers found. and_operands found (values (operands_of operands) (told_by frame answers)))
    (value-asks frame (name_entry label)) (λ found. operands-asks frame found (operands_of operands))
