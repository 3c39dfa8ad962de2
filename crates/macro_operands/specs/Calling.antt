-- What the name entry and the operands of a macro call come to (HLASM Language Reference SC26-4940, "Macro instruction
-- format", "Operand entry", "Values in operands"): the operand field is split as it is written, and only then do variable
-- symbols get their values, so a comma in a value separates nothing. Each entry is a character value, so it has at most 1,024
-- characters. A function of the two texts and of what is told.
use Rattle.std.specs.Prelude.{ℕ, List, [], ◌∷◌, Option, Some, None, option_map, is_some, Result, Ok, Err, if◌then◌else◌}
use Rattle.operand_list.specs.Split.{operands_of}
use Rattle.cond_expr.specs.Told.{Told}
use Rattle.cond_expr.specs.Outcome.{Outcome, Gives, Asks, gives, and_then}
use Rattle.cond_expr.specs.Characters.{limited}
use Rattle.statement_reading.specs.Fields.{Entry, entry}
use Rattle.statement_reading.specs.Readings.{sequence_label}
use Rattle.conditional_asm.specs.Generating.{entry_text}
use Rattle.conditional_asm.specs.Troubles.{unreadable}
use Rattle.macro_operands.specs.declared.call.CallOperands.{CallOperands}
use Rattle.macro_operands.specs.declared.call.CallOperands.TheVariants.{Wants, Made, Unreadable}
use Rattle.macro_operands.specs.declared.call.CallValues.{CallValues}

-- what of a name entry is given to a call: nothing of a sequence symbol, which is there for branches
abbrev pub name_entry : List ℕ → List ℕ
name_entry label = if is_some (sequence_label label) then [] else label

-- an entry that was read, with the values of its variable symbols, cut behind 1,024 characters; or none, and the note that it
-- cannot be read
abbrev pub value_of : Result Entry ℕ → Told → Outcome (Option (List ℕ))
value_of (Ok one) told = and_then (entry_text one told) (λ text. and_then (limited text) (λ cut. gives (Some cut)))
value_of (Err at) told = Gives None (unreadable at ∷ [])

abbrev pub value : List ℕ → Told → Outcome (Option (List ℕ))
value text told = value_of (entry text text) told

-- a value, and then others; behind a text that cannot be read nothing is looked at
abbrev pub and_others : Option (List ℕ) → Outcome (Option (List (List ℕ))) → Outcome (Option (List (List ℕ)))
and_others None others = gives None
and_others (Some text) others = and_then others (λ found. gives (option_map (λ texts. text ∷ texts) found))

-- the values of some texts, from left to right
abbrev pub values : List (List ℕ) → Told → Outcome (Option (List (List ℕ)))
values [] told = gives (Some [])
values (text ∷ texts) told = and_then (value text told) (λ found. and_others found (values texts told))

-- what a call is given; or none, since an entry of it cannot be read and there is no call
abbrev pub Called : Type 0
Called = Option CallValues

-- the operands behind a name entry
abbrev pub and_operands : Option (List ℕ) → Outcome (Option (List (List ℕ))) → Outcome Called
and_operands None operands = gives None
and_operands (Some label) operands =
    and_then operands (λ found. gives (option_map (λ texts. record { label = label; operands = texts }) found))

-- the name entry first, and then each operand
abbrev pub call_of : (label operands : List ℕ) → Told → Outcome Called
call_of label operands told =
    and_then (value (name_entry label) told) (λ found. and_operands found (values (operands_of operands) told))

-- how a call is shown: with its notes; or the key that is asked, and no note
abbrev pub shown_call : Outcome Called → CallOperands
shown_call (Gives (Some call) notes) = Made call notes
shown_call (Gives None notes) = Unreadable notes
shown_call (Asks key) = Wants key
