-- What variable symbols are worth in expressions (HLASM Language Reference SC26-4940, "Variable symbols", "Data
-- attributes").
use Rattle.std.specs.Prelude.{ℕ, Bool, true, false, List, [], ◌∷◌, length, Option, Some, None, ℤ, pos, nat_eq, codes, encode_utf8_all, if◌then◌else◌}
use Rattle.std.specs.Cmp.Lexicographic.{pointwise}
use Rattle.std.specs.Fmt.{signed_decimal}
use Rattle.std.specs.Option.{option_map_or}
use Rattle.hl_base.specs.declared.set.SetValue.{SetValue}
use Rattle.hl_base.specs.declared.set.SetValue.TheVariants.{A, B, C}
use Rattle.hl_base.specs.Symbols.{symbol_of}
use Rattle.expression_grammar.specs.declared.tree.Attribute.TheVariants as attribute
use Rattle.expression_grammar.specs.declared.tree.Reference.{Reference}
use Rattle.expression_grammar.specs.declared.tree.Reference.TheVariants.{Value, Of}
use Rattle.operand_list.specs.SplitSublist.{elements_of}
use Rattle.cond_expr.specs.declared.lookups.Found.{Found}
use Rattle.cond_expr.specs.declared.lookups.Found.TheVariants as found
use Rattle.cond_expr.specs.Told.{Told}
use Rattle.cond_expr.specs.Outcome.{Outcome, Gives, Asks, gives, and_then}
use Rattle.cond_expr.specs.Troubles.{fault, no_number}
use Rattle.cond_expr.specs.Symbols.{counted, length_of, defined_of, type_of, length_of_text, defined_of_text}
use Rattle.cond_expr.specs.Terms.{term}

-- a bit as a number
abbrev pub bit : Bool → ℤ
bit true = pos 1
bit false = pos 0

-- a value as text: numbers in decimal, with a minus sign below 0
abbrev pub text_of : SetValue → List ℕ
text_of (A number) = signed_decimal number
text_of (B one) = signed_decimal (bit one)
text_of (C text) = text

-- the text that a variable symbol stands for; none where it stands for nothing, with its note
abbrev pub spelled : List ℕ → Found → Outcome (Option (List ℕ))
spelled name (found.Value value) = gives (Some (text_of value))
spelled name (found.Parameter text) = gives (Some text)
spelled name (found.Fault code) = Gives None (fault code name ∷ [])
spelled name (found.Ask key) = Asks key

-- what is made of the text that a variable symbol stands for, and this where it stands for nothing
abbrev pub made_of : {V : Type 0} → (List ℕ → Outcome V) → V → List ℕ → Found → Outcome V
made_of make nothing name found = and_then (spelled name found) (λ text. option_map_or make text (gives nothing))

-- what a variable symbol is worth in a text; one that stands for nothing is the empty text, with its note
abbrev pub text_found : List ℕ → Found → Outcome (List ℕ)
text_found name found = made_of gives [] name found

-- K' of a variable symbol
abbrev pub count_found : List ℕ → Found → Outcome ℤ
count_found name found = made_of (λ text. counted (length text)) (pos 0) name found

-- L' of a variable symbol: 1 where it stands for nothing
abbrev pub length_found : Told → List ℕ → Found → Outcome ℤ
length_found told name found = made_of (length_of_text told) (pos 1) name found

-- D' of a variable symbol
abbrev pub defined_found : Told → List ℕ → Found → Outcome ℤ
defined_found told name found = made_of (defined_of_text told) (pos 0) name found

-- a variable symbol within a quoted text
abbrev pub text_of_variable : Told → List ℕ → List ℤ → Outcome (List ℕ)
text_of_variable told name subscripts = text_found name (told.variable name subscripts)

-- the number of a text: that of a self-defining term; of every other text 0, with a note
abbrev pub number_of_text : List ℕ → Option ℤ → Outcome ℤ
number_of_text name (Some number) = gives number
number_of_text name None = Gives (pos 0) (no_number name ∷ [])

-- the number of a value
abbrev pub number_of_value : List ℕ → SetValue → Outcome ℤ
number_of_value name (A number) = gives number
number_of_value name (B one) = gives (bit one)
number_of_value name (C text) = number_of_text name (term text)

-- what a variable symbol is worth as a number; one that stands for nothing is 0, with its note alone
abbrev pub number_found : List ℕ → Found → Outcome ℤ
number_found name (found.Value value) = number_of_value name value
number_found name (found.Parameter text) = number_of_text name (term text)
number_found name (found.Fault code) = Gives (pos 0) (fault code name ∷ [])
number_found name (found.Ask key) = Asks key

-- how many elements a text has: none where it is empty, those of a sublist, else 1
abbrev pub element_count : List ℕ → ℕ
element_count [] = 0
element_count (c ∷ rest) = option_map_or length (elements_of (c ∷ rest)) 1

-- N' of a variable symbol
abbrev pub elements_found : List ℕ → Found → Outcome ℤ
elements_found name found = made_of (λ text. counted (element_count text)) (pos 0) name found

-- N' of `&SYSLIST` without a subscript: the positional operands, where its element 0 is the name entry of a call
abbrev pub operands_found : Told → List ℕ → Found → Outcome ℤ
operands_found told name (found.Parameter text) = counted told.positionals
operands_found told name (found.Ask key) = Asks key
operands_found told name other = elements_found name (told.variable name [])

-- whether a name with these subscripts is all of the operands
abbrev pub is_operand_list : List ℕ → List ℤ → Bool
is_operand_list name [] = pointwise nat_eq name (codes "SYSLIST")
is_operand_list name (first ∷ others) = false

-- N' of a variable symbol with these subscripts
abbrev pub elements_of_variable : Told → List ℕ → List ℤ → Outcome ℤ
elements_of_variable told name subscripts =
    if is_operand_list name subscripts then operands_found told name (told.variable name (pos 0 ∷ []))
    else elements_found name (told.variable name subscripts)

-- T' of a text: O where it is empty, N of a self-defining term, of a symbol its letter, else U
abbrev pub type_unless_term : Told → List ℕ → Option ℤ → Outcome (List ℕ)
type_unless_term told text (Some number) = gives (78 ∷ [])
type_unless_term told text None = option_map_or (type_of told) (symbol_of (encode_utf8_all text)) (gives (85 ∷ []))

abbrev pub type_of_text : Told → List ℕ → Outcome (List ℕ)
type_of_text told [] = gives (79 ∷ [])
type_of_text told (c ∷ rest) = type_unless_term told (c ∷ rest) (term (c ∷ rest))

-- T' of a variable symbol: O where it stands for nothing
abbrev pub type_found : Told → List ℕ → Found → Outcome (List ℕ)
type_found told name found = made_of (type_of_text told) (79 ∷ []) name found

-- T' of a variable symbol with these subscripts
abbrev pub type_of_variable : Told → List ℕ → List ℤ → Outcome (List ℕ)
type_of_variable told name subscripts = type_found told name (told.variable name subscripts)

-- what is asked of a variable symbol with these subscripts, where it is a number; T' is none
abbrev pub number_of_variable : Told → Reference → List ℕ → List ℤ → Outcome ℤ
number_of_variable told Value name subscripts = number_found name (told.variable name subscripts)
number_of_variable told (Of attribute.Count) name subscripts = count_found name (told.variable name subscripts)
number_of_variable told (Of attribute.Number) name subscripts = elements_of_variable told name subscripts
number_of_variable told (Of attribute.Length) name subscripts = length_found told name (told.variable name subscripts)
number_of_variable told (Of attribute.Defined) name subscripts = defined_found told name (told.variable name subscripts)
number_of_variable told (Of attribute.Type) name subscripts = gives (pos 0)

-- what is asked of an ordinary symbol, where it is a number: L' or D'
abbrev pub number_of_symbol : Told → Reference → List ℕ → Outcome ℤ
number_of_symbol told (Of attribute.Length) name = length_of told name
number_of_symbol told (Of attribute.Defined) name = defined_of told name
number_of_symbol told other name = gives (pos 0)

-- what is asked of a variable symbol with these subscripts, where it is a text: T' alone
abbrev pub asked_text_of_variable : Told → Reference → List ℕ → List ℤ → Outcome (List ℕ)
asked_text_of_variable told (Of attribute.Type) name subscripts = type_of_variable told name subscripts
asked_text_of_variable told other name subscripts = gives []

-- what is asked of an ordinary symbol, where it is a text: T' alone
abbrev pub asked_text_of_symbol : Told → Reference → List ℕ → Outcome (List ℕ)
asked_text_of_symbol told (Of attribute.Type) name = type_of told name
asked_text_of_symbol told other name = gives []
