-- Values of expressions go along trees of questions, over each frame.
use Rattle.std.proofs.Common.{◌≡◌, refl, ℕ, List, [], ◌∷◌, ◌++◌, length, Option, Some, None}
use Rattle.std.specs.Prelude.{ℤ, pos, nat_lt, ◌||◌, ◌==◌, take, drop, chars, encode_utf8_all, ◌+ℤ◌, ◌-ℤ◌, ◌*ℤ◌, neg_ℤ, not}
use Rattle.std.specs.Ordering.{int_cmp}
use Rattle.std.specs.Int.{cast_signed, w32}
use Rattle.std.specs.Option.{option_map_or}
use Rattle.hl_base.specs.Order.{compare}
use Rattle.hl_base.specs.Symbols.{symbol_of}
use Rattle.hl_base.specs.declared.set.Attr.{Attr}
use Rattle.hl_base.specs.declared.set.Answer.{Answer}
use Rattle.hl_base.specs.declared.set.Key.TheVariants.{Sym, Look}
use Rattle.hl_base.specs.declared.set.SetValue.{SetValue}
use Rattle.hl_base.specs.declared.set.SetValue.TheVariants.{A, B, C}
use Rattle.expression_grammar.specs.declared.tree.Symbol.{Symbol}
use Rattle.expression_grammar.specs.declared.tree.Sign.{Sign}
use Rattle.expression_grammar.specs.declared.tree.Sign.TheVariants.{Plus, Minus}
use Rattle.expression_grammar.specs.declared.tree.Operator.{Operator}
use Rattle.expression_grammar.specs.declared.tree.Operator.TheVariants.{Add, Subtract, Multiply, Divide, And, Or, Xor}
use Rattle.expression_grammar.specs.declared.tree.Attribute.TheVariants as attribute
use Rattle.expression_grammar.specs.declared.tree.Reference.{Reference}
use Rattle.expression_grammar.specs.declared.tree.Reference.TheVariants.{Value, Of}
use Rattle.expression_grammar.specs.Trees.{Tree, Trees, Items, Number, Here, Ordinary, Variable, Signed, Pair, Paren, Not, Compared, Quoted, Duplicated, Substring, SubstringToEnd, Joined, NoTrees, More, NoItems, Plain, Inserted}
use Rattle.cond_expr.specs.Arithmetic.{fitting, quotient}
use Rattle.cond_expr.specs.Outcome.{Outcome, Gives, gives, and_then}
use Rattle.cond_expr.specs.Troubles as troubles
use Rattle.cond_expr.specs.Characters as characters
use Rattle.cond_expr.specs.Symbols as symbols
use Rattle.cond_expr.specs.Terms.{term}
use Rattle.cond_expr.specs.Variables as variables
use Rattle.cond_expr.specs.Values as values
use Rattle.cond_expr.specs.Asking.{Answers, IsAsking, done, told, outcome}
use Rattle.cond_expr.specs.Frames.{Frame, Standing, value, parameter, fault, found_of, told_by}
use Rattle.cond_expr.proofs.AskingParts.{gives-asks, then-asks, answer-asks, test-asks, option-asks, found-asks}

-- ---- what needs nothing

checked-asks : (number : Option ℤ) → IsAsking (λ answers. symbols.checked number)
checked-asks (Some number) = gives-asks number []
checked-asks None = gives-asks (pos 0) (troubles.overflow ∷ [])

limited-asks : (text : List ℕ) → IsAsking (λ answers. characters.limited text)
limited-asks text = test-asks (nat_lt 1024 (length text)) (λ answers. Gives (take 1024 text) (troubles.too_long ∷ [])) (λ answers. gives text)
    (gives-asks (take 1024 text) (troubles.too_long ∷ [])) (gives-asks text [])

part-asks : (text : List ℕ) (before : Option ℕ) (count : ℕ) → IsAsking (λ answers. characters.part text before count)
part-asks text None count = gives-asks [] (troubles.outside ∷ [])
part-asks text (Some before) count = test-asks (nat_lt before (length text) || (count == 0)) (λ answers. gives (take count (drop before text))) (λ answers. Gives [] (troubles.outside ∷ []))
    (gives-asks (take count (drop before text)) []) (gives-asks [] (troubles.outside ∷ []))

joined-asks : (operator : Operator) (left right : ℤ) → IsAsking (λ answers. values.joined operator left right)
joined-asks Add left right = checked-asks (fitting (left +ℤ right))
joined-asks Subtract left right = checked-asks (fitting (left -ℤ right))
joined-asks Multiply left right = checked-asks (fitting (left *ℤ right))
joined-asks Divide left right = checked-asks (quotient left right)
joined-asks And left right = gives-asks _ []
joined-asks Or left right = gives-asks _ []
joined-asks Xor left right = gives-asks _ []

signed-asks : (sign : Sign) (number : ℤ) → IsAsking (λ answers. values.signed sign number)
signed-asks Plus number = gives-asks number []
signed-asks Minus number = checked-asks (fitting (neg_ℤ number))

-- ---- ordinary symbols

so_far : (name : List ℕ) (answers : Answers) (found : Option Answer) →
    symbols.defined_so_far name found ≡ told (Sym name) (λ answer. outcome answers (done (record { value = symbols.meaning_in answer; notes = [] }))) found
so_far name answers None = refl
so_far name answers (Some answer) = refl

so_far-asks : (name : List ℕ) → IsAsking (λ answers. symbols.defined_so_far name (answers (Sym name)))
so_far-asks name =
    answer-asks (Sym name) (λ answer. done (record { value = symbols.meaning_in answer; notes = [] })) (λ answers. symbols.defined_so_far name) (so_far name)

ahead : (frame : Frame) (name : List ℕ) (answers : Answers) (found : Option Answer) →
    symbols.found_ahead (told_by frame answers) name found ≡ told (Look name) (λ answer. outcome answers (done (record { value = symbols.meaning_in answer; notes = [] }))) found
ahead frame name answers None = refl
ahead frame name answers (Some answer) = refl

or_ahead-asks : (frame : Frame) (name : List ℕ) (found : Option Attr) → IsAsking (λ answers. symbols.meaning_or_ahead (told_by frame answers) name found)
or_ahead-asks frame name (Some attr) = gives-asks (Some attr) []
or_ahead-asks frame name None =
    answer-asks (Look name) (λ answer. done (record { value = symbols.meaning_in answer; notes = [] })) (λ answers. symbols.found_ahead (told_by frame answers) name) (ahead frame name)

meaning-asks : (frame : Frame) (name : List ℕ) → IsAsking (λ answers. symbols.meaning (told_by frame answers) name)
meaning-asks frame name = then-asks (λ answers. symbols.defined_so_far name (answers (Sym name))) (λ answers. symbols.meaning_or_ahead (told_by frame answers) name)
    (so_far-asks name) (or_ahead-asks frame name)

length_in-asks : (name : List ℕ) (found : Option Attr) → IsAsking (λ answers. symbols.length_in name found)
length_in-asks name (Some attr) = checked-asks (fitting (pos attr.length))
length_in-asks name None = gives-asks (pos 1) (troubles.no_length (chars name) ∷ [])

length_of-asks : (frame : Frame) (name : List ℕ) → IsAsking (λ answers. symbols.length_of (told_by frame answers) name)
length_of-asks frame name = then-asks (λ answers. symbols.meaning (told_by frame answers) name) (λ answers. symbols.length_in name) (meaning-asks frame name) (length_in-asks name)

defined_of-asks : (frame : Frame) (name : List ℕ) → IsAsking (λ answers. symbols.defined_of (told_by frame answers) name)
defined_of-asks frame name = then-asks (λ answers. symbols.defined_so_far name (answers (Sym name))) (λ answers found. gives (symbols.is_definition found))
    (so_far-asks name) (λ found. gives-asks (symbols.is_definition found) [])

type_of-asks : (frame : Frame) (name : List ℕ) → IsAsking (λ answers. symbols.type_of (told_by frame answers) name)
type_of-asks frame name = then-asks (λ answers. symbols.meaning (told_by frame answers) name) (λ answers found. gives (symbols.letter_in found))
    (meaning-asks frame name) (λ found. gives-asks (symbols.letter_in found) [])

length_of_text-asks : (frame : Frame) (text : List ℕ) → IsAsking (λ answers. symbols.length_of_text (told_by frame answers) text)
length_of_text-asks frame text = option-asks (symbol_of (encode_utf8_all text)) (λ answers. symbols.length_of (told_by frame answers)) (Gives (pos 1) (troubles.no_length text ∷ []))
    (length_of-asks frame) (gives-asks (pos 1) (troubles.no_length text ∷ []))

defined_of_text-asks : (frame : Frame) (text : List ℕ) → IsAsking (λ answers. symbols.defined_of_text (told_by frame answers) text)
defined_of_text-asks frame text = option-asks (symbol_of (encode_utf8_all text)) (λ answers. symbols.defined_of (told_by frame answers)) (gives (pos 0))
    (defined_of-asks frame) (gives-asks (pos 0) [])

type_unless_term-asks : (frame : Frame) (text : List ℕ) (number : Option ℤ) → IsAsking (λ answers. variables.type_unless_term (told_by frame answers) text number)
type_unless_term-asks frame text (Some number) = gives-asks (78 ∷ []) []
type_unless_term-asks frame text None = option-asks (symbol_of (encode_utf8_all text)) (λ answers. symbols.type_of (told_by frame answers)) (gives (85 ∷ []))
    (type_of-asks frame) (gives-asks (85 ∷ []) [])

type_of_text-asks : (frame : Frame) (text : List ℕ) → IsAsking (λ answers. variables.type_of_text (told_by frame answers) text)
type_of_text-asks frame [] = gives-asks (79 ∷ []) []
type_of_text-asks frame (c ∷ rest) = type_unless_term-asks frame (c ∷ rest) (term (c ∷ rest))

-- ---- variable symbols

spelled-asks : (name : List ℕ) (standing : Standing) → IsAsking (λ answers. variables.spelled name (found_of standing))
spelled-asks name (value v) = gives-asks (Some (variables.text_of v)) []
spelled-asks name (parameter text) = gives-asks (Some text) []
spelled-asks name (fault code) = gives-asks None (troubles.fault code name ∷ [])

made_of-asks : {V : Type 0} (make : Answers → List ℕ → Outcome V) (nothing : V) (name : List ℕ) (standing : Standing) → ((text : List ℕ) → IsAsking (λ answers. make answers text)) →
    IsAsking (λ answers. variables.made_of (make answers) nothing name (found_of standing))
made_of-asks make nothing name standing each = then-asks (λ answers. variables.spelled name (found_of standing)) (λ answers text. option_map_or (make answers) text (gives nothing))
    (spelled-asks name standing) (λ text. option-asks text make (gives nothing) each (gives-asks nothing []))

number_of_text-asks : (name : List ℕ) (number : Option ℤ) → IsAsking (λ answers. variables.number_of_text name number)
number_of_text-asks name (Some number) = gives-asks number []
number_of_text-asks name None = gives-asks (pos 0) (troubles.no_number name ∷ [])

number_of_value-asks : (name : List ℕ) (v : SetValue) → IsAsking (λ answers. variables.number_of_value name v)
number_of_value-asks name (A number) = gives-asks number []
number_of_value-asks name (B one) = gives-asks (variables.bit one) []
number_of_value-asks name (C text) = number_of_text-asks name (term text)

number_found-asks : (name : List ℕ) (standing : Standing) → IsAsking (λ answers. variables.number_found name (found_of standing))
number_found-asks name (value v) = number_of_value-asks name v
number_found-asks name (parameter text) = number_of_text-asks name (term text)
number_found-asks name (fault code) = gives-asks (pos 0) (troubles.fault code name ∷ [])

-- what is made of a variable symbol's text
made_of_variable-asks : {V : Type 0} (frame : Frame) (make : Answers → List ℕ → Outcome V) (nothing : V) (name : List ℕ) (subscripts : List ℤ) → ((text : List ℕ) → IsAsking (λ answers. make answers text)) →
    IsAsking (λ answers. variables.made_of (make answers) nothing name ((told_by frame answers).variable name subscripts))
made_of_variable-asks frame make nothing name subscripts each = found-asks (λ answers. variables.made_of (make answers) nothing name) (frame.variable name subscripts) (λ answers key. refl)
    (λ standing. made_of-asks make nothing name standing each)

elements-asks : (frame : Frame) (name : List ℕ) (subscripts : List ℤ) → IsAsking (λ answers. variables.elements_found name ((told_by frame answers).variable name subscripts))
elements-asks frame name subscripts = made_of_variable-asks frame (λ answers text. symbols.counted (variables.element_count text)) (pos 0) name subscripts
    (λ text. checked-asks (fitting (pos (variables.element_count text))))

operands-asks : (frame : Frame) (name : List ℕ) (standing : Standing) → IsAsking (λ answers. variables.operands_found (told_by frame answers) name (found_of standing))
operands-asks frame name (value v) = elements-asks frame name []
operands-asks frame name (parameter text) = checked-asks (fitting (pos frame.positionals))
operands-asks frame name (fault code) = elements-asks frame name []

elements_of_variable-asks : (frame : Frame) (name : List ℕ) (subscripts : List ℤ) → IsAsking (λ answers. variables.elements_of_variable (told_by frame answers) name subscripts)
elements_of_variable-asks frame name subscripts = test-asks (variables.is_operand_list name subscripts)
    (λ answers. variables.operands_found (told_by frame answers) name ((told_by frame answers).variable name (pos 0 ∷ [])))
    (λ answers. variables.elements_found name ((told_by frame answers).variable name subscripts))
    (found-asks (λ answers. variables.operands_found (told_by frame answers) name) (frame.variable name (pos 0 ∷ [])) (λ answers key. refl) (operands-asks frame name))
    (elements-asks frame name subscripts)

number_of_variable-asks : (frame : Frame) (asked : Reference) (name : List ℕ) (subscripts : List ℤ) → IsAsking (λ answers. variables.number_of_variable (told_by frame answers) asked name subscripts)
number_of_variable-asks frame Value name subscripts = found-asks (λ answers. variables.number_found name) (frame.variable name subscripts) (λ answers key. refl) (number_found-asks name)
number_of_variable-asks frame (Of attribute.Count) name subscripts =
    made_of_variable-asks frame (λ answers text. symbols.counted (length text)) (pos 0) name subscripts (λ text. checked-asks (fitting (pos (length text))))
number_of_variable-asks frame (Of attribute.Number) name subscripts = elements_of_variable-asks frame name subscripts
number_of_variable-asks frame (Of attribute.Length) name subscripts =
    made_of_variable-asks frame (λ answers. symbols.length_of_text (told_by frame answers)) (pos 1) name subscripts (length_of_text-asks frame)
number_of_variable-asks frame (Of attribute.Defined) name subscripts =
    made_of_variable-asks frame (λ answers. symbols.defined_of_text (told_by frame answers)) (pos 0) name subscripts (defined_of_text-asks frame)
number_of_variable-asks frame (Of attribute.Type) name subscripts = gives-asks (pos 0) []

number_of_symbol-asks : (frame : Frame) (asked : Reference) (name : List ℕ) → IsAsking (λ answers. variables.number_of_symbol (told_by frame answers) asked name)
number_of_symbol-asks frame (Of attribute.Length) name = length_of-asks frame name
number_of_symbol-asks frame (Of attribute.Defined) name = defined_of-asks frame name
number_of_symbol-asks frame Value name = gives-asks (pos 0) []
number_of_symbol-asks frame (Of attribute.Count) name = gives-asks (pos 0) []
number_of_symbol-asks frame (Of attribute.Number) name = gives-asks (pos 0) []
number_of_symbol-asks frame (Of attribute.Type) name = gives-asks (pos 0) []

text_of_variable-asks : (frame : Frame) (name : List ℕ) (subscripts : List ℤ) → IsAsking (λ answers. variables.text_of_variable (told_by frame answers) name subscripts)
text_of_variable-asks frame name subscripts = made_of_variable-asks frame (λ answers text. gives text) [] name subscripts (λ text. gives-asks text [])

asked_text_of_variable-asks : (frame : Frame) (asked : Reference) (name : List ℕ) (subscripts : List ℤ) → IsAsking (λ answers. variables.asked_text_of_variable (told_by frame answers) asked name subscripts)
asked_text_of_variable-asks frame (Of attribute.Type) name subscripts =
    made_of_variable-asks frame (λ answers. variables.type_of_text (told_by frame answers)) (79 ∷ []) name subscripts (type_of_text-asks frame)
asked_text_of_variable-asks frame Value name subscripts = gives-asks [] []
asked_text_of_variable-asks frame (Of attribute.Count) name subscripts = gives-asks [] []
asked_text_of_variable-asks frame (Of attribute.Number) name subscripts = gives-asks [] []
asked_text_of_variable-asks frame (Of attribute.Length) name subscripts = gives-asks [] []
asked_text_of_variable-asks frame (Of attribute.Defined) name subscripts = gives-asks [] []

asked_text_of_symbol-asks : (frame : Frame) (asked : Reference) (name : List ℕ) → IsAsking (λ answers. variables.asked_text_of_symbol (told_by frame answers) asked name)
asked_text_of_symbol-asks frame (Of attribute.Type) name = type_of-asks frame name
asked_text_of_symbol-asks frame Value name = gives-asks [] []
asked_text_of_symbol-asks frame (Of attribute.Count) name = gives-asks [] []
asked_text_of_symbol-asks frame (Of attribute.Number) name = gives-asks [] []
asked_text_of_symbol-asks frame (Of attribute.Length) name = gives-asks [] []
asked_text_of_symbol-asks frame (Of attribute.Defined) name = gives-asks [] []

-- ---- expressions

mutual
  pub number-asks : (frame : Frame) (tree : Tree) → IsAsking (λ answers. values.number tree (told_by frame answers))
  number-asks frame (Number form bits) = gives-asks (cast_signed w32 bits) []
  number-asks frame (Ordinary asked symbol) = number_of_symbol-asks frame asked symbol.name
  number-asks frame (Variable asked symbol subscripts) =
      then-asks (λ answers. values.numbers subscripts (told_by frame answers)) (λ answers. variables.number_of_variable (told_by frame answers) asked symbol.name)
      (numbers-asks frame subscripts) (number_of_variable-asks frame asked symbol.name)
  number-asks frame (Signed sign operand) = then-asks (λ answers. values.number operand (told_by frame answers)) (λ answers. values.signed sign) (number-asks frame operand) (signed-asks sign)
  number-asks frame (Pair operator left right) =
      then-asks (λ answers. values.number left (told_by frame answers)) (λ answers m. and_then (values.number right (told_by frame answers)) (λ n. values.joined operator m n)) (number-asks frame left)
      (λ m. then-asks (λ answers. values.number right (told_by frame answers)) (λ answers n. values.joined operator m n) (number-asks frame right) (joined-asks operator m))
  number-asks frame (Paren inner) = number-asks frame inner
  number-asks frame (Not operand) =
      then-asks (λ answers. values.number operand (told_by frame answers)) (λ answers n. gives (variables.bit (not (values.is_true n)))) (number-asks frame operand) (λ n. gives-asks (variables.bit (not (values.is_true n))) [])
  number-asks frame (Compared comparison left right) =
      test-asks (values.is_text left)
      (λ answers. and_then (values.text left (told_by frame answers)) (λ a. and_then (values.text right (told_by frame answers)) (λ b. gives (variables.bit (values.holds comparison (compare a b))))))
      (λ answers. and_then (values.number left (told_by frame answers)) (λ m. and_then (values.number right (told_by frame answers)) (λ n. gives (variables.bit (values.holds comparison (int_cmp m n))))))
      (then-asks (λ answers. values.text left (told_by frame answers)) (λ answers a. and_then (values.text right (told_by frame answers)) (λ b. gives (variables.bit (values.holds comparison (compare a b))))) (text-asks frame left)
      (λ a. then-asks (λ answers. values.text right (told_by frame answers)) (λ answers b. gives (variables.bit (values.holds comparison (compare a b)))) (text-asks frame right) (λ b. gives-asks (variables.bit (values.holds comparison (compare a b))) [])))
      (then-asks (λ answers. values.number left (told_by frame answers)) (λ answers m. and_then (values.number right (told_by frame answers)) (λ n. gives (variables.bit (values.holds comparison (int_cmp m n))))) (number-asks frame left)
      (λ m. then-asks (λ answers. values.number right (told_by frame answers)) (λ answers n. gives (variables.bit (values.holds comparison (int_cmp m n)))) (number-asks frame right) (λ n. gives-asks (variables.bit (values.holds comparison (int_cmp m n))) [])))
  number-asks frame Here = gives-asks (pos 0) []
  number-asks frame (Quoted items) = gives-asks (pos 0) []
  number-asks frame (Duplicated factor whole) = gives-asks (pos 0) []
  number-asks frame (Substring whole start count) = gives-asks (pos 0) []
  number-asks frame (SubstringToEnd whole start) = gives-asks (pos 0) []
  number-asks frame (Joined left right) = gives-asks (pos 0) []

  pub text-asks : (frame : Frame) (tree : Tree) → IsAsking (λ answers. values.text tree (told_by frame answers))
  text-asks frame (Ordinary asked symbol) = asked_text_of_symbol-asks frame asked symbol.name
  text-asks frame (Variable asked symbol subscripts) =
      then-asks (λ answers. values.numbers subscripts (told_by frame answers)) (λ answers. variables.asked_text_of_variable (told_by frame answers) asked symbol.name)
      (numbers-asks frame subscripts) (asked_text_of_variable-asks frame asked symbol.name)
  text-asks frame (Quoted items) = then-asks (λ answers. values.pieces items (told_by frame answers)) (λ answers. characters.limited) (pieces-asks frame items) limited-asks
  text-asks frame (Duplicated factor whole) =
      then-asks (λ answers. values.number factor (told_by frame answers)) (λ answers n. and_then (values.text whole (told_by frame answers)) (λ s. characters.duplicated n s)) (number-asks frame factor)
      (λ n. then-asks (λ answers. values.text whole (told_by frame answers)) (λ answers s. characters.duplicated n s) (text-asks frame whole) (λ s. limited-asks (characters.repeated (characters.not_below_0 n) s)))
  text-asks frame (Substring whole start count) =
      then-asks (λ answers. values.text whole (told_by frame answers))
      (λ answers s. and_then (values.number start (told_by frame answers)) (λ m. and_then (values.number count (told_by frame answers)) (λ n. characters.substring s m n))) (text-asks frame whole)
      (λ s. then-asks (λ answers. values.number start (told_by frame answers)) (λ answers m. and_then (values.number count (told_by frame answers)) (λ n. characters.substring s m n)) (number-asks frame start)
      (λ m. then-asks (λ answers. values.number count (told_by frame answers)) (λ answers n. characters.substring s m n) (number-asks frame count)
      (λ n. part-asks s (characters.characters_before m) (characters.not_below_0 n))))
  text-asks frame (SubstringToEnd whole start) =
      then-asks (λ answers. values.text whole (told_by frame answers)) (λ answers s. and_then (values.number start (told_by frame answers)) (λ m. characters.substring_to_end s m)) (text-asks frame whole)
      (λ s. then-asks (λ answers. values.number start (told_by frame answers)) (λ answers m. characters.substring_to_end s m) (number-asks frame start)
      (λ m. part-asks s (characters.characters_before m) (characters.left_behind s (characters.characters_before m))))
  text-asks frame (Joined left right) =
      then-asks (λ answers. values.text left (told_by frame answers)) (λ answers a. and_then (values.text right (told_by frame answers)) (λ b. characters.limited (a ++ b))) (text-asks frame left)
      (λ a. then-asks (λ answers. values.text right (told_by frame answers)) (λ answers b. characters.limited (a ++ b)) (text-asks frame right) (λ b. limited-asks (a ++ b)))
  text-asks frame (Number form bits) = gives-asks [] []
  text-asks frame Here = gives-asks [] []
  text-asks frame (Signed sign operand) = gives-asks [] []
  text-asks frame (Pair operator left right) = gives-asks [] []
  text-asks frame (Paren inner) = gives-asks [] []
  text-asks frame (Not operand) = gives-asks [] []
  text-asks frame (Compared comparison left right) = gives-asks [] []

  pub numbers-asks : (frame : Frame) (trees : Trees) → IsAsking (λ answers. values.numbers trees (told_by frame answers))
  numbers-asks frame NoTrees = gives-asks [] []
  numbers-asks frame (More others last) =
      then-asks (λ answers. values.numbers others (told_by frame answers)) (λ answers ns. and_then (values.number last (told_by frame answers)) (λ n. gives (ns ++ n ∷ []))) (numbers-asks frame others)
      (λ ns. then-asks (λ answers. values.number last (told_by frame answers)) (λ answers n. gives (ns ++ n ∷ [])) (number-asks frame last) (λ n. gives-asks (ns ++ n ∷ []) []))

  pieces-asks : (frame : Frame) (items : Items) → IsAsking (λ answers. values.pieces items (told_by frame answers))
  pieces-asks frame NoItems = gives-asks [] []
  pieces-asks frame (Plain others plain) =
      then-asks (λ answers. values.pieces others (told_by frame answers)) (λ answers s. gives (s ++ plain)) (pieces-asks frame others) (λ s. gives-asks (s ++ plain) [])
  pieces-asks frame (Inserted others symbol subscripts) =
      then-asks (λ answers. values.pieces others (told_by frame answers)) (λ answers s. and_then (values.inserted symbol subscripts (told_by frame answers)) (λ t. gives (s ++ t))) (pieces-asks frame others)
      (λ s. then-asks (λ answers. values.inserted symbol subscripts (told_by frame answers)) (λ answers t. gives (s ++ t))
      (then-asks (λ answers. values.numbers subscripts (told_by frame answers)) (λ answers. variables.text_of_variable (told_by frame answers) symbol.name) (numbers-asks frame subscripts) (text_of_variable-asks frame symbol.name))
      (λ t. gives-asks (s ++ t) []))

pub inserted-asks : (frame : Frame) (symbol : Symbol) (subscripts : Trees) → IsAsking (λ answers. values.inserted symbol subscripts (told_by frame answers))
inserted-asks frame symbol subscripts =
    then-asks (λ answers. values.numbers subscripts (told_by frame answers)) (λ answers. variables.text_of_variable (told_by frame answers) symbol.name) (numbers-asks frame subscripts) (text_of_variable-asks frame symbol.name)
