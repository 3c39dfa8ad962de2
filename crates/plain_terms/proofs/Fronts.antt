-- What is read of a text that begins with a number or a symbol, and goes on with a delimiter or not at all.
use Rattle.std.proofs.Common.{◌≡◌, ℕ, zero, suc, ◌+◌, ◌*◌, ◌<◌, ◌≤◌, ◌==◌, ◌&&◌, Bool, true, false, List, [], ◌∷◌, ◌++◌, length, get_or, take, drop, Some, None, refl, sym, ap, subst, ◌∙◌, arith, append_assoc, zero-add}
use Rattle.std.specs.Prelude.{nat_le, nat_lt, ◌||◌, map, option_and_then}
use Rattle.std.specs.List.{list_all}
use Rattle.std.specs.Char.{digit_value, to_ascii_uppercase}
use Rattle.std.specs.Str.{chars}
use Rattle.std.proofs.lemmas.Bool.Decides.{nat_tests}
use Rattle.std.proofs.lemmas.List.{append-nil, take-append-drop}
use Rattle.std.proofs.lemmas.Str.{chars-IsAscii}
use Rattle.expression_grammar.specs.declared.character.Grammar.TheVariants.{Ordinary}
use Rattle.expression_grammar.specs.declared.part.Part.TheVariants.{Figures, Word}
use Rattle.expression_grammar.specs.declared.part.Move.TheVariants.{To, Over}
use Rattle.expression_grammar.specs.declared.tree.Form.TheVariants.{Decimal}
use Rattle.expression_grammar.specs.declared.tree.Reference.TheVariants.{Value}
use Rattle.expression_grammar.specs.Characters.{kind_of}
use Rattle.expression_grammar.specs.Parts.{after, finish, symbol_at, after_word, lengthen}
use Rattle.expression_grammar.specs.Reading.{State, Want, Within, step, advance, accept, begun, kept, weight}
use Rattle.expression_grammar.specs.Readings.{read_by, front_by, going, closed_by, ended}
use Rattle.expression_grammar.specs.Spelling.{Placed, base_of, figures, is_figure, most_parts}
use Rattle.expression_grammar.specs.Trees.{Tree, Number, Ordinary as Named}
use Rattle.expression_grammar.proofs.CharacterLaws.{letter-kind, letter-symbol, symbol-kind, IsNaming, by_letter, by_digit}
use Rattle.expression_grammar.proofs.Completions.{step-to, if-true}
use Rattle.expression_grammar.proofs.Leads.{after-digit, begin-digit, figures-most, le-test, lt-test}
use Rattle.expression_grammar.proofs.Names.{and-left, and-right, name-parts}
use Rattle.hl_base.specs.Symbols.{is_letter, is_symbol_character, symbol_of}
use Rattle.plain_terms.specs.Terms.{IsTerm, decimal, named, IsDecimal, BeginsWith, is_delimited, is_delimiter, whole_behind, front_behind}

-- One character.

advance_to : (state next : State) (p : Placed) → step Ordinary state p ≡ Some next → weight next ≤ most_parts → advance Ordinary most_parts state p ≡ Some next
unfolding advance
advance_to state next p is small =
    ap (option_and_then (kept most_parts)) is ∙ if-true (nat_le (weight next) most_parts) (Some next) None (le-test (weight next) most_parts small)

-- a character that belongs to a term
read_more : (state next : State) (at c : ℕ) (cs : List ℕ) → advance Ordinary most_parts state (record { at = at; code = c }) ≡ Some next →
    read_by (advance Ordinary most_parts) (accept Ordinary) state at (c ∷ cs) ≡ read_by (advance Ordinary most_parts) (accept Ordinary) next (at + 1) cs
read_more state next at c cs is = ap (going at (λ s. read_by (advance Ordinary most_parts) (accept Ordinary) s (at + 1) cs)) is

front_more : (state next : State) (at c : ℕ) (cs : List ℕ) → advance Ordinary most_parts state (record { at = at; code = c }) ≡ Some next → (c == 41) ≡ false →
    front_by (advance Ordinary most_parts) (accept Ordinary) state at (c ∷ cs) ≡ front_by (advance Ordinary most_parts) (accept Ordinary) next (at + 1) cs
front_more state next at c cs is unclosed =
    ap (λ b. closed_by at b (accept Ordinary state) (going at (λ s. front_by (advance Ordinary most_parts) (accept Ordinary) s (at + 1) cs) (advance Ordinary most_parts state (record { at = at; code = c })))) unclosed
    ∙ ap (going at (λ s. front_by (advance Ordinary most_parts) (accept Ordinary) s (at + 1) cs)) is

-- what both readers find from a state on is what they find from another on
record Same (one : State) (at : ℕ) (cs : List ℕ) (other : State) (on : ℕ) (ds : List ℕ) : Type 0 where
  whole : read_by (advance Ordinary most_parts) (accept Ordinary) one at cs ≡ read_by (advance Ordinary most_parts) (accept Ordinary) other on ds
  front : front_by (advance Ordinary most_parts) (accept Ordinary) one at cs ≡ front_by (advance Ordinary most_parts) (accept Ordinary) other on ds

one_more : (state next : State) (at c : ℕ) (cs : List ℕ) → advance Ordinary most_parts state (record { at = at; code = c }) ≡ Some next → (c == 41) ≡ false →
    Same state at (c ∷ cs) next (at + 1) cs
one_more state next at c cs is unclosed = record { whole = read_more state next at c cs is; front = front_more state next at c cs is unclosed }

then_more : (a b d : State) (i j k : ℕ) (xs ys zs : List ℕ) → Same a i xs b j ys → Same b j ys d k zs → Same a i xs d k zs
then_more a b d i j k xs ys zs first second = record { whole = first.whole ∙ second.whole; front = first.front ∙ second.front }

-- Symbols.

symbol_open : (c : ℕ) → is_symbol_character c ≡ true → (c == 41) ≡ false
symbol_open c is = grind (arith, nat_tests)

by_kind : (name : List ℕ) (c : ℕ) → IsNaming c → after_word Ordinary (kind_of c) 0 name c ≡ lengthen (Word 0) name c
by_kind name c (by_letter k) = ap (λ x. after_word Ordinary x 0 name c) k
by_kind name c (by_digit k) = ap (λ x. after_word Ordinary x 0 name c) k

after_symbol : (name : List ℕ) (at c : ℕ) → is_symbol_character c ≡ true → length name < 63 →
    after Ordinary (Word 0 name) (record { at = at; code = c }) ≡ To (Word 0 (name ++ to_ascii_uppercase c ∷ []))
unfolding after
after_symbol name at c is room =
    by_kind name c (symbol-kind c is)
    ∙ if-true (nat_lt (length name) 63) (To (Word 0 (name ++ to_ascii_uppercase c ∷ []))) (Over (Word 0 name)) (lt-test (length name) 63 room)

advance_symbol : (name : List ℕ) (at c : ℕ) → is_symbol_character c ≡ true → length name < 63 →
    advance Ordinary most_parts (Within (Word 0 name) []) (record { at = at; code = c }) ≡ Some (Within (Word 0 (name ++ to_ascii_uppercase c ∷ [])) [])
advance_symbol name at c is room =
    advance_to (Within (Word 0 name) []) (Within (Word 0 (name ++ to_ascii_uppercase c ∷ [])) []) (record { at = at; code = c })
    (step-to Ordinary [] (Word 0 name) (Word 0 (name ++ to_ascii_uppercase c ∷ [])) (record { at = at; code = c }) (after_symbol name at c is room)) (omega arith)

name_longer : (name : List ℕ) (c : ℕ) → length (name ++ c ∷ []) ≡ length name + 1
name_longer [] c = omega arith
name_longer (x ∷ name) c = let more = name_longer name c in omega arith

symbols_more : (name cs rest : List ℕ) (at : ℕ) → list_all is_symbol_character cs ≡ true → length name + length cs ≤ 63 →
    Same (Within (Word 0 name) []) at (cs ++ rest) (Within (Word 0 (name ++ map to_ascii_uppercase cs)) []) (at + length cs) rest
symbols_more name [] rest at all few =
    subst (λ n. Same (Within (Word 0 name) []) at rest (Within (Word 0 n) []) (at + 0) rest) (sym (append-nil name))
    (subst (λ i. Same (Within (Word 0 name) []) at rest (Within (Word 0 name) []) i rest) (let same : at ≡ at + 0 = omega arith in same) (record { whole = refl; front = refl }))
symbols_more name (c ∷ cs) rest at all few =
    let first = and-left (is_symbol_character c) (list_all is_symbol_character cs) all in
    let others = and-right (is_symbol_character c) (list_all is_symbol_character cs) all in
    let longer = name ++ to_ascii_uppercase c ∷ [] in
    let long = name_longer name (to_ascii_uppercase c) in
    let one = one_more (Within (Word 0 name) []) (Within (Word 0 longer) []) at c (cs ++ rest) (advance_symbol name at c first (omega arith)) (symbol_open c first) in
    let more = symbols_more longer cs rest (at + 1) others (omega arith) in
    let both = then_more (Within (Word 0 name) []) (Within (Word 0 longer) []) (Within (Word 0 (longer ++ map to_ascii_uppercase cs)) []) at (at + 1) (at + 1 + length cs) (c ∷ cs ++ rest) (cs ++ rest) rest one more in
    subst (λ i. Same (Within (Word 0 name) []) at (c ∷ cs ++ rest) (Within (Word 0 (name ++ to_ascii_uppercase c ∷ map to_ascii_uppercase cs)) []) i rest) (let same : at + 1 + length cs ≡ at + suc (length cs) = omega arith in same)
    (subst (λ n. Same (Within (Word 0 name) []) at (c ∷ cs ++ rest) (Within (Word 0 n) []) (at + 1 + length cs) rest) (append_assoc name (to_ascii_uppercase c ∷ []) (map to_ascii_uppercase cs)) both)

begin_symbol : (c : ℕ) → is_letter c ≡ true → step Ordinary (Want []) (record { at = 0; code = c }) ≡ Some (Within (Word 0 (to_ascii_uppercase c ∷ [])) [])
unfolding step
begin_symbol c is = ap (λ x. begun Ordinary x (record { at = 0; code = c }) []) (letter-kind c is)

letter_open : (c : ℕ) → is_letter c ≡ true → (c == 41) ≡ false
letter_open c is = grind (arith, nat_tests)

symbol_runs : (text rest name : List ℕ) → symbol_of text ≡ Some name → Same (Want []) 0 (text ++ rest) (Within (Word 0 name) []) (length text) rest
symbol_runs [] rest name is = absurd cc
symbol_runs (c ∷ cs) rest name is =
    let parts = name-parts c cs name is in
    let first = to_ascii_uppercase c ∷ [] in
    let short = parts.short in
    let one = one_more (Want []) (Within (Word 0 first) []) 0 c (cs ++ rest) (advance_to (Want []) (Within (Word 0 first) []) (record { at = 0; code = c }) (begin_symbol c parts.letter) (omega arith)) (letter_open c parts.letter) in
    let more = symbols_more first cs rest 1 parts.all (omega arith) in
    let both = then_more (Want []) (Within (Word 0 first) []) (Within (Word 0 (first ++ map to_ascii_uppercase cs)) []) 0 1 (1 + length cs) (c ∷ cs ++ rest) (cs ++ rest) rest one more in
    subst (λ i. Same (Want []) 0 (c ∷ cs ++ rest) (Within (Word 0 name) []) i rest) (let same : 1 + length cs ≡ suc (length cs) = omega arith in same)
    (subst (λ n. Same (Want []) 0 (c ∷ cs ++ rest) (Within (Word 0 n) []) (1 + length cs) rest) (sym parts.upper) both)

-- Numbers.

digit_open : (c : ℕ) → is_figure Decimal c ≡ true → (c == 41) ≡ false
digit_open c is = grind (arith, nat_tests)

digits_more : (n v : ℕ) (cs rest : List ℕ) (at : ℕ) → list_all (is_figure Decimal) cs ≡ true → n + length cs ≤ 10 → figures Decimal v cs ≤ 2147483647 →
    Same (Within (Figures Decimal n v) []) at (cs ++ rest) (Within (Figures Decimal (n + length cs) (figures Decimal v cs)) []) (at + length cs) rest
digits_more n v [] rest at all few small =
    subst (λ m. Same (Within (Figures Decimal n v) []) at rest (Within (Figures Decimal m v) []) (at + 0) rest) (let same : n ≡ n + 0 = omega arith in same)
    (subst (λ i. Same (Within (Figures Decimal n v) []) at rest (Within (Figures Decimal n v) []) i rest) (let same : at ≡ at + 0 = omega arith in same) (record { whole = refl; front = refl }))
digits_more n v (c ∷ cs) rest at all few small =
    let first = and-left (is_figure Decimal c) (list_all (is_figure Decimal) cs) all in
    let others = and-right (is_figure Decimal c) (list_all (is_figure Decimal) cs) all in
    let next = v * base_of Decimal + digit_value c in
    let least = figures-most Decimal next cs in
    let here : Placed = record { at = at; code = c } in
    let one = one_more (Within (Figures Decimal n v) []) (Within (Figures Decimal (n + 1) next) []) at c (cs ++ rest)
    (advance_to (Within (Figures Decimal n v) []) (Within (Figures Decimal (n + 1) next) []) here
    (step-to Ordinary [] (Figures Decimal n v) (Figures Decimal (n + 1) next) here (after-digit Ordinary Decimal n v here first (omega arith) (omega arith))) (omega arith))
    (digit_open c first) in
    let more = digits_more (n + 1) next cs rest (at + 1) others (omega arith) small in
    let total = figures Decimal next cs in
    let both = then_more (Within (Figures Decimal n v) []) (Within (Figures Decimal (n + 1) next) []) (Within (Figures Decimal (n + 1 + length cs) total) []) at (at + 1) (at + 1 + length cs) (c ∷ cs ++ rest) (cs ++ rest) rest one more in
    subst (λ m. Same (Within (Figures Decimal n v) []) at (c ∷ cs ++ rest) (Within (Figures Decimal m total) []) (at + suc (length cs)) rest) (let same : n + 1 + length cs ≡ n + suc (length cs) = omega arith in same)
    (subst (λ i. Same (Within (Figures Decimal n v) []) at (c ∷ cs ++ rest) (Within (Figures Decimal (n + 1 + length cs) total) []) i rest) (let same : at + 1 + length cs ≡ at + suc (length cs) = omega arith in same) both)

decimal_runs : (text rest : List ℕ) (bits : ℕ) → IsDecimal text bits → Same (Want []) 0 (text ++ rest) (Within (Figures Decimal (length text) bits) []) (length text) rest
decimal_runs [] rest bits is = let some = is.some in absurd (omega arith)
decimal_runs (c ∷ cs) rest bits is =
    let first = and-left (is_figure Decimal c) (list_all (is_figure Decimal) cs) is.all in
    let others = and-right (is_figure Decimal c) (list_all (is_figure Decimal) cs) is.all in
    let here : Placed = record { at = 0; code = c } in
    let few = is.few in let small = is.small in
    let value : figures Decimal (digit_value c) cs ≡ bits = ap (λ v. figures Decimal v cs) (sym (zero-add (digit_value c))) ∙ is.valued in
    let one = one_more (Want []) (Within (Figures Decimal 1 (digit_value c)) []) 0 c (cs ++ rest)
    (advance_to (Want []) (Within (Figures Decimal 1 (digit_value c)) []) here (begin-digit Ordinary [] here first) (omega arith)) (digit_open c first) in
    let more = digits_more 1 (digit_value c) cs rest 1 others (omega arith) (omega (arith, value)) in
    let both = then_more (Want []) (Within (Figures Decimal 1 (digit_value c)) []) (Within (Figures Decimal (1 + length cs) (figures Decimal (digit_value c) cs)) []) 0 1 (1 + length cs) (c ∷ cs ++ rest) (cs ++ rest) rest one more in
    subst (λ i. Same (Want []) 0 (c ∷ cs ++ rest) (Within (Figures Decimal i bits) []) i rest) (let same : 1 + length cs ≡ suc (length cs) = omega arith in same)
    (subst (λ v. Same (Want []) 0 (c ∷ cs ++ rest) (Within (Figures Decimal (1 + length cs) v) []) (1 + length cs) rest) value both)

-- Ends.

-- a state that is a tree, behind which no delimiter goes on
record Stops (state : State) (tree : Tree) : Type 0 where
  whole : accept Ordinary state ≡ Some tree
  at_open : (at : ℕ) → advance Ordinary most_parts state (record { at = at; code = 40 }) ≡ None
  at_close : (at : ℕ) → advance Ordinary most_parts state (record { at = at; code = 41 }) ≡ None
  at_comma : (at : ℕ) → advance Ordinary most_parts state (record { at = at; code = 44 }) ≡ None

symbol_stops : (name : List ℕ) → Stops (Within (Word 0 name) []) (Named Value (symbol_at 0 name))
unfolding advance step after finish accept kind_of
symbol_stops name = record { whole = refl; at_open = λ at. refl; at_close = λ at. refl; at_comma = λ at. refl }

number_stops : (n v : ℕ) → Stops (Within (Figures Decimal n v) []) (Number Decimal v)
unfolding advance step after finish accept kind_of
number_stops n v = record { whole = refl; at_open = λ at. refl; at_close = λ at. refl; at_comma = λ at. refl }

-- which delimiter a character is
by_delimiter : (P : ℕ → Type 0) (c : ℕ) → is_delimiter c ≡ true → P 40 → P 41 → P 44 → P c
by_delimiter P c is p q r =
    let third : (b : Bool) → (c == 44) ≡ b → b ≡ true → P c = elim [ true ↦ λ e t. subst P (let same : 44 ≡ c = grind (arith, nat_tests) in same) r | false ↦ λ e t. absurd cc ] in
    let second : (b : Bool) → (c == 41) ≡ b → (b || (c == 44)) ≡ true → P c = elim [ true ↦ λ e t. subst P (let same : 41 ≡ c = grind (arith, nat_tests) in same) q | false ↦ λ e t. third (c == 44) refl t ] in
    let first : (b : Bool) → (c == 40) ≡ b → (b || ((c == 41) || (c == 44))) ≡ true → P c = elim [ true ↦ λ e t. subst P (let same : 40 ≡ c = grind (arith, nat_tests) in same) p | false ↦ λ e t. second (c == 41) refl t ] in
    first (c == 40) refl is

record Answers (state : State) (at : ℕ) (tree : Tree) (rest : List ℕ) : Type 0 where
  whole : read_by (advance Ordinary most_parts) (accept Ordinary) state at rest ≡ whole_behind at tree rest
  front : front_by (advance Ordinary most_parts) (accept Ordinary) state at rest ≡ front_behind at tree rest

stopped : (state : State) (tree : Tree) (at : ℕ) (rest : List ℕ) → Stops state tree → is_delimited rest ≡ true → Answers state at tree rest
stopped state tree at [] stops is = record { whole = ap (ended at) stops.whole; front = refl }
stopped state tree at (c ∷ cs) stops is =
    let S = advance Ordinary most_parts in
    let E = accept Ordinary in
    by_delimiter (λ d. Answers state at tree (d ∷ cs)) c is
    (record {
      whole = ap (going at (λ s. read_by S E s (at + 1) cs)) (stops.at_open at);
      front = ap (going at (λ s. front_by S E s (at + 1) cs)) (stops.at_open at);
    })
    (record {
      whole = ap (going at (λ s. read_by S E s (at + 1) cs)) (stops.at_close at);
      front = ap (λ o. closed_by at true o (going at (λ s. front_by S E s (at + 1) cs) (S state (record { at = at; code = 41 })))) stops.whole;
    })
    (record {
      whole = ap (going at (λ s. read_by S E s (at + 1) cs)) (stops.at_comma at);
      front = ap (going at (λ s. front_by S E s (at + 1) cs)) (stops.at_comma at);
    })

one_part : 1 ≤ most_parts
one_part = omega arith

begun_with : (text rest : List ℕ) (tree : Tree) → IsTerm text tree → is_delimited rest ≡ true → BeginsWith (text ++ rest) (length text) tree rest
begun_with text rest tree (decimal bits is same) delimited =
    let runs = decimal_runs text rest bits is in
    let ends = stopped (Within (Figures Decimal (length text) bits) []) (Number Decimal bits) (length text) rest (number_stops (length text) bits) delimited in
    subst (λ t. BeginsWith (text ++ rest) (length text) t rest) (sym same)
    (record { whole = runs.whole ∙ ends.whole; front = runs.front ∙ ends.front; small = one_part })
begun_with text rest tree (named name is same) delimited =
    let runs = symbol_runs text rest name is in
    let ends = stopped (Within (Word 0 name) []) (Named Value (symbol_at 0 name)) (length text) rest (symbol_stops name) delimited in
    subst (λ t. BeginsWith (text ++ rest) (length text) t rest) (sym same)
    (record { whole = runs.whole ∙ ends.whole; front = runs.front ∙ ends.front; small = one_part })

-- The characters of a term are its bytes.

ascii_symbol : (c : ℕ) → is_symbol_character c ≡ true → c < 128
ascii_symbol c is = grind (arith, nat_tests)

ascii_digit : (c : ℕ) → is_figure Decimal c ≡ true → c < 128
ascii_digit c is = grind (arith, nat_tests)

all_small : (p : ℕ → Bool) (xs : List ℕ) → ((c : ℕ) → p c ≡ true → c < 128) → list_all p xs ≡ true → (i : ℕ) → get_or xs i 0 < 128
all_small p [] small all zero = omega arith
all_small p [] small all (suc i) = omega arith
all_small p (x ∷ xs) small all zero = small x (and-left (p x) (list_all p xs) all)
all_small p (x ∷ xs) small all (suc i) = all_small p xs small (and-right (p x) (list_all p xs) all) i

pub symbol_small : (text name : List ℕ) → symbol_of text ≡ Some name → (i : ℕ) → get_or text i 0 < 128
symbol_small [] name is i = absurd cc
symbol_small (c ∷ cs) name is zero = let parts = name-parts c cs name is in ascii_symbol c (letter-symbol c parts.letter)
symbol_small (c ∷ cs) name is (suc i) = let parts = name-parts c cs name is in all_small is_symbol_character cs ascii_symbol parts.all i

pub decimal_small : (text : List ℕ) (bits : ℕ) → IsDecimal text bits → (i : ℕ) → get_or text i 0 < 128
decimal_small text bits is = all_small (is_figure Decimal) text ascii_digit is.all

term_characters : (text : List ℕ) (tree : Tree) → IsTerm text tree → chars text ≡ text
term_characters text tree (decimal bits is same) = chars-IsAscii text (decimal_small text bits is)
term_characters text tree (named name is same) = chars-IsAscii text (symbol_small text name is)

-- a text that begins with a term, cut behind it
pub begins_with : (text : List ℕ) (n count : ℕ) (front behind : List ℕ) (tree : Tree) → chars front ≡ take n text → behind ≡ drop n text → count ≡ length front →
    IsTerm front tree → is_delimited behind ≡ true → BeginsWith text count tree behind
begins_with text n count front behind tree cut rest counted is delimited =
    let joined : front ++ behind ≡ text = ap (λ f. f ++ behind) (sym (term_characters front tree is) ∙ cut) ∙ ap (λ r. take n text ++ r) rest ∙ take-append-drop n text in
    subst (λ t. BeginsWith t count tree behind) joined
    (subst (λ k. BeginsWith (front ++ behind) k tree behind) (sym counted) (begun_with front behind tree is delimited))

-- a text that is a term
pub begins_alone : (text : List ℕ) (tree : Tree) → IsTerm text tree → BeginsWith (chars text) (length (chars text)) tree []
begins_alone text tree is =
    subst (λ t. BeginsWith t (length t) tree []) (sym (term_characters text tree is))
    (subst (λ t. BeginsWith t (length text) tree []) (append-nil text) (begun_with text [] tree is refl))

-- Digits, one after the other.

pub digits_next : (digit : ℕ) (rest : List ℕ) → digit_value digit < 10 → list_all (is_figure Decimal) (digit ∷ rest) ≡ list_all (is_figure Decimal) rest
digits_next digit rest is = ap (λ b. b && list_all (is_figure Decimal) rest) (lt-test (digit_value digit) 10 is)

pub digits_end : (left text : List ℕ) (bits : ℕ) → left ≡ [] → 0 < length text → length text ≤ 10 →
    list_all (is_figure Decimal) left ≡ list_all (is_figure Decimal) text → figures Decimal bits left ≡ figures Decimal 0 text → bits ≤ 2147483647 → IsDecimal text bits
digits_end left text bits none some few all valued small = record {
  some = some;
  few = few;
  all = sym all ∙ ap (list_all (is_figure Decimal)) none;
  valued = sym valued ∙ ap (figures Decimal bits) none;
  small = small;
}
