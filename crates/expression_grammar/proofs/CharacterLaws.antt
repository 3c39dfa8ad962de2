-- What is known of a character from its kind.
use Rattle.std.proofs.Common.{◌≡◌, ℕ, Bool, true, false, refl, ap, arith}
use Rattle.std.specs.Prelude.{◌||◌}
use Rattle.std.specs.Char.{is_digit, is_ascii_digit, to_ascii_uppercase}
use Rattle.std.proofs.lemmas.Bool.Decides.{nat_tests}
use Rattle.hl_base.specs.Symbols.{is_letter, is_symbol_character}
use Rattle.expression_grammar.specs.declared.character.Kind.TheVariants as kind
use Rattle.expression_grammar.specs.Characters.{kind_of}

pub digit-kind : (c : ℕ) → is_digit c 10 ≡ true → kind_of c ≡ kind.Digit
unfolding kind_of
digit-kind c e = grind (arith, nat_tests)

pub kind-digit : (c : ℕ) → kind_of c ≡ kind.Digit → is_digit c 10 ≡ true
unfolding kind_of
kind-digit c e = grind (arith, nat_tests)

pub letter-kind : (c : ℕ) → is_letter c ≡ true → kind_of c ≡ kind.Letter
unfolding kind_of
letter-kind c e = grind (arith, nat_tests)

pub kind-letter : (c : ℕ) → kind_of c ≡ kind.Letter → is_letter c ≡ true
unfolding kind_of
kind-letter c e = grind (arith, nat_tests)

pub kind-quote : (c : ℕ) → kind_of c ≡ kind.Quote → c ≡ 39
unfolding kind_of
kind-quote c e = grind (arith, nat_tests)

pub kind-ampersand : (c : ℕ) → kind_of c ≡ kind.Ampersand → c ≡ 38
unfolding kind_of
kind-ampersand c e = grind (arith, nat_tests)

pub kind-open : (c : ℕ) → kind_of c ≡ kind.Open → c ≡ 40
unfolding kind_of
kind-open c e = grind (arith, nat_tests)

pub upper-letter : (c u : ℕ) → to_ascii_uppercase c ≡ u → is_letter u ≡ true → is_letter c ≡ true
upper-letter c u e l = grind (arith, nat_tests)

pub letter-symbol : (c : ℕ) → is_letter c ≡ true → is_symbol_character c ≡ true
letter-symbol c l = ap (λ b. b || is_ascii_digit c) l

pub kind-letter_symbol : (c : ℕ) → kind_of c ≡ kind.Letter → is_symbol_character c ≡ true
kind-letter_symbol c e = letter-symbol c (kind-letter c e)

or-right : (a b : Bool) → b ≡ true → (a || b) ≡ true
or-right true b e = refl
or-right false b e = e

pub kind-digit_symbol : (c : ℕ) → kind_of c ≡ kind.Digit → is_symbol_character c ≡ true
kind-digit_symbol c e = or-right (is_letter c) (is_ascii_digit c) (let d = kind-digit c e in grind (arith, nat_tests))

pub upper-symbol : (c : ℕ) → is_symbol_character c ≡ true → is_symbol_character (to_ascii_uppercase c) ≡ true
upper-symbol c e = grind (arith, nat_tests)

pub upper-again : (c : ℕ) → to_ascii_uppercase (to_ascii_uppercase c) ≡ to_ascii_uppercase c
upper-again c = grind (arith, nat_tests)

-- a letter or a digit, by its kind
pub data IsNaming (c : ℕ) : Type 0 where
  by_letter : kind_of c ≡ kind.Letter → IsNaming c
  by_digit : kind_of c ≡ kind.Digit → IsNaming c

pub symbol-kind : (c : ℕ) → is_symbol_character c ≡ true → IsNaming c
symbol-kind c e =
    let go : (b : Bool) → is_letter c ≡ b → IsNaming c =
    elim [ true ↦ λ l. by_letter (letter-kind c l) | false ↦ λ l. by_digit (digit-kind c (grind (arith, nat_tests))) ] in
    go (is_letter c) refl
