-- What is known of a text that is an ordinary symbol.
use Rattle.std.proofs.Common.{◌≡◌, ℕ, Bool, true, false, List, [], ◌∷◌, length, refl, ◌&&◌, ◌||◌, map, arith}
use Rattle.std.specs.Prelude.{nat_le}
use Rattle.std.specs.List.{list_all}
use Rattle.std.specs.Char.{is_ascii_digit, to_ascii_uppercase}
use Rattle.hl_base.specs.Symbols.{is_symbol, is_letter, is_symbol_character, is_no_small_letter}

first_and_others : (letter digit others short : Bool) → (letter && (others && short)) ≡ true →
    ((letter || digit) && others) ≡ true
first_and_others true digit true short symbol = refl
first_and_others true digit false short symbol = cc
first_and_others false digit others short symbol = cc

-- each character of a symbol is a letter or a digit
pub is_symbol-characters : (text : List ℕ) → is_symbol text ≡ true → list_all is_symbol_character text ≡ true
is_symbol-characters [] symbol = refl
is_symbol-characters (c ∷ cs) symbol =
    first_and_others (is_letter c) (is_ascii_digit c) (list_all is_symbol_character cs)
    (nat_le (length (c ∷ cs)) 63) symbol

its_own_capital : (c : ℕ) → is_no_small_letter c ≡ true → to_ascii_uppercase c ≡ c
its_own_capital c capital = grind arith

both_hold : (a b : Bool) → (a && b) ≡ true → (a ≡ true) × (b ≡ true)
both_hold true true e = (refl, refl)
both_hold true false e = (refl, e)
both_hold false b e = cc

put_before : (c raised : ℕ) (cs all : List ℕ) → raised ≡ c → all ≡ cs → (raised ∷ all) ≡ (c ∷ cs)
put_before c raised cs all first others = rw first rw others refl

-- a text that has no small letter is its own capitals
pub capitals_of_capitals : (text : List ℕ) → list_all is_no_small_letter text ≡ true → map to_ascii_uppercase text ≡ text
capitals_of_capitals [] capitals = refl
capitals_of_capitals (c ∷ cs) capitals =
    let parts = both_hold (is_no_small_letter c) (list_all is_no_small_letter cs) capitals in
    put_before c (to_ascii_uppercase c) cs (map to_ascii_uppercase cs) (its_own_capital c parts.0) (capitals_of_capitals cs parts.1)
