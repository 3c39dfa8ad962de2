-- Names, letter by letter.
use Rattle.std.proofs.Common.{◌≡◌, ℕ, suc, ◌<◌, Bool, true, false, List, [], ◌∷◌, ◌++◌, length, refl, sym, ap, ◌∙◌, arith, length-append}
use Rattle.std.specs.Prelude.{nat_le, ◌&&◌, Some, None, map, if◌then◌else◌}
use Rattle.std.specs.List.{list_all}
use Rattle.std.specs.Char.{to_ascii_uppercase}
use Rattle.std.proofs.lemmas.Bool.Decides.{nat_tests}
use Rattle.std.proofs.lemmas.List.Folds.{list_all-append}
use Rattle.hl_base.specs.Symbols.{is_letter, is_symbol_character, is_symbol, symbol_of}
use Rattle.expression_grammar.proofs.CharacterLaws.{upper-symbol, upper-again}

pub and-left : (a b : Bool) → (a && b) ≡ true → a ≡ true
and-left true b e = refl
and-left false b e = e

pub and-right : (a b : Bool) → (a && b) ≡ true → b ≡ true
and-right true b e = e
and-right false b e = cc

pub and-both : (a b : Bool) → a ≡ true → b ≡ true → (a && b) ≡ true
and-both true b e f = f
and-both false b e f = e

-- a name by its first letter and the others
pub record NameParts (c : ℕ) (cs name : List ℕ) : Type 0 where
  pub letter : is_letter c ≡ true
  pub all : list_all is_symbol_character cs ≡ true
  pub short : length cs < 63
  pub upper : name ≡ to_ascii_uppercase c ∷ map to_ascii_uppercase cs

pub some-parts : (b : Bool) (found name : List ℕ) → (if b then Some found else None) ≡ Some name → (b ≡ true) × (found ≡ name)
some-parts true found name e = (refl, cc)
some-parts false found name e = cc

pub name-parts : (c : ℕ) (cs name : List ℕ) → symbol_of (c ∷ cs) ≡ Some name → NameParts c cs name
name-parts c cs name e =
    let s = some-parts (is_symbol (c ∷ cs)) (map to_ascii_uppercase (c ∷ cs)) name e in
    let rest = and-right (is_letter c) (list_all is_symbol_character cs && nat_le (length (c ∷ cs)) 63) s.0 in
    let few = and-right (list_all is_symbol_character cs) (nat_le (length (c ∷ cs)) 63) rest in
    record {
      letter = and-left (is_letter c) (list_all is_symbol_character cs && nat_le (length (c ∷ cs)) 63) s.0;
      all = and-left (list_all is_symbol_character cs) (nat_le (length (c ∷ cs)) 63) rest;
      short = grind (arith, nat_tests);
      upper = sym s.1;
    }

pub parts-name : (c : ℕ) (cs name : List ℕ) → NameParts c cs name → symbol_of (c ∷ cs) ≡ Some name
parts-name c cs name n =
    let s : is_symbol (c ∷ cs) ≡ true = and-both (is_letter c) (list_all is_symbol_character cs && nat_le (length (c ∷ cs)) 63) n.letter
    (and-both (list_all is_symbol_character cs) (nat_le (length (c ∷ cs)) 63) n.all (let short = n.short in grind (arith, nat_tests))) in
    ap (λ b. if b then Some (map to_ascii_uppercase (c ∷ cs)) else None) s ∙ ap Some (sym n.upper)

pub letter-name : (c : ℕ) → is_letter c ≡ true → symbol_of (c ∷ []) ≡ Some (to_ascii_uppercase c ∷ [])
letter-name c l = parts-name c [] (to_ascii_uppercase c ∷ []) (record { letter = l; all = refl; short = omega arith; upper = refl })

map-append : (xs ys : List ℕ) → map to_ascii_uppercase (xs ++ ys) ≡ map to_ascii_uppercase xs ++ map to_ascii_uppercase ys
map-append [] ys = refl
map-append (x ∷ xs) ys = ap (λ zs. to_ascii_uppercase x ∷ zs) (map-append xs ys)

length-upper : (xs : List ℕ) → length (map to_ascii_uppercase xs) ≡ length xs
length-upper [] = refl
length-upper (x ∷ xs) = ap suc (length-upper xs)

all-longer : (cs : List ℕ) (d : ℕ) → list_all is_symbol_character cs ≡ true → is_symbol_character d ≡ true → list_all is_symbol_character (cs ++ d ∷ []) ≡ true
all-longer cs d a e =
    list_all-append is_symbol_character cs (d ∷ [])
    ∙ and-both (list_all is_symbol_character cs) (list_all is_symbol_character (d ∷ [])) a (and-both (is_symbol_character d) true e refl)

pub name-longer : (text name : List ℕ) (d : ℕ) → symbol_of text ≡ Some name → length name < 63 → is_symbol_character d ≡ true →
    symbol_of (text ++ d ∷ []) ≡ Some (name ++ to_ascii_uppercase d ∷ [])
name-longer [] name d e h s = cc
name-longer (c ∷ cs) name d e h s =
    let n = name-parts c cs name e in
    let same : length name ≡ suc (length cs) = ap length n.upper ∙ ap suc (length-upper cs) in
    parts-name c (cs ++ d ∷ []) (name ++ to_ascii_uppercase d ∷ []) (record {
      letter = n.letter;
      all = all-longer cs d n.all s;
      short = omega (arith, length-append cs (d ∷ []));
      upper = ap (λ xs. xs ++ to_ascii_uppercase d ∷ []) n.upper ∙ ap (λ xs. to_ascii_uppercase c ∷ xs) (sym (map-append cs (d ∷ [])));
    })

-- a name that is upper-cased already
pub upper-longer : (name : List ℕ) (d : ℕ) → symbol_of name ≡ Some name → length name < 63 → is_symbol_character d ≡ true →
    symbol_of (name ++ to_ascii_uppercase d ∷ []) ≡ Some (name ++ to_ascii_uppercase d ∷ [])
upper-longer name d e h s =
    name-longer name name (to_ascii_uppercase d) e h (upper-symbol d s) ∙ ap (λ u. Some (name ++ u ∷ [])) (upper-again d)
