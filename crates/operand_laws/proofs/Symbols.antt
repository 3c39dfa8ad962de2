-- How much of a text some ordinary symbol begins with.
use Rattle.std.proofs.Common.{◌≡◌, ◌∙◌, ℕ, zero, suc, ◌+◌, ◌<◌, ◌≤◌, ◌==◌, inl, inr, Bool, true, false, List, [], ◌∷◌, ◌++◌, length, take, min, refl, sym, ap, subst, arith, length-append}
use Rattle.std.specs.Prelude.{◌&&◌, nat_le, slice_index, encode_utf8_all, map, Option, Some, None, Err, if◌then◌else◌}
use Rattle.std.specs.List.{list_all}
use Rattle.std.specs.Char.{to_ascii_uppercase}
use Rattle.std.proofs.lemmas.Bool.{false≢true, cases_lt, eqb-true}
use Rattle.std.proofs.lemmas.Bool.Decides.{nat_tests}
use Rattle.std.proofs.lemmas.Str.{encodes-IsAscii, encodes_same}
use Rattle.std.proofs.lemmas.List.{length-take-le}
use Rattle.hl_base.specs.Symbols.{is_letter, is_symbol, is_symbol_character, symbol_of}
use Rattle.hl_base.proofs.SymbolLaws.{is_symbol-characters}
use Rattle.conditional_fields.specs.Sequences.{letter_count, named_or, sequence, symbol_reach}
use Rattle.operand_laws.specs.Right.{IsLongest}
use Rattle.operand_laws.specs.Fields.{IsName, IsSequence}
use Rattle.operand_laws.proofs.Longest.{Reads, behind-one, empty-wrong, unbegun}
use Rattle.operand_laws.proofs.Runs.{and-left, and-right, and-both, run, run-count, run-on, run-within, run-least, run-all}

-- the parts of a name
pub record Parts (c : ℕ) (cs : List ℕ) : Type 0 where
  pub letter : is_letter c ≡ true
  pub all : list_all is_symbol_character cs ≡ true
  pub short : length cs < 63

pub parts-of : (c : ℕ) (cs : List ℕ) → IsName (c ∷ cs) → Parts c cs
parts-of c cs is =
    let rest = and-right (is_letter c) (list_all is_symbol_character cs && nat_le (length (c ∷ cs)) 63) is in
    let few = and-right (list_all is_symbol_character cs) (nat_le (length (c ∷ cs)) 63) rest in
    record {
      letter = and-left (is_letter c) (list_all is_symbol_character cs && nat_le (length (c ∷ cs)) 63) is;
      all = and-left (list_all is_symbol_character cs) (nat_le (length (c ∷ cs)) 63) rest;
      short = grind (arith, nat_tests);
    }

pub of-parts : (c : ℕ) (cs : List ℕ) → is_letter c ≡ true → list_all is_symbol_character cs ≡ true → length cs < 63 → IsName (c ∷ cs)
of-parts c cs letter all short =
    and-both (is_letter c) (list_all is_symbol_character cs && nat_le (length (c ∷ cs)) 63) letter
    (and-both (list_all is_symbol_character cs) (nat_le (length (c ∷ cs)) 63) all (grind (arith, nat_tests)))

pub letter-character : (c : ℕ) → is_letter c ≡ true → is_symbol_character c ≡ true
letter-character c e = rw e refl

-- Names in UTF-8.

character-ascii : (c : ℕ) → is_symbol_character c ≡ true → c < 128
character-ascii c e = grind (arith, nat_tests)

characters-ascii : (xs : List ℕ) → list_all is_symbol_character xs ≡ true → (i : ℕ) → slice_index xs i < 128
characters-ascii [] a i = omega arith
characters-ascii (x ∷ xs) a zero = character-ascii x (and-left (is_symbol_character x) (list_all is_symbol_character xs) a)
characters-ascii (x ∷ xs) a (suc i) = characters-ascii xs (and-right (is_symbol_character x) (list_all is_symbol_character xs) a) i

same-bytes : (text : List ℕ) → IsName text → encode_utf8_all text ≡ text
same-bytes text is = encodes-IsAscii text (characters-ascii text (is_symbol-characters text is))

some-name : (b : Bool) (found name : List ℕ) → (if b then Some found else None) ≡ Some name → b ≡ true
some-name true found name e = refl
some-name false found name e = cc

pub spelled : (text name : List ℕ) → symbol_of (encode_utf8_all text) ≡ Some name → IsName text
spelled text name e =
    let bytes = encode_utf8_all text in
    let is : is_symbol bytes ≡ true = some-name (is_symbol bytes) (map to_ascii_uppercase bytes) name e in
    subst (λ (xs : List ℕ). is_symbol xs ≡ true) (encodes_same bytes text (same-bytes bytes is)) is

pub not-spelled : (text : List ℕ) → symbol_of (encode_utf8_all text) ≡ None → IsName text → ⊥
not-spelled text e is =
    let same : symbol_of (encode_utf8_all text) ≡ Some (map to_ascii_uppercase text) =
    ap symbol_of (same-bytes text is) ∙ ap (λ b. if b then Some (map to_ascii_uppercase text) else None) is in
    let never : None ≡ Some (map to_ascii_uppercase text) = sym e ∙ same in cc

-- How far a text goes.

-- nothing begins a name but a letter
none-begun : (c : ℕ) (cs : List ℕ) → is_letter c ≡ false → (IsName (c ∷ cs) → ⊥) → IsLongest IsName (c ∷ cs) 0
none-begun c cs e bad = record {
  within = omega arith;
  begun = record { rest = 65 ∷ []; right = refl };
  longest = λ more h le b. longer more h b.rest b.right;
  none = bad;
}
  where
    longer : (more : ℕ) → 0 < more → (r : List ℕ) → IsName (take more (c ∷ cs) ++ r) → ⊥
    longer zero h r is = omega arith
    longer (suc k) h r is = let p = parts-of c (take k cs ++ r) is in false≢true (sym e ∙ p.letter)

some-begun : (c : ℕ) (cs : List ℕ) (n : ℕ) → is_letter c ≡ true → n ≤ 63 → 0 < n → n ≤ run is_symbol_character (c ∷ cs) → ((more : ℕ) → n < more → more ≤ 63 → more ≤ run is_symbol_character (c ∷ cs) → ⊥) →
    (IsName (c ∷ cs) → ⊥) → IsLongest IsName (c ∷ cs) n
some-begun c cs zero e few some front most bad = absurd (omega arith)
some-begun c cs (suc n) e few some front most bad =
    let on = run-on is_symbol_character c cs (letter-character c e) in
    let fits = run-within is_symbol_character cs in
    let size = length-take-le n cs (omega arith) in
    record {
      within = omega arith;
      begun = record {
        rest = [];
        right = subst IsName (sym (append-none (c ∷ take n cs))) (of-parts c (take n cs) e (run-all is_symbol_character cs n (omega arith)) (omega arith));
      };
      longest = λ more h le b. longer more h le b.rest b.right;
      none = bad;
    }
  where
    append-none : (xs : List ℕ) → xs ++ [] ≡ xs
    append-none [] = refl
    append-none (x ∷ xs) = ap (λ l. x ∷ l) (append-none xs)

    longer : (more : ℕ) → suc n < more → more ≤ length (c ∷ cs) → (r : List ℕ) → IsName (take more (c ∷ cs) ++ r) → ⊥
    longer zero h le r is = omega arith
    longer (suc k) h le r is =
        let p = parts-of c (take k cs ++ r) is in
        let short = p.short in
        let counted = length-append (take k cs) r in
        let size = length-take-le k cs (omega arith) in
        let rest = run-least is_symbol_character cs r k (omega arith) p.all in
        let on = run-on is_symbol_character c cs (letter-character c e) in
        most (suc k) h (omega arith) (omega arith)

pub reach-longest : (text : List ℕ) → (IsName text → ⊥) → IsLongest IsName text (symbol_reach text)
reach-longest [] bad = record {
  within = omega arith;
  begun = record { rest = 65 ∷ []; right = refl };
  longest = λ more h le b. absurd (omega arith);
  none = bad;
}
reach-longest (c ∷ cs) bad = by (is_letter c) refl
  where
    counted : letter_count (c ∷ cs) ≡ run is_symbol_character (c ∷ cs)
    counted = run-count is_symbol_character (c ∷ cs)

    shorter : is_letter c ≡ true → IsLongest IsName (c ∷ cs) (min 63 (letter_count (c ∷ cs)))
    shorter e =
        let on = run-on is_symbol_character c cs (letter-character c e) in
        elim (cases_lt (run is_symbol_character (c ∷ cs)) 63) [
          | inl less ↦
              let is : min 63 (letter_count (c ∷ cs)) ≡ run is_symbol_character (c ∷ cs) = ap (λ n. min 63 n) counted ∙ omega arith in
              subst (IsLongest IsName (c ∷ cs)) (sym is) (some-begun c cs (run is_symbol_character (c ∷ cs)) e (omega arith) (omega arith) (omega arith) (λ more h few le. omega arith) bad)
          | inr ge ↦
              let is : min 63 (letter_count (c ∷ cs)) ≡ 63 = ap (λ n. min 63 n) counted ∙ omega arith in
              subst (IsLongest IsName (c ∷ cs)) (sym is) (some-begun c cs 63 e (omega arith) (omega arith) ge (λ more h few le. omega arith) bad)
        ]

    by : (b : Bool) → is_letter c ≡ b → IsLongest IsName (c ∷ cs) (if b then min 63 (letter_count (c ∷ cs)) else 0)
    by true e = shorter e
    by false e = none-begun c cs e bad

-- Members, and sequence symbols.

name-by : (text : List ℕ) (found : Option (List ℕ)) → symbol_of (encode_utf8_all text) ≡ found → Reads IsName text (named_or (symbol_reach text) found)
name-by text None e = reach-longest text (not-spelled text e)
name-by text (Some name) e = spelled text name e

pub reads-name : (text : List ℕ) → Reads IsName text (named_or (symbol_reach text) (symbol_of (encode_utf8_all text)))
reads-name text = name-by text (symbol_of (encode_utf8_all text)) refl

first-period : (x : ℕ) (xs : List ℕ) → IsSequence (x ∷ xs) → x ≡ 46
first-period x xs s = let is = s.begins in cc

period-out : (w : List ℕ) → IsName w → IsSequence (46 ∷ w)
period-out w name = record { rest = w; begins = refl; name = name }

period-into : (w : List ℕ) → IsSequence (46 ∷ w) → IsName w
period-into w s = let is = s.begins in let same : s.rest ≡ w = cc in subst IsName same s.name

behind-period : (rest : List ℕ) (found : Option (List ℕ)) → symbol_of (encode_utf8_all rest) ≡ found → Reads IsSequence (46 ∷ rest) (named_or (symbol_reach rest + 1) found)
behind-period rest None e = behind-one IsName IsSequence 46 rest (symbol_reach rest) period-out period-into (reach-longest rest (not-spelled rest e))
behind-period rest (Some name) e = period-out rest (spelled rest name e)

pub some-sequence : IsSequence (46 ∷ 65 ∷ [])
some-sequence = record { rest = 65 ∷ []; begins = refl; name = refl }

pub reads-sequence : (text : List ℕ) → Reads IsSequence text (sequence text)
reads-sequence [] = empty-wrong IsSequence (46 ∷ 65 ∷ []) some-sequence (λ s. let is = s.begins in cc)
reads-sequence (c ∷ rest) = by (c == 46) refl
  where
    by : (b : Bool) → (c == 46) ≡ b → Reads IsSequence (c ∷ rest) (if b then named_or (symbol_reach rest + 1) (symbol_of (encode_utf8_all rest)) else Err 0)
    by true e =
        subst (λ (x : ℕ). Reads IsSequence (x ∷ rest) (named_or (symbol_reach rest + 1) (symbol_of (encode_utf8_all rest)))) (sym (eqb-true c 46 e))
        (behind-period rest (symbol_of (encode_utf8_all rest)) refl)
    by false e = unbegun IsSequence c 46 rest (46 ∷ 65 ∷ []) some-sequence first-period e
