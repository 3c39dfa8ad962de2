-- Declarations of SET symbols.
use Rattle.std.proofs.Common.{◌≡◌, ◌∙◌, ℕ, ◌+◌, ◌<◌, ◌≤◌, ◌==◌, Bool, true, false, List, [], ◌∷◌, ◌++◌, length, take, drop, refl, sym, ap, subst, arith, append_assoc, append-nil, length-append}
use Rattle.std.specs.Prelude.{◌&&◌, Option, Some, None, Result, Ok, Err, nat_lt, encode_utf8_all, if◌then◌else◌}
use Rattle.std.specs.List.{list_all}
use Rattle.std.specs.Char.{is_ascii_digit}
use Rattle.std.proofs.lemmas.Bool.{false≢true, eqb-true, eq-eqb}
use Rattle.std.proofs.lemmas.Bool.Decides.{nat_tests}
use Rattle.std.proofs.lemmas.List.{length-take-le, take_all, take_at}
use Rattle.hl_base.specs.Symbols.{is_symbol_character, symbol_of}
use Rattle.hl_base.specs.declared.set.SetKind.{SetKind}
use Rattle.hl_base.proofs.SymbolLaws.{is_symbol-characters}
use Rattle.conditional_fields.specs.Sequences.{letter_count, symbol_reach}
use Rattle.conditional_fields.specs.Declarations.{closing, declaration, declared, digit_count, dimension, ended, named, named_behind}
use Rattle.operand_laws.specs.Right.{IsBegun, IsLongest}
use Rattle.operand_laws.specs.Fields.{IsBehindName, IsDeclared, IsName, IsSize, IsVariable, array, nothing}
use Rattle.operand_laws.proofs.Lists.{Split, inside, beyond, rejoin, split}
use Rattle.operand_laws.proofs.Longest.{Reads, behind-one, cut-off, empty-wrong, lifted-at, stuck, unbegun}
use Rattle.operand_laws.proofs.Runs.{all-push, and-both, and-left, and-right, passes-within, run, run-all, run-count, run-ended, run-next, run-whole, run-within, same-run}
use Rattle.operand_laws.proofs.Symbols.{not-spelled, reach-longest, spelled}

-- The size of an array.

begun-digits : (ds : List ℕ) → list_all is_ascii_digit ds ≡ true → IsBegun IsSize ds
begun-digits ds a = record {
  rest = 48 ∷ 41 ∷ [];
  right = record {
    digits = ds ++ 48 ∷ [];
    ends = sym (append_assoc ds (48 ∷ []) (41 ∷ []));
    all = all-push is_ascii_digit ds 48 a refl;
    some = omega (arith, length-append ds (48 ∷ []));
  };
}

size-out : (w : List ℕ) → IsSize w → IsBehindName (40 ∷ w)
size-out w size = array w refl size

size-into : (w : List ℕ) → IsBehindName (40 ∷ w) → IsSize w
size-into w (nothing is) = absurd (let x = is in cc)
size-into w (array size is right) = let same : size ≡ w = cc in subst IsSize same right

-- digits, and then a character that is none
record Ended (ds : List ℕ) (c : ℕ) (z : List ℕ) : Type 0 where
  closes : c ≡ 41
  last : z ≡ []
  some : 0 < length ds

ended-size : (ds : List ℕ) (c : ℕ) (z : List ℕ) → list_all is_ascii_digit ds ≡ true → is_ascii_digit c ≡ false → IsSize (ds ++ c ∷ z) → Ended ds c z
ended-size ds c z a e size =
    let same = same-run is_ascii_digit ds size.digits c 41 z [] a size.all e refl size.ends in
    let some = size.some in
    record { closes = same.1; last = same.2; some = subst (λ (xs : List ℕ). 0 < length xs) (sym same.0) some }

-- where no parenthesis follows, or no digit is there
no-close : (ds : List ℕ) (c : ℕ) (z : List ℕ) → list_all is_ascii_digit ds ≡ true → is_ascii_digit c ≡ false → (nat_lt 0 (length ds) && (c == 41)) ≡ false → IsSize (ds ++ c ∷ z) → ⊥
no-close ds c z a e bad size =
    let is = ended-size ds c z a e size in
    let some = is.some in
    let one : nat_lt 0 (length ds) ≡ true = grind (arith, nat_tests) in
    false≢true (sym bad ∙ and-both (nat_lt 0 (length ds)) (c == 41) one (eq-eqb c 41 is.closes))

closing-by : (ds left : List ℕ) (n : ℕ) → length ds ≡ n → list_all is_ascii_digit ds ≡ true → ((c : ℕ) (rest : List ℕ) → left ≡ c ∷ rest → is_ascii_digit c ≡ false) →
    Reads IsBehindName (40 ∷ (ds ++ left)) (closing n left)
closing-by ds [] n size a next =
    subst (λ (m : ℕ). IsLongest IsBehindName (40 ∷ (ds ++ [])) (m + 1)) size
    (behind-one IsSize IsBehindName 40 (ds ++ []) (length ds) size-out size-into
    (subst (λ (l : List ℕ). IsLongest IsSize l (length ds)) (sym (append-nil ds)) (cut-off IsSize ds (begun-digits ds a) bad)))
  where
    bad : IsSize ds → ⊥
    bad s = false≢true (passes-within is_ascii_digit s.digits 41 [] (subst (λ (l : List ℕ). list_all is_ascii_digit l ≡ true) s.ends a))
closing-by ds (c ∷ rest) n size a next = by (nat_lt 0 n && (c == 41)) refl rest
  where
    after : is_ascii_digit c ≡ false
    after = next c rest refl

    open-at : (m : ℕ) (z : List ℕ) → m + 1 ≡ n + 2 → IsLongest IsSize (ds ++ c ∷ z) m → IsLongest IsBehindName (40 ∷ (ds ++ c ∷ z)) (n + 2)
    open-at m z same l = subst (IsLongest IsBehindName (40 ∷ (ds ++ c ∷ z))) same (behind-one IsSize IsBehindName 40 (ds ++ c ∷ z) m size-out size-into l)

    whole : (nat_lt 0 n && (c == 41)) ≡ true → IsSize (ds ++ c ∷ [])
    whole e =
        let one = and-left (nat_lt 0 n) (c == 41) e in
        record {
          digits = ds;
          ends = ap (λ y. ds ++ y ∷ []) (eqb-true c 41 (and-right (nat_lt 0 n) (c == 41) e));
          all = a;
          some = let more : 0 < n = grind (arith, nat_tests) in omega arith;
        }

    begun : IsSize (ds ++ c ∷ []) → IsBegun IsSize (ds ++ c ∷ [])
    begun size = record { rest = []; right = subst IsSize (sym (append-nil (ds ++ c ∷ []))) size }

    never : (x : ℕ) (z : List ℕ) → IsSize ((ds ++ c ∷ []) ++ x ∷ z) → ⊥
    never x z s =
        let is = ended-size ds c (x ∷ z) a after (subst IsSize (append_assoc ds (c ∷ []) (x ∷ z)) s) in
        let last = is.last in cc

    more : (x : ℕ) (xs : List ℕ) → IsSize (ds ++ c ∷ []) → IsLongest IsSize (ds ++ c ∷ x ∷ xs) (length (ds ++ c ∷ []))
    more x xs right =
        subst (λ (l : List ℕ). IsLongest IsSize l (length (ds ++ c ∷ []))) (append_assoc ds (c ∷ []) (x ∷ xs)) (stuck IsSize (ds ++ c ∷ []) x xs (begun right) (never x))

    refused : (nat_lt 0 n && (c == 41)) ≡ false → (z : List ℕ) → IsSize (ds ++ c ∷ z) → ⊥
    refused e z = no-close ds c z a after (ap (λ m. nat_lt 0 m && (c == 41)) size ∙ e)

    by : (b : Bool) → (nat_lt 0 n && (c == 41)) ≡ b → (left : List ℕ) → Reads IsBehindName (40 ∷ (ds ++ c ∷ left)) (if b then ended n left else Err (n + 1))
    by true e [] = size-out (ds ++ c ∷ []) (whole e)
    by true e (x ∷ xs) = let counted = length-append ds (c ∷ []) in open-at (length (ds ++ c ∷ [])) (x ∷ xs) (omega arith) (more x xs (whole e))
    by false e left =
        subst (λ (m : ℕ). IsLongest IsBehindName (40 ∷ (ds ++ c ∷ left)) (m + 1)) size
        (behind-one IsSize IsBehindName 40 (ds ++ c ∷ left) (length ds) size-out size-into (stuck IsSize ds c left (begun-digits ds a) (refused e)))

-- What stands behind a name.

first-open : (x : ℕ) (xs : List ℕ) → IsBehindName (x ∷ xs) → x ≡ 40
first-open x xs (nothing is) = absurd (let e = is in cc)
first-open x xs (array size is right) = cc

opened : (rest : List ℕ) → Reads IsBehindName (40 ∷ rest) (closing (digit_count rest) (drop (digit_count rest) rest))
opened rest =
    let count : run is_ascii_digit rest ≡ digit_count rest = sym (run-count is_ascii_digit rest) in
    subst (λ (n : ℕ). Reads IsBehindName (40 ∷ rest) (closing n (drop n rest))) count
    (subst (λ (l : List ℕ). Reads IsBehindName (40 ∷ l) (closing m (drop m rest))) (sym (rejoin rest m))
    (closing-by (take m rest) (drop m rest) m (length-take-le m rest (run-within is_ascii_digit rest)) (run-all is_ascii_digit rest m (omega arith)) (run-next is_ascii_digit rest)))
  where
    m : ℕ
    m = run is_ascii_digit rest

pub reads-behind : (text : List ℕ) → Reads IsBehindName text (dimension text)
reads-behind [] = nothing refl
reads-behind (c ∷ rest) = by (c == 40) refl
  where
    by : (b : Bool) → (c == 40) ≡ b → Reads IsBehindName (c ∷ rest) (if b then closing (digit_count rest) (drop (digit_count rest) rest) else Err 0)
    by true e =
        subst (λ (x : ℕ). Reads IsBehindName (x ∷ rest) (closing (digit_count rest) (drop (digit_count rest) rest))) (sym (eqb-true c 40 e)) (opened rest)
    by false e = unbegun IsBehindName c 40 rest [] (nothing refl) first-open e

-- A name and what stands behind it.

name-all : (name : List ℕ) → IsName name → list_all is_symbol_character name ≡ true
name-all name is = is_symbol-characters name is

-- letters and digits at the front that are no name
record Unnamed (rest : List ℕ) : Type 0 where
  none : symbol_of (encode_utf8_all (take (run is_symbol_character rest) rest)) ≡ None

no-name : (rest : List ℕ) → Unnamed rest → IsName rest → ⊥
no-name rest un is =
    let all = run-whole is_symbol_character rest (name-all rest is) in
    not-spelled rest (ap (λ (l : List ℕ). symbol_of (encode_utf8_all l)) (sym (ap (λ n. take n rest) all ∙ take_all (length rest) rest (omega arith))) ∙ un.none) is

no-array : (rest name tail : List ℕ) → Unnamed rest → rest ≡ name ++ 40 ∷ tail → IsName name → ⊥
no-array rest name tail un parts is =
    let count : run is_symbol_character rest ≡ length name = ap (run is_symbol_character) parts ∙ run-ended is_symbol_character name 40 tail (name-all name is) refl in
    let front : take (run is_symbol_character rest) rest ≡ name = ap (λ n. take n rest) count ∙ ap (take (length name)) parts ∙ take_at name (40 ∷ tail) (length name) refl in
    not-spelled name (ap (λ (l : List ℕ). symbol_of (encode_utf8_all l)) (sym front) ∙ un.none) is

no-variable : (rest : List ℕ) → Unnamed rest → IsVariable rest → ⊥
no-variable rest un v = by v.behind v.parts v.fits
  where
    by : (behind : List ℕ) → rest ≡ v.name ++ behind → IsBehindName behind → ⊥
    by behind parts (nothing is) = no-name rest un (subst IsName (sym (parts ∙ ap (λ l. v.name ++ l) is ∙ append-nil v.name)) v.named)
    by behind parts (array size is right) = no-array rest v.name size un (parts ∙ ap (λ l. v.name ++ l) is) v.named

unnamed-longest : (rest : List ℕ) → Unnamed rest → IsLongest IsVariable rest (symbol_reach rest)
unnamed-longest rest un = record {
  within = inner.within;
  begun = record {
    rest = begun.rest;
    right = record { name = take (symbol_reach rest) rest ++ begun.rest; behind = []; parts = sym (append-nil (take (symbol_reach rest) rest ++ begun.rest)); named = begun.right; fits = nothing refl };
  };
  longest = λ more h w b. longer more h w b.rest b.right;
  none = no-variable rest un;
}
  where
    inner : IsLongest IsName rest (symbol_reach rest)
    inner = reach-longest rest (no-name rest un)

    begun : IsBegun IsName (take (symbol_reach rest) rest)
    begun = inner.begun

    beyond-name : (more : ℕ) (r name behind : List ℕ) (x : ℕ) (e : List ℕ) → IsName name → IsBehindName behind → take more rest ≡ name ++ x ∷ e → behind ≡ x ∷ (e ++ r) → ⊥
    beyond-name more r name behind x e named (nothing is) p q = let never : [] ≡ x ∷ (e ++ r) = sym is ∙ q in cc
    beyond-name more r name behind x e named (array size is right) p q =
        let heads : 40 ∷ size ≡ x ∷ (e ++ r) = sym is ∙ q in
        let head : x ≡ 40 = cc in
        no-array rest name (e ++ drop more rest) un
        (rejoin rest more ∙ ap (λ l. l ++ drop more rest) p ∙ append_assoc name (x ∷ e) (drop more rest) ∙ ap (λ y. name ++ y ∷ (e ++ drop more rest)) head) named

    longer : (more : ℕ) → symbol_reach rest < more → more ≤ length rest → (r : List ℕ) → IsVariable (take more rest ++ r) → ⊥
    longer more h w r v = by (split (take more rest) r v.name v.behind v.parts)
      where
        by : Split (take more rest) r v.name v.behind → ⊥
        by (inside e p q) = inner.longest more h w (record { rest = e; right = subst IsName p v.named })
        by (beyond x e p q) = beyond-name more r v.name v.behind x e v.named v.fits p q

-- behind a whole name
behind-into : (front : List ℕ) (c : ℕ) → IsName front → is_symbol_character c ≡ false → (w : List ℕ) → IsVariable (front ++ c ∷ w) → IsBehindName (c ∷ w)
behind-into front c named after w v = by v.behind v.parts v.fits
  where
    by : (behind : List ℕ) → front ++ c ∷ w ≡ v.name ++ behind → IsBehindName behind → IsBehindName (c ∷ w)
    by behind parts (nothing is) =
        absurd (false≢true (sym after ∙ passes-within is_symbol_character front c w
        (subst (λ (l : List ℕ). list_all is_symbol_character l ≡ true) (sym (parts ∙ ap (λ l. v.name ++ l) is ∙ append-nil v.name)) (name-all v.name v.named))))
    by behind parts (array size is right) =
        let same = same-run is_symbol_character front v.name c 40 w size (name-all front named) (name-all v.name v.named) after refl (parts ∙ ap (λ l. v.name ++ l) is) in
        array size (ap (λ y. y ∷ w) same.1 ∙ ap (λ l. 40 ∷ l) same.2) right

variable-out : (front : List ℕ) → IsName front → (w : List ℕ) → IsBehindName w → IsVariable (front ++ w)
variable-out front named w fits = record { name = front; behind = w; parts = refl; named = named; fits = fits }

variable-longest : (front left : List ℕ) (at : ℕ) → IsName front → ((c : ℕ) (r : List ℕ) → left ≡ c ∷ r → is_symbol_character c ≡ false) → IsLongest IsBehindName left at →
    IsLongest IsVariable (front ++ left) (length front + at)
variable-longest front [] at named next l = absurd (l.none (nothing refl))
variable-longest front (c ∷ r) at named next l = lifted-at IsBehindName IsVariable front c r at (variable-out front named) (behind-into front c named (next c r refl)) l

-- An operand.

sign-out : (w : List ℕ) → IsVariable w → IsDeclared (38 ∷ w)
sign-out w v = record { rest = w; begins = refl; variable = v }

sign-into : (w : List ℕ) → IsDeclared (38 ∷ w) → IsVariable w
sign-into w d = let is = d.begins in let same : d.rest ≡ w = cc in subst IsVariable same d.variable

declared-by : (kind : SetKind) (global : Bool) (front left name : List ℕ) (found : Result Bool ℕ) → IsName front → ((c : ℕ) (r : List ℕ) → left ≡ c ∷ r → is_symbol_character c ≡ false) →
    Reads IsBehindName left found → Reads IsDeclared (38 ∷ (front ++ left)) (declared kind global name (length front) found)
declared-by kind global front left name (Ok is_array) named next f = sign-out (front ++ left) (variable-out front named left f)
declared-by kind global front left name (Err at) named next f =
    subst (IsLongest IsDeclared (38 ∷ (front ++ left))) (omega arith)
    (behind-one IsVariable IsDeclared 38 (front ++ left) (length front + at) sign-out sign-into (variable-longest front left at named next f))

named-by : (kind : SetKind) (global : Bool) (rest : List ℕ) (found : Option (List ℕ)) → symbol_of (encode_utf8_all (take (run is_symbol_character rest) rest)) ≡ found →
    Reads IsDeclared (38 ∷ rest) (named kind global rest found)
named-by kind global rest None e =
    behind-one IsVariable IsDeclared 38 rest (symbol_reach rest) sign-out sign-into (unnamed-longest rest (record { none = e }))
named-by kind global rest (Some name) e =
    let m = run is_symbol_character rest in
    let front = take m rest in
    let left = drop m rest in
    let size : length front ≡ m = length-take-le m rest (run-within is_symbol_character rest) in
    let count : m ≡ letter_count rest = sym (run-count is_symbol_character rest) in
    subst (λ (n : ℕ). Reads IsDeclared (38 ∷ rest) (declared kind global name n (dimension (drop n rest)))) count
    (subst (λ (n : ℕ). Reads IsDeclared (38 ∷ rest) (declared kind global name n (dimension left))) size
    (subst (λ (l : List ℕ). Reads IsDeclared (38 ∷ l) (declared kind global name (length front) (dimension left))) (sym (rejoin rest m))
    (declared-by kind global front left name (dimension left) (spelled front name e) (run-next is_symbol_character rest) (reads-behind left))))

first-sign : (x : ℕ) (xs : List ℕ) → IsDeclared (x ∷ xs) → x ≡ 38
first-sign x xs d = let is = d.begins in cc

some-declared : IsDeclared (38 ∷ 65 ∷ [])
some-declared = sign-out (65 ∷ []) (record { name = 65 ∷ []; behind = []; parts = refl; named = refl; fits = nothing refl })

pub reads-declared : (kind : SetKind) (global : Bool) (text : List ℕ) → Reads IsDeclared text (declaration kind global text)
reads-declared kind global [] = empty-wrong IsDeclared (38 ∷ 65 ∷ []) some-declared (λ d. let is = d.begins in cc)
reads-declared kind global (c ∷ rest) = by (c == 38) refl
  where
    counted : take (letter_count rest) rest ≡ take (run is_symbol_character rest) rest
    counted = ap (λ n. take n rest) (run-count is_symbol_character rest)

    by : (b : Bool) → (c == 38) ≡ b → Reads IsDeclared (c ∷ rest) (if b then named_behind kind global rest else Err 0)
    by true e =
        subst (λ (x : ℕ). Reads IsDeclared (x ∷ rest) (named_behind kind global rest)) (sym (eqb-true c 38 e))
        (named-by kind global rest (symbol_of (encode_utf8_all (take (letter_count rest) rest))) (ap (λ (l : List ℕ). symbol_of (encode_utf8_all l)) (sym counted)))
    by false e = unbegun IsDeclared c 38 rest (38 ∷ 65 ∷ []) some-declared first-sign e
