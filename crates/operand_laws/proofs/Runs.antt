-- How many characters at the front of a text pass a test.
use Rattle.std.proofs.Common.{◌≡◌, ◌∙◌, ℕ, zero, suc, ◌≤◌, Bool, true, false, List, [], ◌∷◌, ◌++◌, length, take, drop, refl, sym, ap, arith}
use Rattle.std.specs.Prelude.{◌&&◌, cond, take_while}
use Rattle.std.specs.List.{list_all}
use Rattle.std.proofs.lemmas.Bool.{false≢true}
use Rattle.std.proofs.lemmas.List.Sums.{take_while-cons}

pub and-left : (a b : Bool) → (a && b) ≡ true → a ≡ true
and-left true b e = refl
and-left false b e = e

pub and-right : (a b : Bool) → (a && b) ≡ true → b ≡ true
and-right true b e = e
and-right false b e = cc

pub and-both : (a b : Bool) → a ≡ true → b ≡ true → (a && b) ≡ true
and-both true b e f = f
and-both false b e f = e

abbrev pub run : (ℕ → Bool) → List ℕ → ℕ
run p [] = 0
run p (x ∷ xs) = cond (p x) (suc (run p xs)) 0

length-cond : (b : Bool) (x : ℕ) (ys : List ℕ) → length (cond b (x ∷ ys) []) ≡ cond b (suc (length ys)) 0
length-cond true x ys = refl
length-cond false x ys = refl

pub run-count : (p : ℕ → Bool) (xs : List ℕ) → length (take_while p xs) ≡ run p xs
run-count p [] = refl
run-count p (x ∷ xs) = ap length (take_while-cons p x xs) ∙ length-cond (p x) x (take_while p xs) ∙ ap (λ n. cond (p x) (suc n) 0) (run-count p xs)

pub run-on : (p : ℕ → Bool) (x : ℕ) (xs : List ℕ) → p x ≡ true → run p (x ∷ xs) ≡ suc (run p xs)
run-on p x xs e = ap (λ b. cond b (suc (run p xs)) 0) e

pub run-off : (p : ℕ → Bool) (x : ℕ) (xs : List ℕ) → p x ≡ false → run p (x ∷ xs) ≡ 0
run-off p x xs e = ap (λ b. cond b (suc (run p xs)) 0) e

pub run-within : (p : ℕ → Bool) (xs : List ℕ) → run p xs ≤ length xs
run-within p [] = omega arith
run-within p (x ∷ xs) = by (p x) refl (run-within p xs)
  where
    by : (b : Bool) → p x ≡ b → run p xs ≤ length xs → run p (x ∷ xs) ≤ length (x ∷ xs)
    by true e rest = let is = run-on p x xs e in omega arith
    by false e rest = let is = run-off p x xs e in omega arith

-- characters that pass at the front of a text are part of its run
pub run-least : (p : ℕ → Bool) (xs r : List ℕ) (n : ℕ) → n ≤ length xs → list_all p (take n xs ++ r) ≡ true → n ≤ run p xs
run-least p xs r zero h a = omega arith
run-least p [] r (suc n) h a = absurd (omega arith)
run-least p (x ∷ xs) r (suc n) h a =
    let rest = run-least p xs r n (omega arith) (and-right (p x) (list_all p (take n xs ++ r)) a) in
    let is = run-on p x xs (and-left (p x) (list_all p (take n xs ++ r)) a) in omega arith

-- each front of the run passes
pub run-all : (p : ℕ → Bool) (xs : List ℕ) (n : ℕ) → n ≤ run p xs → list_all p (take n xs) ≡ true
run-all p xs zero h = refl
run-all p [] (suc n) h = absurd (omega arith)
run-all p (x ∷ xs) (suc n) h = by (p x) refl (run-all p xs n)
  where
    by : (b : Bool) → p x ≡ b → (n ≤ run p xs → list_all p (take n xs) ≡ true) → list_all p (take (suc n) (x ∷ xs)) ≡ true
    by true e rest = and-both (p x) (list_all p (take n xs)) e (rest (let is = run-on p x xs e in omega arith))
    by false e rest = absurd (let is = run-off p x xs e in omega arith)

-- the character behind the run does not pass
pub run-next : (p : ℕ → Bool) (xs : List ℕ) (c : ℕ) (rest : List ℕ) → drop (run p xs) xs ≡ c ∷ rest → p c ≡ false
run-next p [] c rest is = let never : [] ≡ c ∷ rest = is in cc
run-next p (x ∷ xs) c rest is = by (p x) refl (run-next p xs c rest)
  where
    by : (b : Bool) → p x ≡ b → (drop (run p xs) xs ≡ c ∷ rest → p c ≡ false) → p c ≡ false
    by true e next = next (sym (ap (λ n. drop n (x ∷ xs)) (run-on p x xs e)) ∙ is)
    by false e next =
        let same : x ∷ xs ≡ c ∷ rest = sym (ap (λ n. drop n (x ∷ xs)) (run-off p x xs e)) ∙ is in
        let head : x ≡ c = cc in ap p (sym head) ∙ e

-- a text has one run
pub same-run : (p : ℕ → Bool) (xs ys : List ℕ) (c d : ℕ) (r s : List ℕ) → list_all p xs ≡ true → list_all p ys ≡ true → p c ≡ false → p d ≡ false → xs ++ c ∷ r ≡ ys ++ d ∷ s →
    (xs ≡ ys) × (c ≡ d) × (r ≡ s)
same-run p [] [] c d r s a b e f is = (refl, cc, cc)
same-run p [] (y ∷ ys) c d r s a b e f is =
    let head : c ≡ y = cc in absurd (false≢true (sym e ∙ ap p head ∙ and-left (p y) (list_all p ys) b))
same-run p (x ∷ xs) [] c d r s a b e f is =
    let head : x ≡ d = cc in absurd (false≢true (sym f ∙ ap p (sym head) ∙ and-left (p x) (list_all p xs) a))
same-run p (x ∷ xs) (y ∷ ys) c d r s a b e f is =
    let head : x ≡ y = cc in
    let tails : xs ++ c ∷ r ≡ ys ++ d ∷ s = cc in
    let rest = same-run p xs ys c d r s (and-right (p x) (list_all p xs) a) (and-right (p y) (list_all p ys) b) e f tails in
    (ap (λ l. x ∷ l) rest.0 ∙ ap (λ z. z ∷ ys) head, rest.1, rest.2)

-- a character within a text that passes
pub passes-within : (p : ℕ → Bool) (xs : List ℕ) (c : ℕ) (r : List ℕ) → list_all p (xs ++ c ∷ r) ≡ true → p c ≡ true
passes-within p [] c r a = and-left (p c) (list_all p r) a
passes-within p (x ∷ xs) c r a = passes-within p xs c r (and-right (p x) (list_all p (xs ++ c ∷ r)) a)

-- a run that a character ends has so many characters
pub run-ended : (p : ℕ → Bool) (xs : List ℕ) (c : ℕ) (r : List ℕ) → list_all p xs ≡ true → p c ≡ false → run p (xs ++ c ∷ r) ≡ length xs
run-ended p [] c r a e = run-off p c r e
run-ended p (x ∷ xs) c r a e =
    run-on p x (xs ++ c ∷ r) (and-left (p x) (list_all p xs) a) ∙ ap suc (run-ended p xs c r (and-right (p x) (list_all p xs) a) e)

pub run-whole : (p : ℕ → Bool) (xs : List ℕ) → list_all p xs ≡ true → run p xs ≡ length xs
run-whole p [] a = refl
run-whole p (x ∷ xs) a = run-on p x xs (and-left (p x) (list_all p xs) a) ∙ ap suc (run-whole p xs (and-right (p x) (list_all p xs) a))

pub all-push : (p : ℕ → Bool) (xs : List ℕ) (c : ℕ) → list_all p xs ≡ true → p c ≡ true → list_all p (xs ++ c ∷ []) ≡ true
all-push p [] c a e = and-both (p c) true e refl
all-push p (x ∷ xs) c a e = and-both (p x) (list_all p (xs ++ c ∷ [])) (and-left (p x) (list_all p xs) a) (all-push p xs c (and-right (p x) (list_all p xs) a) e)
