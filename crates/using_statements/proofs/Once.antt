-- Registers that are named, each once.
use Rattle.std.proofs.Common.{◌≡◌, ◌∙◌, ℕ, suc, ◌+◌, ◌<◌, ◌⊎◌, inl, inr, ◌==◌, Bool, true, false, cond, not, ◌&&◌, ◌||◌, List, [], ◌∷◌, ◌++◌, length, take, get_or, map, refl, sym, ap, subst, arith, eq-eqb, append_assoc, if◌then◌else◌}
use Rattle.std.specs.List.{All, filter}
use Rattle.std.proofs.lemmas.Bool.{eqb-true, false≢true, or_cases}
use Rattle.std.proofs.lemmas.List.{map-append, take_more}
use Rattle.std.proofs.lemmas.List.Elements.{filter-append}
use Rattle.note_rows.specs.declared.row.Row.{Row}
use Rattle.note_rows.specs.declared.row.Row.TheVariants.{UnusedRegister}
use Rattle.using_ranges.specs.Ranges.{Held, is_among, is_unused, mask_of}
use Rattle.using_statements.proofs.Marks.{is_marked-mask}
use Rattle.using_statements.specs.Said.{each_once, is_marked, said_of_one}

-- ---- one more register

kept_or_not : (y x : ℕ) (among : Bool) →
    filter (λ other. not (y == other)) (if among then [] else x ∷ []) ≡ (if (y == x) || among then [] else x ∷ [])
kept_or_not y x true = by (y == x)
  where
    by : (b : Bool) → [] ≡ (if b || true then [] else x ∷ [])
    by true = refl
    by false = refl
kept_or_not y x false = by (y == x)
  where
    by : (b : Bool) → cond (not b) (x ∷ []) [] ≡ (if b || false then [] else x ∷ [])
    by true = refl
    by false = refl

each_once-push : (xs : List ℕ) (x : ℕ) → each_once (xs ++ x ∷ []) ≡ each_once xs ++ (if is_among x xs then [] else x ∷ [])
each_once-push [] x = refl
each_once-push (y ∷ xs) x =
    let last = if is_among x xs then [] else x ∷ [] in
    ap (λ all. y ∷ filter (λ other. not (y == other)) all) (each_once-push xs x)
    ∙ ap (λ all. y ∷ all) (filter-append (λ other. not (y == other)) (each_once xs) last)
    ∙ ap (λ end. y ∷ (filter (λ other. not (y == other)) (each_once xs) ++ end)) (kept_or_not y x (is_among x xs))

abbrev pub unused_rows : List ℕ → List Row
unused_rows registers = map (λ register. UnusedRegister register) registers

one_row : (mask : ℕ) (before : List ℕ) (x : ℕ) →
    unused_rows (filter (is_marked mask) (if is_among x before then [] else x ∷ [])) ≡ said_of_one mask before x
one_row mask before x = by (is_marked mask x) (is_among x before) refl
  where
    by : (marked among : Bool) → is_marked mask x ≡ marked →
        unused_rows (filter (is_marked mask) (if among then [] else x ∷ [])) ≡ (if is_marked mask x && not among then UnusedRegister x ∷ [] else [])
    by true true is = sym (ap (λ b. if b && not true then UnusedRegister x ∷ [] else []) is)
    by false true is = sym (ap (λ b. if b && not true then UnusedRegister x ∷ [] else []) is)
    by true false is =
        ap (λ b. unused_rows (cond b (x ∷ []) [])) is ∙ sym (ap (λ b. if b && not false then UnusedRegister x ∷ [] else []) is)
    by false false is =
        ap (λ b. unused_rows (cond b (x ∷ []) [])) is ∙ sym (ap (λ b. if b && not false then UnusedRegister x ∷ [] else []) is)

-- what is said of one more
pub marked_more : (mask : ℕ) (old middle new : List Row) (registers : List ℕ) (i x : ℕ) →
    middle ≡ old ++ unused_rows (filter (is_marked mask) (each_once (take i registers))) →
    new ≡ middle ++ said_of_one mask (take i registers) x → i < length registers → x ≡ get_or registers i 0 →
    new ≡ old ++ unused_rows (filter (is_marked mask) (each_once (take (i + 1) registers)))
marked_more mask old middle new registers i x first second h at =
    let front = take i registers in
    let last = if is_among x front then [] else x ∷ [] in
    let kept = filter (is_marked mask) (each_once front) in
    let grown : take (i + 1) registers ≡ front ++ x ∷ [] =
    take_more registers i 0 h ∙ ap (λ y. front ++ y ∷ []) (sym at) in
    second
    ∙ ap (λ rows. rows ++ said_of_one mask front x) first
    ∙ append_assoc old (unused_rows kept) (said_of_one mask front x)
    ∙ ap (λ rows. old ++ rows) (
    ap (λ rows. unused_rows kept ++ rows) (sym (one_row mask front x))
    ∙ sym (map-append (λ (register : ℕ). UnusedRegister register) kept (filter (is_marked mask) last))
    ∙ ap unused_rows (sym (filter-append (is_marked mask) (each_once front) last) ∙ ap (filter (is_marked mask)) (sym (each_once-push front x)))
    ∙ ap (λ all. unused_rows (filter (is_marked mask) (each_once all))) (sym grown))

-- ---- registers that are marked

two_tests : (p q : ℕ → Bool) (x : ℕ) (xs : List ℕ) (a b : Bool) → p x ≡ a → q x ≡ b → filter p (filter q xs) ≡ filter q (filter p xs) →
    filter p (filter q (x ∷ xs)) ≡ filter q (filter p (x ∷ xs))
two_tests p q x xs a b ap_is bq_is rest =
    ap (λ t. filter p (cond t (x ∷ filter q xs) (filter q xs))) bq_is
    ∙ inner a b ap_is bq_is
    ∙ sym (ap (λ t. filter q (cond t (x ∷ filter p xs) (filter p xs))) ap_is)
  where
    inner : (c d : Bool) → p x ≡ c → q x ≡ d →
        filter p (cond d (x ∷ filter q xs) (filter q xs)) ≡ filter q (cond c (x ∷ filter p xs) (filter p xs))
    inner true true pc qd =
        ap (λ t. cond t (x ∷ filter p (filter q xs)) (filter p (filter q xs))) pc
        ∙ ap (λ all. x ∷ all) rest
        ∙ sym (ap (λ t. cond t (x ∷ filter q (filter p xs)) (filter q (filter p xs))) qd)
    inner true false pc qd =
        rest ∙ sym (ap (λ t. cond t (x ∷ filter q (filter p xs)) (filter q (filter p xs))) qd)
    inner false true pc qd =
        ap (λ t. cond t (x ∷ filter p (filter q xs)) (filter p (filter q xs))) pc ∙ rest
    inner false false pc qd = rest

filter-filter : (p q : ℕ → Bool) (xs : List ℕ) → filter p (filter q xs) ≡ filter q (filter p xs)
filter-filter p q [] = refl
filter-filter p q (x ∷ xs) = two_tests p q x xs (p x) (q x) refl refl (filter-filter p q xs)

among-rest : (x y : ℕ) (xs : List ℕ) → is_among x xs ≡ true → is_among x (y ∷ xs) ≡ true
among-rest x y xs is = ap (λ b. (y == x) || b) is ∙ by (y == x)
  where
    by : (b : Bool) → (b || true) ≡ true
    by true = refl
    by false = refl

filter-alike : (p q : ℕ → Bool) (xs : List ℕ) → ((x : ℕ) → is_among x xs ≡ true → p x ≡ q x) → filter p (each_once xs) ≡ filter q (each_once xs)
filter-alike p q [] same = refl
filter-alike p q (y ∷ xs) same =
    let others = λ (other : ℕ). not (y == other) in
    let rest : filter p (filter others (each_once xs)) ≡ filter q (filter others (each_once xs)) =
    filter-filter p others (each_once xs)
    ∙ ap (filter others) (filter-alike p q xs (λ x is. same x (among-rest x y xs is)))
    ∙ filter-filter others q (each_once xs) in
    ap (λ b. cond b (y ∷ filter p (filter others (each_once xs))) (filter p (filter others (each_once xs))))
    (same y (ap (λ b. b || is_among y xs) (eq-eqb y y refl)))
    ∙ ap (λ all. cond (q y) (y ∷ all) all) rest

-- one of registers that are all below 16 is
small : (xs : List ℕ) (x : ℕ) → All (λ r. r < 16) xs → is_among x xs ≡ true → x < 16
small [] x all is = absurd (false≢true is)
small (y ∷ xs) x all is =
    elim (or_cases (y == x) (is_among x xs) is) [
      | inl first ↦ let P : ℕ → Type 0 = λ r. r < 16 in subst P (eqb-true y x first) (all 0 0 (omega arith))
      | inr later ↦ small xs x (λ k d h. all (suc k) d (omega arith)) later
    ]

-- what a mask of unused registers marks among those that are named
pub marked-unused : (held : Held) (registers : List ℕ) → All (λ r. r < 16) registers →
    filter (is_marked (mask_of (λ r. is_among r registers && is_unused held r) 16)) (each_once registers) ≡ filter (is_unused held) (each_once registers)
marked-unused held registers all =
    let holds = λ (r : ℕ). is_among r registers && is_unused held r in
    filter-alike (is_marked (mask_of holds 16)) (is_unused held) registers (λ x is.
    is_marked-mask holds 16 x (small registers x all is) ∙ ap (λ b. b && is_unused held x) is)
