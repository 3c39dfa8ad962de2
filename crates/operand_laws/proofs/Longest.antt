-- How much of a text some right one begins with.
use Rattle.std.proofs.Common.{◌≡◌, ◌∙◌, ◌↔◌, ℕ, zero, suc, ◌+◌, ◌-◌, ◌<◌, ◌≤◌, ◌==◌, inl, inr, false, List, [], ◌∷◌, ◌++◌, length, take, refl, sym, ap, subst, arith, append_assoc, length-append}
use Rattle.std.specs.Prelude.{Result, Ok, Err}
use Rattle.std.proofs.lemmas.Bool.{cases_lt, false≢true, eq-eqb}
use Rattle.std.proofs.lemmas.List.{take_at, take_all}
use Rattle.operand_laws.specs.Right.{IsBegun, IsLongest}
use Rattle.operand_laws.proofs.Lists.{take_over}

-- there is one such number
pub longest_once : (Right : List ℕ → Type 0) (text : List ℕ) (n m : ℕ) → IsLongest Right text n → IsLongest Right text m → n ≡ m
longest_once Right text n m a b = elim (cases_lt n m) [
  | inl less ↦ absurd (a.longest m less b.within b.begun)
  | inr ge ↦ elim (cases_lt m n) [
    | inl less ↦ absurd (b.longest n less a.within a.begun)
    | inr le ↦ omega arith
  ]
]

pub over-more : (before rest : List ℕ) (more : ℕ) → length before ≤ more → take more (before ++ rest) ≡ before ++ take (more - length before) rest
over-more before rest more h =
    let same : more ≡ length before + (more - length before) = omega arith in
    ap (λ k. take k (before ++ rest)) same ∙ take_over before rest (more - length before)

-- what stands behind some text that both begin with
pub lifted : (Inner Outer : List ℕ → Type 0) (before rest : List ℕ) (m : ℕ) → ((w : List ℕ) → Inner w → Outer (before ++ w)) →
    ((w : List ℕ) → Outer (before ++ w) → Inner w) → IsLongest Inner rest m → IsLongest Outer (before ++ rest) (length before + m)
lifted Inner Outer before rest m out into inner =
    let counted = length-append before rest in
    let small = inner.within in
    let begun = inner.begun in
    record {
      within = omega arith;
      begun = record {
        rest = begun.rest;
        right = subst Outer (sym (append_assoc before (take m rest) begun.rest) ∙ ap (λ l. l ++ begun.rest) (sym (take_over before rest m)))
            (out (take m rest ++ begun.rest) begun.right);
      };
      longest = λ more h w b.
          inner.longest (more - length before) (omega arith) (omega arith) (record {
            rest = b.rest;
            right = into (take (more - length before) rest ++ b.rest)
                (subst Outer (ap (λ l. l ++ b.rest) (over-more before rest more (omega arith)) ∙ append_assoc before (take (more - length before) rest) b.rest) b.right);
          });
      none = λ o. inner.none (into rest o);
    }

no-more : (more : ℕ) (z r : List ℕ) → 0 < more → more ≤ length z → take more z ++ r ≡ [] → ⊥
no-more zero z r h w e = absurd (omega arith)
no-more (suc k) [] r h w e = absurd (omega arith)
no-more (suc k) (x ∷ z) r h w e = cc

-- where nothing may follow
pub nothing_follows : (z : List ℕ) → (z ≡ [] → ⊥) → IsLongest (λ w. w ≡ []) z 0
nothing_follows z some = record {
  within = omega arith;
  begun = record { rest = []; right = refl };
  longest = λ more h w b. no-more more z b.rest h w b.right;
  none = some;
}

-- the same where what stands behind begins with a character
pub lifted-at : (Inner Outer : List ℕ → Type 0) (before : List ℕ) (c : ℕ) (rest : List ℕ) (m : ℕ) → ((w : List ℕ) → Inner w → Outer (before ++ w)) →
    ((w : List ℕ) → Outer (before ++ c ∷ w) → Inner (c ∷ w)) → IsLongest Inner (c ∷ rest) m → IsLongest Outer (before ++ c ∷ rest) (length before + m)
lifted-at Inner Outer before c rest m out into inner =
    let counted = length-append before (c ∷ rest) in
    let small = inner.within in
    let begun = inner.begun in
    record {
      within = omega arith;
      begun = record {
        rest = begun.rest;
        right = subst Outer (sym (append_assoc before (take m (c ∷ rest)) begun.rest) ∙ ap (λ l. l ++ begun.rest) (sym (take_over before (c ∷ rest) m)))
            (out (take m (c ∷ rest) ++ begun.rest) begun.right);
      };
      longest = λ more h w b.
          inner.longest (more - length before) (omega arith) (omega arith) (record {
            rest = b.rest;
            right = into-front (more - length before) (omega arith) b.rest
                (subst Outer (ap (λ l. l ++ b.rest) (over-more before (c ∷ rest) more (omega arith)) ∙ append_assoc before (take (more - length before) (c ∷ rest)) b.rest) b.right);
          });
      none = λ o. inner.none (into rest o);
    }
  where
    into-front : (n : ℕ) → 0 < n → (r : List ℕ) → Outer (before ++ (take n (c ∷ rest) ++ r)) → Inner (take n (c ∷ rest) ++ r)
    into-front zero h r o = absurd (omega arith)
    into-front (suc n) h r o = into (take n rest ++ r) o

-- the same behind one character
pub behind-one : (Inner Outer : List ℕ → Type 0) (c : ℕ) (rest : List ℕ) (m : ℕ) → ((w : List ℕ) → Inner w → Outer (c ∷ w)) → ((w : List ℕ) → Outer (c ∷ w) → Inner w) →
    IsLongest Inner rest m → IsLongest Outer (c ∷ rest) (m + 1)
behind-one Inner Outer c rest m out into inner =
    subst (IsLongest Outer (c ∷ rest)) (let all = length-one in omega arith) (lifted Inner Outer (c ∷ []) rest m out into inner)
  where
    length-one : length (c ∷ []) ≡ 1
    length-one = refl

-- nothing that is right begins as a text does
pub unbegun : (Right : List ℕ → Type 0) (c k : ℕ) (rest some : List ℕ) → Right some → ((x : ℕ) (xs : List ℕ) → Right (x ∷ xs) → x ≡ k) → (c == k) ≡ false → IsLongest Right (c ∷ rest) 0
unbegun Right c k rest some right first e = record {
  within = omega arith;
  begun = record { rest = some; right = right };
  longest = λ more h w b. longer more h b.rest b.right;
  none = λ r. other (first c rest r);
}
  where
    other : c ≡ k → ⊥
    other same = false≢true (sym e ∙ eq-eqb c k same)

    longer : (more : ℕ) → 0 < more → (r : List ℕ) → Right (take more (c ∷ rest) ++ r) → ⊥
    longer zero h r is = absurd (omega arith)
    longer (suc n) h r is = other (first c (take n rest ++ r) is)

-- nothing is no right text
pub empty-wrong : (Right : List ℕ → Type 0) (some : List ℕ) → Right some → (Right [] → ⊥) → IsLongest Right [] 0
empty-wrong Right some right none = record {
  within = omega arith;
  begun = record { rest = some; right = right };
  longest = λ more h w b. absurd (omega arith);
  none = none;
}

-- what is read of a text says whether it is right
abbrev pub Reads : {V : Type 0} → (List ℕ → Type 0) → List ℕ → Result V ℕ → Type 0
Reads Right text (Ok value) = Right text
Reads Right text (Err count) = IsLongest Right text count

pub reads-wrong : {V : Type 0} (Right : List ℕ → Type 0) (text : List ℕ) (count : ℕ) (found : Result V ℕ) → Reads Right text found → (found ≡ Err count) ↔ IsLongest Right text count
reads-wrong Right text count (Ok value) f = (λ e. absurd (let x = e in cc), λ l. absurd (l.none f))
reads-wrong Right text count (Err n) f = (
  λ e. let same : n ≡ count = cc in subst (IsLongest Right text) same f,
  λ l. ap Err (longest_once Right text n count f l),
)

-- a longer front goes on with the character that stands there
more-front : (before : List ℕ) (c : ℕ) (rest : List ℕ) (more : ℕ) (r : List ℕ) → length before < more → (z : List ℕ) × (take more (before ++ c ∷ rest) ++ r ≡ before ++ c ∷ z)
more-front before c rest more r h = by (more - length before) (omega arith) (over-more before (c ∷ rest) more (omega arith))
  where
    by : (n : ℕ) → 0 < n → take more (before ++ c ∷ rest) ≡ before ++ take n (c ∷ rest) → (z : List ℕ) × (take more (before ++ c ∷ rest) ++ r ≡ before ++ c ∷ z)
    by zero h is = absurd (omega arith)
    by (suc n) h is = (take n rest ++ r, ap (λ l. l ++ r) is ∙ append_assoc before (c ∷ take n rest) r)

-- a text that goes wrong at a character
pub stuck : (Right : List ℕ → Type 0) (before : List ℕ) (c : ℕ) (rest : List ℕ) → IsBegun Right before → ((z : List ℕ) → Right (before ++ c ∷ z) → ⊥) → IsLongest Right (before ++ c ∷ rest) (length before)
stuck Right before c rest begun bad =
    let counted = length-append before (c ∷ rest) in
    record {
      within = omega arith;
      begun = subst (IsBegun Right) (sym (take_at before (c ∷ rest) (length before) refl)) begun;
      longest = λ more h w b. let front = more-front before c rest more b.rest h in bad front.0 (subst Right front.1 b.right);
      none = bad rest;
    }

-- a text that is not right as it ends
pub cut-off : (Right : List ℕ → Type 0) (text : List ℕ) → IsBegun Right text → (Right text → ⊥) → IsLongest Right text (length text)
cut-off Right text begun bad = record {
  within = omega arith;
  begun = subst (IsBegun Right) (sym (take_all (length text) text (omega arith))) begun;
  longest = λ more h w b. absurd (omega arith);
  none = bad;
}
