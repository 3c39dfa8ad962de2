-- Membership, order and removal in lists of numbers that differ.
use Rattle.std.proofs.Common.{◌≡◌, ◌⊎◌, inl, inr, ℕ, Bool, cond, List, [], ◌∷◌, ◌++◌, Option, Some, None, refl, sym, ap, subst, ◌∙◌, append_assoc}
use Rattle.std.proofs.lemmas.List.{append-nil}
use Rattle.std.proofs.lemmas.Bool.{cases_eq, eq-eqb, ne_eqb}
use Rattle.chain_arena.specs.Lists.{IsIn, first_of, after, without}
use Rattle.chain_arena.specs.Index.{backwards, IsDistinct}

-- the last of a list
abbrev pub last_of : List ℕ → Option ℕ
last_of [] = None
last_of (x ∷ []) = Some x
last_of (x ∷ y ∷ ys) = last_of (y ∷ ys)

pub in_append_left : (x : ℕ) (xs ys : List ℕ) → IsIn x xs → IsIn x (xs ++ ys)
in_append_left x [] ys i = absurd i
in_append_left x (y ∷ xs) ys (inl e) = inl e
in_append_left x (y ∷ xs) ys (inr i) = inr (in_append_left x xs ys i)

pub in_append_right : (x : ℕ) (xs ys : List ℕ) → IsIn x ys → IsIn x (xs ++ ys)
in_append_right x [] ys i = i
in_append_right x (y ∷ xs) ys i = inr (in_append_right x xs ys i)

pub in_append_cases : (x : ℕ) (xs ys : List ℕ) → IsIn x (xs ++ ys) → IsIn x xs ⊎ IsIn x ys
in_append_cases x [] ys i = inr i
in_append_cases x (y ∷ xs) ys (inl e) = inl (inl e)
in_append_cases x (y ∷ xs) ys (inr i) =
    elim (in_append_cases x xs ys i) [ inl left ↦ inl (inr left) | inr right ↦ inr right ]

pub in_one : (x y : ℕ) → IsIn x (y ∷ []) → x ≡ y
in_one x y (inl e) = e
in_one x y (inr i) = absurd i

pub in_backwards : (x : ℕ) (xs : List ℕ) → IsIn x (backwards xs) → IsIn x xs
in_backwards x [] i = i
in_backwards x (y ∷ xs) i =
    elim (in_append_cases x (backwards xs) (y ∷ []) i) [
      | inl left ↦ inr (in_backwards x xs left)
      | inr right ↦ inl (in_one x y right)
    ]

pub backwards-append : (xs ys : List ℕ) → backwards (xs ++ ys) ≡ backwards ys ++ backwards xs
backwards-append [] ys = sym (append-nil (backwards ys))
backwards-append (x ∷ xs) ys =
    ap (λ (zs : List ℕ). zs ++ x ∷ []) (backwards-append xs ys) ∙ append_assoc (backwards ys) (backwards xs) (x ∷ [])

pub backwards-around : (before behind : List ℕ) (x : ℕ) → backwards (before ++ x ∷ behind) ≡ backwards behind ++ x ∷ backwards before
backwards-around before behind x =
    backwards-append before (x ∷ behind) ∙ append_assoc (backwards behind) (x ∷ []) (backwards before)

first-append : (xs ys : List ℕ) → (xs ≡ [] → ⊥) → first_of (xs ++ ys) ≡ first_of xs
first-append [] ys some = absurd (some refl)
first-append (x ∷ xs) ys some = refl

snoc_some : (xs : List ℕ) (x : ℕ) → xs ++ x ∷ [] ≡ [] → ⊥
snoc_some [] x e = cc
snoc_some (y ∷ xs) x e = cc

pub first-backwards : (xs : List ℕ) → first_of (backwards xs) ≡ last_of xs
first-backwards [] = refl
first-backwards (x ∷ []) = refl
first-backwards (x ∷ y ∷ ys) =
    first-append (backwards (y ∷ ys)) (x ∷ []) (snoc_some (backwards ys) y) ∙ first-backwards (y ∷ ys)

pub last-snoc : (xs : List ℕ) (x : ℕ) → last_of (xs ++ x ∷ []) ≡ Some x
last-snoc [] x = refl
last-snoc (y ∷ []) x = refl
last-snoc (y ∷ z ∷ zs) x = last-snoc (z ∷ zs) x

pub last-backwards : (xs : List ℕ) → last_of (backwards xs) ≡ first_of xs
last-backwards [] = refl
last-backwards (x ∷ xs) = last-snoc (backwards xs) x

pub last_in : (xs : List ℕ) (x : ℕ) → last_of xs ≡ Some x → IsIn x xs
last_in [] x e = absurd (cc)
last_in (y ∷ []) x e = inl (cc)
last_in (y ∷ z ∷ zs) x e = inr (last_in (z ∷ zs) x e)

pub first_in : (xs : List ℕ) (x : ℕ) → first_of xs ≡ Some x → IsIn x xs
first_in [] x e = absurd (cc)
first_in (y ∷ ys) x e = inl (cc)

pub distinct_front : (xs ys : List ℕ) → IsDistinct (xs ++ ys) → IsDistinct xs
distinct_front [] ys d = tt
distinct_front (x ∷ xs) ys d = ((λ i. d.0 (in_append_left x xs ys i)), distinct_front xs ys d.1)

pub distinct_back : (xs ys : List ℕ) → IsDistinct (xs ++ ys) → IsDistinct ys
distinct_back [] ys d = d
distinct_back (x ∷ xs) ys d = distinct_back xs ys d.1

pub distinct_apart : (x : ℕ) (xs ys : List ℕ) → IsDistinct (xs ++ ys) → IsIn x xs → IsIn x ys → ⊥
distinct_apart x [] ys d i j = i
distinct_apart x (y ∷ xs) ys d (inl e) j = d.0 (in_append_right y xs ys (subst (λ (z : ℕ). IsIn z ys) e j))
distinct_apart x (y ∷ xs) ys d (inr i) j = distinct_apart x xs ys d.1 i j

pub distinct_join : (xs ys : List ℕ) → IsDistinct xs → IsDistinct ys → ((x : ℕ) → IsIn x xs → IsIn x ys → ⊥) → IsDistinct (xs ++ ys)
distinct_join [] ys d e apart = e
distinct_join (x ∷ xs) ys d e apart = (
  (λ i. elim (in_append_cases x xs ys i) [ inl left ↦ d.0 left | inr right ↦ apart x (inl refl) right ]),
  distinct_join xs ys d.1 e (λ y i j. apart y (inr i) j),
)

pub distinct_backwards : (xs : List ℕ) → IsDistinct xs → IsDistinct (backwards xs)
distinct_backwards [] d = tt
distinct_backwards (x ∷ xs) d =
    distinct_join (backwards xs) (x ∷ []) (distinct_backwards xs d.1) ((λ i. i), tt)
    (λ y i j. d.0 (subst (λ (z : ℕ). IsIn z xs) (in_one y x j) (in_backwards y xs i)))

pub distinct_snoc : (xs : List ℕ) (x : ℕ) → IsDistinct xs → (IsIn x xs → ⊥) → IsDistinct (xs ++ x ∷ [])
distinct_snoc xs x d new =
    distinct_join xs (x ∷ []) d ((λ i. i), tt) (λ y i j. new (subst (λ (z : ℕ). IsIn z xs) (in_one y x j) i))

-- the list with one of its middle taken out
pub distinct_without : (before behind : List ℕ) (x : ℕ) → IsDistinct (before ++ x ∷ behind) → IsDistinct (before ++ behind)
distinct_without before behind x d =
    distinct_join before behind (distinct_front before (x ∷ behind) d) (distinct_back before (x ∷ behind) d).1
    (λ y i j. distinct_apart y before (x ∷ behind) d i (inr j))

pub without-here : (x y : ℕ) (ys : List ℕ) → x ≡ y → without x (y ∷ ys) ≡ ys
without-here x y ys e = ap (λ (b : Bool). cond b ys (y ∷ without x ys)) (eq-eqb x y e)

pub without-there : (x y : ℕ) (ys : List ℕ) → (x ≡ y → ⊥) → without x (y ∷ ys) ≡ y ∷ without x ys
without-there x y ys n = ap (λ (b : Bool). cond b ys (y ∷ without x ys)) (ne_eqb x y n)

pub after-here : (x y : ℕ) (ys : List ℕ) → x ≡ y → after x (y ∷ ys) ≡ first_of ys
after-here x y ys e = ap (λ (b : Bool). cond b (first_of ys) (after x ys)) (eq-eqb x y e)

pub after-there : (x y : ℕ) (ys : List ℕ) → (x ≡ y → ⊥) → after x (y ∷ ys) ≡ after x ys
after-there x y ys n = ap (λ (b : Bool). cond b (first_of ys) (after x ys)) (ne_eqb x y n)

-- where a number stands in a list
pub record Place (x : ℕ) (xs : List ℕ) : Type 0 where
  pub before : List ℕ
  pub behind : List ℕ
  pub splits : xs ≡ before ++ x ∷ behind
  pub taken_out : without x xs ≡ before ++ behind

pub place_of : (x : ℕ) (xs : List ℕ) → IsIn x xs → Place x xs
place_of x [] i = absurd i
place_of x (y ∷ ys) i = elim (cases_eq x y) [
  | inl e ↦ record { before = []; behind = ys; splits = ap (λ (z : ℕ). z ∷ ys) (sym e); taken_out = without-here x y ys e }
  | inr n ↦
      let there : IsIn x ys = elim i [ inl e ↦ absurd (n e) | inr j ↦ j ] in
      let place : Place x ys = place_of x ys there in
      record {
        before = y ∷ place.before;
        behind = place.behind;
        splits = ap (λ (zs : List ℕ). y ∷ zs) place.splits;
        taken_out = without-there x y ys n ∙ ap (λ (zs : List ℕ). y ∷ zs) place.taken_out;
      }
]

pub without_in : (x y : ℕ) (xs : List ℕ) → IsIn y (without x xs) → IsIn y xs
without_in x y [] i = i
without_in x y (z ∷ zs) i = elim (cases_eq x z) [
  | inl e ↦ inr (subst (IsIn y) (without-here x z zs e) i)
  | inr n ↦ elim (subst (IsIn y) (without-there x z zs n) i) [ inl e ↦ inl e | inr j ↦ inr (without_in x y zs j) ]
]

pub without_other : (x y : ℕ) (xs : List ℕ) → IsIn y xs → (y ≡ x → ⊥) → IsIn y (without x xs)
without_other x y [] i n = i
without_other x y (z ∷ zs) i n = elim (cases_eq x z) [
  | inl e ↦ subst (IsIn y) (sym (without-here x z zs e)) (elim i [ inl f ↦ absurd (n (f ∙ sym e)) | inr j ↦ j ])
  | inr d ↦ subst (IsIn y) (sym (without-there x z zs d)) (elim i [ inl f ↦ inl f | inr j ↦ inr (without_other x y zs j n) ])
]

-- of a list that has each once, what was taken out is gone
pub without_gone : (x : ℕ) (xs : List ℕ) → IsDistinct xs → IsIn x (without x xs) → ⊥
without_gone x [] d i = i
without_gone x (z ∷ zs) d i = elim (cases_eq x z) [
  | inl e ↦ d.0 (subst (λ (w : ℕ). IsIn w zs) e (subst (IsIn x) (without-here x z zs e) i))
  | inr n ↦ elim (subst (IsIn x) (without-there x z zs n) i) [ inl f ↦ n f | inr j ↦ without_gone x zs d.1 j ]
]
