-- The best of the ranges below a register, with one register more.
use Rattle.std.proofs.Common.{◌≡◌, ℕ, ◌+◌, ◌*◌, ◌<◌, ◌≤◌, ◌⊎◌, inl, inr, ℤ, pos, ◌+ℤ◌, length, Option, Some, None, sym, ◌∙◌, subst, arith, get_or, MatchOption}
use Rattle.std.proofs.lemmas.Bool.{cases_lt}
use Rattle.std.proofs.lemmas.List.{get_or_past}
use Rattle.std.proofs.lemmas.Int.{ints}
use Rattle.trace_values.specs.declared.section.SectionId.{SectionId}
use Rattle.using_ranges.specs.declared.range.Range.{Range}
use Rattle.using_ranges.specs.Ranges.{Held, IsWithin, Covers, IsCover, IsBestBelow}

-- below one number more, it is below the number or the number itself
below_or_at : (r n : ℕ) → r < n + 1 → (r < n) ⊎ (r ≡ n)
below_or_at r n h = elim (cases_lt r n) [ inl l ↦ inl l | inr g ↦ inr (omega arith) ]

-- a register has an address at one displacement
one_displacement : (held : Held) (section : Option SectionId) (offset : ℤ) (r d e : ℕ) → Covers held section offset r d → Covers held section offset r e → d ≡ e
one_displacement held section offset r d e (x, at, is) (y, there, too) =
    let same : Some x ≡ Some y = sym at ∙ there in
    let one : x ≡ y = cc in
    let other : IsWithin x section offset e = let P : Range → Type 0 = λ z. IsWithin z section offset e in subst P (sym one) too in
    let equal : x.start +ℤ pos (4096 * x.pages + d) ≡ x.start +ℤ pos (4096 * x.pages + e) = is.offset_is ∙ sym other.offset_is in
    omega (arith, ints)

pub adds_nothing : (held : Held) (section : Option SectionId) (offset : ℤ) (n : ℕ) (best : Option (ℕ × ℕ)) → IsBestBelow held section offset n best →
    ((d : ℕ) → Covers held section offset n d → ⊥) → IsBestBelow held section offset (n + 1) best
unfolding IsBestBelow
adds_nothing held section offset n None below none = λ r d h c. elim (below_or_at r n h) [
  | inl l ↦ below r d l c
  | inr e ↦ none d (let P : ℕ → Type 0 = λ z. Covers held section offset z d in subst P e c)
]
adds_nothing held section offset n (Some best) below none = (
  omega arith,
  below.1,
  λ other more h c. elim (below_or_at other n h) [
    | inl l ↦ below.2 other more l c
    | inr e ↦ absurd (none more (let P : ℕ → Type 0 = λ z. Covers held section offset z more in subst P e c))
  ],
)

pub stays : (held : Held) (section : Option SectionId) (offset : ℤ) (n d : ℕ) (best : ℕ × ℕ) → IsBestBelow held section offset n (Some best) →
    Covers held section offset n d → best.1 < d → IsBestBelow held section offset (n + 1) (Some best)
unfolding IsBestBelow
stays held section offset n d best below here less = (
  omega arith,
  below.1,
  λ other more h c. elim (below_or_at other n h) [
    | inl l ↦ below.2 other more l c
    | inr e ↦ inl (let P : ℕ → Type 0 = λ z. Covers held section offset z more in
        let same : d ≡ more = one_displacement held section offset n d more here (subst P e c) in omega arith)
  ],
)

pub begins : (held : Held) (section : Option SectionId) (offset : ℤ) (n d : ℕ) → IsBestBelow held section offset n None →
    Covers held section offset n d → IsBestBelow held section offset (n + 1) (Some (n, d))
unfolding IsBestBelow
begins held section offset n d below here = (
  omega arith,
  here,
  λ other more h c. elim (below_or_at other n h) [
    | inl l ↦ absurd (below other more l c)
    | inr e ↦ inr (let P : ℕ → Type 0 = λ z. Covers held section offset z more in
        (one_displacement held section offset n d more here (subst P e c), omega arith))
  ],
)

pub takes_over : (held : Held) (section : Option SectionId) (offset : ℤ) (n d : ℕ) (best : ℕ × ℕ) → IsBestBelow held section offset n (Some best) →
    Covers held section offset n d → d ≤ best.1 → IsBestBelow held section offset (n + 1) (Some (n, d))
unfolding IsBestBelow
takes_over held section offset n d best below here near = (
  omega arith,
  here,
  λ other more h c. elim (below_or_at other n h) [
    | inl l ↦ behind other more l (below.2 other more l c)
    | inr e ↦ inr (let P : ℕ → Type 0 = λ z. Covers held section offset z more in
        (one_displacement held section offset n d more here (subst P e c), omega arith))
  ],
) where
  behind : (other more : ℕ) → other < n → (best.1 < more) ⊎ ((best.1 ≡ more) × (other ≤ best.0)) → (d < more) ⊎ ((d ≡ more) × (other ≤ n))
  behind other more l (inl less) = inl (omega arith)
  behind other more l (inr (same, le)) = elim (cases_lt d more) [ inl less ↦ inl less | inr ge ↦ inr (omega arith, omega arith) ]

-- a register that has an address has a range, so it is one of them
pub in_range : (held : Held) (section : Option SectionId) (offset : ℤ) (r d : ℕ) → Covers held section offset r d → r < length held
in_range held section offset r d (x, at, is) = elim (cases_lt r (length held)) [
  | inl l ↦ l
  | inr ge ↦
      let past : get_or held r None ≡ None = get_or_past held r None ge in
      let never : Some x ≡ None = sym at ∙ past in absurd cc
]

pub all_of_them : (held : Held) (section : Option SectionId) (offset : ℤ) (n : ℕ) (best : Option (ℕ × ℕ)) → length held ≤ n → IsBestBelow held section offset n best →
    MatchOption best ((r d : ℕ) → Covers held section offset r d → ⊥) (λ found. IsCover held section offset found.0 found.1)
unfolding IsBestBelow
all_of_them held section offset n None many below = λ r d c.
    let inside : r < length held = in_range held section offset r d c in below r d (omega arith) c
all_of_them held section offset n (Some best) many below = record {
  covers = below.1;
  best = λ other more c.
      let inside : other < length held = in_range held section offset other more c in below.2 other more (omega arith) c;
}

pub nothing_yet : (held : Held) (section : Option SectionId) (offset : ℤ) → IsBestBelow held section offset 0 None
unfolding IsBestBelow
nothing_yet held section offset = λ r d h c. absurd (omega arith)
