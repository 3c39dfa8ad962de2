-- What the ranges in force cover, as a test and as a relation.
use Rattle.std.proofs.Common.{◌≡◌, ◌∙◌, ℕ, suc, ◌+◌, ◌*◌, ◌<◌, inl, inr, Bool, true, false, ◌&&◌, ◌||◌, ℤ, pos, negsuc, ◌+ℤ◌, ◌-ℤ◌, [], ◌∷◌, length, get_or, Option, Some, None, is_some, MatchOption, refl, sym, ap, subst, arith}
use Rattle.std.specs.Prelude.{int_le, int_lt}
use Rattle.std.specs.List.{list_any}
use Rattle.std.proofs.lemmas.Bool.{false≢true, eqb-true, eq-eqb, cases_lt}
use Rattle.std.proofs.lemmas.List.{get_or_past}
use Rattle.std.proofs.lemmas.Int.{ints}
use Rattle.std.proofs.lemmas.List.Folds.{list_any_at}
use Rattle.trace_values.specs.declared.section.SectionId.{SectionId}
use Rattle.using_ranges.specs.declared.range.Range.{Range}
use Rattle.using_ranges.specs.Ranges.{Held, IsWithin, IsBefore, Covers, IsCover}
use Rattle.operand_checks.specs.Coverage.{same_section, beginning, is_before, is_near, has_address, register_has, is_covered}

both : (a b : Bool) → (a && b) ≡ true → (a ≡ true) × (b ≡ true)
both true b h = (refl, h)
both false b h = absurd (false≢true h)

section-is : (one other : Option SectionId) → same_section one other ≡ true → one ≡ other
section-is None None h = refl
section-is None (Some other) h = absurd (false≢true h)
section-is (Some one) None h = absurd (false≢true h)
section-is (Some one) (Some other) h =
    let make : ℕ → Option SectionId = λ n. Some (record { 0 = n }) in ap make (eqb-true one.0 other.0 h)

section-same : (one other : Option SectionId) → one ≡ other → same_section one other ≡ true
section-same one other is = subst (λ (s : Option SectionId). same_section one s ≡ true) is (self one)
  where
    self : (s : Option SectionId) → same_section s s ≡ true
    self None = refl
    self (Some s) = eq-eqb s.0 s.0 refl

before-is : (offset : ℤ) (end : Option ℤ) → is_before offset end ≡ true → IsBefore offset end
before-is offset None h = tt
before-is offset (Some end) h = grind (arith, ints)

before-test : (offset : ℤ) (end : Option ℤ) → IsBefore offset end → is_before offset end ≡ true
before-test offset None h = refl
before-test offset (Some end) h = grind (arith, ints)

-- how far one number is above another
above : (a b : ℤ) → int_le a b ≡ true → (n : ℕ) × (a +ℤ pos n ≡ b)
above a b h = by (b -ℤ a) refl
  where
    by : (z : ℤ) → b -ℤ a ≡ z → (n : ℕ) × (a +ℤ pos n ≡ b)
    by (pos n) e = (n, omega (arith, ints))
    by (negsuc n) e = absurd (grind (arith, ints))

near-is : (start offset : ℤ) (pages n : ℕ) → (start +ℤ pos (4096 * pages)) +ℤ pos n ≡ offset → start +ℤ pos (4096 * pages + n) ≡ offset
near-is start offset pages n h = omega (arith, ints)

less-is : (from offset : ℤ) (n : ℕ) → from +ℤ pos n ≡ offset → int_lt offset (from +ℤ pos 4096) ≡ true → n < 4096
less-is from offset n h less = grind (arith, ints)

-- a range that has an address by the test has it at some displacement
within : (range : Range) (section : Option SectionId) (offset : ℤ) → has_address range section offset ≡ true →
    (d : ℕ) × IsWithin range section offset d
within range section offset h =
    let one = both (same_section range.section section) (is_near range offset) h in
    let two = both (int_le (beginning range) offset) (int_lt offset (beginning range +ℤ pos 4096) && is_before offset range.end) one.1 in
    let three = both (int_lt offset (beginning range +ℤ pos 4096)) (is_before offset range.end) two.1 in
    let gap = above (beginning range) offset two.0 in (
      gap.0,
      record {
        section_is = section-is range.section section one.0;
        offset_is = near-is range.start offset range.pages gap.0 gap.1;
        near = less-is (beginning range) offset gap.0 gap.1 three.0;
        before_end = before-is offset range.end three.1;
      },
    )

all_three : (a b c d : Bool) → a ≡ true → b ≡ true → c ≡ true → d ≡ true → (a && (b && (c && d))) ≡ true
all_three a b c d ha hb hc hd = cc

le-test : (start offset : ℤ) (pages d : ℕ) → start +ℤ pos (4096 * pages + d) ≡ offset → int_le (start +ℤ pos (4096 * pages)) offset ≡ true
le-test start offset pages d h = grind (arith, ints)

lt-test : (start offset : ℤ) (pages d : ℕ) → start +ℤ pos (4096 * pages + d) ≡ offset → d < 4096 →
    int_lt offset ((start +ℤ pos (4096 * pages)) +ℤ pos 4096) ≡ true
lt-test start offset pages d h near = grind (arith, ints)

-- and the other way
tested : (range : Range) (section : Option SectionId) (offset : ℤ) (d : ℕ) → IsWithin range section offset d → has_address range section offset ≡ true
tested range section offset d is =
    all_three (same_section range.section section) (int_le (beginning range) offset) (int_lt offset (beginning range +ℤ pos 4096)) (is_before offset range.end)
    (section-same range.section section is.section_is)
    (le-test range.start offset range.pages d is.offset_is)
    (lt-test range.start offset range.pages d is.offset_is is.near)
    (before-test offset range.end is.before_end)

-- the register of a range that has an address
found : (held : Held) (section : Option SectionId) (offset : ℤ) → list_any (register_has section offset) held ≡ true →
    (r : ℕ) × (d : ℕ) × Covers held section offset r d
found [] section offset h = absurd (false≢true h)
found (one ∷ others) section offset h = by one h (found others section offset)
  where
    deeper : (first : Option Range) → ((r : ℕ) × (d : ℕ) × Covers others section offset r d) → (r : ℕ) × (d : ℕ) × Covers (first ∷ others) section offset r d
    deeper first w = (suc w.0, w.1, w.2)

    here : (range : Range) (b : Bool) → has_address range section offset ≡ b → (b || list_any (register_has section offset) others) ≡ true →
        (list_any (register_has section offset) others ≡ true → (r : ℕ) × (d : ℕ) × Covers others section offset r d) →
        (r : ℕ) × (d : ℕ) × Covers (Some range ∷ others) section offset r d
    here range true is h rest = let w = within range section offset is in (0, w.0, (range, refl, w.1))
    here range false is h rest = deeper (Some range) (rest h)

    by : (first : Option Range) → list_any (register_has section offset) (first ∷ others) ≡ true →
        (list_any (register_has section offset) others ≡ true → (r : ℕ) × (d : ℕ) × Covers others section offset r d) →
        (r : ℕ) × (d : ℕ) × Covers (first ∷ others) section offset r d
    by None h rest = deeper None (rest h)
    by (Some range) h rest = here range (has_address range section offset) refl h rest

-- a register that has an address has a range, so it is one of them
in-range : (held : Held) (section : Option SectionId) (offset : ℤ) (r d : ℕ) → Covers held section offset r d → r < length held
in-range held section offset r d (x, at, is) = elim (cases_lt r (length held)) [
  | inl l ↦ l
  | inr ge ↦
      let past : get_or held r None ≡ None = get_or_past held r None ge in
      let never : Some x ≡ None = sym at ∙ past in absurd cc
]

covered : (held : Held) (section : Option SectionId) (offset : ℤ) (r d : ℕ) → Covers held section offset r d →
    list_any (register_has section offset) held ≡ true
covered held section offset r d (range, at, is) =
    list_any_at (register_has section offset) held r None (in-range held section offset r d (range, at, is))
    (ap (register_has section offset) at ∙ tested range section offset d is)

-- what the search for a range finds is what the test says
pub covers-test : (held : Held) (section : Option SectionId) (offset : ℤ) (best : Option (ℕ × ℕ)) →
    MatchOption best ((r d : ℕ) → Covers held section offset r d → ⊥) (λ p. IsCover held section offset p.0 p.1) →
    is_some best ≡ is_covered held section offset
unfolding is_covered
covers-test held section offset (Some p) is = sym (covered held section offset p.0 p.1 is.covers)
covers-test held section offset None none = by (list_any (register_has section offset) held) refl
  where
    by : (b : Bool) → list_any (register_has section offset) held ≡ b → false ≡ list_any (register_has section offset) held
    by true is = let w = found held section offset is in absurd (none w.0 w.1 w.2)
    by false is = sym is
