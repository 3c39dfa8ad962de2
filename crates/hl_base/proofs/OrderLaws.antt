-- The byte of a character by cases, and that texts are totally ordered.
use Rattle.std.proofs.Common.{◌≡◌, ◌≤◌, ◌<◌, ℕ, ◌-◌, ◌⊎◌, inl, inr, arith, slice_index_or}
use Rattle.std.proofs.lemmas.Grind.{common_steps}
use Rattle.hl_base.specs.Order.{code_page_037, ebcdic}

-- a tab is a blank
pub ebcdic-tab : (c : ℕ) → c ≡ 9 → 64 ≡ ebcdic c
unfolding ebcdic
ebcdic-tab c e = grind (arith, common_steps, e)

-- what has no byte is X'3F'
pub ebcdic-outside : (c : ℕ) → (c ≡ 9 → ⊥) → (c < 32) ⊎ ((32 ≤ c) × (126 < c)) → 63 ≡ ebcdic c
unfolding ebcdic
ebcdic-outside c not_tab (inl low) = grind (arith, common_steps, not_tab, low)
ebcdic-outside c not_tab (inr high) = grind (arith, common_steps, not_tab, high)

-- what is printable stands in the table
pub ebcdic-printable : (c : ℕ) → 32 ≤ c → c ≤ 126 → slice_index_or code_page_037 (c - 32) 0 ≡ ebcdic c
unfolding ebcdic
ebcdic-printable c low high = grind (arith, common_steps, low, high)
