-- What is found at the place of a name is what the table says of it. That each row stands at its place is computed once,
-- over all of them; the rest holds of any rows that do.
use Rattle.std.proofs.Common.{◌≡◌, ◌∙◌, ℕ, ◌+◌, ◌-◌, ◌<◌, true, false, cond, Option, Some, None, zero, suc, List, [], ◌∷◌, length, refl, sym, ap, inl, inr, arith}
use Rattle.std.specs.Prelude.{◌==◌, ◌&&◌, slice_get, replicate}
use Rattle.std.proofs.lemmas.Bool.{cases_Bool, and_parts, eqb-true}
use Rattle.std.proofs.lemmas.List.{length-append}
use Rattle.std.proofs.lemmas.Option.{slice_get_past, slice_get_read}
use Rattle.std.specs.Borrow.{Bor}
use Rattle.std.specs.Option.{option_copied}
use Rattle.std.specs.Slice.{IsItemAt}
use Rattle.std.specs.Cmp.Lexicographic.{same_text}
use Rattle.instruction_table.specs.declared.rows.Row.{Row}
use Rattle.instruction_table.specs.declared.rows.TheConstants.{FORMATS, INSTRUCTIONS}
use Rattle.instruction_table.specs.Instructions.{instructions, look_up, pairs, padded, same_name, format_at}
use Rattle.instruction_table.specs.Places.{place_of, are_placed}

-- each row of the table stands where its mnemonic belongs
table-placed : are_placed 0 INSTRUCTIONS ≡ true
unfolding place_of
table-placed = refl

-- the parts of it for rows that begin with one
abbrev Head : ℕ → Row → List Row → Type 0
Head place row rows = (length row.mnemonic ≡ 8) × (place_of row.mnemonic ≡ place) × (are_placed (place + 1) rows ≡ true)

head : (place : ℕ) (row : Row) (rows : List Row) → are_placed place (row ∷ rows) ≡ true → Head place row rows
head place row rows all =
    let long = and_parts (length row.mnemonic == 8) ((place_of row.mnemonic == place) && are_placed (place + 1) rows) all in
    let rest = and_parts (place_of row.mnemonic == place) (are_placed (place + 1) rows) long.1 in
    (eqb-true (length row.mnemonic) 8 long.0, eqb-true (place_of row.mnemonic) place rest.0, rest.1)

-- a row whose mnemonic is not the name says nothing of it
abbrev passing : (name : List ℕ) (row : Row) (rows : List Row) → same_name row.mnemonic (padded name) ≡ false → look_up name (pairs (row ∷ rows)) ≡ look_up name (pairs rows)
passing name row rows other = ap (λ b. cond b (slice_get FORMATS row.format) (look_up name (pairs rows))) other

-- rows that stand behind the place of a name say nothing of it
before : (name : List ℕ) (place : ℕ) (rows : List Row) → are_placed place rows ≡ true → place_of (padded name) < place → look_up name (pairs rows) ≡ None
before name place [] all less = refl
before name place (row ∷ rows) all less =
    let parts = head place row rows all in
    elim (cases_Bool (same_name row.mnemonic (padded name))) [
      | inl same ↦
          let is : place_of row.mnemonic ≡ place_of (padded name) = ap place_of (same_text row.mnemonic (padded name) (sym same)) in
          absurd (omega (arith, parts.1))
      | inr other ↦ passing name row rows other ∙ before name (place + 1) rows parts.2 (omega arith)
    ]

-- no row says anything of a name that is no column of eight characters
too_long : (name : List ℕ) (place : ℕ) (rows : List Row) → are_placed place rows ≡ true → 8 < length (padded name) → look_up name (pairs rows) ≡ None
too_long name place [] all more = refl
too_long name place (row ∷ rows) all more =
    let parts = head place row rows all in
    elim (cases_Bool (same_name row.mnemonic (padded name))) [
      | inl same ↦
          let is : length row.mnemonic ≡ length (padded name) = ap length (same_text row.mnemonic (padded name) (sym same)) in
          absurd (omega (arith, parts.0))
      | inr other ↦ passing name row rows other ∙ too_long name (place + 1) rows parts.2 more
    ]

there : (name : List ℕ) (place i : ℕ) (rows : List Row) → are_placed place rows ≡ true → place_of (padded name) ≡ place + i → look_up name (pairs rows) ≡ format_at (slice_get rows i) (padded name)
there name place i [] all is = refl
there name place zero (row ∷ rows) all is =
    let parts = head place row rows all in
    elim (cases_Bool (same_name row.mnemonic (padded name))) [
      | inl same ↦
          ap (λ b. cond b (slice_get FORMATS row.format) (look_up name (pairs rows))) same
          ∙ sym (ap (λ b. cond b (slice_get FORMATS row.format) None) same)
      | inr other ↦
          passing name row rows other
          ∙ before name (place + 1) rows parts.2 (omega arith)
          ∙ sym (ap (λ b. cond b (slice_get FORMATS row.format) None) other)
    ]
there name place (suc i) (row ∷ rows) all is =
    let parts = head place row rows all in
    elim (cases_Bool (same_name row.mnemonic (padded name))) [
      | inl same ↦
          let one : place_of row.mnemonic ≡ place_of (padded name) = ap place_of (same_text row.mnemonic (padded name) (sym same)) in
          absurd (omega (arith, parts.1))
      | inr other ↦ passing name row rows other ∙ there name (place + 1) i rows parts.2 (omega arith)
    ]

-- what the table says of a name is what the row at its place says
pub look_up-is : (name : List ℕ) → look_up name instructions ≡ format_at (slice_get INSTRUCTIONS (place_of (padded name))) (padded name)
unfolding instructions
look_up-is name = there name 0 (place_of (padded name)) INSTRUCTIONS table-placed (omega arith)

-- a name that is too long for a column is longer than one with blanks behind it
padded-long : (name : List ℕ) → 8 < length name → 8 < length (padded name)
unfolding padded
padded-long name more = omega (arith, length-append name (replicate (8 - length name) 32))

pub look_up-long : (name : List ℕ) → 8 < length name → look_up name instructions ≡ None
unfolding instructions
look_up-long name more = too_long name 0 INSTRUCTIONS table-placed (padded-long name more)

-- what `get` lends is the element that there is
pub item-is : {X : Type 0} (xs : List X) (i : ℕ) (r : Option (Bor X)) → IsItemAt xs i r → option_copied r ≡ slice_get xs i
item-is xs i None item = sym (slice_get_past xs i item.3)
item-is xs i (Some x) item = sym (slice_get_read xs (length xs) i x.now refl item.3.0 item.1)
