-- A text in two parts while it is being changed: what stands before a place, and what stands from it on. No public clause
-- cites this file. This project.
use Rattle.std.specs.Prelude.{◌≡◌, ℕ, ◌-◌, Bool, true, List, [], ◌∷◌, ◌++◌, Option, None, Some, Result, Ok, Err, drop, chars, refl}
use Rattle.std.specs.Coded.{Coded, code_by, coded×, coded_ℕ, coded_list}
use Rattle.std.specs.Option.{option_map}
use Rattle.hl_base.specs.declared.edit.Position.{Position}
use Rattle.hl_base.specs.declared.edit.Edit.{Edit}
use Rattle.document_store.specs.Positions.{whole_lines, ends_line}
use Rattle.document_store.specs.declared.fault.StoreFault.{StoreFault}
use Rattle.document_store.specs.declared.fault.StoreFault.TheVariants.{OutOfMemory}

-- the bytes of the two parts, and for how many more there is room between them
pub record Parts : Type 0 where
  pub front : List ℕ
  pub room : ℕ
  pub back : List ℕ

abbrev pub parts_code : Coded Parts
parts_code =
    code_by
    (List ℕ × (ℕ × List ℕ))
    (coded× (coded_list coded_ℕ) (coded× coded_ℕ (coded_list coded_ℕ)))
    (λ p. (p.front, (p.room, p.back)))
    (λ t. record { front = t.0; room = t.1.0; back = t.1.1 })
    (λ _. refl)

-- the characters of both parts
abbrev pub text_in : Parts → List ℕ
text_in parts = chars (parts.front ++ parts.back)

-- ---- lines

-- so many lines stand before the second of two texts, which begins a line of both
abbrev pub BeginsLine : ℕ → (front back : List ℕ) → Type 0
BeginsLine line front back = whole_lines back ≡ drop line (whole_lines (front ++ back))

-- so many lines stand before the second of two parts, which begins a line
abbrev pub IsBeforeLine : ℕ → Parts → Type 0
IsBeforeLine line parts = whole_lines (chars parts.back) ≡ drop line (whole_lines (text_in parts))

-- whether a line ends behind the last of these characters
abbrev pub ends_behind : ℕ → List ℕ → List ℕ → Bool
ends_behind c [] back = ends_line c back
ends_behind c (d ∷ rest) back = ends_behind d rest back

-- whether a line begins between two texts
abbrev pub parted : List ℕ → List ℕ → Bool
parted [] back = true
parted (c ∷ rest) back = ends_behind c rest back

-- ---- changes

-- a position counted from a later line on
abbrev pub position_behind : ℕ → Position → Position
position_behind line at = record at { line = at.line - line }

-- a change counted from a later line on
abbrev pub edit_behind : ℕ → Edit → Edit
edit_behind line edit = record edit { from = option_map (position_behind line) edit.from; to = option_map (position_behind line) edit.to }

-- the first line that a change speaks of
abbrev pub first_line_of : Option Position → ℕ
first_line_of None = 0
first_line_of (Some at) = at.line

-- a call leaves the text that is asked, or gives the refusal that is; want of memory may come in place of either
abbrev pub LeavesParts : {T : Type 0} → Result (List ℕ) StoreFault → Result T StoreFault → Parts → Type 0
LeavesParts asked (Ok done) parts = asked ≡ Ok (text_in parts)
LeavesParts asked (Err OutOfMemory) parts = Unit {0}
LeavesParts asked (Err fault) parts = asked ≡ Err fault
