-- How far a section has come (HLASM Language Reference SC26-4940, "Location counter", "ORG instruction").
use Rattle.std.specs.Prelude.{ℕ, ◌+◌, Bool, Option, Some, None, max, nat_le, if◌then◌else◌}
use Rattle.location_counter.specs.Counters.{aligned, most_bytes}

-- a section without its name: where its next byte goes, the highest place where it stood, and whether it began as a dummy section
pub record Span : Type 0 where
  pub at : ℕ
  pub length : ℕ
  pub dummy : Bool

-- a section that has no byte yet
abbrev pub fresh : Bool → Span
fresh dummy = record { at = 0; length = 0; dummy = dummy }

-- whether a section may be so long
abbrev pub fits : ℕ → Bool
fits at = nat_le at most_bytes

-- it goes on at another place
abbrev pub moved : ℕ → Span → Span
moved at span = record { at = at; length = max span.length at; dummy = span.dummy }

-- where so many bytes end that are taken on a boundary
abbrev pub end_of : (boundary bytes : ℕ) → Span → ℕ
end_of boundary bytes span = aligned span.at boundary + bytes

-- where they begin, if the section does not get too long by them
abbrev pub begins : (boundary bytes : ℕ) → Span → Option ℕ
begins boundary bytes span = if fits (end_of boundary bytes span) then Some (aligned span.at boundary) else None

-- the section behind them; it stays as it is where it would get too long
abbrev pub taken : (boundary bytes : ℕ) → Span → Span
taken boundary bytes span = if fits (end_of boundary bytes span) then moved (end_of boundary bytes span) span else span

-- ORG to a place, and without an operand
abbrev pub org : ℕ → Span → Span
org at span = if fits at then moved at span else span

abbrev pub org_to_end : Span → Span
org_to_end span = moved span.length span
