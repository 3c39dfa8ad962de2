-- What is said of a relative target (z/Architecture Principles of Operation SA22-7832, "Relative"; this project): its
-- distance is counted in halfwords, so one in the section of its instruction is even. A target elsewhere is the binder's.
use Rattle.std.specs.Prelude.{◌==◌, ◌&&◌, Bool, false, not, ℤ, pos, int_rem, Option, Some, None, Result, Ok, Err, if◌then◌else◌}
use Rattle.std.specs.Ordering.{int_eq}
use Rattle.trace_values.specs.declared.section.SectionId.{SectionId}
use Rattle.trace_values.specs.declared.section.Reloc.{Reloc}
use Rattle.note_rows.specs.declared.row.Row.{Row}
use Rattle.note_rows.specs.declared.row.Row.TheVariants.{OddTarget}

-- whether two places are in one section
abbrev pub share_section : Option SectionId → Option SectionId → Bool
share_section (Some one) (Some other) = one.0 == other.0
share_section (Some one) None = false
share_section None other = false

-- whether a place is odd
abbrev pub is_odd : ℤ → Bool
is_odd n = not (int_eq (int_rem n (pos 2)) (pos 0))

-- what is said of a target of an instruction here: where its expression has no value, what is said of that
abbrev pub said_of_target : (here : Reloc) → Result Reloc Row → Option Row
said_of_target here (Err said) = Some said
said_of_target here (Ok place) = if share_section place.section here.section && is_odd place.value then Some OddTarget else None
