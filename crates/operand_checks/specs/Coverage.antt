-- Which addresses the ranges in force cover (HLASM Language Reference SC26-4940, "USING instruction").
use Rattle.std.specs.Prelude.{◌*◌, ◌==◌, ◌&&◌, Bool, true, false, ℤ, pos, ◌+ℤ◌, int_le, int_lt, Option, Some, None}
use Rattle.std.specs.List.{list_any}
use Rattle.trace_values.specs.declared.section.SectionId.{SectionId}
use Rattle.using_ranges.specs.declared.range.Range.{Range}
use Rattle.using_ranges.specs.Ranges.{Held}

-- whether two addresses are in one section, or in none
abbrev pub same_section : Option SectionId → Option SectionId → Bool
same_section None None = true
same_section None (Some other) = false
same_section (Some one) None = false
same_section (Some one) (Some other) = one.0 == other.0

-- where a range begins
abbrev pub beginning : Range → ℤ
beginning range = range.start +ℤ pos (4096 * range.pages)

-- whether an address stands before an end, if there is one
abbrev pub is_before : ℤ → Option ℤ → Bool
is_before offset None = true
is_before offset (Some end) = int_lt offset end

-- whether an address stands in the 4,096 bytes of a range, and before its end
abbrev pub is_near : Range → ℤ → Bool
is_near range offset =
    int_le (beginning range) offset && (int_lt offset (beginning range +ℤ pos 4096) && is_before offset range.end)

abbrev pub has_address : Range → Option SectionId → ℤ → Bool
has_address range section offset = same_section range.section section && is_near range offset

-- whether the range of a register has an address, if it has a range
abbrev pub register_has : Option SectionId → ℤ → Option Range → Bool
register_has section offset None = false
register_has section offset (Some range) = has_address range section offset

-- whether some register's range has it
unfoldable pub is_covered : Held → Option SectionId → ℤ → Bool
is_covered held section offset = list_any (register_has section offset) held
