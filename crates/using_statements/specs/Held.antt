-- The ranges of all registers as a list (HLASM Language Reference SC26-4940, "USING instruction", "DROP instruction"): what USING and
-- DROP make of it.
use Rattle.std.specs.Prelude.{ℕ, ℤ, List, Option, None, map, if◌then◌else◌}
use Rattle.std.specs.List.{range_with_len}
use Rattle.trace_values.specs.declared.section.SectionId.{SectionId}
use Rattle.using_ranges.specs.declared.range.Range.{Range}
use Rattle.using_ranges.specs.Ranges.{Held, range_at, named_range, last_place, is_among}

-- the numbers of all registers
abbrev pub all_registers : List ℕ
all_registers = range_with_len 0 16

-- each register with a range of its own, or with none
unfoldable pub each_register : (ℕ → Option Range) → Held
each_register range = map range all_registers

-- no register has a range
abbrev pub no_ranges : Held
no_ranges = each_register (λ register. None)

-- behind a USING the registers that it names have its ranges
abbrev pub used : Held → Option SectionId → (start : ℤ) → (end : Option ℤ) → List ℕ → Held
used held section start end registers =
    each_register (λ register. named_range section start end (last_place 0 registers register) (range_at held register))

-- behind a DROP the registers that it names have none
abbrev pub dropped : Held → List ℕ → Held
dropped held registers = each_register (λ register. if is_among register registers then None else range_at held register)
