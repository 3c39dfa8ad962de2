use Rattle.std.proofs.Common.{◌≡◌, map}
use Rattle.std.specs.List.{range_with_len}
use Rattle.section_table.specs.Shown.{table_of}
use Rattle.section_layout.specs.SectionLists.{section_at}
use Rattle.section_layout.proofs.sections.sections_of.Given as goal

-- the sections so far
abbrev pub invariant-loop-number : goal.invariant-loop-number
invariant-loop-number l = l.sections ≡ map (section_at (table_of l.table)) (range_with_len 0 l.number)
