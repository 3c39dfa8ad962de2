-- Sections by their numbers.
use Rattle.std.proofs.Common.{◌≡◌, ℕ, ◌+◌, [], ◌∷◌, ◌++◌, map, arith}
use Rattle.std.specs.List.{range_with_len}
use Rattle.std.proofs.lemmas.List.FromFn.{map-range_with_len_more}
use Rattle.section_table.specs.Tables.{Table}
use Rattle.section_layout.specs.SectionLists.{section_at}

-- one more section
pub sections_more : (table : Table) (n : ℕ) → map (section_at table) (range_with_len 0 (n + 1))
    ≡ map (section_at table) (range_with_len 0 n) ++ section_at table n ∷ []
sections_more table n = map-range_with_len_more (section_at table) 0 n n (omega arith)
