-- Fields in which no comma stands behind the first apostrophe, cut byte by byte. No public contract speaks of them.
use Rattle.std.specs.Prelude.{◌≡◌, ℕ, Bool, true, not, ◌==◌, List, take, drop}
use Rattle.std.specs.List.{list_all}
use Rattle.std.specs.Str.{chars}
use Rattle.hl_base.specs.Quoting as quoting
use Rattle.plain_fields.specs.declared.state.Cutting.{Cutting}
use Rattle.operand_list.specs.Split.{whole_parts}

-- no apostrophe
abbrev pub is_plain : ℕ → Bool
is_plain c = not (c == 39)

-- no comma
abbrev pub is_no_comma : ℕ → Bool
is_no_comma c = not (c == 44)

-- how many parentheses are open behind a character outside quotes
abbrev pub depth_behind : ℕ → ℕ → ℕ
depth_behind depth c = quoting.depth_outside depth c

-- so many parentheses are open behind these characters, none of which is an apostrophe
pub record IsBehind (depth : ℕ) (before : List ℕ) : Type 0 where
  pub plain : list_all is_plain before ≡ true
  pub counted : depth ≡ quoting.depth before

-- what is read of the text that is read on
abbrev pub part_of : Cutting → List ℕ
part_of cutting = take cutting.count (chars cutting.from.now)

-- what is left behind it
abbrev pub left_of : Cutting → List ℕ
left_of cutting = drop cutting.count (chars cutting.from.now)

-- what was read and what is left are the texts of a text
pub record IsCut (cutting : Cutting) (rest : List ℕ) (whole : List (List ℕ)) : Type 0 where
  pub before : List ℕ
  pub behind : IsBehind cutting.depth before
  pub left : left_of cutting ≡ rest
  pub same : whole_parts 0 cutting.done (part_of cutting) before rest ≡ whole
