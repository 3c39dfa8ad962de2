-- What is found by an index and the numbers of the processed statements. This project.
use Rattle.std.specs.Prelude.{ℕ, List, Option, Some, None, slice_get}
use Rattle.hl_base.specs.declared.set.Attr.{Attr}
use Rattle.lookahead_scan.specs.Index.{finds}
use Rattle.lookahead_scan.specs.declared.index.LookIndex.{LookIndex}
use Rattle.look_places.specs.declared.foresight.Foresight.{Foresight}

-- what an index finds of a name behind the statement of a number, if there is one
abbrev pub finds_from : LookIndex → (name : List ℕ) → (number : Option ℕ) → Option Attr
finds_from index name None = None
finds_from index name (Some number) = finds index name number

-- what is foreseen of a name behind the statement that is processed at this place
abbrev pub foresees : Foresight → (name : List ℕ) → (place : ℕ) → Option Attr
foresees f name place = finds_from f.index name (slice_get f.numbers.items place)
