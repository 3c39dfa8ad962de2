-- The index of a look ahead. This project.
use Rattle.std.specs.Prelude.{◌≡◌, ℕ, List, ◌++◌, Option}
use Rattle.hl_base.specs.declared.set.Attr.{Attr}
use Rattle.lookahead_scan.specs.declared.index.Found.{Found}
use Rattle.lookahead_scan.specs.declared.index.LookIndex.{LookIndex}
use Rattle.lookahead_scan.specs.Held.{held_under}
use Rattle.lookahead_scan.specs.Looks.{Met}
use Rattle.lookahead_scan.specs.Places.{founds_at, ends_at, first_behind, first_end, up_to}

-- the labels that are held under a name
abbrev pub founds : LookIndex → List ℕ → List Found
founds index name = held_under index.names name

-- what an index finds of a name behind the statement of this number
abbrev pub finds : LookIndex → (name : List ℕ) → (after : ℕ) → Option Attr
finds index name after = up_to (first_behind after (founds index name)) (first_end after index.ends.items)

-- what a statement gives was added
pub record Adds (old new : LookIndex) (one : Met) (at : ℕ) : Type 0 where
  pub names : (name : List ℕ) → founds new name ≡ founds old name ++ founds_at name at one.labels
  pub ends : new.ends.items ≡ old.ends.items ++ ends_at at one
