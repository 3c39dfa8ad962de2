-- The statements of macro definitions by the places of their prototypes (this project).
use Rattle.std.specs.Prelude.{ℕ, ◌==◌, ◌&&◌, Bool, List, [], ◌∷◌, ◌++◌, map, Option, is_some, if◌then◌else◌}
use Rattle.std.specs.List.{find}
use Rattle.std.specs.Option.{option_map}
use Rattle.hl_base.specs.declared.place.Origin.{Origin}
use Rattle.statement_listing.specs.Listings.{Listed}

-- the statements behind the prototype that stands at a place
pub record Defined : Type 0 where
  pub origin : Origin
  pub list : List Listed

abbrev pub stands_at : Origin → Defined → Bool
stands_at origin one = origin.path.0 == one.origin.path.0 && origin.line == one.origin.line

abbrev pub list_in : Defined → List Listed
list_in one = one.list

-- the statements of the definition whose prototype stands at a place, if they are there
abbrev pub list_of : List Defined → Origin → Option (List Listed)
list_of definitions origin = option_map list_in (find (stands_at origin) definitions)

-- definitions, and one more of a place that has none yet
abbrev pub with_list : List Defined → Origin → List Listed → List Defined
with_list definitions origin list =
    if is_some (list_of definitions origin) then definitions else definitions ++ record { origin = origin; list = list } ∷ []

-- the paths of statements
abbrev pub line_paths : List Listed → List ℕ
line_paths list = map (λ (one : Listed). one.origin.path.0) list

-- the paths of the statements of a definition
abbrev pub defined_paths : Defined → List ℕ
defined_paths one = line_paths one.list
