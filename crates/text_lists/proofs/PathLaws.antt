-- The paths of definitions, as the map has them.
use Rattle.std.proofs.Common.{◌≡◌, List, [], ◌∷◌, ◌++◌, ℕ, map, refl, ap}
use Rattle.std.specs.List.{flat_map}
use Rattle.statement_listing.specs.Listings.{Listed}
use Rattle.text_lists.specs.Definitions.{defined_paths, line_paths}
use Rattle.text_lists.specs.HeldDefinitions.{defined_in}
use Rattle.text_lists.specs.declared.definitions.Place.{Place}

-- the paths of the statements of definitions are those of what is under their places
pub paths-defined : (entries : List (Place × List Listed)) → flat_map defined_paths (defined_in entries) ≡ flat_map line_paths (map (λ e. e.1) entries)
paths-defined [] = refl
paths-defined (entry ∷ rest) = ap (λ (ns : List ℕ). line_paths entry.1 ++ ns) (paths-defined rest)
