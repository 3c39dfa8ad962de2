-- The definitions that points begin or call, by the places of their prototypes (this project).
use Rattle.std.specs.Prelude.{ℕ, ◌+◌, Bool, false, List, [], ◌∷◌, ◌++◌, drop, Option, Some, None, if◌then◌else◌}
use Rattle.std.specs.List.{find, flat_map}
use Rattle.std.specs.Option.{option_map}
use Rattle.hl_base.specs.declared.place.Origin.{Origin}
use Rattle.macro_library.specs.Extents.{begins_at}
use Rattle.statement_listing.specs.Listings.{Listed, is_plain}
use Rattle.text_lists.specs.Lists.{Source, line_at, list_of, number_at}
use Rattle.trace_arena.specs.Points.{Point}
use Rattle.trace_values.specs.declared.item.TraceItem.{TraceItem}
use Rattle.program_names.specs.Paths.{entered}

-- whether a statement begins a definition as it is written
abbrev pub begins : Option Listed → Bool
begins None = false
begins (Some line) = begins_at line

-- where the first of some statements stands that is neither a comment nor blank
abbrev pub is_read : Listed → Bool
is_read line = is_plain line.statement.shape

abbrev pub place_of : Listed → Origin
place_of line = line.origin

abbrev pub first_place : List Listed → Option Origin
first_place list = option_map place_of (find is_read list)

-- where the prototype behind a MACRO stands, which has this number among these statements
abbrev pub behind_number : Option (List Listed) → (number : Option ℕ) → Option Origin
behind_number (Some list) (Some number) = first_place (drop (number + 1) list)
behind_number list number = None

abbrev pub behind_place : List Source → Origin → Option Origin
behind_place texts origin = behind_number (list_of texts origin.path.0) (number_at texts origin)

-- where the prototype of the definition stands that a place begins, if it begins one
abbrev pub begun : List Source → Origin → Option Origin
begun texts origin = if begins (line_at texts origin) then behind_place texts origin else None

-- a place, if there is one
abbrev pub if_there : Option Origin → List Origin
if_there None = []
if_there (Some origin) = origin ∷ []

-- the prototypes of the definitions that a point calls and begins
abbrev pub item_prototypes : List Source → TraceItem → List Origin
item_prototypes texts item = if_there (entered item) ++ if_there (begun texts item.frames.innermost.origin)

abbrev pub point_prototypes : List Source → Point TraceItem → List Origin
point_prototypes texts point = item_prototypes texts point.item

-- those of some points
abbrev pub prototypes : List Source → List (Point TraceItem) → List Origin
prototypes texts points = flat_map (point_prototypes texts) points
