-- The paths of the points that were passed.
use Rattle.std.proofs.Common.{◌≡◌, ap, Option, Some, None, []}
use Rattle.std.specs.Prelude.{unwrap_or}
use Rattle.std.specs.Option.{option_map, option_map_or}
use Rattle.std.proofs.lemmas.Option.{none-some}
use Rattle.trace_values.specs.declared.item.TraceItem.{TraceItem}
use Rattle.trace_arena.specs.Points.{Point}
use Rattle.trace_paths.proofs.TouchedLaws.{own_item}
use Rattle.program_names.specs.Paths.{item_paths, point_paths}

-- where there is an item, the paths of its point are those of the item
pub point_there : (o : Option (Point TraceItem)) (item : TraceItem) → option_map own_item o ≡ Some item → option_map_or point_paths o [] ≡ item_paths item
point_there None item is = absurd (none-some item is)
point_there (Some p) item is = let same : p.item ≡ item = ap (λ o. unwrap_or o item) is in ap item_paths same
