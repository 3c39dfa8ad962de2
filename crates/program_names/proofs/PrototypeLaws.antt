-- The prototypes of the definitions that points call and begin.
use Rattle.std.proofs.Common.{◌≡◌, List, [], Option, Some, None, ap}
use Rattle.std.specs.Prelude.{unwrap_or}
use Rattle.std.specs.Option.{option_map, option_map_or}
use Rattle.std.proofs.lemmas.Option.{none-some}
use Rattle.text_lists.specs.Lists.{Source}
use Rattle.trace_values.specs.declared.item.TraceItem.{TraceItem}
use Rattle.trace_arena.specs.Points.{Point}
use Rattle.trace_paths.proofs.TouchedLaws.{own_item}
use Rattle.program_names.specs.Prototypes.{item_prototypes, point_prototypes}

-- where there is an item, the prototypes of its point are those of the item
pub prototypes_there : (texts : List Source) (o : Option (Point TraceItem)) (item : TraceItem) → option_map own_item o ≡ Some item →
    option_map_or (point_prototypes texts) o [] ≡ item_prototypes texts item
prototypes_there texts None item is = absurd (none-some item is)
prototypes_there texts (Some p) item is = let same : p.item ≡ item = ap (λ o. unwrap_or o item) is in ap (item_prototypes texts) same
