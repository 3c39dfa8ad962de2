-- The items of a JSON list, as a list.
use Rattle.std.proofs.Common.{◌≡◌, List, [], ◌∷◌, map, refl, ap}
use Rattle.serde_json.specs.Data.{Data, Items, no_items, item}
use Rattle.serde_json.specs.View.{view, items_of, items_view}
use Rattle.serde_json.specs.declared.value.Value.{Value}
use Rattle.json_view.specs.Members.{list_of}

pub list_of-items_of : (values : List Data) → list_of (items_of values) ≡ values
list_of-items_of [] = refl
list_of-items_of (value ∷ values) = ap (λ rest. value ∷ rest) (list_of-items_of values)

pub items_of-list_of : (items : Items) → items_of (list_of items) ≡ items
items_of-list_of no_items = refl
items_of-list_of (item first rest) = ap (item first) (items_of-list_of rest)

-- the items that `need_list` answers, each as its value
pub list_of-items_view : (values : List Value) → list_of (items_view values) ≡ map view values
list_of-items_view values = list_of-items_of (map view values)
