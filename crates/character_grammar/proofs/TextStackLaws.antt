-- The items of a quoted text, one by one.
use Rattle.std.proofs.Common.{◌≡◌, List, [], ◌∷◌, ◌++◌, refl}
use Rattle.expression_grammar.specs.declared.tree.Item.{Item}
use Rattle.expression_grammar.specs.Trees.{Items}
use Rattle.expression_grammar.specs.Views.{items_in, with_item}

pub items_in_push : (items : List Item) (one : Item) (before : Items) → items_in before (items ++ one ∷ []) ≡ with_item (items_in before items) one
items_in_push [] one before = refl
items_in_push (first ∷ items) one before = items_in_push items one (with_item before first)
