-- The stack of what is open in a logical expression, item by item.
use Rattle.std.proofs.Common.{◌≡◌, List, [], ◌∷◌, ◌++◌, refl}
use Rattle.logical_grammar.specs.declared.logic_point.Opening.{Opening}
use Rattle.logical_grammar.specs.LogicReading.{Open}
use Rattle.logical_grammar.specs.LogicViews.{opening_of, open_of}

pub open_of_push : (items : List Opening) (one : Opening) (below : List Open) → open_of (items ++ one ∷ []) below ≡ opening_of one ∷ open_of items below
open_of_push [] one below = refl
open_of_push (first ∷ items) one below = open_of_push items one (opening_of first ∷ below)
