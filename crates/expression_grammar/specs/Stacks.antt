-- What the reader of expressions holds, as layers and a state (this project). No public contract speaks of it.
use Rattle.std.specs.Prelude.{ℕ, ◌&&◌, Bool, true, false, List, [], ◌∷◌}
use Rattle.expression_grammar.specs.declared.pending.Pending.{Pending}
use Rattle.expression_grammar.specs.declared.pending.Pending.TheVariants as pending
use Rattle.expression_grammar.specs.declared.pending.Point.{Point}
use Rattle.expression_grammar.specs.declared.pending.Point.TheVariants as point
use Rattle.expression_grammar.specs.declared.pending.Closing.{Closing}
use Rattle.expression_grammar.specs.declared.pending.Closing.TheVariants as closing
use Rattle.expression_grammar.specs.Trees.{NoTrees}
use Rattle.expression_grammar.specs.Views.{tree_of, trees_in}
use Rattle.expression_grammar.specs.Reading.{Layer, SignLayer, PairLayer, OpenLayer, SubscriptLayer, State, Want, Have, Within, Folded, fold}

-- something open, as a layer
abbrev pub pending_of : Pending → Layer
pending_of (pending.Sign sign) = SignLayer sign
pending_of (pending.Pair operator left) = PairLayer operator (tree_of left)
pending_of pending.Open = OpenLayer
pending_of (pending.Subscript asked symbol others) = SubscriptLayer asked symbol (trees_in NoTrees others.items)

-- the layers of a stack, whose last is the topmost, above others
abbrev pub stack_of : List Pending → List Layer → List Layer
stack_of [] below = below
stack_of (one ∷ rest) below = stack_of rest (pending_of one ∷ below)

-- the point above the layers
abbrev pub stand : Point → List Layer → State
stand point.Want layers = Want layers
stand (point.Have tree) layers = Have (tree_of tree) layers
stand (point.Within part) layers = Within part layers

-- what is left to fold, with the topmost layer closed or kept
abbrev pub closed_on : ℕ → Closing → List Layer → Folded
closed_on floor (closing.Folded tree) below = fold floor (tree_of tree) below
closed_on floor (closing.Kept kept tree) below = record { tree = tree_of tree; layers = pending_of kept ∷ below }

-- whether the end of a text closes what is open: signs and operators it does
abbrev pub closes : Pending → Bool
closes (pending.Sign sign) = true
closes (pending.Pair operator left) = true
closes pending.Open = false
closes (pending.Subscript asked symbol others) = false

abbrev pub all_close : List Pending → Bool
all_close [] = true
all_close (one ∷ rest) = closes one && all_close rest
