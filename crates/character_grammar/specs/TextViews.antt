-- What the reader of character expressions holds, as a state (this project). No public contract speaks of it.
use Rattle.std.specs.Prelude.{◌≡◌, ℕ, ◌+◌, Bool, true, false, List, [], Option, Some, None, option_map}
use Rattle.expression_grammar.specs.declared.tree.Expr.{Expr}
use Rattle.character_grammar.specs.declared.text_point.Opened.{Opened}
use Rattle.character_grammar.specs.declared.text_point.Holder.{Holder}
use Rattle.character_grammar.specs.declared.text_point.Holder.TheVariants as holder
use Rattle.character_grammar.specs.declared.text_point.Frame.{Frame}
use Rattle.character_grammar.specs.declared.text_point.Frame.TheVariants as frame
use Rattle.character_grammar.specs.declared.text_point.TextPoint.{TextPoint}
use Rattle.character_grammar.specs.declared.text_point.TextPoint.TheVariants as point
use Rattle.character_grammar.specs.declared.text_reader.TextMoved.{TextMoved}
use Rattle.character_grammar.specs.declared.text_reader.Settled.{Settled}
use Rattle.character_grammar.specs.declared.text_reader.Settled.TheVariants as settled
use Rattle.expression_grammar.specs.declared.pending.Point.{Point}
use Rattle.expression_grammar.specs.declared.character.Grammar.TheVariants.{Arithmetic}
use Rattle.expression_grammar.specs.declared.character.Kind.{Kind}
use Rattle.expression_grammar.specs.declared.character.Kind.TheVariants as kind
use Rattle.expression_grammar.specs.Reading as reading
use Rattle.expression_grammar.specs.Stacks.{stack_of, stand}
use Rattle.character_grammar.specs.TextReading as texts
use Rattle.character_grammar.specs.TextReading.{TextState, text_step, text_weight}
use Rattle.expression_grammar.specs.Trees.{Tree, NoTrees, NoItems}
use Rattle.expression_grammar.specs.Views.{tree_of, trees_in, items_in}

abbrev pub left_of : Option Expr → Option Tree
left_of left = option_map tree_of left

abbrev pub opened_of : Opened → texts.Opened
opened_of opened = record { left = left_of opened.left; factor = left_of opened.factor }

abbrev pub holder_of : Holder → texts.Holder
holder_of (holder.InText opened items) = texts.InText (opened_of opened) (items_in NoItems items.items)
holder_of (holder.AsType left) = texts.AsType (left_of left)

abbrev pub frame_of : Frame → texts.Frame
frame_of (frame.Factor left) = texts.Factor (left_of left)
frame_of (frame.Subscripts holder symbol others) = texts.Subscripts (holder_of holder) symbol (trees_in NoTrees others.items)
frame_of (frame.Start opened items) = texts.Start (opened_of opened) (items_in NoItems items.items)
frame_of (frame.Count opened items start) = texts.Count (opened_of opened) (items_in NoItems items.items) (tree_of start)

abbrev pub text_state : TextPoint → TextState
text_state (point.WantPart left) = texts.WantPart (left_of left)
text_state (point.WantQuote left factor) = texts.WantQuote (left_of left) (tree_of factor)
text_state (point.Inside opened items plain) = texts.Inside (opened_of opened) (items_in NoItems items.items) plain
text_state (point.Lone opened items plain place) = texts.Lone (opened_of opened) (items_in NoItems items.items) plain place
text_state (point.Naming holder place name) = texts.Naming (holder_of holder) place name
text_state (point.Behind opened items) = texts.Behind (opened_of opened) (items_in NoItems items.items)
text_state (point.Closed opened items plain) = texts.Closed (opened_of opened) (items_in NoItems items.items) plain
text_state (point.Within frame inner stack) = texts.Within (frame_of frame) (stand inner (stack_of stack.items []))
text_state (point.WantCount opened items start) = texts.WantCount (opened_of opened) (items_in NoItems items.items) (tree_of start)
text_state (point.Star opened items start) = texts.Star (opened_of opened) (items_in NoItems items.items) (tree_of start)
text_state (point.Letter left) = texts.Letter (left_of left)
text_state (point.Asked left) = texts.Asked (left_of left)
text_state (point.Sigil left place) = texts.Sigil (left_of left) place
text_state (point.Word left place name) = texts.Word (left_of left) place name
text_state (point.Done tree) = texts.Done (tree_of tree)

-- the state that follows, if one does, and by how much larger it is
abbrev pub TextMoves : Option TextState → ℕ → Option TextMoved → Type 0
TextMoves found before None = found ≡ None
TextMoves found before (Some moved) = (found ≡ Some (text_state moved.point)) × (text_weight (text_state moved.point) ≡ before + moved.more)

-- whether an arithmetic expression may end where it stands, whatever is open below
abbrev pub Settles : Point → Settled → Type 0
Settles inner (settled.Tree tree) = (layers : List reading.Layer) → reading.settled Arithmetic (stand inner layers) ≡ Some (reading.fold 0 (tree_of tree) layers)
Settles inner (settled.Open point) = (layers : List reading.Layer) → (reading.settled Arithmetic (stand inner layers) ≡ None) × (stand point layers ≡ stand inner layers)

-- whether a character of a quoted text stands for itself alone
abbrev pub is_plain : Kind → Bool
is_plain kind.Quote = false
is_plain kind.Ampersand = false
is_plain _ = true

-- whether a character was taken in place: then this state follows, and is no larger; else the state is as it was
abbrev pub Takes : (before : TextState) (c : ℕ) (after : TextState) → Bool → Type 0
Takes before c after true = (at : ℕ) → (text_step before (record { at = at; code = c }) ≡ Some after) × (text_weight after ≡ text_weight before)
Takes before c after false = after ≡ before
