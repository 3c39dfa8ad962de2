-- How an expression is read, character by character (this project): a stack of what is open, and the point that
-- stands above it. No public contract speaks of it.
use Rattle.std.specs.Prelude.{◌≡◌, ℕ, ◌+◌, ◌<◌, ◌≤◌, ◌||◌, List, [], ◌∷◌, Option, Some, None, is_some, IsTrue, nat_le, option_map, option_and_then, if◌then◌else◌}
use Rattle.std.specs.Char.{digit_value, to_ascii_uppercase}
use Rattle.expression_grammar.specs.declared.character.Grammar.{Grammar}
use Rattle.expression_grammar.specs.declared.character.Kind.{Kind}
use Rattle.expression_grammar.specs.declared.character.Kind.TheVariants as kind
use Rattle.expression_grammar.specs.declared.tree.Form.TheVariants.{Decimal}
use Rattle.expression_grammar.specs.declared.tree.Sign.{Sign}
use Rattle.expression_grammar.specs.declared.tree.Sign.TheVariants.{Plus, Minus}
use Rattle.expression_grammar.specs.declared.tree.Operator.{Operator}
use Rattle.expression_grammar.specs.declared.tree.Operator.TheVariants.{Add, Subtract, Multiply}
use Rattle.expression_grammar.specs.declared.tree.Reference.{Reference}
use Rattle.expression_grammar.specs.declared.tree.Reference.TheVariants.{Value}
use Rattle.expression_grammar.specs.declared.tree.Symbol.{Symbol}
use Rattle.expression_grammar.specs.declared.part.Part.{Part}
use Rattle.expression_grammar.specs.declared.part.Part.TheVariants.{Figures, Sigil, Word}
use Rattle.expression_grammar.specs.declared.part.Move.{Move}
use Rattle.expression_grammar.specs.declared.part.Move.TheVariants.{To, Done, Begins, Over}
use Rattle.expression_grammar.specs.Characters.{kind_of, mark_of, strength}
use Rattle.expression_grammar.specs.Spelling.{Placed, placed, Piece, Gap, One, Reads, IsOf, AreOf, spell, begin_subscripts, variable_spelled, has_blanks, is_ordinary, may_vary, rank}
use Rattle.expression_grammar.specs.Trees.{Tree, Trees, Number, Here, Variable, Signed, Pair, Paren, NoTrees, More, size, size_trees}
use Rattle.expression_grammar.specs.Parts.{after, finish, opening, part_spelled, IsPart}

-- what is open: a sign, an operator with its left operand, a parenthesis, the subscripts of a variable symbol
pub data Layer : Type 0 where
  SignLayer : (sign : Sign) → Layer
  PairLayer : (operator : Operator) (left : Tree) → Layer
  OpenLayer : Layer
  SubscriptLayer : (asked : Reference) (symbol : Symbol) (others : Trees) → Layer

-- the layers, the topmost first, and the point above them: an operand is wanted, a tree is there, a term is being read
pub data State : Type 0 where
  Want : (layers : List Layer) → State
  Have : (tree : Tree) (layers : List Layer) → State
  Within : (part : Part) (layers : List Layer) → State

-- the signs and operators that bind at least as strongly as a number says are closed
pub record Folded : Type 0 where
  pub tree : Tree
  pub layers : List Layer

abbrev pub fold : ℕ → Tree → List Layer → Folded
fold floor tree [] = record { tree = tree; layers = [] }
fold floor tree (SignLayer sign ∷ layers) = fold floor (Signed sign tree) layers
fold floor tree (PairLayer operator left ∷ layers) =
    if nat_le floor (strength operator) then fold floor (Pair operator left tree) layers
    else record { tree = tree; layers = PairLayer operator left ∷ layers }
fold floor tree (OpenLayer ∷ layers) = record { tree = tree; layers = OpenLayer ∷ layers }
fold floor tree (SubscriptLayer asked symbol others ∷ layers) = record { tree = tree; layers = SubscriptLayer asked symbol others ∷ layers }

-- a closing parenthesis, a comma, an operator behind a tree
abbrev pub closed : Tree → List Layer → Option State
closed tree (OpenLayer ∷ layers) = Some (Have (Paren tree) layers)
closed tree (SubscriptLayer asked symbol others ∷ layers) = Some (Have (Variable asked symbol (More others tree)) layers)
closed tree other = None

abbrev pub parted : Tree → List Layer → Option State
parted tree (SubscriptLayer asked symbol others ∷ layers) = Some (Want (SubscriptLayer asked symbol (More others tree) ∷ layers))
parted tree other = None

abbrev pub joined : Operator → Folded → State
joined operator folded = Want (PairLayer operator folded.tree ∷ folded.layers)

-- a character behind a tree
abbrev pub behind : Grammar → Kind → Tree → List Layer → Option State
behind g kind.Blank tree layers = if has_blanks g then Some (Have tree layers) else None
behind g (kind.Mark operator) tree layers = Some (joined operator (fold (strength operator) tree layers))
behind g kind.Close tree layers = closed (fold 0 tree layers).tree (fold 0 tree layers).layers
behind g kind.Comma tree layers = parted (fold 0 tree layers).tree (fold 0 tree layers).layers
behind g _ tree layers = None

-- a sign, or the `*` that is a term
abbrev pub marked : Grammar → Operator → List Layer → Option State
marked g Add layers = Some (Want (SignLayer Plus ∷ layers))
marked g Subtract layers = Some (Want (SignLayer Minus ∷ layers))
marked g Multiply layers = if is_ordinary g then Some (Have Here layers) else None
marked g _ layers = None

-- a character where an operand is wanted
abbrev pub begun : Grammar → Kind → Placed → List Layer → Option State
begun g kind.Blank p layers = if has_blanks g then Some (Want layers) else None
begun g (kind.Mark operator) p layers = marked g operator layers
begun g kind.Open p layers = Some (Want (OpenLayer ∷ layers))
begun g kind.Digit p layers = Some (Within (Figures Decimal 1 (digit_value p.code)) layers)
begun g kind.Letter p layers =
    if is_ordinary g || is_some (opening g (to_ascii_uppercase p.code)) then Some (Within (Word p.at (to_ascii_uppercase p.code ∷ [])) layers) else None
begun g kind.Ampersand p layers = if may_vary g Value then Some (Within (Sigil Value p.at) layers) else None
begun g _ p layers = None

-- a term that has ended, and a character behind it
abbrev pub ended : Grammar → Option Tree → Kind → List Layer → Option State
ended g None k layers = None
ended g (Some tree) k layers = behind g k tree layers

abbrev pub moved : Grammar → Move → Kind → List Layer → Option State
moved g (To part) k layers = Some (Within part layers)
moved g (Done form number) k layers = Some (Have (Number form number) layers)
moved g (Begins asked symbol) k layers = Some (Want (SubscriptLayer asked symbol NoTrees ∷ layers))
moved g (Over part) k layers = ended g (finish g part) k layers

-- a state with one character more, unless no expression goes on so
unfoldable pub step : Grammar → State → Placed → Option State
step g (Want layers) p = begun g (kind_of p.code) p layers
step g (Have tree layers) p = behind g (kind_of p.code) tree layers
step g (Within part layers) p = moved g (after g part p) (kind_of p.code) layers

abbrev pub run : Grammar → State → List Placed → Option State
run g state [] = Some state
run g state (p ∷ ps) = option_and_then (λ next. run g next ps) (step g state p)

-- the tree of a text that ends here
abbrev pub whole_over : Tree → List Layer → Option Tree
whole_over tree [] = Some tree
whole_over tree other = None

abbrev pub whole : Folded → Option Tree
whole folded = whole_over folded.tree folded.layers

abbrev pub settled : Grammar → State → Option Folded
settled g (Want layers) = None
settled g (Have tree layers) = Some (fold 0 tree layers)
settled g (Within part layers) = option_map (λ tree. fold 0 tree layers) (finish g part)

unfoldable pub accept : Grammar → State → Option Tree
accept g state = option_and_then whole (settled g state)

-- how many terms, operators and pairs of parentheses each expression has at least that begins so
abbrev pub layer_size : Layer → ℕ
layer_size (SignLayer sign) = 1
layer_size (PairLayer operator left) = size left + 1
layer_size OpenLayer = 1
layer_size (SubscriptLayer asked symbol others) = 2 + size_trees others

abbrev pub layers_size : List Layer → ℕ
layers_size [] = 0
layers_size (layer ∷ layers) = layer_size layer + layers_size layers

abbrev pub weight : State → ℕ
weight (Want layers) = layers_size layers + 1
weight (Have tree layers) = layers_size layers + size tree
weight (Within part layers) = layers_size layers + 1

-- a state with one character more, unless no expression of at most so many terms, operators and parentheses goes on so
abbrev pub kept : ℕ → State → Option State
kept limit state = if nat_le (weight state) limit then Some state else None

unfoldable pub advance : Grammar → ℕ → State → Placed → Option State
advance g limit state p = option_and_then (kept limit) (step g state p)

-- what was read: the pieces of the layers, before other pieces
abbrev pub under : List Layer → List Piece → List Piece
under [] after = Gap ∷ after
under (SignLayer sign ∷ layers) after = under layers (One (kind.Mark (mark_of sign)) ∷ Gap ∷ after)
under (PairLayer operator left ∷ layers) after = under layers (spell left (Gap ∷ One (kind.Mark operator) ∷ Gap ∷ after))
under (OpenLayer ∷ layers) after = under layers (One kind.Open ∷ Gap ∷ after)
under (SubscriptLayer asked symbol others ∷ layers) after = under layers (variable_spelled asked symbol (begin_subscripts others (Gap ∷ after)))

abbrev pub pieces_of : State → List Piece
pieces_of (Want layers) = under layers []
pieces_of (Have tree layers) = under layers (spell tree (Gap ∷ []))
pieces_of (Within part layers) = under layers (part_spelled part)

-- whether a tree of this rank may stand above the layers
abbrev pub Takes : List Layer → ℕ → Type 0
Takes [] rank = Unit {0}
Takes (SignLayer sign ∷ layers) rank = 7 ≤ rank
Takes (PairLayer operator left ∷ layers) rank = strength operator < rank
Takes (OpenLayer ∷ layers) rank = Unit {0}
Takes (SubscriptLayer asked symbol others ∷ layers) rank = Unit {0}

abbrev pub AreLayers : Grammar → List Layer → Type 0
AreLayers g [] = Unit {0}
AreLayers g (SignLayer sign ∷ layers) = AreLayers g layers
AreLayers g (PairLayer operator left ∷ layers) = IsOf g left × (strength operator ≤ rank left) × Takes layers (strength operator) × AreLayers g layers
AreLayers g (OpenLayer ∷ layers) = AreLayers g layers
AreLayers g (SubscriptLayer asked symbol others ∷ layers) = IsTrue (may_vary g asked) × AreOf g others × AreLayers g layers

abbrev pub Stands : Grammar → State → Type 0
Stands g (Want layers) = AreLayers g layers
Stands g (Have tree layers) = IsOf g tree × (rank tree ≡ 7) × AreLayers g layers
Stands g (Within part layers) = IsPart g part × AreLayers g layers

-- what a state knows of the text so far
pub record Holds (g : Grammar) (state : State) (text : List Placed) : Type 0 where
  pub stands : Stands g state
  pub reads : Reads g (pieces_of state) text

-- a text leads to a state, within a limit
pub record Reaches (g : Grammar) (limit : ℕ) (text : List ℕ) (state : State) : Type 0 where
  pub runs : run g (Want []) (placed 0 text) ≡ Some state
  pub small : weight state ≤ limit
