-- What folding keeps: the text, the size, and that all is well formed.
use Rattle.std.proofs.Common.{◌≡◌, ℕ, ◌+◌, ◌<◌, ◌≤◌, Bool, true, false, List, [], ◌∷◌, refl, arith}
use Rattle.std.specs.Prelude.{nat_le, if◌then◌else◌}
use Rattle.std.proofs.lemmas.Bool.Decides.{nat_tests}
use Rattle.expression_grammar.specs.declared.character.Grammar.{Grammar}
use Rattle.expression_grammar.specs.declared.tree.Operator.{Operator}
use Rattle.expression_grammar.specs.declared.tree.Operator.TheVariants.{Add, Subtract, Multiply, Divide, And, Or, Xor}
use Rattle.expression_grammar.specs.Characters.{strength}
use Rattle.expression_grammar.specs.Trees.{Tree, Signed, Pair, Not, Compared, size}
use Rattle.expression_grammar.specs.Spelling.{Piece, spell, rank, IsOf}
use Rattle.expression_grammar.specs.Reading.{Layer, SignLayer, PairLayer, OpenLayer, SubscriptLayer, Folded, fold, under, layers_size, Takes, AreLayers}

pub strength-most : (operator : Operator) → strength operator < 7
strength-most Add = omega arith
strength-most Subtract = omega arith
strength-most Multiply = omega arith
strength-most Divide = omega arith
strength-most And = omega arith
strength-most Or = omega arith
strength-most Xor = omega arith

pub rank-most : (tree : Tree) → rank tree ≤ 7
rank-most (Pair operator left right) = omega (arith, strength-most operator)
rank-most (Not operand) = omega arith
rank-most (Compared comparison left right) = omega arith
rank-most _ = omega arith

-- every layer takes a term
pub takes-most : (layers : List Layer) → Takes layers 7
takes-most [] = tt
takes-most (SignLayer sign ∷ layers) = omega arith
takes-most (PairLayer operator left ∷ layers) = strength-most operator
takes-most (OpenLayer ∷ layers) = tt
takes-most (SubscriptLayer asked symbol others ∷ layers) = tt

-- and a tree of higher rank where it takes one of a lower
pub takes-more : (layers : List Layer) (low high : ℕ) → low ≤ high → Takes layers low → Takes layers high
takes-more [] low high h t = tt
takes-more (SignLayer sign ∷ layers) low high h t = omega arith
takes-more (PairLayer operator left ∷ layers) low high h t = omega arith
takes-more (OpenLayer ∷ layers) low high h t = tt
takes-more (SubscriptLayer asked symbol others ∷ layers) low high h t = tt

-- the text stays
pub fold-spelled : (floor : ℕ) (tree : Tree) (layers : List Layer) (after : List Piece) →
    under (fold floor tree layers).layers (spell (fold floor tree layers).tree after) ≡ under layers (spell tree after)
fold-spelled floor tree [] after = refl
fold-spelled floor tree (SignLayer sign ∷ layers) after = fold-spelled floor (Signed sign tree) layers after
fold-spelled floor tree (PairLayer operator left ∷ layers) after =
    let otherwise : Folded = record { tree = tree; layers = PairLayer operator left ∷ layers } in
    elim (nat_le floor (strength operator)) as
    (λ b. under (if b then fold floor (Pair operator left tree) layers else otherwise).layers (spell (if b then fold floor (Pair operator left tree) layers else otherwise).tree after)
    ≡ under layers (spell (Pair operator left tree) after))
    [ true ↦ fold-spelled floor (Pair operator left tree) layers after | false ↦ refl ]
fold-spelled floor tree (OpenLayer ∷ layers) after = refl
fold-spelled floor tree (SubscriptLayer asked symbol others ∷ layers) after = refl

-- the size stays
pub fold-size : (floor : ℕ) (tree : Tree) (layers : List Layer) →
    layers_size (fold floor tree layers).layers + size (fold floor tree layers).tree ≡ layers_size layers + size tree
fold-size floor tree [] = refl
fold-size floor tree (SignLayer sign ∷ layers) = omega (arith, fold-size floor (Signed sign tree) layers)
fold-size floor tree (PairLayer operator left ∷ layers) =
    let otherwise : Folded = record { tree = tree; layers = PairLayer operator left ∷ layers } in
    elim (nat_le floor (strength operator)) as
    (λ b. layers_size (if b then fold floor (Pair operator left tree) layers else otherwise).layers + size (if b then fold floor (Pair operator left tree) layers else otherwise).tree
    ≡ size left + 1 + layers_size layers + size tree)
    [ true ↦ omega (arith, fold-size floor (Pair operator left tree) layers) | false ↦ refl ]
fold-size floor tree (OpenLayer ∷ layers) = refl
fold-size floor tree (SubscriptLayer asked symbol others ∷ layers) = refl

-- what is left is well formed, and takes an operator of the strength of the floor
pub record IsFolded (g : Grammar) (floor : ℕ) (folded : Folded) : Type 0 where
  pub fits : IsOf g folded.tree
  pub high : floor ≤ rank folded.tree
  pub takes : Takes folded.layers floor
  pub layers : AreLayers g folded.layers

mutual
  pub fold-stands : (g : Grammar) (floor : ℕ) (tree : Tree) (layers : List Layer) → floor ≤ rank tree →
      IsOf g tree → Takes layers (rank tree) → AreLayers g layers → IsFolded g floor (fold floor tree layers)
  fold-stands g floor tree [] h i t a = record { fits = i; high = h; takes = tt; layers = a }
  fold-stands g floor tree (SignLayer sign ∷ layers) h i t a =
      fold-stands g floor (Signed sign tree) layers (omega (arith, rank-most tree)) (i, t) (takes-most layers) a
  fold-stands g floor tree (PairLayer operator left ∷ layers) h i t a =
      let otherwise : Folded = record { tree = tree; layers = PairLayer operator left ∷ layers } in
      let go : (b : Bool) → nat_le floor (strength operator) ≡ b → IsFolded g floor (if b then fold floor (Pair operator left tree) layers else otherwise) =
      elim [
        | true ↦ λ e. fold-stands g floor (Pair operator left tree) layers (grind (arith, nat_tests)) (a.0, i, a.1, t) a.2 a.3
        | false ↦ λ e. record { fits = i; high = h; takes = grind (arith, nat_tests); layers = a }
      ] in
      go (nat_le floor (strength operator)) refl
  fold-stands g floor tree (OpenLayer ∷ layers) h i t a = record { fits = i; high = h; takes = tt; layers = a }
  fold-stands g floor tree (SubscriptLayer asked symbol others ∷ layers) h i t a = record { fits = i; high = h; takes = tt; layers = a }
