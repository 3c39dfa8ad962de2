-- The pieces of a tree, and of the layers, before other pieces.
use Rattle.std.proofs.Common.{◌≡◌, ℕ, List, [], ◌∷◌, ◌++◌, refl, ap, ◌∙◌}
use Rattle.expression_grammar.specs.declared.character.Kind.TheVariants as kind
use Rattle.expression_grammar.specs.declared.tree.Form.{Form}
use Rattle.expression_grammar.specs.declared.tree.Form.TheVariants.{Decimal, Hexadecimal, Binary, Character}
use Rattle.expression_grammar.specs.declared.tree.Reference.{Reference}
use Rattle.expression_grammar.specs.declared.tree.Reference.TheVariants.{Value, Of}
use Rattle.expression_grammar.specs.declared.tree.Symbol.{Symbol}
use Rattle.expression_grammar.specs.Characters.{mark_of}
use Rattle.expression_grammar.specs.Trees.{Tree, Trees, Number, Here, Ordinary, Variable, Signed, Pair, Paren, NoTrees, More}
use Rattle.expression_grammar.specs.Spelling.{Piece, Gap, One, Sigil, Letters, Word, spell, spell_subscripts, begin_subscripts, number_spelled, asked_spelled, variable_spelled}
use Rattle.expression_grammar.specs.Reading.{Layer, SignLayer, PairLayer, OpenLayer, SubscriptLayer, under}

pub number_spelled-over : (form : Form) (bits : ℕ) (ks js : List Piece) → number_spelled form bits (ks ++ js) ≡ number_spelled form bits ks ++ js
number_spelled-over Decimal bits ks js = refl
number_spelled-over Hexadecimal bits ks js = refl
number_spelled-over Binary bits ks js = refl
number_spelled-over Character bits ks js = refl

pub asked_spelled-over : (asked : Reference) (ks js : List Piece) → asked_spelled asked (ks ++ js) ≡ asked_spelled asked ks ++ js
asked_spelled-over Value ks js = refl
asked_spelled-over (Of asked) ks js = refl

pub variable_spelled-over : (asked : Reference) (symbol : Symbol) (ks js : List Piece) → variable_spelled asked symbol (ks ++ js) ≡ variable_spelled asked symbol ks ++ js
variable_spelled-over asked symbol ks js = asked_spelled-over asked (Sigil symbol.at ∷ Letters symbol.name ∷ ks) js

mutual
  pub spell-over : (tree : Tree) (ks js : List Piece) → spell tree (ks ++ js) ≡ spell tree ks ++ js
  spell-over (Number form bits) ks js = number_spelled-over form bits ks js
  spell-over Here ks js = refl
  spell-over (Ordinary asked symbol) ks js = asked_spelled-over asked (Word symbol.at symbol.name ∷ ks) js
  spell-over (Variable asked symbol subscripts) ks js =
      ap (variable_spelled asked symbol) (spell_subscripts-over subscripts ks js) ∙ variable_spelled-over asked symbol (spell_subscripts subscripts ks) js
  spell-over (Signed sign operand) ks js = ap (λ xs. One (kind.Mark (mark_of sign)) ∷ Gap ∷ xs) (spell-over operand ks js)
  spell-over (Pair operator left right) ks js =
      ap (λ xs. spell left (Gap ∷ One (kind.Mark operator) ∷ Gap ∷ xs)) (spell-over right ks js)
      ∙ spell-over left (Gap ∷ One (kind.Mark operator) ∷ Gap ∷ spell right ks) js
  spell-over (Paren inner) ks js = ap (λ xs. One kind.Open ∷ Gap ∷ xs) (spell-over inner (Gap ∷ One kind.Close ∷ ks) js)
  spell-over _ ks js = refl

  pub spell_subscripts-over : (trees : Trees) (ks js : List Piece) → spell_subscripts trees (ks ++ js) ≡ spell_subscripts trees ks ++ js
  spell_subscripts-over NoTrees ks js = refl
  spell_subscripts-over (More others last) ks js =
      ap (λ xs. begin_subscripts others (Gap ∷ xs)) (spell-over last (Gap ∷ One kind.Close ∷ ks) js)
      ∙ begin_subscripts-over others (Gap ∷ spell last (Gap ∷ One kind.Close ∷ ks)) js

  pub begin_subscripts-over : (trees : Trees) (ks js : List Piece) → begin_subscripts trees (ks ++ js) ≡ begin_subscripts trees ks ++ js
  begin_subscripts-over NoTrees ks js = refl
  begin_subscripts-over (More others last) ks js =
      ap (λ xs. begin_subscripts others (Gap ∷ xs)) (spell-over last (Gap ∷ One kind.Comma ∷ ks) js)
      ∙ begin_subscripts-over others (Gap ∷ spell last (Gap ∷ One kind.Comma ∷ ks)) js

pub under-over : (layers : List Layer) (ks js : List Piece) → under layers (ks ++ js) ≡ under layers ks ++ js
under-over [] ks js = refl
under-over (SignLayer sign ∷ layers) ks js = under-over layers (One (kind.Mark (mark_of sign)) ∷ Gap ∷ ks) js
under-over (PairLayer operator left ∷ layers) ks js =
    ap (under layers) (spell-over left (Gap ∷ One (kind.Mark operator) ∷ Gap ∷ ks) js)
    ∙ under-over layers (spell left (Gap ∷ One (kind.Mark operator) ∷ Gap ∷ ks)) js
under-over (OpenLayer ∷ layers) ks js = under-over layers (One kind.Open ∷ Gap ∷ ks) js
under-over (SubscriptLayer asked symbol others ∷ layers) ks js =
    ap (λ xs. under layers (variable_spelled asked symbol xs)) (begin_subscripts-over others (Gap ∷ ks) js)
    ∙ ap (under layers) (variable_spelled-over asked symbol (begin_subscripts others (Gap ∷ ks)) js)
    ∙ under-over layers (variable_spelled asked symbol (begin_subscripts others (Gap ∷ ks))) js

-- where an operand is wanted a gap stands last
pub record EndsInGap (ks : List Piece) : Type 0 where
  pub before : List Piece
  pub both : ks ≡ before ++ Gap ∷ []

pub under-ends : (layers : List Layer) → EndsInGap (under layers [])
under-ends [] = record { before = []; both = refl }
under-ends (SignLayer sign ∷ layers) =
    record { before = under layers (One (kind.Mark (mark_of sign)) ∷ []); both = under-over layers (One (kind.Mark (mark_of sign)) ∷ []) (Gap ∷ []) }
under-ends (PairLayer operator left ∷ layers) =
    record {
      before = under layers (spell left (Gap ∷ One (kind.Mark operator) ∷ []));
      both = ap (under layers) (spell-over left (Gap ∷ One (kind.Mark operator) ∷ []) (Gap ∷ [])) ∙ under-over layers (spell left (Gap ∷ One (kind.Mark operator) ∷ [])) (Gap ∷ []);
    }
under-ends (OpenLayer ∷ layers) = record { before = under layers (One kind.Open ∷ []); both = under-over layers (One kind.Open ∷ []) (Gap ∷ []) }
under-ends (SubscriptLayer asked symbol others ∷ layers) =
    record {
      before = under layers (variable_spelled asked symbol (begin_subscripts others []));
      both = ap (λ xs. under layers (variable_spelled asked symbol xs)) (begin_subscripts-over others [] (Gap ∷ []))
          ∙ ap (under layers) (variable_spelled-over asked symbol (begin_subscripts others []) (Gap ∷ []))
          ∙ under-over layers (variable_spelled asked symbol (begin_subscripts others [])) (Gap ∷ []);
    }
