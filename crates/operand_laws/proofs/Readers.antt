-- What the readers of expressions say of a text, as facts of its parts.
use Rattle.std.proofs.Common.{◌≡◌, ◌∙◌, ℕ, ◌<◌, ◌≤◌, List, ◌∷◌, ◌++◌, length, take, refl, sym, ap, subst}
use Rattle.std.specs.Prelude.{Some, None, Result, Ok, Err, slice_index}
use Rattle.std.proofs.Common.{get_or}
use Rattle.expression_grammar.specs.declared.character.Grammar.TheVariants.{Ordinary}
use Rattle.expression_grammar.specs.Fronts.{IsClosed, IsFirst, IsNoFront}
use Rattle.expression_grammar.specs.Readings.{Front, read, read_front}
use Rattle.expression_grammar.specs.Spelling.{Spells, IsExpression, IsViable, IsAt, most_parts}
use Rattle.expression_grammar.specs.Trees.{Tree}
use Rattle.expression_grammar.proofs.Finds.{one-tree, take-all}
use Rattle.expression_grammar.proofs.FrontLaws.{read-finds, read_front-finds}
use Rattle.expression_grammar.proofs.ReadLaws.{read-tree, read-fault, front-tree, front-fault, one-closed}
use Rattle.std.proofs.Math.Seq.{get_or-append_seam}
use Rattle.constant_grammar.specs.Elements.{tree_in}
use Rattle.operand_laws.specs.Right.{IsOrdinary}
use Rattle.operand_laws.proofs.Lists.{IsCut, cut}

pub read_ok : (text : List ℕ) (tree : Tree) → read Ordinary text ≡ Ok tree → IsOrdinary text
read_ok text tree e = record {
  tree = tree;
  expression = (read-tree (Spells Ordinary) text (read Ordinary text) (read-finds Ordinary text) (one-tree Ordinary) tree).0 e;
}

pub read_err : (text : List ℕ) (at : ℕ) → read Ordinary text ≡ Err at → IsAt (Spells Ordinary) most_parts text at
read_err text at e = (read-fault (Spells Ordinary) text (read Ordinary text) (read-finds Ordinary text) at).0 e

-- an expression is read
pub tree_some : (text : List ℕ) → IsOrdinary text → tree_in (read Ordinary text) ≡ None → ⊥
tree_some text o none =
    let is : read Ordinary text ≡ Ok o.tree =
    (read-tree (Spells Ordinary) text (read Ordinary text) (read-finds Ordinary text) (one-tree Ordinary) o.tree).1 o.expression in
    let some : tree_in (read Ordinary text) ≡ Some o.tree = ap tree_in is in
    let never : Some o.tree ≡ None = sym some ∙ none in cc

tree-by : (text : List ℕ) (tree : Tree) (found : Result Tree ℕ) → read Ordinary text ≡ found → tree_in found ≡ Some tree → IsOrdinary text
tree-by text tree (Ok other) e some = read_ok text other e
tree-by text tree (Err at) e some = cc

pub tree_there : (text : List ℕ) (tree : Tree) → tree_in (read Ordinary text) ≡ Some tree → IsOrdinary text
tree_there text tree some = tree-by text tree (read Ordinary text) refl some

-- the character behind a front
seam : (text d z : List ℕ) → text ≡ d ++ 41 ∷ z → slice_index text (length d) ≡ 41
seam text d z is = ap (λ (xs : List ℕ). get_or xs (length d) 0) is ∙ get_or-append_seam d 41 z 0

-- a text that is read before a closing parenthesis
pub record IsClosedFront (text : List ℕ) (before : ℕ) : Type 0 where
  pub front : IsOrdinary (take before text)
  pub cut : IsCut text before 41

pub front_ok : (text : List ℕ) (found : Front) → read_front Ordinary text ≡ Ok found → IsClosedFront text found.before
front_ok text found e =
    let first : IsFirst (IsClosed (Spells Ordinary) text) found.before found.tree =
    (front-tree (Spells Ordinary) (IsClosed (Spells Ordinary) text) text (read_front Ordinary text) (read_front-finds Ordinary text)
    (one-closed (Spells Ordinary) text (one-tree Ordinary)) found).0 e in
    record {
      front = record { tree = found.tree; expression = first.here.within };
      cut = cut text found.before first.here.closes;
    }

-- one that is not
pub record IsOpenFront (text : List ℕ) (at : ℕ) : Type 0 where
  pub within : at ≤ length text
  pub begun : IsViable (Spells Ordinary) most_parts (take at text)
  pub longest : (more : ℕ) → at < more → more ≤ length text → IsViable (Spells Ordinary) most_parts (take more text) → ⊥
  pub never : (d z : List ℕ) → text ≡ d ++ 41 ∷ z → IsOrdinary d → ⊥

pub front_err : (text : List ℕ) (at : ℕ) → read_front Ordinary text ≡ Err at → IsOpenFront text at
front_err text at e =
    let none : IsNoFront (Spells Ordinary) (IsClosed (Spells Ordinary) text) text at =
    (front-fault (Spells Ordinary) (IsClosed (Spells Ordinary) text) text (read_front Ordinary text) (read_front-finds Ordinary text) at).0 e in
    let reach = none.reach in
    record {
      within = reach.within;
      begun = reach.viable;
      longest = reach.longest;
      never = λ d z is o. none.never (length d) o.tree (record {
        closes = seam text d z is;
        within = subst (λ (xs : List ℕ). IsExpression (Spells Ordinary) most_parts xs o.tree)
            (sym (ap (take (length d)) is ∙ take-all d (41 ∷ z))) o.expression;
      });
    }
