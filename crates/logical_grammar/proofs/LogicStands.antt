-- What the reader of logical expressions does behind a whole operand.
use Rattle.std.proofs.Common.{◌≡◌, Bool, false, List, [], ◌∷◌, refl, sym, ap, ◌∙◌, subst}
use Rattle.std.specs.Prelude.{Option, Some, None, option_map, if◌then◌else◌}
use Rattle.std.specs.Char.{to_ascii_uppercase}
use Rattle.expression_grammar.specs.declared.character.Grammar.TheVariants.{Arithmetic}
use Rattle.expression_grammar.specs.declared.character.Kind.TheVariants as kind
use Rattle.expression_grammar.specs.Characters.{kind_of}
use Rattle.expression_grammar.specs.Spelling.{Placed, IsGap}
use Rattle.expression_grammar.specs.Trees.{Tree, Paren}
use Rattle.expression_grammar.specs.Reading as reading
use Rattle.expression_grammar.specs.Reading.{State, Have}
use Rattle.logical_grammar.specs.Logics.{touches_behind}
use Rattle.logical_grammar.specs.LogicReading.{Open, OpenRelation, Point, Number, BehindText, Closed, BehindTruth, at_point, Operand, NumberOne, TruthOne, TextOne, number_side, settled, closing, lettered, behind_one, behind, on_number, after_closed, point_step, logic_run}
use Rattle.logical_grammar.proofs.LogicLaws.{point-steps, kind-apart, gap-apart}
use Rattle.logical_grammar.proofs.LogicTouches.{Shows, close-none, letter-none}

-- A whole operand stands at a point; `touch` says whether its last character is a symbol character.
pub record Standing (point : Point) (touch : Bool) (operand : Operand) : Type 0 where
  pub settles : settled point ≡ Some operand
  pub closes : (p : Placed) (layers : List Open) → kind_of p.code ≡ kind.Close → point_step point p layers ≡ closing operand layers
  pub spells : touch ≡ false → (p : Placed) (layers : List Open) → kind_of p.code ≡ kind.Letter → point_step point p layers ≡ lettered operand (to_ascii_uppercase p.code) layers

pub behind-close : (found : Option Operand) (operand : Operand) (touch : Bool) (p : Placed) (layers : List Open) → found ≡ Some operand → kind_of p.code ≡ kind.Close →
    behind found touch p layers ≡ closing operand layers
behind-close found operand touch p layers f e = ap (λ x. behind x touch p layers) f ∙ ap (λ k. behind_one operand touch k p.code layers) e

pub behind-letter : (found : Option Operand) (operand : Operand) (touch : Bool) (p : Placed) (layers : List Open) → found ≡ Some operand → touch ≡ false → kind_of p.code ≡ kind.Letter →
    behind found touch p layers ≡ lettered operand (to_ascii_uppercase p.code) layers
behind-letter found operand touch p layers f t e =
    ap (λ x. behind x touch p layers) f ∙ ap (λ k. behind_one operand touch k p.code layers) e ∙ ap (λ b. if b then None else lettered operand (to_ascii_uppercase p.code) layers) t

pub number-stands : (relation : Option OpenRelation) (inner : State) (touch : Bool) (tree : Tree) → reading.accept Arithmetic inner ≡ Some tree → Shows inner touch →
    Standing (Number relation inner touch) touch (number_side relation tree)
number-stands relation inner touch tree a s =
    let settles : settled (Number relation inner touch) ≡ Some (number_side relation tree) = ap (option_map (number_side relation)) a in
    record {
      settles = settles;
      closes = λ p layers e.
          ap (λ x. on_number relation x (settled (Number relation inner touch)) touch p layers) (close-none inner tree p a e)
          ∙ behind-close (settled (Number relation inner touch)) (number_side relation tree) touch p layers settles e;
      spells = λ t p layers e.
          ap (λ x. on_number relation x (settled (Number relation inner touch)) touch p layers) (letter-none inner tree p a (subst (Shows inner) t s) e)
          ∙ behind-letter (settled (Number relation inner touch)) (number_side relation tree) touch p layers settles t e;
    }

paren-accepts : (inner : Tree) → reading.accept Arithmetic (Have (Paren inner) []) ≡ Some (Paren inner)
unfolding reading.accept
paren-accepts inner = refl

pub closed-stands : (inner : Tree) → Standing (Closed inner) false (NumberOne (Paren inner))
closed-stands inner =
    record {
      settles = refl;
      closes = λ p layers e.
          ap (λ k. after_closed inner k p layers) e
          ∙ ap (λ x. on_number None x (Some (NumberOne (Paren inner))) false p layers) (close-none (Have (Paren inner) []) (Paren inner) p (paren-accepts inner) e)
          ∙ behind-close (Some (NumberOne (Paren inner))) (NumberOne (Paren inner)) false p layers refl e;
      spells = λ t p layers e.
          ap (λ k. after_closed inner k p layers) e
          ∙ ap (λ x. on_number None x (Some (NumberOne (Paren inner))) false p layers) (letter-none (Have (Paren inner) []) (Paren inner) p (paren-accepts inner) tt e)
          ∙ behind-letter (Some (NumberOne (Paren inner))) (NumberOne (Paren inner)) false p layers refl refl e;
    }

pub behind-text-stands : (tree : Tree) → Standing (BehindText tree) false (TextOne tree)
behind-text-stands tree =
    record {
      settles = refl;
      closes = λ p layers e. behind-close (Some (TextOne tree)) (TextOne tree) false p layers refl e;
      spells = λ t p layers e. behind-letter (Some (TextOne tree)) (TextOne tree) false p layers refl refl e;
    }

pub behind-truth-stands : (tree : Tree) → Standing (BehindTruth tree) false (TruthOne tree)
behind-truth-stands tree =
    record {
      settles = refl;
      closes = λ p layers e. behind-close (Some (TruthOne tree)) (TruthOne tree) false p layers refl e;
      spells = λ t p layers e. behind-letter (Some (TruthOne tree)) (TruthOne tree) false p layers refl refl e;
    }

pub behind-text-blank : (tree : Tree) (p : Placed) (layers : List Open) → kind_of p.code ≡ kind.Blank → point_step (BehindText tree) p layers ≡ Some (at_point layers (BehindText tree))
behind-text-blank tree p layers e = ap (λ k. behind_one (TextOne tree) false k p.code layers) e

pub behind-truth-blank : (tree : Tree) (p : Placed) (layers : List Open) → kind_of p.code ≡ kind.Blank → point_step (BehindTruth tree) p layers ≡ Some (at_point layers (BehindTruth tree))
behind-truth-blank tree p layers e = ap (λ k. behind_one (TruthOne tree) false k p.code layers) e

-- Blanks behind an operand that eats none.

-- a text leads to a point where an operand stands, and leaves what is open
pub record OperandLead (from : Point) (layers : List Open) (operand : Operand) (before : Bool) (text : List Placed) : Type 0 where
  pub last : Point
  pub runs : logic_run (at_point layers from) text ≡ Some (at_point layers last)
  pub stands : Standing last (touches_behind before text) operand

gap-stays : (layers : List Open) (point : Point) → ((p : Placed) → kind_of p.code ≡ kind.Blank → point_step point p layers ≡ Some (at_point layers point)) →
    (gap : List Placed) → IsGap Arithmetic gap → logic_run (at_point layers point) gap ≡ Some (at_point layers point)
gap-stays layers point stays [] i = refl
gap-stays layers point stays (p ∷ gap) i = point-steps point layers (at_point layers point) p gap (stays p i.1) ∙ gap-stays layers point stays gap i.2

pub gap-behind : (layers : List Open) (point behind_it : Point) (operand : Operand) (touch : Bool) → Standing point touch operand → Standing behind_it false operand →
    ((p : Placed) → kind_of p.code ≡ kind.Blank → point_step point p layers ≡ Some (at_point layers behind_it)) →
    ((p : Placed) → kind_of p.code ≡ kind.Blank → point_step behind_it p layers ≡ Some (at_point layers behind_it)) →
    (gap : List Placed) → IsGap Arithmetic gap → OperandLead point layers operand touch gap
gap-behind layers point behind_it operand touch s t goes stays [] i = record { last = point; runs = refl; stands = s }
gap-behind layers point behind_it operand touch s t goes stays (p ∷ gap) i =
    record {
      last = behind_it;
      runs = point-steps point layers (at_point layers behind_it) p gap (goes p i.1) ∙ gap-stays layers behind_it stays gap i.2;
      stands = subst (λ b. Standing behind_it b operand) (sym (ap (λ b. touches_behind b gap) (kind-apart p.code kind.Blank i.1 refl) ∙ gap-apart gap i.2)) t;
    }
