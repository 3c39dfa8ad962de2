-- The moves of the reader of logical expressions, put together.
use Rattle.std.proofs.Common.{◌≡◌, ℕ, ◌+◌, ◌-◌, ◌<◌, ◌≤◌, Bool, true, false, List, [], ◌∷◌, ◌++◌, ◌*◌, refl, sym, ap, ◌∙◌, subst, arith}
use Rattle.std.specs.Prelude.{length, Option, Some, None, is_some, not, nat_le, nat_lt, ◌==◌, ◌&&◌, option_and_then, option_map, if◌then◌else◌}
use Rattle.std.specs.Char.{digit_value, to_ascii_uppercase}
use Rattle.std.proofs.lemmas.Bool.Decides.{nat_tests}
use Rattle.hl_base.specs.Symbols.{is_symbol_character}
use Rattle.expression_grammar.specs.declared.character.Grammar.TheVariants.{Arithmetic}
use Rattle.expression_grammar.specs.declared.character.Kind.{Kind}
use Rattle.expression_grammar.specs.declared.character.Kind.TheVariants as kind
use Rattle.expression_grammar.specs.declared.tree.Form.TheVariants.{Decimal, Hexadecimal, Binary, Character}
use Rattle.expression_grammar.specs.declared.part.Part.{Part}
use Rattle.expression_grammar.specs.declared.part.Part.TheVariants.{Figures, Body, BodyQuote, BodyAmpersand, Asked, Sigil, Word, Property, Named}
use Rattle.expression_grammar.specs.declared.part.Move.{Move}
use Rattle.expression_grammar.specs.declared.part.Move.TheVariants.{To, Over}
use Rattle.expression_grammar.specs.declared.pending.Pending.{Pending}
use Rattle.expression_grammar.specs.declared.pending.Point.{Point}
use Rattle.expression_grammar.specs.declared.pending.Point.TheVariants as inner
use Rattle.character_grammar.specs.declared.text_point.TextPoint.{TextPoint}
use Rattle.character_grammar.specs.declared.text_point.TextPoint.TheVariants as text
use Rattle.character_grammar.specs.declared.text_point.Holder.{Holder}
use Rattle.character_grammar.specs.declared.text_point.Holder.TheVariants as holder
use Rattle.expression_grammar.specs.declared.reader.Moved.{Moved}
use Rattle.logical_grammar.specs.declared.logic_point.LogicMoved.{LogicMoved}
use Rattle.logical_grammar.specs.declared.logic_point.LogicPoint.TheVariants as logic_point
use Rattle.logical_grammar.specs.declared.logic_point.Opening.{Opening}
use Rattle.expression_grammar.specs.declared.tree.Expr.{Expr}
use Rattle.expression_grammar.specs.declared.tree.Operator.{Operator}
use Rattle.expression_grammar.specs.Characters.{kind_of, strength}
use Rattle.expression_grammar.specs.Spelling.{Placed, is_figure, most_parts}
use Rattle.expression_grammar.specs.Parts.{after, after_figures, after_quote, after_property, after_named, close_figures, finish, has_room, lengthen, symbol_at}
use Rattle.expression_grammar.specs.Trees.{Tree, Items, NoItems, NoTrees, Paren, Quoted, size}
use Rattle.expression_grammar.specs.Moves.{Moves}
use Rattle.expression_grammar.specs.Reading as reading
use Rattle.expression_grammar.specs.Reading.{Layer, State, Have, Within, Folded, fold, closed, behind, moved, ended, settled, whole, step, accept, weight, layers_size}
use Rattle.expression_grammar.specs.Stacks.{stack_of, stand}
use Rattle.expression_grammar.specs.Views.{tree_of, items_in}
use Rattle.character_grammar.specs.TextReading as texts
use Rattle.character_grammar.specs.TextReading.{TextState, text_step, text_accept, text_weight, after_part}
use Rattle.character_grammar.specs.TextViews.{text_state, holder_of, left_of, opened_of}
use Rattle.logical_grammar.specs.LogicReading as logic
use Rattle.logical_grammar.specs.LogicReading.{Open, LogicState, OpenRelation, Operand, NumberOne, TruthOne, TextOne, number_side, text_side, on_number, on_text, behind_one, point_step, relation_size, text_relation_size, open_size, grouped, pushed, logic_fold, whole_over, LogicFolded, at_point, logic_step, logic_weight, logic_kept, logic_advance}
use Rattle.logical_grammar.specs.LogicViews.{LogicMoves, ends_number, closes_number, takes_letter, part_takes_letter, may_end_text, text_takes_letter, operand_weight, point_of, opening_of, open_of}
use Rattle.expression_grammar.proofs.CharacterLaws.{digit-kind}
use Rattle.expression_grammar.proofs.Completions.{if-true}
use Rattle.expression_grammar.proofs.Leads.{IsAtTree, as_tree, as_part, step-behind}
use Rattle.expression_grammar.proofs.MoveLaws.{open_whole}
use Rattle.logical_grammar.proofs.LogicWeights.{logic_fold-size}
use Rattle.character_grammar.proofs.TextMoveLaws.{accept-none, accept-some, fold-again}

pub LogicMoves-same : (found other : Option LogicState) (before same : ℕ) (moved : Option LogicMoved) (layers : List Open) → found ≡ other → before ≡ same →
    LogicMoves other same moved layers → LogicMoves found before moved layers
LogicMoves-same found other before same moved layers e f m =
    subst (λ x. LogicMoves x before moved layers) (sym e) (subst (λ n. LogicMoves other n moved layers) (sym f) m)

-- Sizes of operands.

pub number_side-weight : (relation : Option OpenRelation) (tree : Tree) → operand_weight (number_side relation tree) ≡ relation_size relation + size tree
number_side-weight None tree = omega arith
number_side-weight (Some relation) tree = omega arith

pub text_side-weight : (relation : Option OpenRelation) (tree : Tree) → operand_weight (text_side relation tree) ≡ text_relation_size relation + size tree
text_side-weight None tree = omega arith
text_side-weight (Some relation) tree = omega arith

-- Numbers.

-- only a blank, a parenthesis and a letter stand behind an operand
abbrev MayFollow : Kind → Bool
MayFollow kind.Blank = true
MayFollow kind.Close = true
MayFollow kind.Letter = true
MayFollow _ = false

none-behind : (operand : Operand) (touch : Bool) (k : Kind) (c : ℕ) (layers : List Open) → MayFollow k ≡ false → behind_one operand touch k c layers ≡ None
none-behind operand touch kind.Blank c layers e = cc
none-behind operand touch kind.Close c layers e = cc
none-behind operand touch kind.Letter c layers e = cc
none-behind operand touch _ c layers e = refl

-- where a number may end, a tree is there
part-settled : (found : Option Tree) (tree : Tree) (layers : List Layer) → option_and_then whole (option_map (λ t. fold 0 t layers) found) ≡ Some tree → is_some found ≡ true
part-settled None tree layers e = cc
part-settled (Some one) tree layers e = refl

record IsAtSome (state : State) : Type 0 where
  tree : Tree
  layers : List Layer
  at : IsAtTree Arithmetic state tree layers

at-part : (part : Part) (layers : List Layer) (found : Option Tree) → finish Arithmetic part ≡ found → is_some found ≡ true → IsAtSome (Within part layers)
at-part part layers None e f = cc
at-part part layers (Some tree) e f = record { tree = tree; layers = layers; at = as_part part refl e }

accepted-at : (state : State) (tree : Tree) → accept Arithmetic state ≡ Some tree → IsAtSome state
unfolding accept
accepted-at (reading.Want layers) tree e = cc
accepted-at (Have one layers) tree e = record { tree = one; layers = layers; at = as_tree refl }
accepted-at (Within part layers) tree e = at-part part layers (finish Arithmetic part) refl (part-settled (finish Arithmetic part) tree layers e)

blank-goes_on : (state : State) (tree : Tree) (p : Placed) → kind_of p.code ≡ kind.Blank → accept Arithmetic state ≡ Some tree → step Arithmetic state p ≡ None → ⊥
blank-goes_on state tree p k e n =
    let a = accepted-at state tree e in
    let s = step-behind Arithmetic state a.tree a.layers p kind.Blank tt k a.at in cc

-- a symbol that has room takes a letter
lengthens : (make : List ℕ → Part) (name : List ℕ) (c : ℕ) → nat_lt (length name) 63 ≡ true → lengthen make name c ≡ To (make (name ++ to_ascii_uppercase c ∷ []))
lengthens make name c e = if-true (nat_lt (length name) 63) (To (make (name ++ to_ascii_uppercase c ∷ []))) (Over (make name)) e

part-goes_on : (part : Part) (layers : List Layer) (p : Placed) → kind_of p.code ≡ kind.Letter → part_takes_letter part ≡ true → step Arithmetic (Within part layers) p ≡ None → ⊥
unfolding step after
part-goes_on (Property asked place name) layers p k t n =
    let s : step Arithmetic (Within (Property asked place name) layers) p ≡ Some (Within (Property asked place (name ++ to_ascii_uppercase p.code ∷ [])) layers) =
    ap (λ x. moved Arithmetic (after_property x asked place name p.code) (kind_of p.code) layers) k
    ∙ ap (λ m. moved Arithmetic m (kind_of p.code) layers) (lengthens (Property asked place) name p.code t) in cc
part-goes_on (Named asked place name) layers p k t n =
    let s : step Arithmetic (Within (Named asked place name) layers) p ≡ Some (Within (Named asked place (name ++ to_ascii_uppercase p.code ∷ [])) layers) =
    ap (λ x. moved Arithmetic (after_named x asked place name p.code) (kind_of p.code) layers) k
    ∙ ap (λ m. moved Arithmetic m (kind_of p.code) layers) (lengthens (Named asked place) name p.code t) in cc
part-goes_on _ layers p k t n = cc

letter-goes_on : (at : Point) (layers : List Layer) (p : Placed) → kind_of p.code ≡ kind.Letter → takes_letter at ≡ true → step Arithmetic (stand at layers) p ≡ None → ⊥
letter-goes_on inner.Want layers p k t n = cc
letter-goes_on (inner.Have tree) layers p k t n = cc
letter-goes_on (inner.Within part) layers p k t n = part-goes_on part layers p k t n

not-true : (b : Bool) → not b ≡ true → b ≡ false
not-true true e = cc
not-true false e = refl

not-false : (b : Bool) → not b ≡ false → b ≡ true
not-false true e = refl
not-false false e = cc

-- behind a number that no character ends there, nothing stands that does not belong to it
stays-within : (relation : Option OpenRelation) (at : Point) (ls : List Layer) (touch : Bool) (p : Placed) (layers : List Open) (k : Kind) (found : Option Tree) → kind_of p.code ≡ k →
    accept Arithmetic (stand at ls) ≡ found → ends_number at k ≡ false → step Arithmetic (stand at ls) p ≡ None →
    logic.behind (option_map (number_side relation) found) touch p layers ≡ None
stays-within relation at ls touch p layers k None e a n s = refl
stays-within relation at ls touch p layers kind.Blank (Some tree) e a n s = absurd (blank-goes_on (stand at ls) tree p e a s)
stays-within relation at ls touch p layers kind.Close (Some tree) e a n s = cc
stays-within relation at ls touch p layers kind.Letter (Some tree) e a n s = absurd (letter-goes_on at ls p e (not-false (takes_letter at) n) s)
stays-within relation at ls touch p layers (kind.Mark o) (Some tree) e a n s = ap (λ x. behind_one (number_side relation tree) touch x p.code layers) e
stays-within relation at ls touch p layers kind.Open (Some tree) e a n s = ap (λ x. behind_one (number_side relation tree) touch x p.code layers) e
stays-within relation at ls touch p layers kind.Comma (Some tree) e a n s = ap (λ x. behind_one (number_side relation tree) touch x p.code layers) e
stays-within relation at ls touch p layers kind.Quote (Some tree) e a n s = ap (λ x. behind_one (number_side relation tree) touch x p.code layers) e
stays-within relation at ls touch p layers kind.Ampersand (Some tree) e a n s = ap (λ x. behind_one (number_side relation tree) touch x p.code layers) e
stays-within relation at ls touch p layers kind.Digit (Some tree) e a n s = ap (λ x. behind_one (number_side relation tree) touch x p.code layers) e
stays-within relation at ls touch p layers kind.Other (Some tree) e a n s = ap (λ x. behind_one (number_side relation tree) touch x p.code layers) e

pub within_number : (relation : Option OpenRelation) (at : Point) (ls : List Layer) (touch : Bool) (p : Placed) (layers : List Open) → ends_number at (kind_of p.code) ≡ false →
    point_step (logic.Number relation (stand at ls) touch) p layers ≡ on_number relation (step Arithmetic (stand at ls) p) None false p layers
within_number relation at ls touch p layers n =
    let go : (found : Option State) → step Arithmetic (stand at ls) p ≡ found →
    on_number relation found (option_map (number_side relation) (accept Arithmetic (stand at ls))) touch p layers ≡ on_number relation found None false p layers =
    elim [
      | None ↦ λ e. stays-within relation at ls touch p layers (kind_of p.code) (accept Arithmetic (stand at ls)) refl refl n e
      | Some next ↦ λ e. refl
    ] in
    go (step Arithmetic (stand at ls) p) refl

-- a number that cannot end has nothing behind it
unsettled : (relation : Option OpenRelation) (found : Option State) (whole : Option Tree) (touch : Bool) (p : Placed) (layers : List Open) → whole ≡ None →
    on_number relation found (option_map (number_side relation) whole) touch p layers ≡ on_number relation found None false p layers
unsettled relation None whole touch p layers e = ap (λ w. logic.behind (option_map (number_side relation) w) touch p layers) e
unsettled relation (Some next) whole touch p layers e = refl

pub open_number : (relation : Option OpenRelation) (state other : State) (touch : Bool) (p : Placed) (layers : List Open) → settled Arithmetic state ≡ None → other ≡ state →
    point_step (logic.Number relation state touch) p layers ≡ on_number relation (step Arithmetic other p) None false p layers
open_number relation state other touch p layers e s =
    unsettled relation (step Arithmetic state p) (accept Arithmetic state) touch p layers (accept-none Arithmetic state e)
    ∙ ap (λ x. on_number relation (step Arithmetic x p) None false p layers) (sym s)

-- What ends a number.

have-letter : (tree : Tree) (ls : List Layer) (p : Placed) → kind_of p.code ≡ kind.Letter → step Arithmetic (Have tree ls) p ≡ None
unfolding step
have-letter tree ls p e = ap (λ k. behind Arithmetic k tree ls) e

if-left : {A : Type 0} (b : Bool) (x y : A) → b ≡ false → (if b then x else y) ≡ y
if-left true x y e = cc
if-left false x y e = refl

letter-decimal : (n v c : ℕ) → kind_of c ≡ kind.Letter → after_figures Decimal n v c ≡ Over (Figures Decimal n v)
letter-decimal n v c e =
    let longer : Move = To (Figures Decimal (n + 1) (v * 10 + digit_value c)) in
    let go : (b : Bool) → is_figure Decimal c ≡ b → (if b && has_room Decimal n v (digit_value c) then longer else close_figures (kind_of c) Decimal n v) ≡ Over (Figures Decimal n v) =
    elim [ true ↦ λ t. let d : kind_of c ≡ kind.Digit = digit-kind c t in cc | false ↦ λ t. ap (λ x. close_figures x Decimal n v) e ] in
    go (is_figure Decimal c) refl

letter-over : (part : Part) (p : Placed) (tree : Tree) → kind_of p.code ≡ kind.Letter → finish Arithmetic part ≡ Some tree → part_takes_letter part ≡ false → after Arithmetic part p ≡ Over part
unfolding after finish
letter-over (Figures Decimal n v) p tree k f t = letter-decimal n v p.code k
letter-over (Figures Hexadecimal n v) p tree k f t = cc
letter-over (Figures Binary n v) p tree k f t = cc
letter-over (Figures Character n v) p tree k f t = cc
letter-over (Body n v) p tree k f t = cc
letter-over (BodyQuote n v) p tree k f t = ap (λ x. after_quote x n v p.code) k
letter-over (BodyAmpersand n v) p tree k f t = cc
letter-over (Asked asked) p tree k f t = cc
letter-over (Sigil asked place) p tree k f t = cc
letter-over (Word place name) p tree k f t = cc
letter-over (Property asked place name) p tree k f t =
    ap (λ x. after_property x asked place name p.code) k
    ∙ if-left (nat_lt (length name) 63) (To (Property asked place (name ++ to_ascii_uppercase p.code ∷ []))) (Over (Property asked place name)) t
letter-over (Named asked place name) p tree k f t =
    ap (λ x. after_named x asked place name p.code) k
    ∙ if-left (nat_lt (length name) 63) (To (Named asked place (name ++ to_ascii_uppercase p.code ∷ []))) (Over (Named asked place name)) t

letter-part : (part : Part) (ls : List Layer) (p : Placed) (tree : Tree) → kind_of p.code ≡ kind.Letter → finish Arithmetic part ≡ Some tree → part_takes_letter part ≡ false →
    step Arithmetic (Within part ls) p ≡ None
unfolding step
letter-part part ls p tree k f t =
    ap (λ m. moved Arithmetic m (kind_of p.code) ls) (letter-over part p tree k f t) ∙ ap (λ x. ended Arithmetic x (kind_of p.code) ls) f ∙ ap (λ x. behind Arithmetic x tree ls) k

letter-ends : (at : Point) (tree : Tree) (ls : List Layer) (p : Placed) → kind_of p.code ≡ kind.Letter → takes_letter at ≡ false → IsAtTree Arithmetic (stand at ls) tree ls →
    step Arithmetic (stand at ls) p ≡ None
letter-ends inner.Want tree ls p k t (as_tree s) = cc
letter-ends inner.Want tree ls p k t (as_part part s f) = cc
letter-ends (inner.Have one) tree ls p k t a = have-letter (tree_of one) ls p k
letter-ends (inner.Within part) tree ls p k t (as_tree s) = cc
letter-ends (inner.Within part) tree ls p k t (as_part other s f) =
    let same : other ≡ part = cc in letter-part part ls p tree k (ap (finish Arithmetic) (sym same) ∙ f) t

end-step : (at : Point) (tree : Tree) (ls : List Layer) (p : Placed) (k : Kind) → kind_of p.code ≡ k → ends_number at k ≡ true → IsAtTree Arithmetic (stand at ls) tree ls →
    step Arithmetic (stand at ls) p ≡ step Arithmetic (Have tree ls) p
end-step at tree ls p kind.Close e n a = step-behind Arithmetic (stand at ls) tree ls p kind.Close tt e a ∙ sym (step-behind Arithmetic (Have tree ls) tree ls p kind.Close tt e (as_tree refl))
end-step at tree ls p kind.Letter e n a = letter-ends at tree ls p e (not-true (takes_letter at) n) a ∙ sym (have-letter tree ls p e)
end-step at tree ls p _ e n a = cc

at-accept : (state : State) (tree : Tree) (ls : List Layer) → IsAtTree Arithmetic state tree ls → accept Arithmetic state ≡ accept Arithmetic (Have tree ls)
unfolding accept
at-accept state tree ls (as_tree s) = ap (accept Arithmetic) s
at-accept state tree ls (as_part part s f) = ap (accept Arithmetic) s ∙ ap (λ x. option_and_then whole (option_map (λ t. fold 0 t ls) x)) f

-- a number that may end here stands as its tree
pub at_number : (relation : Option OpenRelation) (at : Point) (tree : Tree) (ls : List Layer) (touch : Bool) (p : Placed) (layers : List Open) → ends_number at (kind_of p.code) ≡ true →
    IsAtTree Arithmetic (stand at ls) tree ls → point_step (logic.Number relation (stand at ls) touch) p layers ≡ point_step (logic.Number relation (Have tree ls) touch) p layers
at_number relation at tree ls touch p layers n a =
    ap (λ x. on_number relation x (option_map (number_side relation) (accept Arithmetic (stand at ls))) touch p layers) (end-step at tree ls p (kind_of p.code) refl n a)
    ∙ ap (λ x. on_number relation (step Arithmetic (Have tree ls) p) (option_map (number_side relation) x) touch p layers) (at-accept (stand at ls) tree ls a)

pub ends-closes : (at : Point) (k : Kind) → ends_number at k ≡ true → closes_number k ≡ true
ends-closes at kind.Close e = refl
ends-closes at kind.Letter e = refl
ends-closes at _ e = cc

over-step : (tree one : Tree) (ls : List Layer) (p : Placed) (k : Kind) → kind_of p.code ≡ k → closes_number k ≡ true → fold 0 tree ls ≡ record { tree = one; layers = [] } →
    step Arithmetic (Have tree ls) p ≡ None
over-step tree one ls p kind.Close e n f = step-behind Arithmetic (Have tree ls) tree ls p kind.Close tt e (as_tree refl) ∙ ap (λ (x : Folded). closed x.tree x.layers) f
over-step tree one ls p kind.Letter e n f = have-letter tree ls p e
over-step tree one ls p _ e n f = cc

-- behind a number with nothing open in it
pub behind_number : (relation : Option OpenRelation) (tree one : Tree) (ls : List Layer) (touch : Bool) (p : Placed) (layers : List Open) → closes_number (kind_of p.code) ≡ true →
    fold 0 tree ls ≡ record { tree = one; layers = [] } →
    point_step (logic.Number relation (Have tree ls) touch) p layers ≡ behind_one (number_side relation one) touch (kind_of p.code) p.code layers
behind_number relation tree one ls touch p layers n f =
    ap (λ x. on_number relation x (option_map (number_side relation) (accept Arithmetic (Have tree ls))) touch p layers) (over-step tree one ls p (kind_of p.code) refl n f)
    ∙ ap (λ x. logic.behind (option_map (number_side relation) x) touch p layers) (accept-some Arithmetic (Have tree ls) (fold 0 tree ls) refl ∙ ap whole f)

again-step : (tree one : Tree) (ls below : List Layer) (p : Placed) (k : Kind) → kind_of p.code ≡ k → closes_number k ≡ true → fold 0 tree ls ≡ record { tree = one; layers = below } →
    step Arithmetic (Have tree ls) p ≡ step Arithmetic (Have one below) p
again-step tree one ls below p kind.Close e n f =
    step-behind Arithmetic (Have tree ls) tree ls p kind.Close tt e (as_tree refl)
    ∙ ap (λ (x : Folded). closed x.tree x.layers) (sym (fold-again tree ls))
    ∙ ap (λ (x : Folded). behind Arithmetic kind.Close x.tree x.layers) f
    ∙ sym (step-behind Arithmetic (Have one below) one below p kind.Close tt e (as_tree refl))
again-step tree one ls below p kind.Letter e n f = have-letter tree ls p e ∙ sym (have-letter one below p e)
again-step tree one ls below p _ e n f = cc

-- behind a part of a number
pub inside_number : (relation : Option OpenRelation) (tree one : Tree) (ls : List Layer) (items : List Pending) (touch : Bool) (p : Placed) (layers : List Open) → closes_number (kind_of p.code) ≡ true →
    fold 0 tree ls ≡ record { tree = one; layers = stack_of items [] } → (items ≡ [] → ⊥) →
    point_step (logic.Number relation (Have tree ls) touch) p layers ≡ on_number relation (step Arithmetic (Have one (stack_of items [])) p) None false p layers
inside_number relation tree one ls items touch p layers n f o =
    unsettled relation (step Arithmetic (Have tree ls) p) (accept Arithmetic (Have tree ls)) touch p layers
    (accept-some Arithmetic (Have tree ls) (fold 0 tree ls) refl ∙ open_whole one items (fold 0 tree ls) f o)
    ∙ ap (λ x. on_number relation x None false p layers) (again-step tree one ls (stack_of items []) p (kind_of p.code) refl n f)

-- Texts.

not-period : (c : ℕ) (k : Kind) → kind_of c ≡ k → (k ≡ kind.Other → ⊥) → (c == 46) ≡ false
unfolding kind_of
not-period c k e o =
    let go : (b : Bool) → (c == 46) ≡ b → (c == 46) ≡ false =
    elim [ true ↦ λ t. let same : c ≡ 46 = grind (arith, nat_tests) in absurd (o (sym e ∙ ap kind_of same)) | false ↦ λ t. t ] in
    go (c == 46) refl

no-part : (tree : Tree) (c : ℕ) → (c == 46) ≡ false → after_part tree c ≡ None
no-part tree c e = if-left (c == 46) (Some (texts.WantPart (Some tree))) None e

may-end : (at : TextPoint) (k : Kind) → may_end_text at k ≡ true → k ≡ kind.Other → ⊥
may-end at kind.Blank m e = cc
may-end at kind.Close m e = cc
may-end at kind.Letter m e = cc
may-end at _ m e = cc

named-stops : (left : Option Tree) (place : ℕ) (name : List ℕ) (holder : Holder) (at_place : ℕ) (k : Kind) (p : Placed) → kind_of p.code ≡ k → may_end_text (text.Naming holder at_place name) k ≡ true →
    texts.go_naming (texts.AsType left) place name k p ≡ None
named-stops left place name holder at_place kind.Blank p e m = no-part (texts.typed left (symbol_at place name) NoTrees) p.code (not-period p.code kind.Blank e (λ x. cc))
named-stops left place name holder at_place kind.Close p e m = no-part (texts.typed left (symbol_at place name) NoTrees) p.code (not-period p.code kind.Close e (λ x. cc))
named-stops left place name holder at_place kind.Letter p e m =
    if-left (nat_lt (length name) 63) (Some (texts.Naming (texts.AsType left) place (name ++ to_ascii_uppercase p.code ∷ []))) None (not-true (nat_lt (length name) 63) m)
named-stops left place name holder at_place _ p e m = cc

word-stops : (left : Option Tree) (place : ℕ) (name : List ℕ) (k : Kind) (c : ℕ) → kind_of c ≡ k → (k ≡ kind.Letter → nat_lt (length name) 63 ≡ false) → MayFollow k ≡ true →
    texts.go_word left place name k c ≡ None
word-stops left place name kind.Blank c e n m = no-part (texts.typed_name left place name) c (not-period c kind.Blank e (λ x. cc))
word-stops left place name kind.Close c e n m = no-part (texts.typed_name left place name) c (not-period c kind.Close e (λ x. cc))
word-stops left place name kind.Letter c e n m =
    if-left (nat_lt (length name) 63) (Some (texts.Word left place (name ++ to_ascii_uppercase c ∷ []))) None (n refl)
word-stops left place name _ c e n m = cc

closed-stops : (opened : texts.Opened) (items : Items) (plain : List ℕ) (k : Kind) (c : ℕ) → kind_of c ≡ k → MayFollow k ≡ true → texts.after_closed opened items plain k c ≡ None
closed-stops opened items plain kind.Blank c e m = no-part (texts.built opened (Quoted (texts.with_plain items plain))) c (not-period c kind.Blank e (λ x. cc))
closed-stops opened items plain kind.Close c e m = no-part (texts.built opened (Quoted (texts.with_plain items plain))) c (not-period c kind.Close e (λ x. cc))
closed-stops opened items plain kind.Letter c e m = no-part (texts.built opened (Quoted (texts.with_plain items plain))) c (not-period c kind.Letter e (λ x. cc))
closed-stops opened items plain _ c e m = cc

may-follow : (at : TextPoint) (k : Kind) → may_end_text at k ≡ true → MayFollow k ≡ true
may-follow at kind.Blank m = refl
may-follow at kind.Close m = refl
may-follow at kind.Letter m = refl
may-follow at _ m = cc

word-room : (left : Option Expr) (place : ℕ) (name : List ℕ) (k : Kind) → may_end_text (text.Word left place name) k ≡ true → k ≡ kind.Letter → nat_lt (length name) 63 ≡ false
word-room left place name kind.Letter m e = not-true (nat_lt (length name) 63) m
word-room left place name _ m e = cc

text-stops : (at : TextPoint) (p : Placed) → is_some (text_accept (text_state at)) ≡ true → may_end_text at (kind_of p.code) ≡ true → text_step (text_state at) p ≡ None
unfolding text_step text_accept
text-stops (text.Naming (holder.AsType left) place name) p a m = named-stops (left_of left) place name (holder.AsType left) place (kind_of p.code) p refl m
text-stops (text.Naming (holder.InText opened items) place name) p a m = cc
text-stops (text.Closed opened items plain) p a m = closed-stops (opened_of opened) (items_in NoItems items.items) plain (kind_of p.code) p.code refl (may-follow (text.Closed opened items plain) (kind_of p.code) m)
text-stops (text.Word left place name) p a m =
    word-stops (left_of left) place name (kind_of p.code) p.code refl (word-room left place name (kind_of p.code) m) (may-follow (text.Word left place name) (kind_of p.code) m)
text-stops (text.Done tree) p a m = no-part (tree_of tree) p.code (not-period p.code (kind_of p.code) refl (may-end (text.Done tree) (kind_of p.code) m))
text-stops _ p a m = cc

text-goes_on : (at : TextPoint) (p : Placed) → kind_of p.code ≡ kind.Letter → text_takes_letter at ≡ true → text_step (text_state at) p ≡ None → ⊥
unfolding text_step
text-goes_on (text.Naming holder place name) p k t n =
    let longer : TextState = texts.Naming (holder_of holder) place (name ++ to_ascii_uppercase p.code ∷ []) in
    let s : text_step (text_state (text.Naming holder place name)) p ≡ Some longer =
    ap (λ x. texts.go_naming (holder_of holder) place name x p) k ∙ if-true (nat_lt (length name) 63) (Some longer) None t in cc
text-goes_on (text.Word left place name) p k t n =
    let longer : TextState = texts.Word (left_of left) place (name ++ to_ascii_uppercase p.code ∷ []) in
    let s : text_step (text_state (text.Word left place name)) p ≡ Some longer =
    ap (λ x. texts.go_word (left_of left) place name x p.code) k ∙ if-true (nat_lt (length name) 63) (Some longer) None t in cc
text-goes_on _ p k t n = cc

stays-text : (relation : Option OpenRelation) (at : TextPoint) (touch : Bool) (p : Placed) (layers : List Open) (k : Kind) (found : Option Tree) → kind_of p.code ≡ k →
    (is_some found && may_end_text at k) ≡ false → text_step (text_state at) p ≡ None → logic.behind (option_map (text_side relation) found) touch p layers ≡ None
stays-text relation at touch p layers k None e n s = refl
stays-text relation at touch p layers kind.Blank (Some tree) e n s = cc
stays-text relation at touch p layers kind.Close (Some tree) e n s = cc
stays-text relation at touch p layers kind.Letter (Some tree) e n s = absurd (text-goes_on at p e (not-false (text_takes_letter at) n) s)
stays-text relation at touch p layers (kind.Mark o) (Some tree) e n s = ap (λ x. behind_one (text_side relation tree) touch x p.code layers) e
stays-text relation at touch p layers kind.Open (Some tree) e n s = ap (λ x. behind_one (text_side relation tree) touch x p.code layers) e
stays-text relation at touch p layers kind.Comma (Some tree) e n s = ap (λ x. behind_one (text_side relation tree) touch x p.code layers) e
stays-text relation at touch p layers kind.Quote (Some tree) e n s = ap (λ x. behind_one (text_side relation tree) touch x p.code layers) e
stays-text relation at touch p layers kind.Ampersand (Some tree) e n s = ap (λ x. behind_one (text_side relation tree) touch x p.code layers) e
stays-text relation at touch p layers kind.Digit (Some tree) e n s = ap (λ x. behind_one (text_side relation tree) touch x p.code layers) e
stays-text relation at touch p layers kind.Other (Some tree) e n s = ap (λ x. behind_one (text_side relation tree) touch x p.code layers) e

pub within_text : (relation : Option OpenRelation) (at : TextPoint) (touch : Bool) (p : Placed) (layers : List Open) → (is_some (text_accept (text_state at)) && may_end_text at (kind_of p.code)) ≡ false →
    point_step (logic.Text relation (text_state at) touch) p layers ≡ on_text relation (text_step (text_state at) p) None false p layers
within_text relation at touch p layers n =
    let go : (found : Option TextState) → text_step (text_state at) p ≡ found →
    on_text relation found (option_map (text_side relation) (text_accept (text_state at))) touch p layers ≡ on_text relation found None false p layers =
    elim [
      | None ↦ λ e. stays-text relation at touch p layers (kind_of p.code) (text_accept (text_state at)) refl n e
      | Some next ↦ λ e. refl
    ] in
    go (text_step (text_state at) p) refl

and-first : (a b : Bool) → (a && b) ≡ true → a ≡ true
and-first true b e = refl
and-first false b e = cc

and-second : (a b : Bool) → (a && b) ≡ true → b ≡ true
and-second true b e = e
and-second false b e = cc

pub behind_text : (relation : Option OpenRelation) (at : TextPoint) (tree : Tree) (touch : Bool) (p : Placed) (layers : List Open) →
    (is_some (text_accept (text_state at)) && may_end_text at (kind_of p.code)) ≡ true → text_accept (text_state at) ≡ Some tree →
    point_step (logic.Text relation (text_state at) touch) p layers ≡ behind_one (text_side relation tree) touch (kind_of p.code) p.code layers
behind_text relation at tree touch p layers n a =
    let whole_here = and-first (is_some (text_accept (text_state at))) (may_end_text at (kind_of p.code)) n in
    let may = and-second (is_some (text_accept (text_state at))) (may_end_text at (kind_of p.code)) n in
    ap (λ x. on_text relation x (option_map (text_side relation) (text_accept (text_state at))) touch p layers) (text-stops at p whole_here may)
    ∙ ap (λ x. logic.behind (option_map (text_side relation) x) touch p layers) a

-- An N and an apostrophe.

and-then-some : (found : Option State) → option_and_then (λ next. reading.run Arithmetic next []) found ≡ found
and-then-some None = refl
and-then-some (Some next) = refl

attribute-run : (first p : Placed) (state : State) → step Arithmetic (reading.Want []) first ≡ Some state → reading.run Arithmetic (reading.Want []) (first ∷ p ∷ []) ≡ step Arithmetic state p
attribute-run first p state e = ap (option_and_then (λ next. reading.run Arithmetic next (p ∷ []))) e ∙ and-then-some (step Arithmetic state p)

pub attribute_none : (first p : Placed) (layers : List Open) → step Arithmetic (reading.Want []) first ≡ None → logic.after_first first kind.Quote p layers ≡ None
attribute_none first p layers e = ap (λ x. on_number None x None false p layers) (ap (option_and_then (λ next. reading.run Arithmetic next (p ∷ []))) e)

pub attribute_moves : (first p : Placed) (state : State) (more : ℕ) (found : Option LogicMoved) (layers : List Open) → step Arithmetic (reading.Want []) first ≡ Some state → weight state ≡ 1 + more →
    LogicMoves (on_number None (step Arithmetic state p) None false p layers) (open_size layers + (relation_size None + weight state)) found layers →
    LogicMoves (logic.after_first first kind.Quote p layers) (open_size layers + 1 + more) found layers
attribute_moves first p state more found layers e w m =
    LogicMoves-same (logic.after_first first kind.Quote p layers) (on_number None (step Arithmetic state p) None false p layers) (open_size layers + 1 + more) (open_size layers + (relation_size None + weight state)) found layers
    (ap (λ x. on_number None x None false p layers) (attribute-run first p state e)) (omega arith) m

pub more_moves : (found : Option LogicState) (before more : ℕ) (moved next : LogicMoved) (layers : List Open) → LogicMoves found (before + more) (Some moved) layers → next.point ≡ moved.point →
    next.more ≡ more + moved.more → LogicMoves found before (Some next) layers
more_moves found before more moved next layers m p n =
    (m.0 ∙ ap (λ x. Some (at_point layers (point_of x))) (sym p), ap (λ x. logic_weight (at_point layers (point_of x))) p ∙ m.1 ∙ (let total = n in omega arith))

-- a stack with something open leaves no whole truth
open-over : (tree : Tree) (items : List Opening) (top : Open) (below : List Open) → whole_over tree (open_of items (top ∷ below)) ≡ None
open-over tree [] top below = refl
open-over tree (one ∷ items) top below = open-over tree items (opening_of one) (top ∷ below)

pub open_truth : (tree : Tree) (items : List Opening) (folded : LogicFolded) → folded ≡ record { tree = tree; layers = open_of items [] } → (items ≡ [] → ⊥) → whole_over folded.tree folded.layers ≡ None
open_truth tree [] folded e h = absurd (h refl)
open_truth tree (one ∷ items) folded e h = ap (λ (f : LogicFolded). whole_over f.tree f.layers) e ∙ open-over tree items (opening_of one) []

letter-moved : (first : Placed) (letter : Moved) (empty : List Pending) (above : List Layer) (found : Option Moved) → empty ≡ [] →
    Moves (step Arithmetic (reading.Want (stack_of empty [])) first) (weight (reading.Want (stack_of empty []))) found above → found ≡ Some letter →
    (step Arithmetic (reading.Want []) first ≡ Some (stand letter.point above)) × (weight (stand letter.point above) ≡ 1 + letter.more)
letter-moved first letter empty above found e m s =
    subst (λ (xs : List Pending). Moves (step Arithmetic (reading.Want (stack_of xs [])) first) (weight (reading.Want (stack_of xs []))) (Some letter) above) e
    (subst (λ (o : Option Moved). Moves (step Arithmetic (reading.Want (stack_of empty [])) first) (weight (reading.Want (stack_of empty []))) o above) s m)

pub attribute_stops : (first p : Placed) (letter : Moved) (empty : List Pending) (above : List Layer) (found : Option Moved) (next : Option LogicMoved) (layers : List Open) → empty ≡ [] →
    Moves (step Arithmetic (reading.Want (stack_of empty [])) first) (weight (reading.Want (stack_of empty []))) found above → found ≡ Some letter →
    ((all : List Open) → LogicMoves (on_number None (step Arithmetic (stand letter.point above) p) None false p all) (open_size all + (relation_size None + weight (stand letter.point above))) next all) →
    next ≡ None → logic.after_first first kind.Quote p layers ≡ None
attribute_stops first p letter empty above found next layers e m s n o =
    let l = letter-moved first letter empty above found e m s in
    attribute_moves first p (stand letter.point above) letter.more None layers l.0 l.1
    (subst (λ (x : Option LogicMoved). LogicMoves (on_number None (step Arithmetic (stand letter.point above) p) None false p layers) (open_size layers + (relation_size None + weight (stand letter.point above))) x layers) o (n layers))

pub attribute_goes_on : (first p : Placed) (letter : Moved) (empty : List Pending) (above : List Layer) (found : Option Moved) (next : Option LogicMoved) (one : LogicMoved) (moved : Option LogicMoved) (wide : ℕ) (layers : List Open) →
    empty ≡ [] → Moves (step Arithmetic (reading.Want (stack_of empty [])) first) (weight (reading.Want (stack_of empty []))) found above → found ≡ Some letter →
    ((all : List Open) → LogicMoves (on_number None (step Arithmetic (stand letter.point above) p) None false p all) (open_size all + (relation_size None + weight (stand letter.point above))) next all) →
    next ≡ Some one → wide ≡ letter.more → moved ≡ Some (record { point = one.point; more = wide + one.more }) → LogicMoves (logic.after_first first kind.Quote p layers) (open_size layers + 1) moved layers
attribute_goes_on first p letter empty above found next one moved wide layers e m s n o w r =
    let l = letter-moved first letter empty above found e m s in
    let a : LogicMoves (logic.after_first first kind.Quote p layers) (open_size layers + 1 + letter.more) (Some one) layers =
    attribute_moves first p (stand letter.point above) letter.more (Some one) layers l.0 l.1
    (subst (λ (x : Option LogicMoved). LogicMoves (on_number None (step Arithmetic (stand letter.point above) p) None false p layers) (open_size layers + (relation_size None + weight (stand letter.point above))) x layers) o (n layers)) in
    subst (λ (x : Option LogicMoved). LogicMoves (logic.after_first first kind.Quote p layers) (open_size layers + 1) x layers) (sym r)
    (more_moves (logic.after_first first kind.Quote p layers) (open_size layers + 1) letter.more one (record { point = one.point; more = wide + one.more }) layers a refl (ap (λ n. n + one.more) w))

-- Behind a number in parentheses.

quoted-step : (inner : Tree) (p : Placed) → kind_of p.code ≡ kind.Quote → text_step (texts.WantQuote None inner) p ≡ Some (texts.Inside (record { left = None; factor = Some inner }) NoItems [])
unfolding text_step
quoted-step inner p k = ap (texts.begin_quoted None inner) k

pub factor_moves : (inner : Tree) (text : TextPoint) (touch : Bool) (p : Placed) (layers : List Open) (moved : Option LogicMoved) → kind_of p.code ≡ kind.Quote →
    text_state text ≡ texts.Inside (record { left = None; factor = Some inner }) NoItems [] → touch ≡ is_symbol_character p.code → moved ≡ Some (record { point = logic_point.Text None text touch; more = 3 }) →
    LogicMoves (logic.after_closed inner kind.Quote p layers) (open_size layers + (1 + size inner)) moved layers
factor_moves inner text touch p layers moved k t s e =
    subst (λ (x : Option LogicMoved). LogicMoves (logic.after_closed inner kind.Quote p layers) (open_size layers + (1 + size inner)) x layers) (sym e) (
      ap (λ x. on_text None x None false p layers) (quoted-step inner p k ∙ ap Some (sym t)) ∙ ap (λ b. Some (at_point layers (logic.Text None (text_state text) b))) (sym s),
      let w : text_weight (text_state text) ≡ size inner + 2 = ap text_weight t ∙ omega arith in omega arith,
    )

accept-paren : (inner : Tree) → accept Arithmetic (Have (Paren inner) []) ≡ Some (Paren inner)
unfolding accept
accept-paren inner = refl

closed-other : (inner : Tree) (k : Kind) (p : Placed) (layers : List Open) → (k ≡ kind.Quote → ⊥) →
    logic.after_closed inner k p layers ≡ on_number None (step Arithmetic (Have (Paren inner) []) p) (Some (NumberOne (Paren inner))) false p layers
closed-other inner kind.Quote p layers n = absurd (n refl)
closed-other inner _ p layers n = refl

pub closed_number : (inner : Tree) (k : Kind) (p : Placed) (layers : List Open) → (k ≡ kind.Quote → ⊥) →
    logic.after_closed inner k p layers ≡ point_step (logic.Number None (Have (Paren inner) []) false) p layers
closed_number inner k p layers n =
    closed-other inner k p layers n ∙ ap (λ x. on_number None (step Arithmetic (Have (Paren inner) []) p) (option_map (number_side None) x) false p layers) (sym (accept-paren inner))

-- Closing parentheses.

pub close_moves : (tree one : Tree) (layers below : List Open) (moved : Option LogicMoved) (new : List Open) → logic_fold 0 tree layers ≡ record { tree = one; layers = below } →
    LogicMoves (grouped one below) (open_size below + size one) moved new →
    LogicMoves (grouped (logic_fold 0 tree layers).tree (logic_fold 0 tree layers).layers) (open_size layers + size tree) moved new
close_moves tree one layers below moved new e m =
    LogicMoves-same (grouped (logic_fold 0 tree layers).tree (logic_fold 0 tree layers).layers) (grouped one below) (open_size layers + size tree) (open_size below + size one) moved new
    (ap (λ (f : LogicFolded). grouped f.tree f.layers) e)
    (sym (logic_fold-size 0 tree layers) ∙ ap (λ (f : LogicFolded). open_size f.layers + size f.tree) e) m

pub join_moves : (operator : Operator) (rest : List ℕ) (tree left : Tree) (layers below new : List Open) → logic_fold (strength operator) tree layers ≡ record { tree = left; layers = below } →
    new ≡ logic.LeftOperand operator left ∷ below →
    (Some (pushed operator rest (logic_fold (strength operator) tree layers)) ≡ Some (at_point new (logic.Letters rest))) × (open_size new + 1 ≡ open_size layers + size tree + 2)
join_moves operator rest tree left layers below new e n =
    let kept : open_size below + size left ≡ open_size (logic_fold (strength operator) tree layers).layers + size (logic_fold (strength operator) tree layers).tree =
    ap (λ (f : LogicFolded). open_size f.layers + size f.tree) (sym e) in (
      ap (λ (f : LogicFolded). Some (pushed operator rest f)) e ∙ ap (λ xs. Some (at_point xs (logic.Letters rest))) (sym n),
      ap (λ xs. open_size xs + 1) n ∙ omega (arith, kept, logic_fold-size (strength operator) tree layers),
    )

-- The next state, within the limit.

pub fits-test : (a b : ℕ) → a ≤ b → nat_le a b ≡ true
fits-test a b h = grind (arith, nat_tests)

over-test : (a b : ℕ) → b < a → nat_le a b ≡ false
over-test a b h = grind (arith, nat_tests)

pub logic_advance_none : (state : LogicState) (p : Placed) → logic_step state p ≡ None → logic_advance most_parts state p ≡ None
unfolding logic_advance
logic_advance_none state p e = ap (option_and_then (logic_kept most_parts)) e

pub logic_advance_some : (state : LogicState) (p : Placed) (w : ℕ) (moved : LogicMoved) (layers : List Open) → LogicMoves (logic_step state p) (logic_weight state) (Some moved) layers → w ≡ logic_weight state →
    w ≤ most_parts → moved.more ≤ most_parts - w →
    (logic_advance most_parts state p ≡ Some (at_point layers (point_of moved.point))) × (w + moved.more ≡ logic_weight (at_point layers (point_of moved.point))) × (w + moved.more ≤ most_parts)
unfolding logic_advance
logic_advance_some state p w moved layers m e f h =
    let next : LogicState = at_point layers (point_of moved.point) in
    let exact : logic_weight next ≡ w + moved.more = m.1 ∙ ap (λ n. n + moved.more) (sym e) in
    (ap (option_and_then (logic_kept most_parts)) m.0 ∙ if-true (nat_le (logic_weight next) most_parts) (Some next) None (fits-test (logic_weight next) most_parts (omega arith)), sym exact, omega arith)

pub logic_advance_over : (state : LogicState) (p : Placed) (w : ℕ) (moved : LogicMoved) (layers : List Open) → LogicMoves (logic_step state p) (logic_weight state) (Some moved) layers → w ≡ logic_weight state →
    w ≤ most_parts → most_parts - w < moved.more → logic_advance most_parts state p ≡ None
unfolding logic_advance
logic_advance_over state p w moved layers m e f h =
    let next : LogicState = at_point layers (point_of moved.point) in
    let exact : logic_weight next ≡ w + moved.more = m.1 ∙ ap (λ n. n + moved.more) (sym e) in
    ap (option_and_then (logic_kept most_parts)) m.0 ∙ if-left (nat_le (logic_weight next) most_parts) (Some next) None (over-test (logic_weight next) most_parts (omega arith))
