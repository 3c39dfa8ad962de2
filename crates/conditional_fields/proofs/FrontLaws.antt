-- What some texts begin with, and cannot begin with.
use Rattle.std.proofs.Common.{◌≡◌, ℕ, true, false, List, [], length, refl, sym, ap, ◌∙◌, subst, append-nil, arith}
use Rattle.std.specs.Prelude.{MatchResult, Result, Ok, Err, Some, is_some}
use Rattle.std.proofs.Math.Seq.{take-length}
use Rattle.std.proofs.lemmas.Bool.{true≢false}
use Rattle.expression_grammar.specs.declared.character.Grammar.{Grammar}
use Rattle.expression_grammar.specs.declared.character.Grammar.TheVariants.{Arithmetic}
use Rattle.expression_grammar.specs.declared.fault.SyntaxFault.{SyntaxFault}
use Rattle.expression_grammar.specs.declared.fault.SyntaxFault.TheVariants.{At, OutOfMemory}
use Rattle.expression_grammar.specs.declared.front.Front.{Front}
use Rattle.expression_grammar.specs.declared.tree.Expr.{Expr}
use Rattle.expression_grammar.specs.declared.tree.Reference.TheVariants.{Value}
use Rattle.expression_grammar.specs.Answers.{IsFault}
use Rattle.expression_grammar.specs.Fronts.{IsClosed as IsClosedBy, IsFirst, IsFrontFault as IsFrontFaultOf, IsReach as IsReachOf, IsVariableClosed}
use Rattle.expression_grammar.specs.Readings.{variable_only}
use Rattle.expression_grammar.specs.Trees.{Tree, Variable as VariableTree}
use Rattle.expression_grammar.specs.Views.{tree_of}
use Rattle.expression_grammar.specs.Spelling.{IsExpression, IsAt, Spells, most_parts}
use Rattle.operand_grammar.specs.Logics.{SpellsLogic}
use Rattle.conditional_fields.specs.declared.front.Sought.{Sought}
use Rattle.conditional_fields.specs.declared.front.Sought.TheVariants.{Number, Condition, Variable}
use Rattle.conditional_fields.specs.Fronts.{IsSought, IsFirstClosed, Written, accepts, is_variable, IsReach}
use Rattle.conditional_fields.specs.Tries.{IsFrontFault}

-- how a text is read that is sought, whatever it is
pub read_as : (sought known : Sought) (text : List ℕ) (r : Result Expr SyntaxFault) → sought ≡ known →
    MatchResult r (λ e. IsExpression (Written known) most_parts text (tree_of e)) (IsFault (Written known) text) →
    MatchResult r (λ e. IsExpression (Written sought) most_parts text (tree_of e)) (IsFault (Written sought) text)
read_as sought known text r is read =
    subst (λ (s : Sought). MatchResult r (λ e. IsExpression (Written s) most_parts text (tree_of e)) (IsFault (Written s) text)) (sym is) read

-- a text whose one tree is not accepted is not what is sought
pub other_tree : (sought : Sought) (text : List ℕ) (tree : Tree) → IsExpression (Written sought) most_parts text tree → accepts sought tree ≡ false →
    ((g : Grammar) (t : List ℕ) (one two : Tree) → Spells g t one → Spells g t two → one ≡ two) →
    (other : Tree) → IsSought sought text other → ⊥
other_tree Number text tree e refused one other s = true≢false refused
other_tree Condition text tree e refused one other s = true≢false refused
other_tree Variable text tree e refused one other s =
    let same : tree ≡ other = one Arithmetic text tree other e.spells s.expression.spells in
    true≢false (sym s.accepted ∙ ap (accepts Variable) (sym same) ∙ refused)

-- an expression is its own longest front
pub whole_reach : (sought : Sought) (text : List ℕ) (tree : Tree) → IsExpression (Written sought) most_parts text tree → IsReach sought text (length text)
whole_reach sought text tree e = record {
  within = omega arith;
  viable = record {
    rest = [];
    tree = tree;
    expression = subst (λ (whole : List ℕ). IsExpression (Written sought) most_parts whole tree) (sym (append-nil _ ∙ take-length text)) e;
  };
  longest = λ more above within. absurd (omega arith);
}

pub at_reach : (sought : Sought) (text : List ℕ) (count : ℕ) → IsAt (Written sought) most_parts text count → IsReach sought text count
at_reach sought text count at = record { within = at.within; viable = at.viable; longest = at.longest }

-- a text that goes wrong somewhere is not what is sought
pub faulty_text : (sought : Sought) (text : List ℕ) (count : ℕ) → IsAt (Written sought) most_parts text count → (tree : Tree) → IsSought sought text tree → ⊥
faulty_text sought text count at tree s = at.none tree s.expression

-- Fronts, by what is read.

pub variable_is : (tree : Tree) → is_some (variable_only (Some tree)) ≡ is_variable tree
variable_is (VariableTree Value symbol subscripts) = refl
variable_is _ = refl

number-first : (text : List ℕ) (before : ℕ) (tree : Tree) → IsFirst (IsClosedBy (Spells Arithmetic) text) before tree → IsFirstClosed Number text before tree
number-first text before tree f = record {
  closed = record { closes = f.here.closes; within = record { expression = f.here.within; accepted = refl } };
  first = λ earlier other less closed. f.first earlier other less (record { closes = closed.closes; within = closed.within.expression });
}

condition-first : (text : List ℕ) (before : ℕ) (tree : Tree) → IsFirst (IsClosedBy SpellsLogic text) before tree → IsFirstClosed Condition text before tree
condition-first text before tree f = record {
  closed = record { closes = f.here.closes; within = record { expression = f.here.within; accepted = refl } };
  first = λ earlier other less closed. f.first earlier other less (record { closes = closed.closes; within = closed.within.expression });
}

value-accepted : (tree : Tree) → variable_only (Some tree) ≡ Some tree → is_variable tree ≡ true
value-accepted (VariableTree Value symbol subscripts) e = refl
value-accepted _ e = absurd (let x = e in cc)

accepted-value : (tree : Tree) → is_variable tree ≡ true → variable_only (Some tree) ≡ Some tree
accepted-value (VariableTree Value symbol subscripts) e = refl
accepted-value _ e = absurd (let x = e in cc)

variable-first : (text : List ℕ) (before : ℕ) (tree : Tree) → IsFirst (IsVariableClosed text) before tree → IsFirstClosed Variable text before tree
variable-first text before tree f = record {
  closed = record { closes = f.here.closes; within = record { expression = f.here.within; accepted = value-accepted tree f.here.value } };
  first = λ earlier other less closed. f.first earlier other less (record { closes = closed.closes; within = closed.within.expression; value = accepted-value other closed.within.accepted });
}

same-reach : (sought : Sought) (text : List ℕ) (count : ℕ) → IsReachOf (Written sought) text count → IsReach sought text count
same-reach sought text count r = record { within = r.within; viable = r.viable; longest = r.longest }

pub number_front : (sought : Sought) (text : List ℕ) (r : Result Front SyntaxFault) → sought ≡ Number →
    MatchResult r (λ f. IsFirst (IsClosedBy (Spells Arithmetic) text) f.before (tree_of f.tree)) (IsFrontFaultOf (Spells Arithmetic) (IsClosedBy (Spells Arithmetic) text) text) →
    MatchResult r (λ f. IsFirstClosed sought text f.before (tree_of f.tree)) (IsFrontFault sought text)
number_front sought text (Ok f) is m = subst (λ (s : Sought). IsFirstClosed s text f.before (tree_of f.tree)) (sym is) (number-first text f.before (tree_of f.tree) m)
number_front sought text (Err (At count)) is m = subst (λ (s : Sought). IsFrontFault s text (At count)) (sym is)
    (λ before tree closed. m.never before tree (record { closes = closed.closes; within = closed.within.expression }), same-reach Number text count m.reach)
number_front sought text (Err OutOfMemory) is m = tt

pub condition_front : (sought : Sought) (text : List ℕ) (r : Result Front SyntaxFault) → sought ≡ Condition →
    MatchResult r (λ f. IsFirst (IsClosedBy SpellsLogic text) f.before (tree_of f.tree)) (IsFrontFaultOf SpellsLogic (IsClosedBy SpellsLogic text) text) →
    MatchResult r (λ f. IsFirstClosed sought text f.before (tree_of f.tree)) (IsFrontFault sought text)
condition_front sought text (Ok f) is m = subst (λ (s : Sought). IsFirstClosed s text f.before (tree_of f.tree)) (sym is) (condition-first text f.before (tree_of f.tree) m)
condition_front sought text (Err (At count)) is m = subst (λ (s : Sought). IsFrontFault s text (At count)) (sym is)
    (λ before tree closed. m.never before tree (record { closes = closed.closes; within = closed.within.expression }), same-reach Condition text count m.reach)
condition_front sought text (Err OutOfMemory) is m = tt

pub variable_front : (sought : Sought) (text : List ℕ) (r : Result Front SyntaxFault) → sought ≡ Variable →
    MatchResult r (λ f. IsFirst (IsVariableClosed text) f.before (tree_of f.tree)) (IsFrontFaultOf (Spells Arithmetic) (IsVariableClosed text) text) →
    MatchResult r (λ f. IsFirstClosed sought text f.before (tree_of f.tree)) (IsFrontFault sought text)
variable_front sought text (Ok f) is m = subst (λ (s : Sought). IsFirstClosed s text f.before (tree_of f.tree)) (sym is) (variable-first text f.before (tree_of f.tree) m)
variable_front sought text (Err (At count)) is m = subst (λ (s : Sought). IsFrontFault s text (At count)) (sym is)
    (λ before tree closed. m.never before tree (record { closes = closed.closes; within = closed.within.expression; value = accepted-value tree closed.within.accepted }), same-reach Variable text count m.reach)
variable_front sought text (Err OutOfMemory) is m = tt
