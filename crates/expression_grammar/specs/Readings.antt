-- How texts are read (this project): functions of a text, which follow a reader character by character. The laws of the
-- module `laws` say that they find what the grammar says.
use Rattle.std.specs.Prelude.{◌≡◌, ℕ, ◌+◌, ◌==◌, Bool, true, false, List, [], ◌∷◌, Option, Some, None, Result, Ok, Err}
use Rattle.expression_grammar.specs.declared.character.Grammar.{Grammar}
use Rattle.expression_grammar.specs.declared.character.Grammar.TheVariants.{Arithmetic}
use Rattle.expression_grammar.specs.declared.fault.SyntaxFault.{SyntaxFault}
use Rattle.expression_grammar.specs.declared.fault.SyntaxFault.TheVariants.{At, OutOfMemory}
use Rattle.expression_grammar.specs.declared.front.Front as declared
use Rattle.expression_grammar.specs.declared.tree.Expr.{Expr}
use Rattle.expression_grammar.specs.declared.tree.Reference.TheVariants.{Value}
use Rattle.expression_grammar.specs.Reading.{Want, advance, accept}
use Rattle.expression_grammar.specs.Spelling.{Placed, most_parts}
use Rattle.expression_grammar.specs.Trees.{Tree, Variable}
use Rattle.expression_grammar.specs.Views.{tree_of}

-- what follows where a reader goes on; else how far it came
abbrev pub going : {State V : Type 0} → ℕ → (State → Result V ℕ) → Option State → Result V ℕ
going at next None = Err at
going at next (Some state) = next state

-- Whole texts.

-- the tree that a text ends with, or how far it came
abbrev pub ended : ℕ → Option Tree → Result Tree ℕ
ended at None = Err at
ended at (Some tree) = Ok tree

-- what a reader finds from a state on
abbrev pub read_by : {State : Type 0} → (State → Placed → Option State) → (State → Option Tree) → State → ℕ → List ℕ → Result Tree ℕ
read_by step end state at [] = ended at (end state)
read_by step end state at (c ∷ cs) = going at (λ next. read_by step end next (at + 1) cs) (step state (record { at = at; code = c }))

-- the tree of a text, or the length of its longest front that some expression begins with
abbrev pub read : Grammar → List ℕ → Result Tree ℕ
read g text = read_by (advance g most_parts) (accept g) (Want []) 0 text

-- Fronts of texts.

-- an expression, and how many characters stand before the closing parenthesis at which it ends
pub record Front : Type 0 where
  pub tree : Tree
  pub before : ℕ

-- a closing parenthesis where a tree is whole ends a front
abbrev pub closed_by : ℕ → Bool → Option Tree → Result Front ℕ → Result Front ℕ
closed_by at true (Some tree) others = Ok (record { tree = tree; before = at })
closed_by at true None others = others
closed_by at false found others = others

-- the front that ends here, or how far the text goes
abbrev pub ended_front : ℕ → Option Tree → Result Front ℕ
ended_front at None = Err at
ended_front at (Some tree) = Ok (record { tree = tree; before = at })

-- the front that a reader finds from a state on: the parenthesis does not belong to it
abbrev pub front_by : {State : Type 0} → (State → Placed → Option State) → (State → Option Tree) → State → ℕ → List ℕ → Result Front ℕ
front_by step end state at [] = Err at
front_by step end state at (c ∷ cs) =
    closed_by at (c == 41) (end state) (going at (λ next. front_by step end next (at + 1) cs) (step state (record { at = at; code = c })))

-- the front of a text that is an expression before a closing parenthesis, or the length of the longest front that some
-- expression begins with
abbrev pub read_front : Grammar → List ℕ → Result Front ℕ
read_front g text = front_by (advance g most_parts) (accept g) (Want []) 0 text

-- a tree that is the value of a variable symbol
abbrev pub variable_only : Option Tree → Option Tree
variable_only (Some (Variable Value symbol subscripts)) = Some (Variable Value symbol subscripts)
variable_only other = None

-- the same, where the parenthesis is the last character of a variable symbol
abbrev pub variable_by : {State : Type 0} → (State → Placed → Option State) → (State → Option Tree) → State → ℕ → List ℕ → Result Front ℕ
variable_by step end state at [] = Err at
variable_by step end state at (c ∷ cs) =
    going at (λ next. closed_by at (c == 41) (variable_only (end next)) (variable_by step end next (at + 1) cs)) (step state (record { at = at; code = c }))

abbrev pub read_variable : List ℕ → Result Front ℕ
read_variable text = variable_by (advance Arithmetic most_parts) (accept Arithmetic) (Want []) 0 text

-- Answers of calls.

-- a call answers the tree that is read, or how far the text goes; only want of memory is no word on the text
abbrev pub Tells : Result Tree ℕ → Result Expr SyntaxFault → Type 0
Tells found (Ok expression) = found ≡ Ok (tree_of expression)
Tells found (Err (At count)) = found ≡ Err count
Tells found (Err OutOfMemory) = Unit {0}

-- the same of a front
abbrev pub front_of : declared.Front → Front
front_of front = record { tree = tree_of front.tree; before = front.before }

abbrev pub TellsFront : Result Front ℕ → Result declared.Front SyntaxFault → Type 0
TellsFront found (Ok front) = found ≡ Ok (front_of front)
TellsFront found (Err (At count)) = found ≡ Err count
TellsFront found (Err OutOfMemory) = Unit {0}
