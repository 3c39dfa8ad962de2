-- What is said of a text that may be what is sought, or begin with it (this project). No public contract speaks of it.
use Rattle.std.specs.Prelude.{ℕ, List, Option, Some, None}
use Rattle.expression_grammar.specs.declared.fault.SyntaxFault.{SyntaxFault}
use Rattle.expression_grammar.specs.declared.fault.SyntaxFault.TheVariants.{At, OutOfMemory}
use Rattle.expression_grammar.specs.declared.front.Front.{Front}
use Rattle.expression_grammar.specs.declared.tree.Expr.{Expr}
use Rattle.expression_grammar.specs.Trees.{Tree}
use Rattle.expression_grammar.specs.Views.{tree_of}
use Rattle.conditional_fields.specs.declared.front.Sought.{Sought}
use Rattle.conditional_fields.specs.Fronts.{IsSought, IsFirstClosed, IsNeverClosed, IsReach}

-- what is found of a text
abbrev pub IsTried : Sought → List ℕ → Option Expr → Type 0
IsTried sought text (Some tree) = IsSought sought text (tree_of tree)
IsTried sought text None = (tree : Tree) → IsSought sought text tree → ⊥

-- what a text begins with
abbrev pub IsFront : Sought → List ℕ → Option Front → Type 0
IsFront sought text None = IsNeverClosed sought text
IsFront sought text (Some front) = IsFirstClosed sought text front.before (tree_of front.tree)

-- it begins with nothing of it, and this is how far it goes; only want of memory is no word on the text
abbrev pub IsFrontFault : Sought → List ℕ → SyntaxFault → Type 0
IsFrontFault sought text (At count) = IsNeverClosed sought text × IsReach sought text count
IsFrontFault sought text OutOfMemory = Unit {0}
