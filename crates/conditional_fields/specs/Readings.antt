-- What the reader of a field answers (this project). Of public contracts those of `Template::read` and `symbol` speak of it.
use Rattle.std.specs.Prelude.{◌≡◌, ℕ, ◌+◌, ◌-◌, ◌<◌, Bool, false, List, length, drop, Option, Some, None}
use Rattle.expression_grammar.specs.Views.{tree_of}
use Rattle.expression_grammar.specs.declared.fault.SyntaxFault.{SyntaxFault}
use Rattle.expression_grammar.specs.declared.fault.SyntaxFault.TheVariants.{At, OutOfMemory}
use Rattle.conditional_fields.specs.declared.front.Sought.TheVariants as sought
use Rattle.conditional_fields.specs.declared.template.Found.{Found}
use Rattle.conditional_fields.specs.declared.template.Step.{Step}
use Rattle.conditional_fields.specs.Fronts.{IsReach}
use Rattle.conditional_fields.specs.Templates.{IsSymbolWith, HasNoSymbolWith, has_subscripts, plain_length, IsPiece, IsUnreadable}

-- the variable symbol that a text begins with
abbrev pub IsSymbolFound : (subscripts : Bool) → List ℕ → Option Found → Type 0
IsSymbolFound subscripts text None = HasNoSymbolWith subscripts text
IsSymbolFound subscripts text (Some found) = IsSymbolWith subscripts text found.length (tree_of found.tree) × (0 < found.length)

-- the piece that a text begins with
abbrev pub IsStep : List ℕ → Option Step → Type 0
IsStep text None = (plain_length false text ≡ 0) × HasNoSymbolWith (has_subscripts text) text
IsStep text (Some step) = IsPiece text step.piece (drop step.length text) × (0 < step.length)

-- where the rest of a field reads as a variable symbol no further
abbrev pub IsPlace : List ℕ → List ℕ → ℕ → Type 0
IsPlace field rest at = (inside : ℕ) × IsReach sought.Variable rest inside × (at ≡ length field - length rest + inside)

-- a field cannot be read; only want of memory is no word on it
abbrev pub IsFault : List ℕ → SyntaxFault → Type 0
IsFault field (At at) = IsUnreadable field at
IsFault field OutOfMemory = Unit {0}
