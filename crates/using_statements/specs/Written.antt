-- USING and DROP as they are written (HLASM Language Reference SC26-4940, "USING instruction", "DROP instruction").
use Rattle.std.specs.Prelude.{ℕ, List, [], ◌∷◌, Option, Some, None}
use Rattle.constant_grammar.specs.Elements.{tree_in}
use Rattle.expression_grammar.specs.declared.character.Grammar.TheVariants.{Ordinary}
use Rattle.expression_grammar.specs.Readings.{read}
use Rattle.expression_grammar.specs.Trees.{Tree}
use Rattle.operand_list.specs.Split.{operands_of}
use Rattle.operand_list.specs.SplitSublist.{elements_of}
use Rattle.using_statements.specs.Wholes.{with_others}

-- the expression that a text is, if it is one
unfoldable pub expression : List ℕ → Option Tree
expression text = tree_in (read Ordinary text)

-- the expressions that some texts are, if each is one
abbrev pub expressions : List (List ℕ) → Option (List Tree)
expressions [] = Some []
expressions (text ∷ texts) = with_others (expression text) (expressions texts)

-- where ranges begin, and where they end, if that is written
pub record Bounds : Type 0 where
  pub start : Tree
  pub end : Option Tree

abbrev pub without_end : Option Tree → Option Bounds
without_end None = None
without_end (Some start) = Some (record { start = start; end = None })

abbrev pub with_end : Option Tree → Option Tree → Option Bounds
with_end None end = None
with_end (Some start) None = None
with_end (Some start) (Some end) = Some (record { start = start; end = Some end })

-- a list of two is a base and an end; all else is an expression
abbrev pub bounds_in : (text : List ℕ) → List (List ℕ) → Option Bounds
bounds_in text (start ∷ end ∷ []) = with_end (expression start) (expression end)
bounds_in text other = without_end (expression text)

abbrev pub bounds_by : (text : List ℕ) → Option (List (List ℕ)) → Option Bounds
bounds_by text None = without_end (expression text)
bounds_by text (Some elements) = bounds_in text elements

unfoldable pub bounds : List ℕ → Option Bounds
bounds text = bounds_by text (elements_of text)

-- USING: its bounds, and then a register at least
pub record UsingOperands : Type 0 where
  pub bounds : Bounds
  pub registers : List Tree

abbrev pub whole : Option Bounds → Option (List Tree) → Option UsingOperands
whole None registers = None
whole (Some found) None = None
whole (Some found) (Some registers) = Some (record { bounds = found; registers = registers })

abbrev pub using_with : (first : List ℕ) → List (List ℕ) → Option UsingOperands
using_with first [] = None
using_with first (second ∷ others) = whole (bounds first) (expressions (second ∷ others))

abbrev pub using_in : List (List ℕ) → Option UsingOperands
using_in [] = None
using_in (first ∷ others) = using_with first others

-- a USING with an operand field, if it can be read
unfoldable pub using_of : List ℕ → Option UsingOperands
using_of field = using_in (operands_of field)

-- DROP: of all registers where no operand is written, or a comma alone; else of the registers that are written
pub data DropOperands : Type 0 where
  Everything : DropOperands
  Named : (registers : List Tree) → DropOperands

abbrev pub named : Option (List Tree) → Option DropOperands
named None = None
named (Some registers) = Some (Named registers)

abbrev pub drop_in : List (List ℕ) → Option DropOperands
drop_in [] = Some Everything
drop_in ([] ∷ [] ∷ []) = Some Everything
drop_in operands = named (expressions operands)

-- a DROP with an operand field, if it can be read
unfoldable pub drop_of : List ℕ → Option DropOperands
drop_of field = drop_in (operands_of field)
