-- What stands in the parentheses of an address constant. HLASM Language Reference SC26-4940, "Address constants".
use Rattle.std.specs.Prelude.{ℕ, ◌==◌, List, length, take, drop, Option, Some, None, Result, Ok, Err, option_map, encode_utf8_all, if◌then◌else◌}
use Rattle.hl_base.specs.Symbols.{symbol_of}
use Rattle.expression_grammar.specs.declared.character.Grammar.TheVariants.{Ordinary}
use Rattle.expression_grammar.specs.Readings.{read}
use Rattle.expression_grammar.specs.Trees.{Tree}
use Rattle.constant_table.specs.declared.constant_type.ValueKind.{ValueKind}
use Rattle.constant_table.specs.declared.constant_type.ValueKind.TheVariants as kind
use Rattle.constant_grammar.specs.Amounts.{Amount, AmountFront, decimal, computed, amount_front}

-- a value: an expression, a symbol, or a displacement with a base register or without
pub data Element : Type 0 where
  expression : (tree : Tree) → Element
  symbol : (name : List ℕ) → Element
  address_of : (displacement : Tree) (base : Option Tree) → Element

-- the tree that was read
abbrev pub tree_in : Result Tree ℕ → Option Tree
tree_in (Ok tree) = Some tree
tree_in (Err at) = None

-- a base register in parentheses that are all that is left
abbrev pub base_in : Amount → (count left : ℕ) → Option Tree
base_in (decimal number) count left = None
base_in (computed tree) count left = if count == left then Some tree else None

-- a displacement with its base register
abbrev pub with_base : Option Tree → Option AmountFront → (left : ℕ) → Option Element
with_base None base left = None
with_base (Some tree) None left = None
with_base (Some tree) (Some base) left = option_map (λ register. address_of tree (Some register)) (base_in base.amount base.count left)

-- an address whose displacement ends behind so many characters: where no expression goes on
abbrev pub based : ℕ → List ℕ → Option Element
based at text = with_base (tree_in (read Ordinary (take at text))) (amount_front (drop at text)) (length (drop at text))

-- an address: an expression, or one with a base register behind it
abbrev pub address_by : Result Tree ℕ → List ℕ → Option Element
address_by (Ok tree) text = Some (address_of tree None)
address_by (Err at) text = based at text

abbrev pub address : List ℕ → Option Element
address text = address_by (read Ordinary text) text

-- a value of a kind
abbrev pub element : ValueKind → List ℕ → Option Element
element kind.Expressions text = option_map expression (tree_in (read Ordinary text))
element kind.Symbols text = option_map symbol (symbol_of (encode_utf8_all text))
element kind.Addresses text = address text
element kind.Text text = None
element kind.HexadecimalDigits text = None
element kind.Bits text = None
element kind.Decimals text = None
element kind.Integers text = None
element kind.Floats text = None
