-- What is known of the symbols of an ordinary expression, and which symbols it has (HLASM Language Reference SC26-4940,
-- "Symbols", "Symbol length attribute reference").
use Rattle.std.specs.Prelude.{ℕ, List, [], ◌∷◌, ◌++◌, Option, Some, None, find}
use Rattle.std.specs.Option.{is_none, option_map_or}
use Rattle.expression_grammar.specs.declared.tree.Reference.TheVariants.{Value}
use Rattle.expression_grammar.specs.Trees.{Tree, Ordinary, Signed, Pair, Paren}
use Rattle.ordinary_symbols.specs.declared.known.Known.{Known}

-- what is known of the symbol of each name: its value and length, or nothing where it is not defined or has no value
abbrev pub Knowledge : Type 0
Knowledge = List ℕ → Option Known

-- the names of the symbols of an expression, in order; that of a length attribute reference is one of them
abbrev pub names : Tree → List (List ℕ)
names (Ordinary asked symbol) = symbol.name ∷ []
names (Signed sign operand) = names operand
names (Pair operator left right) = names left ++ names right
names (Paren inner) = names inner
names other = []

-- the first of them of which nothing is known
abbrev pub first_unknown : Knowledge → Tree → Option (List ℕ)
first_unknown known tree = find (λ name. is_none (known name)) (names tree)

-- the symbol with which an expression begins, behind signs and parentheses
abbrev pub leftmost : Tree → Option (List ℕ)
leftmost (Ordinary Value symbol) = Some symbol.name
leftmost (Signed sign operand) = leftmost operand
leftmost (Pair operator left right) = leftmost left
leftmost (Paren inner) = leftmost inner
leftmost other = None

-- the length of a symbol, and 1 where nothing is known of it
abbrev pub length_of : Option Known → ℕ
length_of None = 1
length_of (Some known) = known.length

-- The length that an expression gives to the symbol that is equated with it (SC26-4940, "EQU instruction"): that of the
-- symbol with which it begins, else 1.
abbrev pub equated_length : Knowledge → Tree → ℕ
equated_length known tree = option_map_or (λ name. length_of (known name)) (leftmost tree) 1
