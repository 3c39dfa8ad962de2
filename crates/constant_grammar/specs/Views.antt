-- What the program's values are as they are written (this project).
use Rattle.std.specs.Prelude.{map, Option, Result, Ok, Err, option_map}
use Rattle.expression_grammar.specs.declared.fault.SyntaxFault.{SyntaxFault}
use Rattle.expression_grammar.specs.declared.tree.Expr.{Expr}
use Rattle.expression_grammar.specs.Trees.{Tree}
use Rattle.expression_grammar.specs.Views.{tree_of}
use Rattle.constant_grammar.specs.declared.tree.Formula.{Formula}
use Rattle.constant_grammar.specs.declared.amount.Amount as declared
use Rattle.constant_grammar.specs.declared.amount.Amount.TheVariants as amount
use Rattle.constant_grammar.specs.declared.amount.AmountFront as front
use Rattle.constant_grammar.specs.declared.amount.OptionalAmount as optional
use Rattle.constant_grammar.specs.declared.constant.Constant as whole
use Rattle.constant_grammar.specs.declared.element.Element as part
use Rattle.constant_grammar.specs.declared.element.Element.TheVariants as element
use Rattle.constant_grammar.specs.declared.nominal.Nominal as named
use Rattle.constant_grammar.specs.declared.nominal.Nominal.TheVariants as nominal
use Rattle.constant_grammar.specs.Amounts.{Amount, AmountFront, OptionalAmount, decimal, computed}
use Rattle.constant_grammar.specs.Constants.{Constant}
use Rattle.constant_grammar.specs.Elements.{Element, expression, symbol, address_of}
use Rattle.constant_grammar.specs.Nominals.{Nominal, quoted, enclosed}

-- a formula that is read, as the expression that it is
abbrev pub expression_in : Result Formula SyntaxFault → Result Expr SyntaxFault
expression_in (Ok formula) = Ok formula.tree.value
expression_in (Err fault) = Err fault

abbrev pub tree_in : Formula → Tree
tree_in formula = tree_of formula.tree.value

abbrev pub tree_if : Option Formula → Option Tree
tree_if found = option_map tree_in found

abbrev pub amount_of : declared.Amount → Amount
amount_of (amount.Decimal number) = decimal number
amount_of (amount.Computed tree) = computed (tree_in tree)

abbrev pub optional_amount_of : Option declared.Amount → Option Amount
optional_amount_of found = option_map amount_of found

abbrev pub amount_front_of : front.AmountFront → AmountFront
amount_front_of found = record { amount = amount_of found.amount; count = found.count }

abbrev pub optional_of : optional.OptionalAmount → OptionalAmount
optional_of found = record { amount = optional_amount_of found.amount; count = found.count }

abbrev pub element_of : part.Element → Element
element_of (element.Expression tree) = expression (tree_in tree)
element_of (element.Symbol name) = symbol name
element_of (element.Address displacement base) = address_of (tree_in displacement) (tree_if base)

abbrev pub nominal_of : named.Nominal → Nominal
nominal_of (nominal.Quoted text) = quoted text
nominal_of (nominal.Enclosed elements) = enclosed (map element_of elements.items)

abbrev pub optional_nominal_of : Option named.Nominal → Option Nominal
optional_nominal_of found = option_map nominal_of found

-- an operand as it is written
abbrev pub constant_of : whole.Constant → Constant
constant_of constant = record {
  factor = optional_amount_of constant.factor;
  kind = constant.kind;
  length = optional_amount_of constant.length;
  nominal = optional_nominal_of constant.nominal;
}
