-- The values of ordinary expressions (HLASM Language Reference SC26-4940, "Expressions", "Evaluation of expressions",
-- "Absolute and relocatable expressions"): a number of 32 bits with sign, in a section or without one. Of several faults
-- the first is told, from left to right, operands before their operator.
use Rattle.std.specs.Prelude.{ℕ, ◌&&◌, Bool, ℤ, pos, ◌+ℤ◌, ◌-ℤ◌, ◌*ℤ◌, neg_ℤ, List, Option, Some, None, Result, Ok, Err, if◌then◌else◌}
use Rattle.std.specs.Int.{w32, cast_signed}
use Rattle.trace_values.specs.declared.section.SectionId.{SectionId}
use Rattle.trace_values.specs.declared.section.Reloc.{Reloc}
use Rattle.cond_expr.specs.Arithmetic.{fitting, quotient}
use Rattle.expression_grammar.specs.declared.tree.Attribute.TheVariants.{Length}
use Rattle.expression_grammar.specs.declared.tree.Operator.{Operator}
use Rattle.expression_grammar.specs.declared.tree.Operator.TheVariants.{Add, Subtract, Multiply, Divide}
use Rattle.expression_grammar.specs.declared.tree.Reference.{Reference}
use Rattle.expression_grammar.specs.declared.tree.Reference.TheVariants.{Value, Of}
use Rattle.expression_grammar.specs.declared.tree.Sign.{Sign}
use Rattle.expression_grammar.specs.declared.tree.Sign.TheVariants.{Plus, Minus}
use Rattle.expression_grammar.specs.Trees.{Tree, Number, Here, Ordinary, Signed, Pair, Paren}
use Rattle.ordinary_symbols.specs.declared.fault.EvalFault.{EvalFault}
use Rattle.ordinary_symbols.specs.declared.fault.EvalFault.TheVariants.{Undefined, NotSimple, Overflow}
use Rattle.ordinary_symbols.specs.declared.known.Known.{Known}
use Rattle.ordinary_symbols.specs.Known.{Knowledge}
use Rattle.ordinary_symbols.specs.Sections.{is_absolute, is_simple, left_over}

-- one, and then another that knows its value; a fault of the first is that of both
abbrev pub and_then : {A B : Type 0} → Result A EvalFault → (A → Result B EvalFault) → Result B EvalFault
and_then (Ok value) next = next value
and_then (Err fault) next = Err fault

-- a number that was computed, where it fits
abbrev pub checked : Option ℤ → Result ℤ EvalFault
checked None = Err Overflow
checked (Some number) = Ok number

-- what a symbol stands for: its value, or its length
abbrev pub number_of_symbol : Reference → List ℕ → Option Known → Result ℤ EvalFault
number_of_symbol asked name None = Err (Undefined name)
number_of_symbol Value name (Some known) = Ok known.value.value
number_of_symbol (Of Length) name (Some known) = checked (fitting (pos known.length))
number_of_symbol (Of other) name (Some known) = Err NotSimple

-- the place where an expression stands, which a `*` needs
abbrev pub number_of_place : Option Reloc → Result ℤ EvalFault
number_of_place None = Err NotSimple
number_of_place (Some here) = Ok here.value

abbrev pub signed : Sign → ℤ → Result ℤ EvalFault
signed Plus n = Ok n
signed Minus n = checked (fitting (neg_ℤ n))

-- what an operator makes of two numbers, where both are absolute or not; a product and a quotient are of absolute ones
abbrev pub joined : Operator → (absolute : Bool) → ℤ → ℤ → Result ℤ EvalFault
joined Add absolute m n = checked (fitting (m +ℤ n))
joined Subtract absolute m n = checked (fitting (m -ℤ n))
joined Multiply absolute m n = if absolute then checked (fitting (m *ℤ n)) else Err NotSimple
joined Divide absolute m n = if absolute then checked (quotient m n) else Err NotSimple
joined other absolute m n = Err NotSimple

-- The number of an expression, whichever section it is in. What is no ordinary expression has none.
abbrev pub number : Knowledge → Option Reloc → Tree → Result ℤ EvalFault
number known here (Number form bits) = Ok (cast_signed w32 bits)
number known here Here = number_of_place here
number known here (Ordinary asked symbol) = number_of_symbol asked symbol.name (known symbol.name)
number known here (Signed sign operand) = and_then (number known here operand) (signed sign)
number known here (Pair operator left right) =
    and_then (number known here left) (λ m.
    and_then (number known here right) (λ n. joined operator (is_absolute known here left && is_absolute known here right) m n))
number known here (Paren inner) = number known here inner
number known here other = Err NotSimple

-- a number in the section of the terms that are left, if there are such
abbrev pub placed : Knowledge → Option Reloc → Tree → ℤ → Option SectionId → Result Reloc EvalFault
placed known here tree n None = Ok (record { section = None; value = n })
placed known here tree n (Some section) =
    if is_simple known here tree section then Ok (record { section = Some section; value = n }) else Err NotSimple

-- the value of an expression
abbrev pub value : Knowledge → Option Reloc → Tree → Result Reloc EvalFault
value known here tree = and_then (number known here tree) (λ n. placed known here tree n (left_over known here tree None))
