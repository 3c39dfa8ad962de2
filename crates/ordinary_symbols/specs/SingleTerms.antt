-- Expressions with one relocatable term at most, which has a plus before it (HLASM Language Reference SC26-4940, "Absolute and
-- relocatable expressions"). No public contract speaks of them.
use Rattle.std.specs.Prelude.{◌≡◌, Option, Ok}
use Rattle.trace_values.specs.declared.section.SectionId.{SectionId}
use Rattle.trace_values.specs.declared.section.Reloc.{Reloc}
use Rattle.expression_grammar.specs.declared.tree.Operator.{Operator}
use Rattle.expression_grammar.specs.declared.tree.Sign.{Sign}
use Rattle.expression_grammar.specs.Trees.{Tree, Pair}
use Rattle.ordinary_symbols.specs.Known.{Knowledge}
use Rattle.ordinary_symbols.specs.Sections.{sections, times, listed, once}
use Rattle.ordinary_symbols.specs.Values.{number}

-- the number of an expression is that of a value, and its only relocatable term, if there is one, is in the section of the value
pub record ComesTo (known : Knowledge) (here : Option Reloc) (tree : Tree) (value : Reloc) : Type 0 where
  pub numbered : number known here tree ≡ Ok value.value
  pub placed : sections known here tree ≡ listed value.section
  pub counted : (section : SectionId) (sign : Sign) → times known here section sign tree ≡ once section sign value.section

-- where two expressions come to two values, what an operator makes of them comes to a third
abbrev pub Joins : Operator → (left right value : Reloc) → Type 0
Joins operator left right value =
    (known : Knowledge) (here : Option Reloc) (one other : Tree) → ComesTo known here one left → ComesTo known here other right →
    ComesTo known here (Pair operator one other) value
