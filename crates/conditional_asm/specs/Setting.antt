-- What SETA, SETB and SETC put (HLASM Language Reference SC26-4940, "SETA instruction", "SETB instruction", "SETC
-- instruction", "Subscripted SET symbols").
use Rattle.std.specs.Prelude.{ℕ, List, [], ◌∷◌, Option, Some, None, ℤ}
use Rattle.hl_base.specs.declared.set.SetKind.{SetKind}
use Rattle.hl_base.specs.declared.set.SetKind.TheVariants.{A, B, C}
use Rattle.hl_base.specs.declared.set.SetValue.{SetValue}
use Rattle.hl_base.specs.declared.set.SetValue.TheVariants as set
use Rattle.expression_grammar.specs.Trees.{Tree, Variable}
use Rattle.cond_expr.specs.Told.{Told}
use Rattle.cond_expr.specs.Outcome.{Outcome, gives, and_then}
use Rattle.cond_expr.specs.Characters.{not_below_0}
use Rattle.cond_expr.specs.Values.{number, numbers, text, is_true}
use Rattle.conditional_asm.specs.declared.act.Act.{Act}
use Rattle.conditional_asm.specs.declared.act.Act.TheVariants.{Next, Set}

-- the value of an expression for a SET symbol of this type
abbrev pub value_as : SetKind → Tree → Told → Outcome SetValue
value_as A tree told = and_then (number tree told) (λ n. gives (set.A n))
value_as B tree told = and_then (number tree told) (λ n. gives (set.B (is_true n)))
value_as C tree told = and_then (text tree told) (λ characters. gives (set.C characters))

-- the element that subscripts name: none without one; a number below 0, and more than one subscript, name element 0, which
-- no SET symbol has
abbrev pub element : List ℤ → Option ℕ
element [] = None
element (n ∷ []) = Some (not_below_0 n)
element (n ∷ m ∷ rest) = Some 0

-- the numbers of the subscripts, then the value, and the SET symbol or its element gets it; nothing but a variable symbol is
-- set
abbrev pub put : SetKind → (target operand : Tree) → Told → Outcome Act
put kind (Variable asked symbol subscripts) operand told =
    and_then (numbers subscripts told) (λ at. and_then (value_as kind operand told) (λ v. gives (Set symbol.name (element at) v)))
put kind other operand told = gives Next
