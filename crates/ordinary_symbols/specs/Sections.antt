-- Relocatable terms of an ordinary expression (HLASM Language Reference SC26-4940, "Absolute and relocatable expressions"):
-- a symbol or a `*` whose value is an offset in a section. Terms of one section with opposite signs cancel one another,
-- wherever they stand in the sum, within parentheses too. A product has no relocatable term.
use Rattle.std.specs.Prelude.{ℕ, ◌+◌, ◌==◌, ◌&&◌, Bool, true, false, not, List, [], ◌∷◌, ◌++◌, Option, Some, None, find, if◌then◌else◌}
use Rattle.std.specs.Option.{is_none, option_map}
use Rattle.trace_values.specs.declared.section.SectionId.{SectionId}
use Rattle.trace_values.specs.declared.section.Reloc.{Reloc}
use Rattle.expression_grammar.specs.declared.tree.Operator.TheVariants.{Add, Subtract}
use Rattle.expression_grammar.specs.declared.tree.Reference.TheVariants.{Value}
use Rattle.expression_grammar.specs.declared.tree.Sign.{Sign}
use Rattle.expression_grammar.specs.declared.tree.Sign.TheVariants.{Plus, Minus}
use Rattle.expression_grammar.specs.Trees.{Tree, Here, Ordinary, Signed, Pair, Paren}
use Rattle.ordinary_symbols.specs.declared.known.Known.{Known}
use Rattle.ordinary_symbols.specs.Known.{Knowledge}

-- whether two sections are one
abbrev pub is_section : SectionId → SectionId → Bool
is_section one other = one.0 == other.0

-- the section of a value, if it has one
abbrev pub section_of : Option Reloc → Option SectionId
section_of None = None
section_of (Some value) = value.section

-- the value of a symbol of which something is known
abbrev pub value_in : Option Known → Option Reloc
value_in known = option_map (λ (k : Known). k.value) known

-- the sign that another turns round
abbrev pub under : Sign → Sign → Sign
under Plus sign = sign
under Minus Plus = Minus
under Minus Minus = Plus

abbrev pub listed : Option SectionId → List SectionId
listed None = []
listed (Some section) = section ∷ []

abbrev pub is_plus : Sign → Bool
is_plus Plus = true
is_plus Minus = false

-- a term is in a section, and its sign is a plus
abbrev pub once : SectionId → Sign → Option SectionId → ℕ
once section sign None = 0
once section sign (Some own) = if is_plus sign && is_section own section then 1 else 0

-- the sections of the terms of a sum, in order
abbrev pub sections : Knowledge → Option Reloc → Tree → List SectionId
sections known here (Ordinary Value symbol) = listed (section_of (value_in (known symbol.name)))
sections known here Here = listed (section_of here)
sections known here (Signed sign operand) = sections known here operand
sections known here (Pair Add left right) = sections known here left ++ sections known here right
sections known here (Pair Subtract left right) = sections known here left ++ sections known here right
sections known here (Paren inner) = sections known here inner
sections known here other = []

-- How many terms in a section count with a plus, where the whole sum has a sign before it. With a minus before it, that is
-- how many count with a minus.
abbrev pub times : Knowledge → Option Reloc → SectionId → Sign → Tree → ℕ
times known here section sign (Ordinary Value symbol) = once section sign (section_of (value_in (known symbol.name)))
times known here section sign Here = once section sign (section_of here)
times known here section sign (Signed before operand) = times known here section (under before sign) operand
times known here section sign (Pair Add left right) = times known here section sign left + times known here section sign right
times known here section sign (Pair Subtract left right) = times known here section sign left + times known here section (under Minus sign) right
times known here section sign (Paren inner) = times known here section sign inner
times known here section sign other = 0

-- the terms in a section cancel one another: as many count with a plus as with a minus
abbrev pub cancels : Knowledge → Option Reloc → Tree → SectionId → Bool
cancels known here tree section = times known here section Plus tree == times known here section Minus tree

-- the terms in a section come to one of them, with a plus
abbrev pub counts_once : Knowledge → Option Reloc → Tree → SectionId → Bool
counts_once known here tree section = times known here section Plus tree == times known here section Minus tree + 1

-- whether a section is another than this one, if there is one
abbrev pub is_other : Option SectionId → SectionId → Bool
is_other None section = true
is_other (Some but) section = not (is_section section but)

-- the first section whose terms do not cancel, other than this one
abbrev pub left_over : Knowledge → Option Reloc → Tree → Option SectionId → Option SectionId
left_over known here tree but = find (λ section. is_other but section && not (cancels known here tree section)) (sections known here tree)

-- a sum is absolute where all its relocatable terms cancel
abbrev pub is_absolute : Knowledge → Option Reloc → Tree → Bool
is_absolute known here tree = is_none (left_over known here tree None)

-- a sum is simply relocatable where the terms in one section come to one of them, and all others cancel
abbrev pub is_simple : Knowledge → Option Reloc → Tree → SectionId → Bool
is_simple known here tree section = counts_once known here tree section && is_none (left_over known here tree (Some section))
