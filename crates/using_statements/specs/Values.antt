-- What the operands of USING and DROP come to (HLASM Language Reference SC26-4940, "USING instruction", "DROP instruction").
use Rattle.std.specs.Prelude.{ℕ, ◌==◌, ◌&&◌, Bool, true, false, ℤ, pos, negsuc, int_lt, nat_lt, List, [], ◌∷◌, Option, Some, None, Result, Ok, Err, if◌then◌else◌}
use Rattle.expression_grammar.specs.Trees.{Tree}
use Rattle.ordinary_symbols.specs.declared.fault.EvalFault.{EvalFault}
use Rattle.ordinary_symbols.specs.Known.{Knowledge}
use Rattle.ordinary_symbols.specs.Values.{value}
use Rattle.trace_values.specs.declared.section.Reloc.{Reloc}
use Rattle.trace_values.specs.declared.section.SectionId.{SectionId}
use Rattle.using_statements.specs.declared.values.Span.{Span}
use Rattle.using_statements.specs.Wholes.{with_others}
use Rattle.using_statements.specs.Written.{Bounds}

-- whether two values stand in one section, or are both numbers
abbrev pub are_together : Option SectionId → Option SectionId → Bool
are_together None None = true
are_together None (Some other) = false
are_together (Some section) None = false
are_together (Some section) (Some other) = section.0 == other.0

-- whether ranges can have this end: it stands behind the base, in one section with it
abbrev pub may_end : (base end : Reloc) → Bool
may_end base end = are_together base.section end.section && int_lt base.value end.value

-- what bounds come to: where ranges begin, and where they end, if that is written; nothing where the bounds are not in order
abbrev pub span_between : (base end : Reloc) → Option Span
span_between base end = if may_end base end then Some (record { base = base; end = Some end.value }) else None

abbrev pub span_before : Reloc → Result Reloc EvalFault → Option Span
span_before base (Ok end) = span_between base end
span_before base (Err fault) = None

abbrev pub span_by : Knowledge → Option Reloc → Result Reloc EvalFault → (end : Option Tree) → Option Span
span_by known here (Err fault) end = None
span_by known here (Ok base) None = Some (record { base = base; end = None })
span_by known here (Ok base) (Some end) = span_before base (value known here end)

abbrev pub span_of : Knowledge → Option Reloc → Bounds → Option Span
span_of known here bounds = span_by known here (value known here bounds.start) bounds.end

-- the register that a number is: 0 to 15
abbrev pub register_in : Option SectionId → ℤ → Option ℕ
register_in (Some section) number = None
register_in None (pos n) = if nat_lt n 16 then Some n else None
register_in None (negsuc n) = None

-- the register that a value is, if it is one
abbrev pub register_of : Result Reloc EvalFault → Option ℕ
register_of (Ok found) = register_in found.section found.value
register_of (Err fault) = None

-- the registers that some expressions are, if each is one
unfoldable pub register_at : Knowledge → Option Reloc → Tree → Option ℕ
register_at known here tree = register_of (value known here tree)

abbrev pub registers_of : Knowledge → Option Reloc → List Tree → Option (List ℕ)
registers_of known here [] = Some []
registers_of known here (tree ∷ trees) = with_others (register_at known here tree) (registers_of known here trees)
