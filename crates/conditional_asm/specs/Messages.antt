-- How much a message of MNOTE weighs (HLASM Language Reference SC26-4940, "MNOTE instruction").
use Rattle.std.specs.Prelude.{Option, Some, None, ℤ, pos, int_lt, if◌then◌else◌}
use Rattle.hl_base.specs.declared.note.Severity.{Severity}
use Rattle.hl_base.specs.declared.note.Severity.TheVariants.{Error, Warning, Information}
use Rattle.expression_grammar.specs.Trees.{Tree}
use Rattle.cond_expr.specs.Told.{Told}
use Rattle.cond_expr.specs.Outcome.{Outcome, gives, and_then}
use Rattle.cond_expr.specs.Values.{number}

-- by the number of its severity
abbrev pub weight : ℤ → Severity
weight severity = if int_lt severity (pos 4) then Information else (if int_lt severity (pos 8) then Warning else Error)

-- by its severity as it is written; a message without one informs
abbrev pub weight_of : Option Tree → Told → Outcome Severity
weight_of None told = gives Information
weight_of (Some tree) told = and_then (number tree told) (λ n. gives (weight n))
