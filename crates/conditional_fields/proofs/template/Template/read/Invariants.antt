use Rattle.std.proofs.Common.{length}
use denote.Text.{Utf8}
use denote.Shadow.{shadow}
use Rattle.std.specs.Str.{chars}
use Rattle.conditional_fields.specs.Templates.{Reads}
use Rattle.conditional_fields.proofs.template.Template.read.Given as goal

-- the field begins with the pieces so far, and the rest is behind them
abbrev pub invariant-loop-rest : goal.invariant-loop-rest
invariant-loop-rest l = shadow (Utf8 l.rest) × Reads (chars l.field) l.pieces.items (chars l.rest)

abbrev pub decreases-loop-rest : goal.decreases-loop-rest
decreases-loop-rest l = length (chars l.rest)
