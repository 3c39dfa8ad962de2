use Rattle.std.proofs.Common.{ap}
use Rattle.statement_names.specs.declared.spans.Span.{Span}
use Rattle.statement_occurrences.proofs.NameLaws.{placed}
use Rattle.statement_occurrences.proofs.names.occurrence_of.Goals as goal

pub returns : goal.returns
returns c =
    ap
    (λ (place : Span). record {
      path = c.args.path;
      line = place.line;
      from = place.from;
      to = place.to;
      entity = c.args.naming.entity;
      defines = c.args.naming.defines;
      role = c.args.naming.role;
    })
    (placed c.args.statement.now c.args.name.now c.span_of-place.result c.requires c.span_of-place.ensures)
