use Rattle.std.proofs.Common.{Some, None, ap, sym, ◌∙◌}
use Rattle.hlasm_statements.specs.declared.statement.Statement.{Statement}
use Rattle.program_assembly.proofs.LineLaws.{FollowOn-last, FollowOn-none, last-of-listed}
use Rattle.program_assembly.proofs.column_notes.last_of_lines.Goals as goal

pub returns-in-Some : goal.returns-in-Some
returns-in-Some c = λ end follows some.
    FollowOn-last _ 0 end c.statement.result.now follows some
    (last-of-listed c.args.lines.now (Some c.in-Some.line.now) (sym c.in-Some.ensures.value) ∙ ap (λ (s : Statement). Some s) (sym c.statement.ensures))

pub returns-in-None : goal.returns-in-None
returns-in-None c = λ end follows some.
    absurd (FollowOn-none _ 0 end follows some (last-of-listed c.args.lines.now None (sym c.in-None.ensures.value)))
