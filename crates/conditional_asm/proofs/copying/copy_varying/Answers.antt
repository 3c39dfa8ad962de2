use Rattle.cond_expr.proofs.OutcomeLemmas.{Tells-and_then}
use Rattle.conditional_fields.specs.Endings.{field_of}
use Rattle.statement_reading.specs.Bodies.{member}
use Rattle.statement_reading.specs.Views.{parts_of}
use Rattle.conditional_asm.specs.Effects.{copied}
use Rattle.conditional_asm.specs.Substitution.{substituted}
use Rattle.conditional_asm.proofs.copying.copy_varying.Goals as goal

pub returns-in-Ok : goal.returns-in-Ok
returns-in-Ok g c =
    let told = g.Q.Lookups.told c.args.q.now in
    Tells-and_then (substituted (parts_of c.args.operand.now) told) (λ text. copied (member (field_of text)))
    c.args.notes.now c.substitute.new.notes c.copy_of.new.notes c.in-Ok.text c.copy_of.result c.in-Ok.ensures c.copy_of.ensures
