use Rattle.std.proofs.Common.{Ok, Some, refl}
use Rattle.cond_expr.specs.Characters.{limited}
use Rattle.cond_expr.specs.Outcome.{gives, and_then}
use Rattle.cond_expr.proofs.OutcomeLemmas.{Tells-and_then, Tells-gives}
use Rattle.statement_reading.specs.Views.{entry_of}
use Rattle.conditional_asm.specs.Generating.{entry_text}
use Rattle.macro_operands.proofs.value.value_of.Goals as goal

pub returns : goal.returns
returns g c =
    let told = g.Q.Lookups.told c.args.q.now in
    let text = c.in_ok-text.text in
    let cut = c.in_ok-cut.cut in
    Tells-and_then (entry_text (entry_of c.args.entry) told) (λ t. and_then (limited t) (λ w. gives (Some w)))
    c.args.notes.now c.substituted.new.notes c.limited.new.notes text (Ok (Some cut)) c.in_ok-text.ensures
    (Tells-and_then (limited text) (λ w. gives (Some w)) c.substituted.new.notes c.limited.new.notes c.limited.new.notes cut (Ok (Some cut)) c.in_ok-cut.ensures
    (Tells-gives (Some cut) (Some cut) c.limited.new.notes refl))
