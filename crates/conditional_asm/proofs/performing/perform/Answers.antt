use Rattle.std.proofs.Common.{Err, subst, ap, ◌∙◌}
use Rattle.hl_base.specs.declared.set.Key.{Key}
use Rattle.statement_reading.specs.Views.{reading_of}
use Rattle.cond_expr.specs.declared.stop.Stop.{Stop}
use Rattle.cond_expr.specs.Outcome.{Tells}
use Rattle.conditional_asm.specs.declared.act.Act.TheVariants.{Ask}
use Rattle.conditional_asm.specs.declared.act.Effect.{Effect}
use Rattle.conditional_asm.specs.Effects.{effect_of}
use Rattle.conditional_asm.proofs.EffectLaws.{shows, shows_asked}
use Rattle.conditional_asm.proofs.performing.perform.Goals as goal

pub returns-in-Ok : goal.returns-in-Ok
returns-in-Ok g c =
    let o = effect_of (reading_of c.args.read.now) (g.Q.Lookups.told c.args.q.now) in
    shows o c.new-notes.result c.follow.new.notes c.in_ok-left-in-Ok.left c.in-Ok.act c.new-notes.ensures c.in_ok-left-in-Ok.ensures c.in-Ok.ensures

pub returns-in-Err-Asked : goal.returns-in-Err-Asked
returns-in-Err-Asked g c =
    let o = effect_of (reading_of c.args.read.now) (g.Q.Lookups.told c.args.q.now) in
    let asked = subst (λ (s : Stop). Tells o c.new-notes.result c.follow.new.notes (Err s)) c.in-Err-Asked.field-0-is c.in-Err-Asked.ensures in
    let one : Key → Effect = λ k. record { act = Ask k; notes = c.new.result } in
    ap one c.in-Err-Asked.key-is ∙ shows_asked o c.new-notes.result c.follow.new.notes c.new.result c.in-Err-Asked.key c.new.ensures asked
