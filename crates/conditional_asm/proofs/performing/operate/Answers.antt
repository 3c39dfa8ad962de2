use Rattle.std.proofs.Common.{true, false}
use Rattle.std.specs.Prelude.{if◌then◌else◌}
use Rattle.cond_expr.specs.Outcome.{Gives, noting}
use Rattle.statement_reading.specs.Views.{body_of}
use Rattle.conditional_asm.specs.declared.act.Act.TheVariants.{Call}
use Rattle.conditional_asm.specs.Definitions.{defined}
use Rattle.conditional_asm.specs.Effects.{doing, said_first}
use Rattle.conditional_asm.specs.Generating.{open_quote}
use Rattle.conditional_asm.proofs.EffectLaws.{replaced, unknown}
use Rattle.conditional_asm.proofs.performing.operate.Goals as goal

pub returns-then-is_defined : goal.returns-then-is_defined
returns-then-is_defined g c =
    let told = g.Q.Lookups.told c.args.q.now in
    let k = c.args.k.now in
    let run = noting (said_first k.task k.open_end) (doing (body_of k.body) k.name k.op told) in
    replaced k.lasting true c.in-Ok.is_defined (defined k.name told) run (Gives (Call k.name) (open_quote k.open_end)) run c.args.notes.now c.call.new.notes c.call.result
    c.if-k.false c.if-is_defined.true (c.in-Ok.ensures c.args.notes.now) c.call.ensures

pub returns-else-is_defined : goal.returns-else-is_defined
returns-else-is_defined g c =
    let told = g.Q.Lookups.told c.args.q.now in
    let k = c.args.k.now in
    let run = noting (said_first k.task k.open_end) (doing (body_of k.body) k.name k.op told) in
    replaced k.lasting false c.in-Ok.is_defined (defined k.name told) run (Gives (Call k.name) (open_quote k.open_end)) run c.args.notes.now c.run-in-Ok.new.notes c.run-in-Ok.result
    c.if-k.false c.if-is_defined.false (c.in-Ok.ensures c.args.notes.now) c.run-in-Ok.ensures

pub returns-in-Err : goal.returns-in-Err
returns-in-Err g c =
    let told = g.Q.Lookups.told c.args.q.now in
    let k = c.args.k.now in
    let run = noting (said_first k.task k.open_end) (doing (body_of k.body) k.name k.op told) in
    unknown k.lasting (defined k.name told) run (λ is. if is then Gives (Call k.name) (open_quote k.open_end) else run) c.args.notes.now c.args.notes.now c.in-Err.stop
    c.if-k.false (c.in-Err.ensures c.args.notes.now)
