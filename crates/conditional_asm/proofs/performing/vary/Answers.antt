use Rattle.std.proofs.Common.{List, ℕ}
use Rattle.std.specs.Option.{option_map_or}
use Rattle.cond_expr.proofs.OutcomeLemmas.{Tells-and_then}
use Rattle.statement_reading.specs.Readings.{name_of}
use Rattle.statement_reading.specs.Views.{parts_of}
use Rattle.conditional_asm.specs.Effects.{named_now, nameless}
use Rattle.conditional_asm.specs.Substitution.{substituted}
use Rattle.conditional_asm.proofs.performing.vary.Goals as goal

pub returns-in-Ok : goal.returns-in-Ok
returns-in-Ok g c =
    let told = g.Q.Lookups.told c.args.q.now in
    let v = c.args.v.now in
    Tells-and_then (substituted (parts_of v.op) told) (λ (op : List ℕ). option_map_or (named_now v.label op v.operands v.open_end told) (name_of op) (nameless op v.open_end))
    c.args.notes.now c.substitute.new.notes c.operate_now.new.notes c.in-Ok.op c.operate_now.result c.in-Ok.ensures c.operate_now.ensures
