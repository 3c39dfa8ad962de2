use Rattle.std.proofs.Common.{◌≡◌, List, ℕ, Option, Some, sym, subst}
use Rattle.std.specs.Option.{option_map_or}
use Rattle.cond_expr.specs.Outcome.{Tells}
use Rattle.statement_reading.specs.Readings.{Instruction, name_of}
use Rattle.conditional_asm.specs.Effects.{instructed, named_now, nameless}
use Rattle.conditional_asm.proofs.performing.operate_now.Goals as goal

pub returns-in_ok-k-in-Some : goal.returns-in_ok-k-in-Some
returns-in_ok-k-in-Some g c =
    let told = g.Q.Lookups.told c.args.q.now in
    let v = c.args.v.now in
    let op = c.args.op in
    let found : name_of op ≡ Some c.in-Some.name = cc in
    subst (λ (n : Option (List ℕ)). Tells (option_map_or (named_now v.label op v.operands v.open_end told) n (nameless op v.open_end)) c.args.notes.now c.operate.new.notes c.operate.result) (sym found)
    (subst (λ (i : Instruction). Tells (instructed i told) c.args.notes.now c.operate.new.notes c.operate.result) c.in_ok-k-in-Some.ensures c.operate.ensures)
