use Rattle.std.proofs.Common.{List, ℕ, Option, Some, Ok, Err, subst}
use Rattle.std.specs.Str.{chars}
use Rattle.operand_list.specs.Split.{operands_of}
use Rattle.cond_expr.specs.Outcome.{Tells}
use Rattle.cond_expr.proofs.OutcomeLemmas.{Tells-and_then, Tells-stop}
use Rattle.macro_operands.specs.Calling.{value, values, name_entry, and_operands}
use Rattle.macro_operands.proofs.call.called.Goals as goal

pub returns-in-Ok-Some : goal.returns-in-Ok-Some
returns-in-Ok-Some g c =
    let told = g.Q.Lookups.told c.args.q.now in
    let entry = name_entry (chars c.args.label.now) in
    let operands = operands_of (chars c.args.operands.now) in
    let before = c.args.notes.now in
    let middle = c.value.new.notes in
    let label = c.in-Ok-Some.label in
    let found : Tells (value (chars c.name_entry.result.now) told) before middle (Ok (Some label)) =
    subst (λ (o : Option (List ℕ)). Tells (value (chars c.name_entry.result.now) told) before middle (Ok o)) c.in-Ok-Some.field-0-is c.in-Ok-Some.ensures in
    let first : Tells (value entry told) before middle (Ok (Some label)) =
    subst (λ (t : List ℕ). Tells (value t told) before middle (Ok (Some label))) c.name_entry.ensures found in
    Tells-and_then (value entry told) (λ (one : Option (List ℕ)). and_operands one (values operands told))
    before middle c.with_operands.new.notes (Some label) c.with_operands.result first c.with_operands.ensures

pub returns-in-Err : goal.returns-in-Err
returns-in-Err g c =
    let told = g.Q.Lookups.told c.args.q.now in
    let entry = name_entry (chars c.args.label.now) in
    let before = c.args.notes.now in
    let after = c.value.new.notes in
    let stop = c.in-Err.stop in
    let first : Tells (value entry told) before after (Err stop) =
    subst (λ (t : List ℕ). Tells (value t told) before after (Err stop)) c.name_entry.ensures c.in-Err.ensures in
    Tells-stop (value entry told) (λ (one : Option (List ℕ)). and_operands one (values (operands_of (chars c.args.operands.now)) told)) before after after stop first
