use Rattle.std.proofs.Common.{◌≡◌, ◌∙◌, ap, Option, Some, None}
use Rattle.instruction_table.specs.declared.format.Format.{Format}
use Rattle.instruction_table.specs.Instructions.{instructions, look_up}
use Rattle.instruction_table.specs.Operations.{by_format, operation_of, other_operation}
use Rattle.instruction_table.proofs.table.operation.Goals as goal

pub returns-in-Some : goal.returns-in-Some
unfolding operation_of
returns-in-Some c =
    let found : Some c.in-Some.format ≡ look_up c.args.op.now instructions = cc in
    ap (by_format c.args.op.now) found

pub returns-in-None : goal.returns-in-None
unfolding operation_of
returns-in-None c =
    let missing : ◌≡◌ {A = Option Format} None (look_up c.args.op.now instructions) = cc in
    c.other_operation.ensures ∙ ap other_operation c.text.ensures ∙ ap (by_format c.args.op.now) missing
