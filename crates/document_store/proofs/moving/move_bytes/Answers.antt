use Rattle.std.proofs.Common.{◌∙◌, ◌-◌, ap, sym}
use Rattle.std.specs.List.{copy_within}
use Rattle.document_store.proofs.MoveLemmas.{moved_nowhere}
use Rattle.document_store.proofs.moving.move_bytes.Goals as goal

pub returns-then-target-start-clause-after : goal.returns-then-target-start-clause-after
returns-then-target-start-clause-after c =
    moved_nowhere c.args.bytes.now c.args.start (c.args.end - c.args.start)
    ∙ ap (copy_within c.args.bytes.now c.args.start c.args.end) (sym c.if-target-start.true)
