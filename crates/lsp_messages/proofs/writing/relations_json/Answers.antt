use Rattle.lsp_messages.specs.Written.{relation_value}
use Rattle.lsp_messages.proofs.ListLaws.{map-next}
use Rattle.lsp_messages.proofs.writing.relations_json.Goals as goal

pub loop-relation-preserved : goal.loop-relation-preserved
loop-relation-preserved c =
    map-next relation_value c.args.related.now c.loop-relation.relation-index c.relation-item.result _ _ c.loop-relation-test.true c.relation-item.is
    c.loop-relation.invariant (c.in_ok-values-2.ensures _ c.relation_json.ensures)
