-- the values so far are those of the places so far
use Rattle.std.proofs.Common.{◌≡◌, map, take}
use Rattle.serde_json.specs.View.{view}
use Rattle.lsp_messages.specs.Written.{relation_value}
use Rattle.lsp_messages.proofs.writing.relations_json.Given as goal

abbrev pub invariant-loop-relation : goal.invariant-loop-relation
invariant-loop-relation l = map view l.values.items ≡ map relation_value (take l.relation-index l.related)
