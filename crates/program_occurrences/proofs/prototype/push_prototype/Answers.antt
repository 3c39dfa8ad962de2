use Rattle.std.proofs.Common.{◌∙◌, ◌<◌, length}
use Rattle.std.proofs.lemmas.List.Elements.{All-same}
use Rattle.hlasm_statements.specs.Statements.{places}
use Rattle.statement_names.specs.declared.name.WrittenName.{WrittenName}
use Rattle.statement_names.specs.declared.uses.OperandUse.TheVariants.{Unread}
use Rattle.program_occurrences.proofs.PlaceLaws.{names_have_places}
use Rattle.program_occurrences.proofs.prototype.push_prototype.Goals as goal

pub push_names-requires : goal.push_names-requires
push_names-requires c =
    All-same (λ (name : WrittenName). name.at < length (places c.args.statement.now name.field)) _ _ (c.as_slice-2.ensures ∙ c.in_ok-names.ensures)
    (names_have_places Unread c.args.statement.now c.requires)
