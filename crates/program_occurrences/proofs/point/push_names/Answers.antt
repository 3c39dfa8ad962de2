use Rattle.std.proofs.Common.{◌≡◌, ◌∙◌, ◌<◌, length, ap, sym}
use Rattle.std.proofs.lemmas.List.Elements.{All-same}
use Rattle.hlasm_statements.specs.Statements.{places}
use Rattle.statement_names.specs.declared.name.WrittenName.{WrittenName}
use Rattle.program_occurrences.specs.Operations.{used_by}
use Rattle.program_occurrences.proofs.PlaceLaws.{names_have_places}
use Rattle.program_occurrences.proofs.point.push_names.Goals as goal

pub push_occurrences-requires : goal.push_occurrences-requires
push_occurrences-requires c =
    All-same (λ (name : WrittenName). name.at < length (places c.args.statement.now name.field)) _ _ (c.as_slice.ensures ∙ c.in_ok-names.ensures)
    (names_have_places c.used_by.result c.args.statement.now c.requires)
