use Rattle.symbol_answers.proofs.ReferenceLaws.{references_named, definition_is_reference}
use Rattle.symbol_answers.proofs.laws.references_name_the_same.Goals as goal

pub returns-clause-named : goal.returns-clause-named
returns-clause-named c = references_named

pub returns-clause-defined : goal.returns-clause-defined
returns-clause-defined c = definition_is_reference
