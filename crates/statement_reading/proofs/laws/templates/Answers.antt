use Rattle.statement_reading.proofs.TemplateLaws.{template-right, template-wrong, template-plain}
use Rattle.statement_reading.proofs.laws.templates.Goals as goal

pub returns-clause-parts : goal.returns-clause-parts
returns-clause-parts c = template-right

pub returns-clause-fault : goal.returns-clause-fault
returns-clause-fault c = template-wrong

pub returns-clause-plain : goal.returns-clause-plain
returns-clause-plain c = template-plain
