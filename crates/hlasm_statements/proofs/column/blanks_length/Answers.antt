use Rattle.hlasm_statements.specs.Columns.{is_blank}
use Rattle.hlasm_statements.proofs.ByteLaws.{found-twice, all-twice}
use Rattle.hlasm_statements.proofs.column.blanks_length.Goals as goal

pub returns-in-Some : goal.returns-in-Some
returns-in-Some c = found-twice is_blank c.args.bytes.now c.first_other.result c.in-Some.count c.first_other.ensures c.in-Some.is

pub returns-in-None : goal.returns-in-None
returns-in-None c = all-twice is_blank c.args.bytes.now c.first_other.result c.first_other.ensures c.in-None.is
