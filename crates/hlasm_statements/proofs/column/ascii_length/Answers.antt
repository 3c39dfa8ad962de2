use Rattle.hlasm_statements.specs.Reading.{is_ascii_ink}
use Rattle.hlasm_statements.proofs.ByteLaws.{found-twice, all-twice}
use Rattle.hlasm_statements.proofs.column.ascii_length.Goals as goal

pub returns-in-Some : goal.returns-in-Some
returns-in-Some c = found-twice is_ascii_ink c.args.bytes.now c.first_beyond.result c.in-Some.count c.first_beyond.ensures c.in-Some.is

pub returns-in-None : goal.returns-in-None
returns-in-None c = all-twice is_ascii_ink c.args.bytes.now c.first_beyond.result c.first_beyond.ensures c.in-None.is
