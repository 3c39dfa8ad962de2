use Rattle.std.proofs.Common.{refl}
use Rattle.hlasm_statements.proofs.ReadingLaws.{read-new}
use Rattle.hlasm_statements.proofs.reader.Reader.new.Goals as goal

pub returns : goal.returns
returns c = λ alternate. read-new _ alternate refl c.new.ensures refl c.new-2.ensures c.new-3.ensures c.new-4.ensures c.new-5.ensures c.new-6.ensures c.new-7.ensures
