use Rattle.conditional_fields.specs.Sequences.{sequence}
use Rattle.operand_laws.specs.Fields.{IsSequence}
use Rattle.operand_laws.proofs.Longest.{reads-wrong}
use Rattle.operand_laws.proofs.Symbols.{reads-sequence}
use Rattle.operand_laws.proofs.wrong_labels.Goals as goal

pub returns : goal.returns
returns c = λ text count. reads-wrong IsSequence text count (sequence text) (reads-sequence text)
