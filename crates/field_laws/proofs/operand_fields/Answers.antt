use Rattle.field_laws.proofs.FrontLaws.{standard, alternate}
use Rattle.field_laws.proofs.operand_fields.Goals as goal

pub returns : goal.returns
returns c = record {
  standard = standard;
  alternate = alternate;
}
