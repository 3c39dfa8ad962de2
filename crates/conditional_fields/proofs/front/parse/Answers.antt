use Rattle.std.proofs.Common.{inl, inr}
use Rattle.std.specs.Str.{chars}
use Rattle.conditional_fields.specs.declared.front.Sought.TheVariants.{Number, Variable, Condition}
use Rattle.conditional_fields.proofs.FrontLaws.{read_as}
use Rattle.conditional_fields.proofs.front.parse.Goals as goal

pub returns-in-Number : goal.returns-in-Number
returns-in-Number c = elim c.in-Number.is [
  | inl is ↦ read_as c.args.sought Number (chars c.args.text.now) c.parse_arith.result is c.parse_arith.ensures
  | inr is ↦ read_as c.args.sought Variable (chars c.args.text.now) c.parse_arith.result is c.parse_arith.ensures
]

pub returns-in-Condition : goal.returns-in-Condition
returns-in-Condition c = read_as c.args.sought Condition (chars c.args.text.now) c.parse_logic.result c.in-Condition.is c.parse_logic.ensures
