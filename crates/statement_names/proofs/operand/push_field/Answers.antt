use Rattle.std.proofs.Common.{refl}
use Rattle.std.specs.Str.{chars}
use Rattle.statement_names.proofs.FieldLaws.{field-remarks, field-unread, field-expressions, field-constants, field-instruction, field-branches, field-member}
use Rattle.statement_names.proofs.ListLaws.{pushed-none, pushed-same}
use Rattle.statement_names.proofs.operand.push_field.Goals as goal

pub returns-in-Remarks : goal.returns-in-Remarks
returns-in-Remarks c = pushed-none c.args.found.now c.args.found.now _ refl (field-remarks c.args.used (chars c.args.field.now) c.in-Remarks.is)

pub returns-in-Unread : goal.returns-in-Unread
returns-in-Unread c =
    pushed-same c.push_variables.result c.args.found.now c.push_variables.new.found _ _ (field-unread c.args.used (chars c.args.field.now) c.in-Unread.is) c.push_variables.ensures

pub returns-in-Expressions : goal.returns-in-Expressions
returns-in-Expressions c =
    pushed-same c.push_read.result c.args.found.now c.push_read.new.found _ _ (field-expressions c.args.used (chars c.args.field.now) c.in-Expressions.is) c.push_read.ensures

pub returns-in-Constants : goal.returns-in-Constants
returns-in-Constants c =
    pushed-same c.push_read-in-Constants.result c.args.found.now c.push_read-in-Constants.new.found _ _ (field-constants c.args.used (chars c.args.field.now) c.in-Constants.is) c.push_read-in-Constants.ensures

pub returns-in-Instruction : goal.returns-in-Instruction
returns-in-Instruction c =
    pushed-same c.push_read-in-Instruction.result c.args.found.now c.push_read-in-Instruction.new.found _ _ (field-instruction c.args.used (chars c.args.field.now) c.in-Instruction.is) c.push_read-in-Instruction.ensures

pub returns-in-Branches : goal.returns-in-Branches
returns-in-Branches c =
    pushed-same c.push_operands.result c.args.found.now c.push_operands.new.found _ _ (field-branches c.args.used (chars c.args.field.now) c.in-Branches.is) c.push_operands.ensures

pub returns-in-Member : goal.returns-in-Member
returns-in-Member c =
    pushed-same c.push_copied.result c.args.found.now c.push_copied.new.found _ _ (field-member c.args.used (chars c.args.field.now) c.in-Member.is) c.push_copied.ensures
