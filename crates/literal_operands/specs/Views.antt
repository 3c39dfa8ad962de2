-- What the program's literals are (this project).
use Rattle.std.specs.Str.{chars}
use Rattle.constant_operands.specs.Views.{operand_of}
use Rattle.literal_operands.specs.declared.literal.LiteralOperand.{LiteralOperand}
use Rattle.literal_operands.specs.Literals.{Literal}

abbrev pub literal_of : LiteralOperand → Literal
literal_of literal = record { text = chars literal.text.now; constant = operand_of literal.constant; behind = chars literal.behind.now }
