use Rattle.std.specs.Prelude.{chars}
use Rattle.hlasm_statements.specs.Statements.{statements_of}
use Rattle.hlasm_statements.proofs.StatementLaws.{Reads}
use Rattle.hlasm_statements.proofs.statement.read_statements.Given as goal

-- the statements so far, those of the lines that wait and those of the lines that are left are those of the text
abbrev pub invariant-loop-line : goal.invariant-loop-line
invariant-loop-line l = Reads l.statements l.number l.bodies.items l.line-iterator (statements_of (chars l.text))
