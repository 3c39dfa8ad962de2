use Rattle.std.proofs.Common.{sym}
use Rattle.hlasm_statements.proofs.CharLaws.{opening-comment, opening-inner, opening-plain}
use Rattle.hlasm_statements.proofs.shape.opening.Goals as goal

pub returns-then-begins_comment : goal.returns-then-begins_comment
returns-then-begins_comment c = sym (opening-comment c.args.line.now c.utf8.line (cc))

pub returns-then-begins_inner_comment : goal.returns-then-begins_inner_comment
returns-then-begins_inner_comment c = sym (opening-inner c.args.line.now c.utf8.line (cc) (cc))

pub returns-else-begins_inner_comment : goal.returns-else-begins_inner_comment
returns-else-begins_inner_comment c = sym (opening-plain c.args.line.now c.utf8.line (cc) (cc))
