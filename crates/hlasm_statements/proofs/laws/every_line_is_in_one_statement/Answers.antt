use Rattle.hlasm_statements.proofs.GroupsLaws.{lines_in-groups, FollowOn-text}
use Rattle.hlasm_statements.proofs.laws.every_line_is_in_one_statement.Goals as goal

pub returns : goal.returns
returns c = record {
  lines = lines_in-groups;
  numbers = FollowOn-text;
}
