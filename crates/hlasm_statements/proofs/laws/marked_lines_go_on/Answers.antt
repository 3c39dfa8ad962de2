use Rattle.hlasm_statements.proofs.GroupsLaws.{inside-groups, between-groups, last-groups, groups-only}
use Rattle.hlasm_statements.proofs.laws.marked_lines_go_on.Goals as goal

pub returns : goal.returns
returns c = record {
  inside = inside-groups;
  between = between-groups;
  last = last-groups;
  only = groups-only;
}
