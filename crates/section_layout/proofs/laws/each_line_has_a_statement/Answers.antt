use Rattle.section_layout.proofs.Counts.{length-layout_of}
use Rattle.section_layout.proofs.laws.each_line_has_a_statement.Goals as goal

pub returns : goal.returns
returns c = length-layout_of
