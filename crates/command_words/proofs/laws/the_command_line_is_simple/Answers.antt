use Rattle.command_words.proofs.ShapeLaws.{line_is_free}
use Rattle.command_words.proofs.laws.the_command_line_is_simple.Goals as goal

pub returns : goal.returns
returns c = line_is_free
