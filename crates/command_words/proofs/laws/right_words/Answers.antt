use Rattle.std.proofs.Common.{refl}
use Rattle.clap.proofs.OnLiterals.{clap_on_literals}
use Rattle.command_words.specs.CommandLine.{command_line}
use Rattle.command_words.specs.Commands.{command_of}
use Rattle.command_words.proofs.laws.right_words.Goals as goal

pub returns-clause-serve : goal.returns-clause-serve
unfolding clap_on_literals command_of command_line
returns-clause-serve c = refl

pub returns-clause-budget : goal.returns-clause-budget
unfolding clap_on_literals command_of command_line
returns-clause-budget c = refl

pub returns-clause-zeros : goal.returns-clause-zeros
unfolding clap_on_literals command_of command_line
returns-clause-zeros c = refl

pub returns-clause-first : goal.returns-clause-first
unfolding clap_on_literals command_of command_line
returns-clause-first c = refl

pub returns-clause-equals : goal.returns-clause-equals
unfolding clap_on_literals command_of command_line
returns-clause-equals c = refl

pub returns-clause-dashes : goal.returns-clause-dashes
unfolding clap_on_literals command_of command_line
returns-clause-dashes c = refl

pub returns-clause-bulk : goal.returns-clause-bulk
unfolding clap_on_literals command_of command_line
returns-clause-bulk c = refl
