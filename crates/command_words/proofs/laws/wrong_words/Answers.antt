use Rattle.std.proofs.Common.{refl}
use Rattle.clap.proofs.OnLiterals.{clap_on_literals}
use Rattle.command_words.specs.CommandLine.{command_line}
use Rattle.command_words.specs.Commands.{command_of}
use Rattle.command_words.proofs.laws.wrong_words.Goals as goal

pub returns-clause-none : goal.returns-clause-none
unfolding clap_on_literals command_of command_line
returns-clause-none c = refl

pub returns-clause-zero : goal.returns-clause-zero
unfolding clap_on_literals command_of command_line
returns-clause-zero c = refl

pub returns-clause-great : goal.returns-clause-great
unfolding clap_on_literals command_of command_line
returns-clause-great c = refl

pub returns-clause-long : goal.returns-clause-long
unfolding clap_on_literals command_of command_line
returns-clause-long c = refl

pub returns-clause-minus : goal.returns-clause-minus
unfolding clap_on_literals command_of command_line
returns-clause-minus c = refl

pub returns-clause-count : goal.returns-clause-count
unfolding clap_on_literals command_of command_line
returns-clause-count c = refl

pub returns-clause-other : goal.returns-clause-other
unfolding clap_on_literals command_of command_line
returns-clause-other c = refl

pub returns-clause-left_out : goal.returns-clause-left_out
unfolding clap_on_literals command_of command_line
returns-clause-left_out c = refl

pub returns-clause-many : goal.returns-clause-many
unfolding clap_on_literals command_of command_line
returns-clause-many c = refl

pub returns-clause-file : goal.returns-clause-file
unfolding clap_on_literals command_of command_line
returns-clause-file c = refl

pub returns-clause-empty : goal.returns-clause-empty
unfolding clap_on_literals command_of command_line
returns-clause-empty c = refl

pub returns-clause-last : goal.returns-clause-last
unfolding clap_on_literals command_of command_line
returns-clause-last c = refl

pub returns-clause-twice : goal.returns-clause-twice
unfolding clap_on_literals command_of command_line
returns-clause-twice c = refl

pub returns-clause-prefix : goal.returns-clause-prefix
unfolding clap_on_literals command_of command_line
returns-clause-prefix c = refl

pub returns-clause-dashes : goal.returns-clause-dashes
unfolding clap_on_literals command_of command_line
returns-clause-dashes c = refl

pub returns-clause-help : goal.returns-clause-help
unfolding clap_on_literals command_of command_line
returns-clause-help c = refl

pub returns-clause-short_help : goal.returns-clause-short_help
unfolding clap_on_literals command_of command_line
returns-clause-short_help c = refl

pub returns-clause-version : goal.returns-clause-version
unfolding clap_on_literals command_of command_line
returns-clause-version c = refl
