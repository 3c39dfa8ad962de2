-- The command line, as clap reads it (clap; this project).
use Rattle.std.specs.Prelude.{◌≡◌, true, List, [], codes, Some, None}
use Rattle.std.specs.Prelude.{map, Option}
use Rattle.clap.specs.Walk.{Rule, Row, Text, is_empty, first_of}
use Rattle.clap.specs.Simple.{App, new_app, new_rule, on_top, with_rule, matches_of}
use Rattle.clap.specs.Kinds.{Kinds}
use Rattle.clap.specs.Faults.{fault_of}

-- an option and its value: `--name N`, or `--name=N`
abbrev pub option_named : (name : Text) → Rule
option_named name = record (new_rule name) { long = Some name; value_names = 1 }

-- a program of a name, whose words are those behind its own name, and which has a version to tell
abbrev pub program_named : (name : Text) → App
program_named name = on_top (λ top. record top { no_binary_name = true; has_version = true }) (new_app name)

-- One command without subcommands: two options, and behind them two positions. Each may be left out, and each is any text.
unfoldable pub command_line : App
command_line = with_rule (with_rule (with_rule (with_rule (program_named (codes "hlasm_ls"))
    (option_named (codes "budget"))) (option_named (codes "count"))) (new_rule (codes "command"))) (new_rule (codes "file"))

-- why these words are none that the command line takes; nothing where it takes them
abbrev pub refusals : List Text → Kinds
refusals words = fault_of command_line words

-- what the options and positions are given by words that it takes
abbrev pub given_by : List Text → List Row
given_by words = matches_of command_line words

-- the value of one of them, if it is given
abbrev pub given : (name : Text) → List Row → Option Text
given name rows = first_of name rows
