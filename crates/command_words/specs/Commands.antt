-- What the words after the program's name ask for (this project).
use Rattle.std.specs.Prelude.{ℕ, ◌+◌, Bool, ◌&&◌, ◌||◌, nat_lt, List, codes, length, Option, Some, None, is_some, option_map, option_and_then, if◌then◌else◌}
use Rattle.std.specs.Char.{is_ascii_digit}
use Rattle.std.specs.List.{list_all}
use Rattle.std.specs.Str.{bytes_eq}
use Rattle.std.specs.Str.Parse.{digits_value}
use Rattle.clap.specs.Walk.{Row, Text, is_empty}
use Rattle.command_words.specs.CommandLine.{refusals, given_by, given}
use Rattle.command_words.specs.declared.command.Command.{Command}
use Rattle.command_words.specs.declared.command.Command.TheVariants.{Serve, Bulk}

-- ---- numbers

-- a word is digits, at least one and at most so many
abbrev pub is_numeral : (most : ℕ) → Text → Bool
is_numeral most word = nat_lt 0 (length word) && (nat_lt (length word) (most + 1) && list_all is_ascii_digit word)

-- a number from 1 on, up to this one
abbrev pub up_to : (greatest : ℕ) → (number : ℕ) → Option ℕ
up_to greatest number = if nat_lt 0 number && nat_lt number (greatest + 1) then Some number else None

-- the number that a word writes, of so many digits at most, leading zeros among them, and up to this one
abbrev pub number_in : (most greatest : ℕ) → Text → Option ℕ
number_in most greatest word = if is_numeral most word then up_to greatest (digits_value 10 word) else None

-- ---- commands

-- how many statements a program may be given where nothing else is said
abbrev pub usual_budget : ℕ
usual_budget = 100000

-- a budget has 1 to 6 digits and is 1 to 400,000
abbrev pub budget_of : Option Text → Option ℕ
budget_of None = Some usual_budget
budget_of (Some word) = number_in 6 400000 word

-- a count has 1 to 5 digits and is 1 to 10,000; it is not left out
abbrev pub count_of : Option Text → Option ℕ
count_of None = None
count_of (Some word) = number_in 5 10000 word

-- something is given under this name
abbrev pub is_given : (name : Text) → List Row → Bool
is_given name rows = is_some (given name rows)

-- `serve`: the budget may be given, and nothing else
abbrev pub serve_of : List Row → Option Command
serve_of rows =
    if is_given (codes "count") rows || is_given (codes "file") rows then None
    else option_map Serve (budget_of (given (codes "budget") rows))

-- `bulk`: the count is given, and nothing else
abbrev pub bulk_of : List Row → Option Command
bulk_of rows =
    if is_given (codes "budget") rows || is_given (codes "file") rows then None
    else option_map Bulk (count_of (given (codes "count") rows))

-- the command of a name
abbrev pub command_named : (name : Text) → List Row → Option Command
command_named name rows =
    if bytes_eq name (codes "serve") then serve_of rows
    else (if bytes_eq name (codes "bulk") then bulk_of rows else None)

-- what is asked for by what is given
abbrev pub asked_by : List Row → Option Command
asked_by rows = option_and_then (λ name. command_named name rows) (given (codes "command") rows)

-- The command that the words ask for: what the command line refuses, help and version among it, is none.
unfoldable pub command_of : List Text → Option Command
command_of words = if is_empty (refusals words) then asked_by (given_by words) else None
