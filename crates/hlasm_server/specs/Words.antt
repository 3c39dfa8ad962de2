-- Which words bring a session (this project).
use Rattle.std.specs.Prelude.{ℕ, Bool, true, false, List, Option, Some, None}
use Rattle.command_words.specs.Commands.{command_of}
use Rattle.command_words.specs.declared.command.Command.{Command}
use Rattle.command_words.specs.declared.command.Command.TheVariants.{Serve, Bulk}

-- the command is the session over the source, the sink and the library that are handed in
abbrev pub is_session : Option Command → Bool
is_session None = false
is_session (Some (Serve budget)) = true
is_session (Some (Bulk count)) = false

-- the words ask for it
unfoldable pub asks_for_session : List (List ℕ) → Bool
asks_for_session words = is_session (command_of words)
