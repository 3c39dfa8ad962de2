-- What is written for a debug message, as the code holds it (this project).
use Rattle.std.specs.Prelude.{◌≡◌, false, List, Option, Some, None, map}
use Rattle.std.specs.List.{AllByRecursion}
use Rattle.serde_json.specs.Data.{Data}
use Rattle.dap_messages.specs.Written.{value_of, has_fraction}
use Rattle.dap_messages.specs.declared.outgoing.DapOut.{DapOut}
use Rattle.debug_sessions.specs.declared.replies.Answer.{Answer}
use Rattle.debug_sessions.specs.declared.replies.Answer.TheVariants.{NotDap, Messages}
use Rattle.debug_sessions.specs.Answers.{Outcome}
use Rattle.debug_sessions.specs.State.{Debuggers}

-- the messages to the client, if the message that was answered is a request
abbrev pub messages_in : Answer → Option (List Data)
messages_in NotDap = None
messages_in (Messages messages) = Some (map value_of messages.items)

-- what was answered, with the sessions behind it
abbrev pub outcome_of : Answer → Debuggers → Outcome
outcome_of answer ds = record { sessions = ds; messages = messages_in answer }

-- no message has a number with a fraction, so the compact text of each is known byte for byte
abbrev pub AreWhole : List DapOut → Type 0
AreWhole messages = AllByRecursion (λ m. has_fraction m ≡ false) messages

abbrev pub IsWholeAnswer : Answer → Type 0
IsWholeAnswer NotDap = Unit {0}
IsWholeAnswer (Messages messages) = AreWhole messages.items
