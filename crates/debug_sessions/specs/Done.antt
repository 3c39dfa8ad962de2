-- A request that is done, as the code holds it. No public clause cites this file. This project.
use Rattle.std.specs.Prelude.{◌≡◌, ℕ, true, false, Bool, Option, Some, None, option_map, Result, Ok, Err, ◌∷◌, map, chars, slice_set}
use Rattle.hl_base.specs.declared.memory.OutOfMemory.{OutOfMemory}
use Rattle.dap_messages.specs.Requests.{name_of}
use Rattle.dap_messages.specs.Written.{body_of, body_has_fraction, response_value, value_of}
use Rattle.dap_messages.specs.declared.requests.DapIn.{DapIn}
use Rattle.debug_sessions.specs.declared.debugger.Debugger.{Debugger}
use Rattle.debug_sessions.specs.declared.effects.Done.{Done}
use Rattle.debug_sessions.specs.declared.effects.Replies.{Replies}
use Rattle.debug_sessions.specs.State.{Debuggers, next_seq}
use Rattle.debug_sessions.specs.Answers.{Effect, sent, last_seq, events_behind}
use Rattle.debug_sessions.specs.Written.{AreWhole}

-- a session, if it stays in use
abbrev pub kept : Bool → Debugger → Option Debugger
kept true d = Some d
kept false d = None

-- what was done, where this is the session then
abbrev pub effect_of : Done → Debugger → Effect
effect_of done d = record { debugger = kept done.stays d; body = body_of done.body; event = done.event }

-- a request comes to an effect, and its body has no number with a fraction
pub record IsDone (done : Done) (d : Debugger) (effect : Effect) : Type 0 where
  pub effect_is : effect ≡ effect_of done d
  pub whole : body_has_fraction done.body ≡ false

abbrev pub Comes : Result Done OutOfMemory → Debugger → Effect → Type 0
Comes (Ok done) d effect = IsDone done d effect
Comes (Err e) d effect = Unit {0}

-- A request is answered: the session is that of the effect with so many messages sent, or its number is free again; and the
-- messages are the response and the event behind it.
pub record IsReplied (replies : Replies) (d : Debugger) (seq : ℕ) (request : DapIn) (effect : Effect) : Type 0 where
  pub placing : kept replies.stays d ≡ option_map (sent (last_seq (next_seq seq) effect.event)) effect.debugger
  pub messages : map value_of replies.messages.items
      ≡ response_value (chars (name_of request.command)) request.seq (next_seq seq) effect.body ∷ events_behind (next_seq seq) effect.event
  pub whole : AreWhole replies.messages.items

-- A request is answered in the session of a place: it stands there as it is then, and the others stay.
pub record AnswersAt (old new : Debuggers) (at : ℕ) (replies : Replies) (seq : ℕ) (request : DapIn) (effect : Effect) : Type 0 where
  pub session : Debugger
  pub stands : new ≡ slice_set old at session
  pub replied : IsReplied replies session seq request effect
