-- A message to the session of one number leaves those of all others.
use Rattle.std.proofs.Common.{◌≡◌, ◌≢◌, ℕ, List, [], ◌∷◌, refl, Some, None, Option}
use Rattle.std.specs.Prelude.{is_some, Result, Ok, Err}
use Rattle.std.specs.Option.{option_map}
use Rattle.std.specs.Str.{chars}
use Rattle.trace_values.specs.declared.item.TraceItem.{TraceItem}
use Rattle.trace_arena.specs.Points.{Point}
use Rattle.dap_messages.specs.Written.{refusal_value}
use Rattle.dap_messages.specs.declared.requests.DapIn.{DapIn}
use Rattle.dap_messages.specs.declared.requests.DapRefusal.{DapRefusal}
use Rattle.dap_messages.specs.declared.requests.DapRefusal.TheVariants.{NotDap, UnknownCommand, BadArguments, OutOfMemory}
use Rattle.debug_sessions.specs.declared.refusals.Refusal.{Refusal}
use Rattle.debug_sessions.specs.State.{Debuggers, session_of, session_for, next_seq}
use Rattle.debug_sessions.specs.Refusals.{refusal, told}
use Rattle.debug_sessions.specs.Answers.{effect, sent, last_seq, seq_for, head_of, obeyed, unless_refused, judged, answer}
use Rattle.debug_sessions.proofs.LawLemmas.{counts_alone}
use Rattle.debug_sessions.proofs.TraceLemmas.{effect_number, other_stays, sent_number}

module _ (paths : List (List ℕ)) (ds : Debuggers) (number other : ℕ) where
  obeyed-others : (read : Result DapIn DapRefusal) (program : Option (List (Point TraceItem))) → other ≢ number →
      session_of other (obeyed paths program ds number read).sessions ≡ session_of other ds
  obeyed-others (Ok request) program differ =
      let own = session_for number ds in
      let come = effect paths program own request.command in
      let seq = last_seq (next_seq own.seq) come.event in
      other_stays ds number other differ (option_map (sent seq) come.debugger)
      (sent_number own seq come.debugger (effect_number paths program own request.command))
  obeyed-others (Err refusal) program differ = refl

  judged-others : (read : Result DapIn DapRefusal) (program : Option (List (Point TraceItem))) → other ≢ number →
      session_of other (judged paths ds number read program).sessions ≡ session_of other ds
  unfolding judged
  judged-others read program differ = by (refusal ds number read (is_some program))
    where
      by : (reason : Option Refusal) →
          session_of other (unless_refused reason ds number (head_of read) (obeyed paths program ds number read)).sessions ≡ session_of other ds
      by None = obeyed-others read program differ
      by (Some why) =
          (counts_alone ds number (session_of number ds) refl
          (refusal_value (head_of read).command (head_of read).seq (seq_for (session_of number ds)) (chars (told why)) ∷ [])).others other differ

-- whatever the message is
pub answer-others : (paths : List (List ℕ)) (ds : Debuggers) (number other : ℕ) (read : Result DapIn DapRefusal) (program : Option (List (Point TraceItem))) →
    other ≢ number → session_of other (answer paths ds number read program).sessions ≡ session_of other ds
unfolding answer
answer-others paths ds number other (Ok request) program differ = judged-others paths ds number other (Ok request) program differ
answer-others paths ds number other (Err NotDap) program differ = refl
answer-others paths ds number other (Err (UnknownCommand head)) program differ =
    judged-others paths ds number other (Err (UnknownCommand head)) program differ
answer-others paths ds number other (Err (BadArguments head)) program differ =
    judged-others paths ds number other (Err (BadArguments head)) program differ
answer-others paths ds number other (Err OutOfMemory) program differ = refl
