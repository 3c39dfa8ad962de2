-- A request that is done, in the list of sessions.
use Rattle.std.proofs.Common.{◌≡◌, ◌∙◌, ℕ, Bool, true, false, cond, List, [], ◌∷◌, ◌++◌, map, refl, sym, ap, Some, None, Option}
use Rattle.std.specs.Prelude.{position, slice_get, slice_set, find, unwrap_or}
use Rattle.std.specs.List.{remove}
use Rattle.serde_json.specs.Data.{Data}
use Rattle.dap_messages.specs.Written.{value_of, response_value}
use Rattle.dap_messages.specs.Requests.{name_of}
use Rattle.std.specs.Str.{chars}
use Rattle.dap_messages.specs.declared.requests.DapIn.{DapIn}
use Rattle.debug_sessions.specs.declared.debugger.Debugger.{Debugger}
use Rattle.debug_sessions.specs.declared.effects.Replies.{Replies}
use Rattle.debug_sessions.specs.State.{Debuggers, has_number, session_of, session_for, begun, with_session, without_session, next_seq}
use Rattle.debug_sessions.specs.Answers.{Effect, done, writes, placed, sent, events_behind, counted}
use Rattle.debug_sessions.specs.Done.{kept, IsReplied, AnswersAt}
use Rattle.debug_sessions.proofs.PlaceLemmas.{found_at, found_or, set_at, none_found, remove_set}

-- where the session of a number stands, and what its change and its end come to there
pub record IsPlaceFor (old mid : Debuggers) (number at : ℕ) : Type 0 where
  pub found : slice_get mid at ≡ Some (session_for number old)
  pub put : (d : Debugger) → slice_set mid at d ≡ with_session number d old
  pub taken : remove mid at ≡ without_session number old

module _ (old mid : Debuggers) (number at : ℕ) (is : IsPlaceFor old mid number at) (e : Debugger) where
  placed_kept : (stays : Bool) → placed number (kept stays e) old ≡ cond stays (slice_set mid at e) (remove (slice_set mid at e) at)
  placed_kept true = sym (is.put e)
  placed_kept false = sym (remove_set mid at e ∙ is.taken)

-- a request that was answered in its session is done
pub is_done : (old mid after new : Debuggers) (number at : ℕ) (replies : Replies) (request : DapIn) (effect : Effect) →
    IsPlaceFor old mid number at → AnswersAt mid after at replies (session_for number old).seq request effect →
    new ≡ cond replies.stays after (remove after at) →
    done old number request (session_for number old) effect ≡ writes new (map value_of replies.messages.items)
is_done old mid after new number at replies request effect is answers settled =
    let e = answers.session in
    let behind : placed number (kept replies.stays e) old ≡ new =
    placed_kept old mid number at is e replies.stays
    ∙ ap (λ ds. cond replies.stays ds (remove ds at)) (sym answers.stands)
    ∙ sym settled in
    let d = session_for number old in
    let said : List Data = response_value (chars (name_of request.command)) request.seq (next_seq d.seq) effect.body ∷ events_behind (next_seq d.seq) effect.event in
    ap (λ o. writes (placed number o old) said) (sym answers.replied.placing)
    ∙ ap (λ ds. writes ds said) behind
    ∙ ap (writes new) (sym answers.replied.messages)

-- the session of a number sends one message more
pub counts_there : (old new : Debuggers) (number at : ℕ) → position (has_number number) old ≡ Some at →
    ((d : Debugger) → slice_get old at ≡ Some d → new ≡ slice_set old at (sent (next_seq d.seq) d)) →
    new ≡ counted number (session_of number old) old
counts_there old new number at is counts =
    let d = unwrap_or (session_of number old) (begun number) in
    let there : slice_get old at ≡ Some d = found_or (has_number number) old at is (begun number) in
    counts d there
    ∙ set_at (has_number number) old at is (sent (next_seq d.seq) d)
    ∙ ap (λ found. counted number found old) (sym there ∙ found_at (has_number number) old at is)
