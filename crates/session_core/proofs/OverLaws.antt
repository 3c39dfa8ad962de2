-- What is so of an event over the calls that it makes.
use Rattle.std.proofs.Common.{◌≡◌, ◌≢◌, ℕ, Bool, true, false, cond, List, [], ◌++◌, Option, Result, Ok, Err, IfOk, IsErr, OnOk, OnErr, refl, sym, ap, ◌∙◌, subst}
use Rattle.std.proofs.lemmas.List.{append-nil}
use Rattle.hl_base.specs.declared.memory.OutOfMemory.{OutOfMemory}
use Rattle.io_edge.specs.LibraryCall.{LibraryCall}
use Rattle.library_reading.specs.Asked.{Asking, answered, IsShort, AsksOver}
use Rattle.library_reading.proofs.AskedLaws.{AreShort, asks_nothing, asks_stopped, asks_made, asks_cut}
use Rattle.lsp_messages.specs.declared.incoming.LspIn.{LspIn}
use Rattle.lsp_messages.specs.declared.incoming.Refusal.{Refusal}
use Rattle.lsp_messages.specs.declared.incoming.Refusal.TheVariants as refusals
use Rattle.json_view.specs.Answers.{Answers}
use Rattle.lsp_messages.specs.Messages.{said_by}
use Rattle.session_core.specs.SessionView.{SessionView}
use Rattle.session_core.specs.Inside.{HearsOver}
use Rattle.json_view.specs.Texts.{reading}
use Rattle.session_core.specs.Message.{asked, received, served, concluded, event}
use Rattle.session_core.specs.Refusals.{is_ended}
use Rattle.session_core.specs.State.{State}
use Rattle.session_core.specs.Step.{Effect, quiet, IsEffect, Acts, written}
use Rattle.session_core.proofs.ShortLaws.{short_asked, short_event}

-- the effect of a state and of what is written
abbrev pub acting : State → List (List ℕ) → Effect
acting s bodies = record { state = s; bodies = bodies }

-- ---- events that ask the library nothing

-- such an event came to its effect, or memory ran out
pub over_none : (event : Asking Effect) (now : State) (result : Result (List (List ℕ)) OutOfMemory)
    (told : Option (List LibraryCall)) (many : ℕ) → AreShort event → IfOk result (λ bodies. Acts event now bodies) → AsksOver event (acting now) result told told many many
over_none event now (Ok bodies) told many short acts =
    asks_nothing event (acting now) bodies told many (λ more. ap (λ (z : Asking Effect). z more) acts)
over_none event now (Err fault) told many short acts = asks_stopped event (acting now) (Err fault) told many refl short

-- so does a message, told in other words
pub over_message : (s now : State) (wanted read : Result LspIn Refusal) (result : Result (List (List ℕ)) OutOfMemory)
    (told : Option (List LibraryCall)) (many : ℕ)
    → wanted ≡ read → IfOk result (λ bodies. Acts (asked s read) now bodies)
    → AsksOver (asked s wanted) (acting now) result told told many many
over_message s now wanted read result told many same acts =
    over_none (asked s wanted) now result told many (short_asked s wanted)
    (subst (λ z. IfOk result (λ bodies. Acts (asked s z) now bodies)) (sym same) acts)

-- so does what was read in place of a message
reading_is : (refusal : Refusal) (wanted : Result LspIn Refusal) → Answers {A = LspIn} said_by (Err refusal) wanted
    → refusal ≢ refusals.OutOfMemory → wanted ≡ Err refusal
reading_is refusals.NotRequest wanted read other = read
reading_is (refusals.UnknownMethod head) wanted read other = read
reading_is (refusals.BadParams head name) wanted read other = read
reading_is refusals.OutOfMemory wanted read other = absurd (other refl)

pub over_refused : (s now : State) (refusal : Refusal) (read wanted : Result LspIn Refusal)
    (result : Result (List (List ℕ)) OutOfMemory) (told : Option (List LibraryCall)) (many : ℕ)
    → read ≡ Err refusal → Answers said_by read wanted
    → IfOk result (λ bodies. (refusal ≢ refusals.OutOfMemory) × Acts (asked s (Err refusal)) now bodies)
    → AsksOver (asked s wanted) (acting now) result told told many many
over_refused s now refusal read wanted (Ok bodies) told many is reads acts =
    over_message s now wanted (Err refusal) (Ok bodies) told many
    (reading_is refusal wanted (subst (λ (z : Result LspIn Refusal). Answers said_by z wanted) is reads) acts.0) acts.1
over_refused s now refusal read wanted (Err lost) told many is reads acts =
    over_none (asked s wanted) now (Err lost) told many (short_asked s wanted) tt

-- memory ran out before anything was read
pub over_lost : (event : Asking Effect) (now : State) (lost : OutOfMemory) (told : Option (List LibraryCall)) (many : ℕ) → AreShort event
    → AsksOver event (acting now) (Err lost) told told many many
over_lost event now lost told many short = over_none event now (Err lost) told many short tt

-- ---- answers behind what was received

-- what a message does while the session goes on
pub event_served : (s : State) (body : List ℕ) → is_ended s.stage ≡ false → event s body ≡ served s (reading body)
unfolding event
event_served s body goes = ap (λ b. cond b (answered (quiet s)) (served s (reading body))) goes

-- and behind its end
pub event_quiet : (s : State) (body : List ℕ) → is_ended s.stage ≡ true → event s body ≡ answered (quiet s)
unfolding event
event_quiet s body ended = ap (λ b. cond b (answered (quiet s)) (served s (reading body))) ended

-- nothing came of it
pub over_ended : (s : State) (body : List ℕ) (bodies : List (List ℕ)) (told : Option (List LibraryCall)) (many : ℕ) → is_ended s.stage ≡ true → bodies ≡ []
    → AsksOver (event s body) (acting s) (Ok bodies) told told many many
over_ended s body bodies told many ended none =
    over_none (event s body) s (Ok bodies) told many (short_event s body)
    (event_quiet s body ended ∙ ap (λ z. answered (acting s z)) (sym none))

-- it was received, and then the requests that wait were answered, or memory ran out
pub over_served : (s middle now : State) (body : List ℕ) (bodies : List (List ℕ)) (result : Result (List (List ℕ)) OutOfMemory)
    (before after : Option (List LibraryCall)) (few many : ℕ) → is_ended s.stage ≡ false
    → AsksOver (received s (reading body)) (acting middle) (Ok bodies) before after few many
    → IfOk result (λ all. IsEffect (concluded (acting middle bodies)) now all)
    → AsksOver (event s body) (acting now) result before after few many
over_served s middle now body bodies result before after few many goes over is =
    subst (λ (z : Asking Effect). AsksOver z (acting now) result before after few many) (sym (event_served s body goes))
    (asks_made (received s (reading body)) concluded (acting middle) (acting now) bodies result before after few many over is)

-- memory ran out while it was received
pub over_cut : (s middle now : State) (body : List ℕ) (lost : OutOfMemory) (result : Result (List (List ℕ)) OutOfMemory)
    (before after : Option (List LibraryCall)) (few many : ℕ) → is_ended s.stage ≡ false
    → AsksOver (received s (reading body)) (acting middle) (Err lost) before after few many → IsErr result
    → AsksOver (event s body) (acting now) result before after few many
over_cut s middle now body lost result before after few many goes over failed =
    subst (λ (z : Asking Effect). AsksOver z (acting now) result before after few many) (sym (event_served s body goes))
    (asks_cut (received s (reading body)) (λ first. answered (concluded first)) (acting middle) (acting now) lost result before after few many over failed (λ first. tt))

-- ---- a session

-- a message of it came to its effect, and was written or not
pub hears_written : {T : Type 0} (event : Asking Effect) (bodies : List (List ℕ)) (result : Result T OutOfMemory)
    (told now : Option (List LibraryCall)) (few many : ℕ)
    (before after : SessionView) → AsksOver event (acting after.state) (Ok bodies) told now few many
    → OnOk result (after.output ≡ before.output ++ written bodies)
    → OnErr result (after.output ≡ before.output) → after.spent ≡ before.spent → HearsOver event result told now before after
hears_written event bodies (Ok value) told now few many before after over grown kept spent = record {
  calls = over.calls;
  made = over.made;
  heard = (bodies, over.comes, grown, spent);
}
hears_written event bodies (Err lost) told now few many before after over grown kept spent = record {
  calls = over.calls;
  made = over.made;
  heard = (
    subst IsShort (sym (ap event (sym (append-nil over.calls)) ∙ over.comes [])) tt,
    (kept, spent),
  );
}
