-- Sessions that hear the same messages.
use Rattle.std.proofs.Common.{◌≡◌, ℕ, true, false, List, [], ◌∷◌, Some, sym, ap, ◌∙◌, subst}
use Rattle.document_store.specs.Store.{OpenDocument}
use Rattle.hl_base.specs.declared.place.PathId.{PathId}
use Rattle.io_edge.specs.LibraryCall.{LibraryCall}
use Rattle.library_reading.specs.Asked.{Came, Asking, answered, behind}
use Rattle.session_core.specs.Laws.{AreFresh, LeavesFresh}
use Rattle.session_core.specs.Message.{message}
use Rattle.session_core.specs.State.{State, start, document_at, is_program, is_queued, libraries, last_list}
use Rattle.session_core.specs.Turn.{turn}
use Rattle.session_core.proofs.FreshLaws.{fresh_start, fresh_message, fresh_turn}
use Rattle.schedule_law.specs.Schedules.{Event, Message, Turn, messages, Leads, NoneIsHeldUp, known, list_now}
use Rattle.schedule_law.proofs.KnownLaws.{known_turn, known_behind, message_same}
use Rattle.schedule_law.proofs.ListedLaws.{listed_now}
use Rattle.schedule_law.proofs.QuietLaws.{IsQuiet, quiet_start, quiet_message, quiet_turn}

-- ---- what is known

-- what messages leave of what is known, and of the calls to come
abbrev reached : List (List ℕ) → State → Asking State
reached [] s = answered s
reached (body ∷ bodies) s = λ calls. behind (known_behind (message s body calls)) (reached bodies)

-- wherever Turns are made
known_reached : (events : List Event) (s now : State) (calls left : List LibraryCall) → IsQuiet s → Leads s calls events now left → NoneIsHeldUp s calls events
    → reached (messages events) (known s) calls ≡ Came (known now) left
known_reached [] s now calls left so (now_is, left_is) free =
    ap (λ (z : State). Came (known z) calls) (sym now_is) ∙ ap (λ (z : List LibraryCall). Came (known now) z) (sym left_is)
known_reached (Turn ∷ events) s now calls left so leads free =
    ap (λ (z : State). reached (messages events) z calls) (sym (known_turn s)) ∙ known_reached events (turn s).state now calls left (quiet_turn s so) leads free
known_reached (Message body ∷ events) s now calls left so (next, rest, goes, leads) (here, later) =
    let step : known_behind (message (known s) body calls) ≡ Came (known next) rest = sym (message_same s body calls so here) ∙ ap known_behind goes.goes in
    ap (λ z. behind z (reached (messages events))) step
    ∙ known_reached events next now rest left (quiet_message s body calls next rest so goes) leads (later next rest goes)

one_value : (s t : State) (left over : List LibraryCall) → Came s left ≡ Came t over → (s ≡ t) × (left ≡ over)
one_value s t left over is = (cc, cc)

pub known_same : (budget : ℕ) (calls : List LibraryCall) (some others : List Event) (one two : State) (left over : List LibraryCall)
    → messages some ≡ messages others → Leads (start budget) calls some one left → Leads (start budget) calls others two over
    → NoneIsHeldUp (start budget) calls some → NoneIsHeldUp (start budget) calls others → (known one ≡ known two) × (left ≡ over)
known_same budget calls some others one two left over same first second free also =
    one_value (known one) (known two) left over
    (sym (known_reached some (start budget) one calls left (quiet_start budget) first free) ∙ ap (λ z. reached z (known (start budget)) calls) same
    ∙ known_reached others (start budget) two calls over (quiet_start budget) second also)

-- ---- lists

fresh_events : (events : List Event) (s now : State) (calls left : List LibraryCall) → AreFresh s → Leads s calls events now left → AreFresh now
fresh_events [] s now calls left fresh (now_is, left_is) = subst AreFresh (sym now_is) fresh
fresh_events (Turn ∷ events) s now calls left fresh leads = fresh_events events (turn s).state now calls left (fresh_turn s fresh) leads
fresh_events (Message body ∷ events) s now calls left fresh (next, rest, goes, leads) =
    let behind_it : AreFresh next = subst LeavesFresh goes.goes (fresh_message s body calls fresh) goes.alive in
    fresh_events events next now rest left behind_it leads

free : (queue : List PathId) (n : PathId) → queue ≡ [] → is_queued queue n ≡ false
free queue n none = ap (λ (q : List PathId). is_queued q n) none

pub present : (budget : ℕ) (calls : List LibraryCall) (events : List Event) (now : State) (left : List LibraryCall) → Leads (start budget) calls events now left → now.queue ≡ []
    → (n : PathId) (document : OpenDocument) → document_at now.store n ≡ Some document → is_program (libraries now) document ≡ true
    → last_list now.published n ≡ Some (list_now now n document)
present budget calls events now left leads none n document found program =
    listed_now now n document
    (fresh_events events (start budget) now calls left (fresh_start budget) leads n document found program (free now.queue n none))

pub same_lists : (budget : ℕ) (calls : List LibraryCall) (some others : List Event) (one two : State) (left over : List LibraryCall)
    → messages some ≡ messages others → Leads (start budget) calls some one left → Leads (start budget) calls others two over
    → NoneIsHeldUp (start budget) calls some → NoneIsHeldUp (start budget) calls others → one.queue ≡ [] → two.queue ≡ []
    → (n : PathId) (document : OpenDocument) → document_at one.store n ≡ Some document → is_program (libraries one) document ≡ true
    → last_list one.published n ≡ last_list two.published n
same_lists budget calls some others one two left over same first second free also none empty n document found program =
    let is : known one ≡ known two = (known_same budget calls some others one two left over same first second free also).0 in
    present budget calls some one left first none n document found program
    ∙ ap (λ (z : State). Some (list_now z n document)) is
    ∙ sym (present budget calls others two over second empty n document
    (ap (λ (z : State). document_at z.store n) (sym is) ∙ found) (ap (λ (z : State). is_program (libraries z) document) (sym is) ∙ program))
