-- What the session knows of the program behind each event.
use Rattle.std.proofs.Common.{◌≡◌, ◌≢◌, ◌∙◌, ℕ, ℤ, pos, suc, ◌+◌, ◌<◌, ◌≤◌, true, false, List, [], ◌∷◌, ◌++◌, map, Option, Some, Result, Ok, Err, refl, ap, sym, subst, arith, add-one}
use Rattle.std.specs.Prelude.{codes, OnOk}
use Rattle.std.specs.Str.{chars}
use Rattle.std.proofs.lemmas.List.{append-nil}
use Rattle.json_view.specs.Texts.{reading}
use Rattle.io_edge.specs.LibraryCall.{LibraryCall}
use Rattle.io_edge.specs.Told.{Gains}
use Rattle.library_reading.specs.Asked.{Asked, Came, Lacks, Differs}
use Rattle.session_core.specs.declared.fault.SessionFault.{SessionFault}
use Rattle.session_core.specs.Figures.{figures_named}
use Rattle.session_core.specs.SessionView.{SessionView, ComesOver}
use Rattle.session_core.specs.Message.{event, message}
use Rattle.session_core.specs.State.{State, start}
use Rattle.session_core.specs.Step.{Goes, Stopped, Other, Effect, step_of}
use Rattle.session_core.specs.Turn.{turn}
use Rattle.session_core.specs.DeclaredFigures.{Figures}
use Rattle.bulk_script.specs.Messages.{initialize_value, initialized_value, opened_value, changed_value, program_uri}
use Rattle.bulk_script.specs.Texts.{program_text, edited_line, first_column, end_column}
use Rattle.bulk_script.specs.declared.texts.Place.{Place}
use Rattle.bulk_session.specs.Shelf.{answered}
use Rattle.bulk_session.specs.Bulk.{budget, text_behind, figures_behind}
use Rattle.bulk_session.specs.Inside.{AreAnswered, IsHeard, program, begun, ready, state_with, IsQueued, IsListed}
use Rattle.bulk_session.proofs.EditLaws.{may_be_opened, edit_of, edit_makes, line_small, first_small, end_small}
use Rattle.bulk_session.proofs.EventLaws.{Leads, led, begins_in_folder, becomes_ready, opens, changes, changes_text, turns, has_figures}

-- what follows where a call was taken
pub on_ok : {T E : Type 0} (result : Result T E) (P Q : Type 0) → (P → Q) → OnOk result P → OnOk result Q
on_ok (Ok value) P Q follows holds = follows holds
on_ok (Err fault) P Q follows holds = tt

-- ---- a message

-- of what was asked of the library before and now, the calls in between have their answers if all have
answered_behind : (before calls : List LibraryCall) → map answered (before ++ calls) ≡ before ++ calls → AreAnswered calls
answered_behind [] calls sound = sound
answered_behind (call ∷ before) calls sound =
    let whole : answered call ∷ map answered (before ++ calls) ≡ call ∷ (before ++ calls) = sound in
    let rest : map answered (before ++ calls) ≡ before ++ calls = cc in
    answered_behind before calls rest

stopped_goes : (state : State) (bodies : List (List ℕ)) (rest : List LibraryCall) → Stopped ≡ Goes state bodies rest → ⊥
stopped_goes state bodies rest is = cc

other_goes : (state : State) (bodies : List (List ℕ)) (rest : List LibraryCall) → Other ≡ Goes state bodies rest → ⊥
other_goes state bodies rest is = cc

came : (asked : Asked Effect) (state : State) (bodies : List (List ℕ)) (rest : List LibraryCall) → step_of asked ≡ Goes state bodies rest → asked ≡ Came (record { state = state; bodies = bodies }) rest
came (Came effect left) state bodies rest is =
    let same : Goes effect.state effect.bodies left ≡ Goes state bodies rest = is in
    let one : effect.state ≡ state = cc in
    let two : effect.bodies ≡ bodies = cc in
    let three : left ≡ rest = cc in
    ap (λ s. Came (record { state = s; bodies = effect.bodies }) left) one
    ∙ ap (λ b. Came (record { state = state; bodies = b }) left) two
    ∙ ap (λ l. Came (record { state = state; bodies = bodies }) l) three
came Lacks state bodies rest is = absurd (stopped_goes state bodies rest is)
came Differs state bodies rest is = absurd (other_goes state bodies rest is)

pub is_heard : {T : Type 0} (connection : T) (before now : SessionView) (body : List ℕ) (calls_before calls_now : List LibraryCall) → AreAnswered calls_now
    → ComesOver {T = T} (Ok connection) (message before.state body) (Some calls_before) (Some calls_now) before now → IsHeard before.state body now.state
is_heard connection before now body calls_before calls_now sound over =
    let gained : Some calls_now ≡ Some (calls_before ++ over.calls) = over.made in
    let calls_are : calls_now ≡ calls_before ++ over.calls = cc in
    let goes = over.comes.goes [] in
    let whole : step_of (event before.state body over.calls) ≡ Goes over.comes.state over.comes.bodies [] =
    ap (λ calls. step_of (event before.state body calls)) (sym (append-nil over.calls)) ∙ goes in
    record {
      calls = over.calls;
      sound = answered_behind calls_before over.calls (subst (λ z. map answered z ≡ z) calls_are sound);
      bodies = over.comes.bodies;
      comes = came (event before.state body over.calls) now.state over.comes.bodies [] (whole ∙ ap (λ s. Goes s over.comes.bodies []) (sym over.comes.moves.state_is));
    }

-- ---- the events in turn

pub has_begun : (before now : State) (body : List ℕ) → before ≡ start budget → reading body ≡ Some initialize_value → IsHeard before body now → now ≡ begun
has_begun before now body is read heard = led (start budget) body begun now (begins_in_folder body read) (subst (λ s. IsHeard s body now) is heard)

pub is_ready : (before now : State) (body : List ℕ) → before ≡ begun → reading body ≡ Some initialized_value → IsHeard before body now → now ≡ ready
is_ready before now body is read heard = led begun body ready now (becomes_ready body read) (subst (λ s. IsHeard s body now) is heard)

pub is_opened : (before now : State) (body text : List ℕ) (count : ℕ) → count ≤ 10000 → before ≡ ready → text ≡ program_text count 0 → reading body ≡ Some (opened_value text)
    → IsHeard before body now → IsQueued now count 0
is_opened before now body text count few is text_is read heard = record {
  published = [];
  is = led ready body (state_with (program ∷ []) [] (pos 1) (text_behind count 0)) now
      (opens body (program_text count 0) (read ∙ ap (λ t. Some (opened_value t)) text_is) (may_be_opened count 0 few))
      (subst (λ s. IsHeard s body now) is heard);
}

pub may_turn : (state : State) (count edits : ℕ) → IsQueued state count edits → state.queue ≢ []
may_turn state count edits queued none =
    let one : state.queue ≡ program ∷ [] = ap (λ (s : State). s.queue) queued.is in
    let both : program ∷ [] ≡ [] = sym one ∙ none in cc

pub is_listed : (before now : State) (count edits : ℕ) → IsQueued before count edits → now ≡ (turn before).state → IsListed now count edits
is_listed before now count edits queued moved =
    let made = turns queued.published (pos (edits + 1)) (text_behind count edits) in
    record {
      published = made.0;
      is = moved ∙ ap (λ s. (turn s).state) queued.is ∙ made.1;
      listed = made.2;
    }

-- where an edit changes the text
abbrev pub edited_place : (count edit : ℕ) → Place
edited_place count edit = record { line = edited_line count edit; first = first_column count edit; end = end_column count edit }

pub is_changed : (before now : State) (body : List ℕ) (count edit : ℕ) (place : Place) → 0 < count → count ≤ 10000 → edit < 10 → IsListed before count edit
    → place ≡ edited_place count edit → reading body ≡ Some (changed_value (edit + 2) place (codes "5")) → IsHeard before body now → IsQueued now count (edit + 1)
is_changed before now body count edit place some few low listed place_is read heard =
    let value = changed_value (edit + 2) (edited_place count edit) (codes "5") in
    let leads : Leads (state_with [] listed.published (pos (edit + 1)) (text_behind count edit)) body (state_with (program ∷ []) listed.published (pos (edit + 2)) (text_behind count (suc edit))) =
    changes_text body value listed.published (pos (edit + 1)) (pos (edit + 2)) (text_behind count edit) (text_behind count (suc edit))
    (edit_of (edited_line count edit) (first_column count edit) (end_column count edit) ∷ [])
    (read ∙ ap (λ p. Some (changed_value (edit + 2) p (codes "5"))) place_is) refl
    (changes (edit + 2) (edited_place count edit) (omega arith) (line_small count edit some few low) (first_small count edit some few low) (end_small count edit some few low))
    (edit_makes count edit some few low) in
    let reached = led (state_with [] listed.published (pos (edit + 1)) (text_behind count edit)) body
    (state_with (program ∷ []) listed.published (pos (edit + 2)) (text_behind count (suc edit))) now leads (subst (λ s. IsHeard s body now) listed.is heard) in
    let next : edit + 2 ≡ edit + 1 + 1 = omega arith in
    record {
      published = listed.published;
      is = reached
          ∙ ap (λ n. state_with (program ∷ []) listed.published (pos n) (text_behind count (suc edit))) next
          ∙ ap (λ n. state_with (program ∷ []) listed.published (pos (edit + 1 + 1)) (text_behind count n)) (sym (add-one edit));
    }

-- ---- figures

figures_are : (state : State) (count edits : ℕ) → IsListed state count edits → figures_named state program_uri ≡ Some (figures_behind count edits)
figures_are state count edits listed =
    ap (λ s. figures_named s program_uri) listed.is ∙ has_figures listed.published (pos (edits + 1)) (text_behind count edits) listed.listed

pub uri_is : chars (codes "file:///bulk/BULK.hlasm") ≡ program_uri
unfolding chars
uri_is = refl

-- what the session answers, by whichever text names the program
pub figures_told : (state : State) (uri : List ℕ) (found : Option Figures) (count edits : ℕ) → uri ≡ program_uri → IsListed state count edits
    → found ≡ figures_named state uri → found ≡ Some (figures_behind count edits)
figures_told state uri found count edits named listed told = told ∙ ap (λ u. figures_named state u) named ∙ figures_are state count edits listed
