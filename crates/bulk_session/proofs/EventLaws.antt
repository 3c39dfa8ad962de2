-- What each event of the session does to what it knows.
use Rattle.std.proofs.Common.{◌≡◌, ◌≢◌, ◌∙◌, ℕ, ℤ, pos, suc, ◌+◌, ◌^◌, ◌<◌, ◌≤◌, Bool, true, false, List, [], ◌∷◌, ◌++◌, Option, Some, None, Ok, map, filter, length, refl, ap, sym, subst, arith, if◌then◌else◌}
use Rattle.std.specs.Prelude.{codes, nat_lt, find, is_some, encode_utf8_all}
use Rattle.std.specs.Str.{chars}
use Rattle.std.specs.Option.{option_or}
use Rattle.std.proofs.lemmas.Bool.{lt-ltb}
use Rattle.std.proofs.lemmas.List.Folds.{find-append}
use Rattle.url.proofs.OnLiterals.{url_on_literals}
use Rattle.percent_encoding.proofs.OnLiterals.{percent_encoding_on_literals}
use Rattle.serde_json.specs.Data.{Data}
use Rattle.hl_base.specs.declared.place.PathId.{PathId}
use Rattle.hl_base.specs.declared.edit.Edit.{Edit}
use Rattle.json_view.specs.Texts.{reading}
use Rattle.io_edge.specs.LibraryCall.{LibraryCall}
use Rattle.file_uri.specs.Paths.{path_of, text_of}
use Rattle.member_paths.specs.Paths.{folder_of, folder_path}
use Rattle.document_store.specs.Edits.{after_edits, is_too_long}
use Rattle.library_reading.specs.Asked.{Asked, Came, Asking, answered as at_once, behind, ◌>>=◌}
use Rattle.library_reading.specs.Taking.{Taking}
use Rattle.library_reading.specs.Reading.{Reading, configuration_read}
use Rattle.lsp_messages.specs.Messages.{message_of, is_response}
use Rattle.lsp_messages.specs.Shapes.{root_of, opened, changed}
use Rattle.lsp_messages.specs.declared.incoming.LspIn.TheVariants.{DidOpen, DidChange}
use Rattle.lsp_messages.specs.declared.incoming.Id.TheVariants.{Number}
use Rattle.lsp_messages.specs.declared.outgoing.Diagnostic.{Diagnostic}
use Rattle.session_core.specs.declared.state.LastList.{LastList}
use Rattle.session_core.specs.Diagnostics.{list_of}
use Rattle.session_core.specs.Figures.{figures_over, figures_named}
use Rattle.session_core.specs.Message.{event, served, asked, begun as begins, unconcerned, after_reading, after_watching, concluded, configured, taking_of}
use Rattle.session_core.specs.Replies.{initialize_reply}
use Rattle.session_core.specs.State.{State, start, is_number, last_list, without_list, with_list}
use Rattle.session_core.specs.Step.{Effect, quiet}
use Rattle.session_core.specs.Turn.{assemble_first, answer_waiting, turn, is_published, without_first}
use Rattle.session_core.specs.ProgramFigures.{figures_of}
use Rattle.bulk_script.specs.Messages.{initialize_value, initialized_value, opened_value, changed_value, program_uri}
use Rattle.bulk_script.specs.declared.texts.Place.{Place}
use Rattle.group_members.specs.Members.{member_of}
use Rattle.bulk_session.specs.Shelf as shelf
use Rattle.bulk_session.specs.Bulk.{budget, store_with, program_document, program_number}
use Rattle.bulk_session.specs.Inside.{IsHeard, program, begun, ready, state_with}
use Rattle.bulk_session.proofs.AnswerLaws.{Settles, settles_at_once, settles_by, settles_then, settles_configuration, configuration_here}
use Rattle.bulk_session.proofs.LiteralLaws.{members_are_read}

-- ---- what a body comes to

-- a body comes to this state
abbrev pub Leads : State → (body : List ℕ) → State → Type 0
Leads before body after = (bodies : List (List ℕ)) × Settles (event before body) (record { state = after; bodies = bodies })

pub led : (before : State) (body : List ℕ) (after now : State) → Leads before body after → IsHeard before body now → now ≡ after
led before body after now leads heard =
    let is = leads.1.comes heard.calls [] (record { state = now; bodies = heard.bodies }) heard.sound heard.comes in
    ap (λ (e : Effect). e.state) is.0

-- ---- the client begins

pub begins_in_folder : (body : List ℕ) → reading body ≡ Some initialize_value → Leads (start budget) body begun
unfolding event message_of root_of path_of text_of answer_waiting chars url_on_literals percent_encoding_on_literals
begins_in_folder body e = (
  initialize_reply (Number (pos 1)) ∷ [],
  settles_by (event (start budget) body) (record { state = begun; bodies = initialize_reply (Number (pos 1)) ∷ [] })
      (λ calls. ap (λ r. served (start budget) r calls) e),
)

-- ---- the client is ready

-- what the session makes of its configuration and its members
abbrev read_here : Effect
read_here = after_watching (after_reading (unconcerned begun) (configuration_here shelf.root (taking_of (unconcerned begun))))

became_ready : concluded read_here ≡ record { state = ready; bodies = [] }
unfolding answer_waiting
became_ready = ap (λ (read : Reading). concluded (after_watching (after_reading (unconcerned begun) read))) members_are_read

settles_reading : Settles (begins (Some shelf.root) begun) read_here
settles_reading =
    let taking : Taking = taking_of (unconcerned begun) in
    let read : Reading = configuration_here shelf.root taking in
    settles_then (configured shelf.root (unconcerned begun)) (λ w. at_once (after_watching w)) (after_reading (unconcerned begun) read) read_here
    (settles_then (configuration_read shelf.root taking) (λ r. at_once (after_reading (unconcerned begun) r)) read (after_reading (unconcerned begun) read)
    (settles_configuration shelf.root taking) (settles_at_once (after_reading (unconcerned begun) read)))
    (settles_at_once read_here)

settles_ready : Settles (served begun (Some initialized_value)) (record { state = ready; bodies = [] })
unfolding message_of chars
settles_ready =
    subst (λ z. Settles (served begun (Some initialized_value)) z) became_ready
    (settles_then (begins (Some shelf.root) begun) (λ z. at_once (concluded z)) read_here (concluded read_here) settles_reading (settles_at_once (concluded read_here)))

pub becomes_ready : (body : List ℕ) → reading body ≡ Some initialized_value → Leads begun body ready
unfolding event
becomes_ready body e =
    ([], subst (λ r. Settles (λ calls. served begun r calls) (record { state = ready; bodies = [] })) (sym e) settles_ready)

-- ---- the program is opened

ready_hears : (body : List ℕ) (calls : List LibraryCall) → event ready body calls ≡ served ready (reading body) calls
unfolding event
ready_hears body calls = refl

opening_told : (bytes : List ℕ) → message_of (opened_value bytes) ≡ Ok (DidOpen program_uri (codes "hlasm") (pos 1) (chars bytes))
unfolding message_of opened chars
opening_told bytes = refl

opening_does : (bytes : List ℕ) (calls : List LibraryCall) → is_too_long (chars bytes) ≡ false
    → behind (asked ready (Ok (DidOpen program_uri (codes "hlasm") (pos 1) (chars bytes))) calls) (λ first. at_once (concluded first))
    ≡ Came (record { state = state_with (program ∷ []) [] (pos 1) (chars bytes); bodies = [] }) calls
unfolding path_of text_of answer_waiting folder_of folder_path url_on_literals percent_encoding_on_literals
opening_does bytes calls short = rw short refl

pub opens : (body bytes : List ℕ) → reading body ≡ Some (opened_value bytes) → is_too_long (chars bytes) ≡ false
    → Leads ready body (state_with (program ∷ []) [] (pos 1) (chars bytes))
opens body bytes e short = (
  [],
  settles_by (event ready body) (record { state = state_with (program ∷ []) [] (pos 1) (chars bytes); bodies = [] })
      (λ calls. ready_hears body calls ∙ ap (λ r. served ready r calls) e
      ∙ ap (λ m. behind (asked ready m calls) (λ first. at_once (concluded first))) (opening_told bytes) ∙ opening_does bytes calls short),
)

-- ---- the program is changed

-- what is read of a change
pub changes : (version : ℕ) (place : Place) → version < 1000 → place.line < 2 ^ 31 → place.first < 2 ^ 31 → place.end < 2 ^ 31
    → message_of (changed_value version place (codes "5")) ≡ Ok (DidChange program_uri (pos version) (record {
      from = Some (record { line = place.line; character = place.first });
      to = Some (record { line = place.line; character = place.end });
      text = codes "5";
    } ∷ []))
unfolding message_of changed chars
changes version place few line first end =
    rw (
      lt-ltb version (2 ^ 63) (omega arith),
      lt-ltb version (2 ^ 31) (omega arith),
      lt-ltb place.line (2 ^ 32) (omega arith),
      lt-ltb place.line (2 ^ 31) line,
      lt-ltb place.first (2 ^ 32) (omega arith),
      lt-ltb place.first (2 ^ 31) first,
      lt-ltb place.end (2 ^ 32) (omega arith),
      lt-ltb place.end (2 ^ 31) end,
    ) refl

hears : (published : List LastList) (version : ℤ) (text body : List ℕ) (calls : List LibraryCall)
    → event (state_with [] published version text) body calls ≡ served (state_with [] published version text) (reading body) calls
unfolding event
hears published version text body calls = refl

change_does : (published : List LastList) (old new : ℤ) (text other : List ℕ) (edits : List Edit) (calls : List LibraryCall) → after_edits edits 0 text ≡ Ok other
    → behind (asked (state_with [] published old text) (Ok (DidChange program_uri new edits)) calls) (λ first. at_once (concluded first))
    ≡ Came (record { state = state_with (program ∷ []) published new other; bodies = [] }) calls
unfolding path_of text_of answer_waiting folder_of folder_path url_on_literals percent_encoding_on_literals
change_does published old new text other edits calls made = rw made refl

-- the program has this text then, in this version
pub changes_text : (body : List ℕ) (value : Data) (published : List LastList) (old new : ℤ) (text other : List ℕ) (edits : List Edit)
    → reading body ≡ Some value → is_response value ≡ false → message_of value ≡ Ok (DidChange program_uri new edits) → after_edits edits 0 text ≡ Ok other
    → Leads (state_with [] published old text) body (state_with (program ∷ []) published new other)
changes_text body value published old new text other edits e asks told made = (
  [],
  settles_by (event (state_with [] published old text) body) (record { state = state_with (program ∷ []) published new other; bodies = [] })
      (λ calls. hears published old text body calls ∙ ap (λ r. served (state_with [] published old text) r calls) e
      ∙ ap (λ b. behind ((if b then at_once (quiet (state_with [] published old text)) else asked (state_with [] published old text) (message_of value)) calls) (λ first. at_once (concluded first))) asks
      ∙ ap (λ m. behind (asked (state_with [] published old text) m calls) (λ first. at_once (concluded first))) told
      ∙ change_does published old new text other edits calls made),
)

-- ---- a Turn

-- the list that is made
abbrev made_list : ℤ → (text : List ℕ) → List LastList → List Diagnostic
made_list version text published = list_of (without_first (state_with (program ∷ []) published version text)) program (program_document version text)

-- whether that is the list that was published last
abbrev was_published : ℤ → (text : List ℕ) → List LastList → Bool
was_published version text published = is_published (last_list published program) version (made_list version text published)

newest : (published : List LastList) (last : LastList) → is_number last.path program ≡ true → is_some (last_list (with_list published last) program) ≡ true
newest published last own =
    ap is_some (find-append (λ (l : LastList). is_number l.path program) (without_list published last.path) (last ∷ [])) ∙ by (last_list (without_list published last.path) program)
  where
    by : (found : Option LastList) → is_some (option_or found (find (λ (l : LastList). is_number l.path program) (last ∷ []))) ≡ true
    by None = rw own refl
    by (Some l) = refl

told_before : (published : List LastList) (version : ℤ) (list : List Diagnostic) (found : Option LastList) → last_list published program ≡ found
    → is_published found version list ≡ true → is_some (last_list published program) ≡ true
told_before published version list None is e = let bad : false ≡ true = e in cc
told_before published version list (Some last) is e = ap is_some is

-- behind it the list of the program was made, and none is still to be made
pub turns : (published : List LastList) (version : ℤ) (text : List ℕ)
    → (after : List LastList) × ((turn (state_with (program ∷ []) published version text)).state ≡ state_with [] after version text) × (is_some (last_list after program) ≡ true)
unfolding assemble_first answer_waiting
turns published version text = by (was_published version text published) (refl {a = was_published version text published}) where
  by : (b : Bool) → was_published version text published ≡ b
      → (after : List LastList) × ((turn (state_with (program ∷ []) published version text)).state ≡ state_with [] after version text) × (is_some (last_list after program) ≡ true)
  by true e = (published, rw e refl, told_before published version (made_list version text published) (last_list published program) (refl {a = last_list published program}) e)
  by false e =
      let last : LastList = record { path = program; version = version; list = made_list version text published } in
      (with_list published last, rw e refl, newest published last refl)

-- ---- figures

pub has_figures : (published : List LastList) (version : ℤ) (text : List ℕ) → is_some (last_list published program) ≡ true
    → figures_named (state_with [] published version text) program_uri ≡ Some (figures_of program_number text [] (member_of (store_with version text) (shelf.folder_path ∷ [])) budget)
unfolding figures_over path_of text_of folder_of folder_path url_on_literals percent_encoding_on_literals
has_figures published version text e = rw e refl
