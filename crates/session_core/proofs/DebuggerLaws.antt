-- Which events change the debug session of a number.
use Rattle.std.proofs.Common.{◌≡◌, ℕ, ◌==◌, ◌||◌, Bool, true, false, List, [], ◌∷◌, Option, Some, None, Result, Ok, Err, refl, sym, ap, ◌∙◌}
use Rattle.std.specs.Option.{option_map_or}
use Rattle.std.proofs.lemmas.Bool.{eq-eqb}
use Rattle.serde_json.specs.Data.{Data}
use Rattle.json_view.specs.Texts.{reading}
use Rattle.io_edge.specs.LibraryCall.{LibraryCall}
use Rattle.library_reading.specs.Asked.{Asked, Came, Lacks, Differs, answered}
use Rattle.lsp_messages.specs.declared.incoming.LspIn.{LspIn}
use Rattle.lsp_messages.specs.declared.incoming.LspIn.TheVariants.{Initialize, Shutdown, Definition, References, Hover, DocumentSymbol, Initialized, Exit, DidOpen, DidChange, DidClose, DidSave, DidChangeConfiguration, DidChangeWatchedFiles, Cancel, Dap}
use Rattle.lsp_messages.specs.declared.incoming.Refusal.{Refusal}
use Rattle.lsp_messages.specs.Messages.{is_response, message_of}
use Rattle.dap_messages.specs.Requests.{request_of}
use Rattle.document_store.specs.Changes.{opened, changed, closed}
use Rattle.trace_values.specs.declared.item.TraceItem.{TraceItem}
use Rattle.trace_arena.specs.Points.{Point}
use Rattle.debug_sessions.specs.State.{session_of}
use Rattle.debug_sessions.specs.Laws.{trace_in}
use Rattle.debug_sessions.proofs.OtherLemmas.{answer-others}
use Rattle.debug_sessions.proofs.TraceLemmas.{launches_keep_their_traces}
use Rattle.session_core.specs.Debugging.{launched_by, debugged}
use Rattle.session_core.specs.Laws.{DebugSaid, debug_said, value_debug_said, body_debug_said, is_to, is_end_of, is_body_debugging, is_body_disconnecting, HasDebugger, KeepsDebugger, HasTrace, KeepsTrace}
use Rattle.session_core.specs.Message.{message, event, served, received, asked, effect, effect_of, concluded, is_passed_over, unless_refused}
use Rattle.session_core.specs.Refusals.{Refused, refusal, is_ended}
use Rattle.session_core.specs.State.{State, number_named}
use Rattle.session_core.specs.Step.{Effect, quiet, step_of}
use Rattle.session_core.specs.Turn.{assemble_first, assemble_all, answer_waiting, turn}
use Rattle.session_core.proofs.AnswerLaws.{so_behind}
use Rattle.session_core.proofs.AsideLaws.{AreKept, kept_first, kept_all, kept_change, kept_closing, kept_begun, kept_watched}
use Rattle.session_core.proofs.AskingLaws.{Whenever, whenever_behind, whenever_cond, whenever_unless}

-- ---- one of them

-- this stands where no debug session has changed
abbrev StandsWhereKept : State → (Effect → Type 0) → Type 0
StandsWhereKept s Stands = (effect : Effect) → effect.state.debuggers ≡ s.debuggers → Stands effect

-- it stands behind answers where it stood before them
abbrev StandsBehind : (Effect → Type 0) → Type 0
StandsBehind Stands = (first : Effect) → Stands first → Stands (concluded first)

-- answers change no debug session
kept_answers : (s : State) → (answer_waiting s).state.debuggers ≡ s.debuggers
kept_answers s = so_behind (λ t. t.debuggers ≡ s.debuggers) s refl refl

kept_turn : (s : State) → (turn s).state.debuggers ≡ s.debuggers
kept_turn s = kept_answers (assemble_first s).state ∙ (kept_first s).0

-- and where one is told what does not change it
abbrev StandsWhereTold : State → (DebugSaid → Bool) → (Effect → Type 0) → Type 0
StandsWhereTold s changes Stands = (said : DebugSaid) → changes said ≡ false → Stands (debugged s said.number said.read)

-- so it stands behind each message that does not change it
module _ (s : State) (Stands : Effect → Type 0) (changes : DebugSaid → Bool) (kept : StandsWhereKept s Stands) (told : StandsWhereTold s changes Stands) (behind : StandsBehind Stands) where
  stands_asked : (asked : Asked Effect) → Whenever (AreKept s) asked → Whenever Stands asked
  stands_asked (Came effect rest) same = kept effect same.0
  stands_asked Lacks same = tt
  stands_asked Differs same = tt

  stands_effect : (message : LspIn) (calls : List LibraryCall) → option_map_or changes (debug_said (Ok message)) false ≡ false → Whenever Stands (effect s message calls)
  stands_effect (Initialize id root) calls other = kept _ refl
  stands_effect (Shutdown id) calls other = kept _ (kept_answers (assemble_all s).state ∙ (kept_all s).0)
  stands_effect (Definition id uri at) calls other = kept _ refl
  stands_effect (References id uri at declarations) calls other = kept _ refl
  stands_effect (Hover id uri at) calls other = kept _ refl
  stands_effect (DocumentSymbol id uri) calls other = kept _ refl
  stands_effect Initialized calls other = stands_asked (effect s Initialized calls) (kept_begun s s.root calls)
  stands_effect Exit calls other = kept _ refl
  stands_effect (DidOpen uri language version text) calls other = kept _ (kept_change s (opened s.store uri language version text)).0
  stands_effect (DidChange uri version edits) calls other = kept _ (kept_change s (changed s.store uri version edits)).0
  stands_effect (DidClose uri) calls other = kept _ (kept_closing s (number_named s.store uri) (closed s.store uri)).0
  stands_effect DidSave calls other = kept _ refl
  stands_effect DidChangeConfiguration calls other = kept _ refl
  stands_effect (DidChangeWatchedFiles changes) calls other = stands_asked (effect s (DidChangeWatchedFiles changes) calls) (kept_watched s changes calls)
  stands_effect (Cancel id) calls other = kept _ refl
  stands_effect (Dap session message) calls other = told (record { number = session; read = request_of message }) other

  stands_told : (heard : Result LspIn Refusal) (calls : List LibraryCall) → option_map_or changes (debug_said heard) false ≡ false → Whenever Stands (effect_of s heard calls)
  stands_told (Ok message) calls other = stands_effect message calls other
  stands_told (Err refusal) calls other = kept _ refl

  stands_heard : (heard : Result LspIn Refusal) (calls : List LibraryCall) → option_map_or changes (debug_said heard) false ≡ false → Whenever Stands (asked s heard calls)
  stands_heard heard calls other =
      whenever_cond Stands (is_passed_over s.stage heard) (answered (quiet s)) _ calls (kept _ refl)
      (whenever_unless Stands s (refusal s.stage s.store s.waiting (Some heard)) (effect_of s heard) calls (λ body. kept _ refl) (λ _. stands_told heard calls other))

  stands_received : (value : Option Data) (calls : List LibraryCall) → option_map_or changes (value_debug_said value) false ≡ false → Whenever Stands (received s value calls)
  stands_received None calls other = kept _ refl
  stands_received (Some value) calls other =
      whenever_cond Stands (is_response value) (answered (quiet s)) (asked s (message_of value)) calls (kept _ refl)
      (stands_heard (message_of value) calls other)

  stands_event : (body : List ℕ) (calls : List LibraryCall) → option_map_or changes (body_debug_said body) false ≡ false → Whenever Stands (event s body calls)
  unfolding event
  stands_event body calls other =
      whenever_cond Stands (is_ended s.stage) (answered (quiet s)) (served s (reading body)) calls (kept _ refl)
      (whenever_behind Stands Stands (received s (reading body) calls) (λ first. answered (concluded first)) (stands_received (reading body) calls other)
      (λ first rest so. behind first so))

-- ---- it changes by its messages alone

true_or_false : true ≡ false → ⊥
true_or_false same = cc

other_told : (s : State) (number : ℕ) → StandsWhereTold s (is_to number) (λ effect. HasDebugger number s effect.state)
unfolding debugged
other_told s number said other =
    answer-others s.store.paths s.debuggers said.number number said.read (launched_by s said.number said.read)
    (λ same. true_or_false (sym (eq-eqb said.number number (sym same)) ∙ other))

kept_step : (s : State) (number : ℕ) (asked : Asked Effect) → Whenever (λ effect. HasDebugger number s effect.state) asked → KeepsDebugger number s (step_of asked)
kept_step s number (Came effect rest) kept = kept
kept_step s number Lacks kept = tt
kept_step s number Differs kept = tt

pub message_keeps : (s : State) (number : ℕ) (body : List ℕ) (calls : List LibraryCall) → is_body_debugging number body ≡ false → KeepsDebugger number s (message s body calls)
message_keeps s number body calls other =
    kept_step s number (event s body calls)
    (stands_event s (λ effect. HasDebugger number s effect.state) (is_to number) (λ effect same. ap (session_of number) same) (other_told s number)
    (λ first so. ap (session_of number) (kept_answers first.state) ∙ so) body calls other)

pub turn_keeps : (s : State) (number : ℕ) → HasDebugger number s (turn s).state
turn_keeps s number = ap (session_of number) (kept_turn s)

-- ---- it keeps its trace until it is disconnected

trace_same : (s t : State) (number : ℕ) (trace : List (Point TraceItem)) → HasTrace number trace s → t.debuggers ≡ s.debuggers → HasTrace number trace t
trace_same s t number trace has same = ap (trace_in number) same ∙ has

trace_told : (s : State) (number : ℕ) (trace : List (Point TraceItem)) → HasTrace number trace s
    → StandsWhereTold s (is_end_of number) (λ effect. HasTrace number trace effect.state)
unfolding debugged
trace_told s number trace has said other =
    launches_keep_their_traces s.debuggers number trace
    (record { number = said.number; read = said.read; paths = s.store.paths; program = launched_by s said.number said.read } ∷ [])
    has (ap (λ b. b || false) other)

traced_step : (number : ℕ) (trace : List (Point TraceItem)) (asked : Asked Effect) → Whenever (λ effect. HasTrace number trace effect.state) asked
    → KeepsTrace number trace (step_of asked)
traced_step number trace (Came effect rest) kept = kept
traced_step number trace Lacks kept = tt
traced_step number trace Differs kept = tt

pub message_keeps_trace : (s : State) (number : ℕ) (trace : List (Point TraceItem)) (body : List ℕ) (calls : List LibraryCall) → HasTrace number trace s
    → is_body_disconnecting number body ≡ false → KeepsTrace number trace (message s body calls)
message_keeps_trace s number trace body calls has other =
    traced_step number trace (event s body calls)
    (stands_event s (λ effect. HasTrace number trace effect.state) (is_end_of number) (λ effect same. trace_same s effect.state number trace has same)
    (trace_told s number trace has) (λ first so. trace_same first.state (answer_waiting first.state).state number trace so (kept_answers first.state)) body calls other)

pub turn_keeps_trace : (s : State) (number : ℕ) (trace : List (Point TraceItem)) → HasTrace number trace s → HasTrace number trace (turn s).state
turn_keeps_trace s number trace has = trace_same s (turn s).state number trace has (kept_turn s)
