-- What is launched of a document, as the code finds it.
use Rattle.std.proofs.Common.{◌≡◌, ℕ, ◌<◌, zero, suc, Bool, true, false, cond, List, [], ◌∷◌, length, get_or, Option, Some, None, refl, sym, ap, ◌∙◌, arith}
use Rattle.hl_base.specs.declared.place.PathId.{PathId}
use Rattle.trace_values.specs.declared.item.TraceItem.{TraceItem}
use Rattle.trace_arena.specs.Points.{Point}
use Rattle.dap_messages.specs.declared.requests.DapIn.{DapIn}
use Rattle.dap_messages.specs.declared.requests.DapRefusal.{DapRefusal}
use Rattle.dap_messages.specs.declared.requests.DapRefusal.TheVariants.{NotDap, UnknownCommand, BadArguments, OutOfMemory}
use Rattle.json_view.specs.Answers.{Answers}
use Rattle.dap_messages.specs.Requests.{request_of, said_by}
use Rattle.dap_messages.specs.Written.{has_fraction}
use Rattle.dap_messages.specs.declared.outgoing.DapOut.{DapOut}
use Rattle.serde_json.specs.Data.{Data}
use Rattle.library_reading.specs.Asked.{answered}
use Rattle.lsp_messages.specs.declared.incoming.LspIn.TheVariants.{Dap}
use Rattle.text_pool.specs.Pool.{Pool}
use Rattle.document_store.specs.Store.{Store, OpenDocument, Readable, number_of, present_at}
use Rattle.document_store.specs.Shown.{IsShown, IsPresent, Shows}
use Rattle.document_store.specs.declared.document.Document.{Document}
use Rattle.document_store.specs.declared.document.MemberText.{MemberText}
use Rattle.library_folders.specs.declared.folders.Folder.{Folder}
use Rattle.std.specs.Prelude.{Result, Ok, Err}
use Rattle.debug_sessions.specs.State.{Debuggers}
use Rattle.debug_sessions.specs.Answers.{answer}
use Rattle.debug_sessions.specs.Written.{outcome_of, messages_in, AreWhole}
use Rattle.debug_sessions.specs.declared.replies.Answer.{Answer}
use Rattle.debug_sessions.specs.Refusals.{program_wanted}
use Rattle.std.specs.Prelude.{option_map, option_and_then}
use Rattle.session_core.specs.Debugging.{trace_of, launched_of, launched_at, program_trace, launched_by, debug_bodies, after_debugging, debugged}
use Rattle.session_core.specs.declared.state.Stage.{Stage}
use Rattle.session_core.specs.declared.state.Stage.TheVariants.{Fresh, Active, Closing, Ended}
use Rattle.session_core.specs.Message.{asked, asked_at}
use Rattle.session_core.specs.Refusals.{is_active}
use Rattle.session_core.specs.State.{State, libraries, is_program, document_at}
use Rattle.session_core.specs.Step.{Effect, IsEffect, Acts}
use Rattle.session_core.specs.Inside.{TellsTrace}
use Rattle.session_core.proofs.TextLaws.{numbered, present_is}

-- what was read is what was wanted, but for want of memory
pub reads_itself : (read : Result DapIn DapRefusal) → Answers said_by read read
reads_itself (Ok request) = refl
reads_itself (Err NotDap) = refl
reads_itself (Err (UnknownCommand head)) = refl
reads_itself (Err (BadArguments head)) = refl
reads_itself (Err OutOfMemory) = tt

-- no document is open
pub launched_none : (s : State) (n : PathId) → IsShown s.store.paths (document_at s.store n) None → None ≡ launched_at s n
launched_none s n is = by_document (document_at s.store n) is where
  by_document : (found : Option OpenDocument) → IsShown s.store.paths found None → None ≡ launched_of s n found
  by_document None is = refl
  by_document (Some document) is = absurd is

-- whether a document that is shown is a program, by these folders
abbrev pub TellsProgram : (s : State) → (folders : List Folder) → Document → Bool → Type 0
TellsProgram s folders shown told = (document : OpenDocument) → Shows s.store.paths document shown → told ≡ is_program folders document

-- the open document is no program
pub launched_other : (s : State) (n : PathId) (shown : Document) (folders : List Folder) (told : Bool) → folders ≡ libraries s
    → IsShown s.store.paths (document_at s.store n) (Some shown) → TellsProgram s folders shown told → told ≡ false → None ≡ launched_at s n
launched_other s n shown folders told are is tells other = by_document (document_at s.store n) is where
  by_document : (found : Option OpenDocument) → IsShown s.store.paths found (Some shown) → None ≡ launched_of s n found
  by_document None is = absurd is
  by_document (Some document) shows =
      let no : is_program (libraries s) document ≡ false = ap (λ f. is_program f document) (sym are) ∙ sym (tells document shows) ∙ other in
      ap (λ b. cond b (Some (trace_of s n document)) None) (sym no)

-- the open document is a program, whose trace was made
pub launched_made : (s : State) (n : PathId) (shown : Document) (folders : List Folder) (told : Bool) (trace : List (Point TraceItem)) → folders ≡ libraries s
    → IsShown s.store.paths (document_at s.store n) (Some shown) → TellsProgram s folders shown told → told ≡ true
    → TellsTrace s n shown trace → Some trace ≡ launched_at s n
launched_made s n shown folders told trace are is tells holds made = by_document (document_at s.store n) refl is where
  by_document : (found : Option OpenDocument) → document_at s.store n ≡ found → IsShown s.store.paths found (Some shown) → Some trace ≡ launched_of s n found
  by_document None e is = absurd is
  by_document (Some document) e shows =
      let so : is_program (libraries s) document ≡ true = ap (λ f. is_program f document) (sym are) ∙ sym (tells document shows) ∙ holds in
      ap (λ t. Some t) (made document e shows)
      ∙ ap (λ b. cond b (Some (trace_of s n document)) None) (sym so)

-- what is launched, told by another list of what is launched
pub debug_outcome : (s : State) (number : ℕ) (read : Result DapIn DapRefusal) (launched : Option (List (Point TraceItem))) (new : Debuggers) (said : Answer) (bodies : List (List ℕ))
    → launched ≡ launched_by s number read → answer s.store.paths s.debuggers number read launched ≡ outcome_of said new → bodies ≡ debug_bodies number (messages_in said)
    → IsEffect (debugged s number read) (record s { debuggers = new }) bodies
unfolding debugged
debug_outcome s number read launched new said bodies same is told =
    ap (λ program. after_debugging s number (answer s.store.paths s.debuggers number read program)) (sym same)
    ∙ ap (after_debugging s number) is
    ∙ ap (λ z. record { state = record s { debuggers = new }; bodies = z }) (sym told)

-- a document is shown
pub shown_of : (paths : List (List ℕ)) (found : Option OpenDocument) (shown : Document) → IsShown paths found (Some shown)
    → (document : OpenDocument) × Shows paths document shown
shown_of paths None shown is = absurd is
shown_of paths (Some document) shown is = (document, is)

-- what is present at the number of a document that is shown is its text
pub shown_text : (s : Store) (pool : Pool) (n : PathId) (shown : Document) (present : Option MemberText) → IsShown s.paths (document_at s n) (Some shown)
    → IsPresent pool (present_at s n.0) present → (document : OpenDocument) × IsPresent pool (Some (Readable document.text)) present
shown_text s pool n shown present is told = by_document (document_at s n) refl is where
  by_document : (found : Option OpenDocument) → document_at s n ≡ found → IsShown s.paths found (Some shown)
      → (document : OpenDocument) × IsPresent pool (Some (Readable document.text)) present
  by_document None e is = absurd is
  by_document (Some document) e shows =
      let numbers = numbered s n document shown e shows in
      (document, present_is s pool n document present told e numbers.path numbers.number)

-- ---- paths

-- what is launched of a path that has a number
pub program_found : (s : State) (path : List ℕ) (n : PathId) (trace : Option (List (Point TraceItem))) → Some n.0 ≡ number_of s.store.paths path
    → trace ≡ launched_at s n → trace ≡ program_trace s path
program_found s path n trace found is = is ∙ ap (λ m. option_and_then (launched_at s) (option_map (λ k. record { 0 = k }) m)) found

-- and of one that has none
pub program_absent : (s : State) (path : List ℕ) → None ≡ number_of s.store.paths path → None ≡ program_trace s path
program_absent s path absent = ap (λ m. option_and_then (launched_at s) (option_map (λ k. record { 0 = k }) m)) absent

-- what a message launches that wants a program
pub launched_found : (s : State) (number : ℕ) (read : Result DapIn DapRefusal) (path : List ℕ) (trace : Option (List (Point TraceItem)))
    → Some path ≡ program_wanted s.debuggers number read → trace ≡ program_trace s path → trace ≡ launched_by s number read
launched_found s number read path trace found is = is ∙ ap (option_and_then (program_trace s)) found

-- and one that wants none
pub launched_absent : (s : State) (number : ℕ) (read : Result DapIn DapRefusal) → None ≡ program_wanted s.debuggers number read → None ≡ launched_by s number read
launched_absent s number read absent = ap (option_and_then (program_trace s)) absent

-- ---- whether debug messages are taken

-- while the session is active
pub debugged_active : (s now : State) (number : ℕ) (message : Data) (bodies : List (List ℕ)) → is_active s.stage ≡ true
    → IsEffect (debugged s number (request_of message)) now bodies → Acts (asked s (Ok (Dap number message))) now bodies
debugged_active s now number message bodies active step = by_stage s.stage active where
  by_stage : (stage : Stage) → is_active stage ≡ true → asked_at stage s (Ok (Dap number message)) ≡ answered (record { state = now; bodies = bodies })
  by_stage Fresh is = cc
  by_stage Active is = ap (λ (z : Effect). answered z) step
  by_stage Closing is = cc
  by_stage (Ended closed) is = cc

-- elsewhere they are passed over
pub debugged_passed : (s : State) (number : ℕ) (message : Data) (bodies : List (List ℕ)) → is_active s.stage ≡ false → bodies ≡ []
    → Acts (asked s (Ok (Dap number message))) s bodies
debugged_passed s number message bodies passive none = by_stage s.stage passive where
  by_stage : (stage : Stage) → is_active stage ≡ false → asked_at stage s (Ok (Dap number message)) ≡ answered (record { state = s; bodies = bodies })
  by_stage Fresh is = ap (λ z. answered (record { state = s; bodies = z })) (sym none)
  by_stage Active is = cc
  by_stage Closing is = ap (λ z. answered (record { state = s; bodies = z })) (sym none)
  by_stage (Ended closed) is = ap (λ z. answered (record { state = s; bodies = z })) (sym none)

-- ---- what is written

-- each of messages without fractions has none
pub whole_at : (messages : List DapOut) (i : ℕ) (message : DapOut) → AreWhole messages → i < length messages → message ≡ get_or messages i message
    → has_fraction message ≡ false
whole_at [] i message whole more is = absurd (omega arith)
whole_at (first ∷ others) zero message whole more is = ap has_fraction is ∙ whole.0
whole_at (first ∷ others) (suc i) message whole more is = whole_at others i message whole.1 (omega arith) is
