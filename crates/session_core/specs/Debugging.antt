-- Debug messages, which `hlasm/dap` carries (Debug Adapter Protocol; this project): the debug sessions behind one and what is
-- written for it.
use Rattle.std.specs.Prelude.{ℕ, List, [], ◌∷◌, codes, map, Option, Some, None, option_map, option_and_then, Result, if◌then◌else◌}
use Rattle.serde_json.specs.Data.{Data}
use Rattle.serde_json.specs.Written.{compact_text}
use Rattle.hl_base.specs.declared.place.PathId.{PathId}
use Rattle.trace_values.specs.declared.item.TraceItem.{TraceItem}
use Rattle.trace_arena.specs.Points.{Point}
use Rattle.lsp_messages.specs.Written.{notification_value, dap_params}
use Rattle.dap_messages.specs.declared.requests.DapIn.{DapIn}
use Rattle.dap_messages.specs.declared.requests.DapRefusal.{DapRefusal}
use Rattle.document_store.specs.Store.{Store, OpenDocument, number_of}
use Rattle.library_folders.specs.declared.configuration.Configuration.{Configuration}
use Rattle.library_folders.specs.Folders.{parm_for}
use Rattle.program_names.specs.Traces as launches
use Rattle.debug_sessions.specs.Refusals.{program_wanted}
use Rattle.debug_sessions.specs.Answers.{Outcome, answer}
use Rattle.session_core.specs.Diagnostics.{members_of}
use Rattle.session_core.specs.Replies.{log_line}
use Rattle.session_core.specs.State.{State, libraries, is_program, document_at}
use Rattle.session_core.specs.Step.{Effect}

-- ---- launches

-- The trace of a program: of its text, with the SYSPARM and the members of its group, where it may be given so many statements.
unfoldable pub trace_in : (root : Option (List ℕ)) → Configuration → Store → (budget : ℕ) → PathId → OpenDocument → List (Point TraceItem)
trace_in root configuration store budget n document =
    launches.trace_of n.0 document.text (parm_for root configuration document.path) (members_of root configuration store document) budget

-- the trace of a program of a session, of the texts as they are now
abbrev pub trace_of : State → PathId → OpenDocument → List (Point TraceItem)
trace_of s n document = trace_in s.root s.configuration s.store s.budget n document

-- what is launched of a document: the trace of a program, and nothing of any other
abbrev pub launched_of : State → PathId → Option OpenDocument → Option (List (Point TraceItem))
launched_of s n None = None
launched_of s n (Some document) = if is_program (libraries s) document then Some (trace_of s n document) else None

-- what is launched of the document of a number
abbrev pub launched_at : State → PathId → Option (List (Point TraceItem))
launched_at s n = launched_of s n (document_at s.store n)

-- what is launched of the document of a path
abbrev pub program_trace : State → (path : List ℕ) → Option (List (Point TraceItem))
program_trace s path = option_and_then (launched_at s) (option_map (λ n. record { 0 = n }) (number_of s.store.paths path))

-- the trace of the program that a message launches, where it launches an open one
abbrev pub launched_by : State → (number : ℕ) → Result DapIn DapRefusal → Option (List (Point TraceItem))
launched_by s number read = option_and_then (program_trace s) (program_wanted s.debuggers number read)

-- ---- what is written

-- the body of a message to the client of a debug session
abbrev pub debug_body : (number : ℕ) → Data → List ℕ
debug_body number message = compact_text (notification_value (codes "hlasm/dap") (dap_params number message))

-- the messages to the client; where what came is no debug message, a line of the log
abbrev pub debug_bodies : (number : ℕ) → Option (List Data) → List (List ℕ)
debug_bodies number None = log_line (codes "hlasm/dap") (codes "NotDap") ∷ []
debug_bodies number (Some messages) = map (debug_body number) messages

-- the debug sessions are these, and this is written
abbrev pub after_debugging : State → (number : ℕ) → Outcome → Effect
after_debugging s number outcome = record {
  state = record s { debuggers = outcome.sessions };
  bodies = debug_bodies number outcome.messages;
}

-- A debug message to the session of a number, as it was read.
unfoldable pub debugged : State → (number : ℕ) → Result DapIn DapRefusal → Effect
debugged s number read = after_debugging s number (answer s.store.paths s.debuggers number read (launched_by s number read))
