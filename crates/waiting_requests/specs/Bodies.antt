-- The bodies that are written for requests that waited (JSON-RPC 2.0, "Response object"; Language Server Protocol 3.17,
-- `ErrorCodes`, "Cancellation Support").
use Rattle.std.specs.Prelude.{ℕ, pos, neg_ℤ, List, map, codes, Option, Some, None, if◌then◌else◌}
use Rattle.std.specs.Str.{chars}
use Rattle.serde_json.specs.Written.{compact_text}
use Rattle.document_store.specs.Store.{Store}
use Rattle.lsp_messages.specs.declared.incoming.Id.{Id}
use Rattle.lsp_messages.specs.declared.outgoing.LspOut.TheVariants.{Fault}
use Rattle.lsp_messages.specs.declared.outgoing.SymbolAnswer.{SymbolAnswer}
use Rattle.lsp_messages.specs.Written.{reply_value, answer_value, text_of}
use Rattle.waiting_requests.specs.declared.request.Request.{Request}
use Rattle.waiting_requests.specs.Answers.{answer_of}
use Rattle.waiting_requests.specs.Names.{Names}
use Rattle.waiting_requests.specs.Requests.{waits}

-- ---- answers

-- the reply that has an answer
abbrev pub answered : Id → SymbolAnswer → List ℕ
answered id answer = compact_text (reply_value id (answer_value answer))

-- the reply to a request
abbrev pub reply_to : Store → List Names → Request → List ℕ
reply_to store programs request = answered request.id (answer_of store programs request)

-- the replies to requests, in their order
abbrev pub replies_to : Store → List Names → List Request → List (List ℕ)
replies_to store programs waiting = map (reply_to store programs) waiting

-- ---- cancelling

-- the reply to a request that was cancelled (`RequestCancelled`)
abbrev pub cancelled : Id → List ℕ
cancelled id = text_of (Fault (Some id) (neg_ℤ (pos 32800)) (chars (codes "cancelled")))

-- what is written where the client cancels an id: of a request that does not wait, nothing
abbrev pub cancel_reply : List Request → Id → Option (List ℕ)
cancel_reply waiting id = if waits waiting id then Some (cancelled id) else None
