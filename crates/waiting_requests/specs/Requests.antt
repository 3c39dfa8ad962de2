-- The requests that wait, in the order of arrival (Language Server Protocol 3.17, "Cancellation Support"; JSON-RPC 2.0, "Request
-- object": a request is known by its id).
use Rattle.std.specs.Prelude.{Bool, false, not, List, [], ◌∷◌, ◌≡◌, filter}
use Rattle.std.specs.List.{list_any}
use Rattle.std.specs.Ordering.{int_eq}
use Rattle.std.specs.Str.{bytes_eq}
use Rattle.lsp_messages.specs.declared.incoming.Id.{Id}
use Rattle.lsp_messages.specs.declared.incoming.Id.TheVariants.{Number, Words}
use Rattle.waiting_requests.specs.declared.request.Request.{Request}

-- two ids are one: a number and a text never are
abbrev pub is_same_id : Id → Id → Bool
is_same_id (Number one) (Number other) = int_eq one other
is_same_id (Words one) (Words other) = bytes_eq one other
is_same_id one other = false

-- a request has an id
abbrev pub has_id : Id → Request → Bool
has_id id request = is_same_id request.id id

-- a request of an id waits
abbrev pub waits : List Request → Id → Bool
waits waiting id = list_any (has_id id) waiting

-- what waits, without what has an id
abbrev pub without : List Request → Id → List Request
without waiting id = filter (λ request. not (has_id id request)) waiting

-- no two requests that wait have one id
abbrev pub AreDistinct : List Request → Type 0
AreDistinct [] = Unit {0}
AreDistinct (request ∷ others) = (waits others request.id ≡ false) × AreDistinct others
