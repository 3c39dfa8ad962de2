-- Requests that wait.
use Rattle.std.proofs.Common.{◌≡◌, Bool, true, false, not, cond, ◌||◌, List, [], ◌∷◌, ◌++◌, filter, Some, None, refl, ap, ◌∙◌}
use Rattle.std.specs.List.{list_any}
use Rattle.std.proofs.lemmas.List.Folds.{list_any-append}
use Rattle.lsp_messages.specs.declared.incoming.Id.{Id}
use Rattle.waiting_requests.specs.declared.request.Request.{Request}
use Rattle.waiting_requests.specs.Bodies.{cancelled, cancel_reply}
use Rattle.waiting_requests.specs.Requests.{is_same_id, has_id, waits, without, AreDistinct}
use Rattle.waiting_requests.proofs.IdLaws.{id_back}

or_split : (a b : Bool) → (a || b) ≡ false → (a ≡ false) × (b ≡ false)
or_split true b is = cc
or_split false b is = (refl, is)

neither : (a b : Bool) → a ≡ false → b ≡ false → (a || b) ≡ false
neither false b one other = other
neither true b one other = cc

-- what nothing passes, nothing of a part of it passes
any_fewer : {X : Type 0} (test kept : X → Bool) (xs : List X) → list_any test xs ≡ false → list_any test (filter kept xs) ≡ false
any_fewer test kept [] none = refl
any_fewer test kept (x ∷ xs) none =
    let parts = or_split (test x) (list_any test xs) none in
    by_kept (kept x) parts.0 (any_fewer test kept xs parts.1) where
      by_kept : (b : Bool) → test x ≡ false → list_any test (filter kept xs) ≡ false → list_any test (cond b (x ∷ filter kept xs) (filter kept xs)) ≡ false
      by_kept true here others = neither (test x) (list_any test (filter kept xs)) here others
      by_kept false here others = others

-- ---- cancelling

pub without_none : (waiting : List Request) (id : Id) → waits waiting id ≡ false → without waiting id ≡ waiting
without_none [] id none = refl
without_none (request ∷ others) id none =
    let parts = or_split (has_id id request) (waits others id) none in
    ap (λ b. cond (not b) (request ∷ without others id) (without others id)) parts.0 ∙ ap (λ z. request ∷ z) (without_none others id parts.1)

pub without_gone : (waiting : List Request) (id : Id) → waits (without waiting id) id ≡ false
without_gone [] id = refl
without_gone (request ∷ others) id = by_test (has_id id request) refl (without_gone others id) where
  by_test : (b : Bool) → has_id id request ≡ b → waits (without others id) id ≡ false → waits (cond (not b) (request ∷ without others id) (without others id)) id ≡ false
  by_test true is gone = gone
  by_test false is gone = neither (has_id id request) (waits (without others id) id) is gone

pub cancel_silent : (waiting : List Request) (id : Id) → waits waiting id ≡ false → cancel_reply waiting id ≡ None
cancel_silent waiting id none = ap (λ b. cond b (Some (cancelled id)) None) none

-- ---- ids

pub distinct_added : (waiting : List Request) (request : Request) → AreDistinct waiting → waits waiting request.id ≡ false → AreDistinct (waiting ++ request ∷ [])
distinct_added [] request distinct none = (refl, tt)
distinct_added (first ∷ others) request (here, behind) none =
    let parts = or_split (has_id request.id first) (waits others request.id) none in
    let last : is_same_id request.id first.id ≡ false = id_back first.id request.id parts.0 in (
      list_any-append (has_id first.id) others (request ∷ []) ∙ neither (waits others first.id) (is_same_id request.id first.id || false) here (neither (is_same_id request.id first.id) false last refl),
      distinct_added others request behind parts.1,
    )

pub distinct_cancelled : (waiting : List Request) (id : Id) → AreDistinct waiting → AreDistinct (without waiting id)
distinct_cancelled [] id distinct = tt
distinct_cancelled (request ∷ others) id (here, behind) = by_test (has_id id request) (distinct_cancelled others id behind) where
  by_test : (b : Bool) → AreDistinct (without others id) → AreDistinct (cond (not b) (request ∷ without others id) (without others id))
  by_test true rest = rest
  by_test false rest = (any_fewer (has_id request.id) (λ other. not (has_id id other)) others here, rest)
