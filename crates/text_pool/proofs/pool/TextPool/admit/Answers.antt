use Rattle.std.proofs.Common.{◌∷◌, ◌≡◌, ◌∙◌, ℕ, ap, sym, subst, refl, Some, None, List, Result, Ok, Err, OnErr, arith}
use Rattle.slab.specs.Slab.{get, Updates}
use Rattle.text_pool.specs.declared.entry.Entry.{Entry}
use Rattle.std.specs.Rc.{rc_str_bytes}
use Rattle.text_pool.specs.Entries.{stamp}
use Rattle.text_pool.specs.Starts.{AreStarts}
use Rattle.text_pool.proofs.PoolLemmas.{pool_of-kept}
use Rattle.text_pool.proofs.IndexLemmas.{ChangesAt, IsIndexed-kept, IsIndexed-admitted}
use Rattle.text_pool.proofs.InternLemmas.{number_from_absent, IsInterned-admitted}
use Rattle.text_pool.proofs.pool.TextPool.admit.Goals as goal

on_err : {T E : Type 0} {P : Type 0} (result : Result T E) → P → OnErr result P
on_err (Ok _) fact = tt
on_err (Err _) fact = fact

pub invariant_of-self : goal.invariant_of-self
invariant_of-self c =
    IsIndexed-kept _ _ _ _ (ap (λ s. s.slots) c.reserve.ensures.rest_kept) refl c.self.invariant

pub returns-in_err-reserve-clause-err : goal.returns-in_err-reserve-clause-err
returns-in_err-reserve-clause-err c =
    on_err _ (pool_of-kept _ _ _ (ap (λ s. s.slots) c.reserve.ensures.rest_kept) c.self.view_is)

pub invariant_of-self-in_err-insert : goal.invariant_of-self-in_err-insert
invariant_of-self-in_err-insert c =
    IsIndexed-kept _ _ _ _ (ap (λ s. s.slots) c.reserve.ensures.rest_kept) c.in_err-insert.ensures.err c.self.invariant

pub returns-in_err-insert-clause-err : goal.returns-in_err-insert-clause-err
returns-in_err-insert-clause-err c =
    on_err _ (pool_of-kept _ _ _ (ap (λ s. s.slots) c.reserve.ensures.rest_kept) c.self.view_is)

-- the number that was told before is the one that the entry stands under
number_is : (c : goal.After-insert_reserved) → c.insert_reserved.result ≡ c.in-Ok.number
number_is c =
    c.insert_reserved.ensures.key ∙ ap (λ s. s.vacant_key) c.reserve.ensures.rest_kept ∙ sym c.vacant_key.ensures.value
    ∙ sym c.in-Ok.ensures.1

-- nothing stood there, and now the text does
stood : (c : goal.After-insert_reserved) → get c.reserve.new.self c.in-Ok.number ≡ None
stood c = ap (get c.reserve.new.self) (sym (number_is c)) ∙ c.insert_reserved.ensures.was_vacant

stands : (c : goal.After-insert_reserved) →
    let entry : Entry = record { key = c.args.key; starts = c.in_ok-starts.starts; owners = 1 } in
    Updates c.reserve.new.self c.insert_reserved.new.self c.in-Ok.number (Some entry)
stands c =
    let entry : Entry = record { key = c.args.key; starts = c.in_ok-starts.starts; owners = 1 } in
    subst (λ (k : ℕ). Updates c.reserve.new.self c.insert_reserved.new.self k (Some entry)) (number_is c)
    c.insert_reserved.ensures.updates

-- where its lines begin
started : (c : goal.After-insert_reserved) → AreStarts (rc_str_bytes c.args.key.text) c.in_ok-starts.starts.items
started c = subst (λ bytes. AreStarts bytes c.in_ok-starts.starts.items) c.as_str.ensures.value c.in_ok-starts.ensures

pub invariant_of-self-2 : goal.invariant_of-self-2
invariant_of-self-2 c =
    let entry : Entry = record { key = c.args.key; starts = c.in_ok-starts.starts; owners = 1 } in
    let sought = ap (λ bytes. c.args.key.mark ∷ bytes) c.in_ok-clone.ensures.cases in
    IsIndexed-admitted c.reserve.new.self _ c.self.inside.numbers c.insert.new.self c.in-Ok.number entry (stamp c.args.key)
    (IsIndexed-kept _ _ _ _ (ap (λ s. s.slots) c.reserve.ensures.rest_kept) refl c.self.invariant)
    (stands c) (stood c) refl
    (number_from_absent _ _ _ c.args.key c.requires.marked c.self.view_is c.self.invariant c.requires.absent)
    (subst (λ (bytes : List ℕ). ChangesAt c.self.inside.numbers c.insert.new.self bytes (Some c.in-Ok.number)) sought
    (λ text. c.in_ok-insert.ensures.updates.0 text))
    c.requires.marked c.requires.utf8 c.requires.short (started c) (omega arith)

pub returns-clause-ok : goal.returns-clause-ok
returns-clause-ok c =
    let entry : Entry = record { key = c.args.key; starts = c.in_ok-starts.starts; owners = 1 } in
    IsInterned-admitted c.reserve.new.self _ _ c.in-Ok.number entry _
    (pool_of-kept _ _ _ (ap (λ s. s.slots) c.reserve.ensures.rest_kept) c.self.view_is)
    (stood c) (stands c) refl refl c.requires.absent
