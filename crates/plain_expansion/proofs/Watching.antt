-- A run of the machine is one of the machine that watches itself exactly where it keeps to the watch.
use Rattle.std.proofs.Common.{◌≡◌, ℕ, ◌-◌, ◌<◌, Bool, true, false, cond, [], refl, sym, ap, ◌∙◌, subst}
use Rattle.std.specs.Prelude.{not, ◌||◌, ◌&&◌, nat_lt}
use Rattle.std.proofs.lemmas.Bool.{ltb-true, lt-ltb}
use Rattle.kept_values.specs.Trees.{Tree}
use Rattle.asking_core.specs.Machines.{MachineModel, Told, Nothing, Answered, Returned, TooDeep, Move, Ask, Put, Count, Bump, Emit, Deepen, Rise, Enter, At, Leave, End, is_count, is_last}
use Rattle.asking_core.specs.Runs.{Run, Leaves, Ends, Spent, Asks, Puts, Counts, Bumps, Emits, Moves, Deepens, Rises, Refused, Calls, Barred, Ending, ByLeave, ByEnd, ByBudget, ending, Back, Follows}
use Rattle.plain_expansion.specs.Language.{Language}
use Rattle.plain_expansion.specs.Engine.{Place, heard, expander}
use Rattle.plain_expansion.specs.Guard.{Watched, is_allowed, is_counted, kept_or_not, is_kept, left_after}
use Rattle.plain_expansion.specs.GuardLaws.{gives_up, kept_move, both_true, last_holds, allowed_at, asks_by}
use Rattle.plain_expansion.specs.Marks.{is_quiet, is_ask, moved_loud, expander_quietens}
use Rattle.plain_expansion.specs.Watch.{KeepsToWatch}
use Rattle.plain_expansion.specs.Laws.{careful_expander, WatchedRunsKeepToIt}
use Rattle.plain_expansion.proofs.Guarded.{own, back_as, follows_own}
use Rattle.plain_expansion.proofs.Entries.{is_entry, starts_at_entry, entry_asks}

and_true : (a b : Bool) → a ≡ true → b ≡ true → (a && b) ≡ true
and_true true b p q = q
and_true false b p q = p

or_last : (a b c : Bool) → c ≡ true → (a || b || c) ≡ true
or_last true b c is = refl
or_last false true c is = refl
or_last false false c is = is

or_true : (a : Bool) → (a || true) ≡ true
or_true true = refl
or_true false = refl

may_ask : (quiet entry moves : Bool) → quiet ≡ entry → (moves ≡ true → entry ≡ true) → (quiet || not moves) ≡ true
may_ask quiet entry true at go = ap (λ q. q || false) (at ∙ go refl)
may_ask quiet entry false at go = or_true quiet

module _ (L : Language) (full : ℕ) (moving writable : Tree → Bool) where
  abbrev M : MachineModel
  M = expander L

  abbrev G : MachineModel
  G = careful_expander L full moving writable

  abbrev Keeps : Bool → ℕ → Run L.words.Call L.Item → Type 0
  Keeps entry left t = KeepsToWatch full moving writable entry left t

  -- at its entry a call has only asked; behind it, it is not quiet
  abbrev Stands : Place L.words L.Item → Bool → Type 0
  Stands p true = is_entry p ≡ true
  Stands p false = is_quiet p ≡ false

  starts : (c : L.words.Call) → Stands ((M).start c) true
  starts c = starts_at_entry L c (L.entry_keys c) []

  asks_at : (p : Place L.words L.Item) (g : Told) (key : Tree) (entry : Bool) → Stands p entry → (M).move_at p g ≡ Ask key →
      (is_quiet p ≡ entry) × Stands ((M).after p g) entry
  asks_at p g key true s is = entry_asks L p g s key is
  asks_at p g key false s is = (s, (expander_quietens L).stays p g s)

  others : (p : Place L.words L.Item) (g : Told) → is_ask L ((M).move_at p g) ≡ false → Stands ((M).after p g) false
  others p g asks = moved_loud L (heard L p g) asks

  -- there is room for any move where something is left
  counted : (left : ℕ) (m : Move L.words.Call L.Item) → 0 < left → is_counted left m ≡ true
  counted left m some = or_last (is_count m) (is_last m) (nat_lt 0 left) (lt-ltb 0 left some)

  -- a move that was let pass had room
  room : (p : Watched (Place L.words L.Item)) (g : Told) (m : Move L.words.Call L.Item) → gives_up m ≡ false → is_count m ≡ false →
      is_last m ≡ false → (G).move_at p g ≡ m → 0 < p.left
  room p g m goes counts last is =
      let both = kept_move (is_kept (M) full moving writable is_quiet p g) ((M).move_at p.place g) m goes is in
      let tested = both_true (is_counted p.left ((M).move_at p.place g))
      (is_allowed moving writable (is_quiet p.place) ((M).move_at p.place g)) both.0 in
      let some : is_counted p.left m ≡ true = ap (λ x. is_counted p.left x) (sym both.1) ∙ tested.0 in
      ltb-true 0 p.left (last_holds (is_count m) (is_last m) (nat_lt 0 p.left) some counts last)

  mine : (p : Watched (Place L.words L.Item)) (g : Told) (m : Move L.words.Call L.Item) → gives_up m ≡ false → (G).move_at p g ≡ m →
      (M).move_at p.place g ≡ m
  mine p g m goes is = own (M) full moving writable is_quiet p g m goes is

  may : (p : Watched (Place L.words L.Item)) (g : Told) (m : Move L.words.Call L.Item) → gives_up m ≡ false → (G).move_at p g ≡ m →
      is_allowed moving writable (is_quiet p.place) m ≡ true
  may p g m goes is = allowed_at (M) full moving writable is_quiet p g m goes is

  -- a move for which there is room and leave is let pass
  kept : (p : Watched (Place L.words L.Item)) (g : Told) (m : Move L.words.Call L.Item) → (M).move_at p.place g ≡ m →
      is_counted p.left m ≡ true → is_allowed moving writable (is_quiet p.place) m ≡ true → (G).move_at p g ≡ m
  kept p g m is some allowed =
      let passes : is_kept (M) full moving writable is_quiet p g ≡ true =
      ap (λ y. is_counted p.left y && is_allowed moving writable (is_quiet p.place) y) is
      ∙ and_true (is_counted p.left m) (is_allowed moving writable (is_quiet p.place) m) some allowed in
      ap (λ b. kept_or_not b ((M).move_at p.place g)) passes ∙ is

  -- what is left behind a move
  left_is : (p : Watched (Place L.words L.Item)) (g : Told) (m : Move L.words.Call L.Item) → (M).move_at p.place g ≡ m →
      left_after (M) full moving writable is_quiet p g ≡ cond (is_count m) full (p.left - 1)
  left_is p g m is = ap (λ y. cond (is_count y) full (p.left - 1)) is

  on : (t : Run L.words.Call L.Item) (p : Watched (Place L.words L.Item)) (g : Told) (m : Move L.words.Call L.Item) (entry : Bool) →
      (M).move_at p.place g ≡ m → Keeps entry (left_after (M) full moving writable is_quiet p g) t →
      Keeps entry (cond (is_count m) full (p.left - 1)) t
  on t p g m entry is keeps = subst (λ n. Keeps entry n t) (left_is p g m is) keeps

  off : (t : Run L.words.Call L.Item) (p : Watched (Place L.words L.Item)) (g : Told) (m : Move L.words.Call L.Item) (entry : Bool) →
      (M).move_at p.place g ≡ m → Keeps entry (cond (is_count m) full (p.left - 1)) t →
      Keeps entry (left_after (M) full moving writable is_quiet p g) t
  off t p g m entry is keeps = subst (λ n. Keeps entry n t) (sym (left_is p g m is)) keeps

  back_keeps : (e : Ending) (t : Run L.words.Call L.Item) (P : Type 0) (left : ℕ) → (P → Keeps false left t) → Back e t P → Keeps false left t
  back_keeps ByLeave t P left go b = go b
  back_keeps ByEnd t P left go b = subst (λ y. Keeps false left y) (sym b) tt
  back_keeps ByBudget t P left go b = subst (λ y. Keeps false left y) (sym b) tt

  -- a run of the machine that watches itself keeps to the watch
  keeps : (t : Run L.words.Call L.Item) (p : Watched (Place L.words L.Item)) (g : Told) (entry : Bool) → Stands p.place entry →
      Follows G p g t → Keeps entry p.left t
  keeps Leaves p g entry s f = tt
  keeps Ends p g entry s f = tt
  keeps Spent p g entry s f = tt
  keeps (Asks key value t) p g entry s f =
      let is = mine p g (Ask key) refl f.0 in
      let at = asks_at p.place g key entry s is in (
        room p g (Ask key) refl refl refl f.0,
        λ moves. sym at.0 ∙ asks_by (is_quiet p.place) (moving key) (may p g (Ask key) refl f.0) moves,
        on t p g (Ask key) entry is (keeps t ((G).after p g) (Answered value) entry at.1 f.1),
      )
  keeps (Puts key value t) p g entry s f =
      let is = mine p g (Put key value) refl f.0 in (
        room p g (Put key value) refl refl refl f.0,
        may p g (Put key value) refl f.0,
        on t p g (Put key value) false is (keeps t ((G).after p g) Nothing false (others p.place g (ap (is_ask L) is)) f.1),
      )
  keeps (Counts t) p g entry s f =
      let is = mine p g Count refl f.0 in
      on t p g Count false is (keeps t ((G).after p g) Nothing false (others p.place g (ap (is_ask L) is)) f.1)
  keeps (Bumps t) p g entry s f =
      let is = mine p g Bump refl f.0 in (
        room p g Bump refl refl refl f.0,
        on t p g Bump false is (keeps t ((G).after p g) Nothing false (others p.place g (ap (is_ask L) is)) f.1),
      )
  keeps (Emits item t) p g entry s f =
      let is = mine p g (Emit item) refl f.0 in (
        room p g (Emit item) refl refl refl f.0,
        on t p g (Emit item) false is (keeps t ((G).after p g) Nothing false (others p.place g (ap (is_ask L) is)) f.1),
      )
  keeps (Moves n t) p g entry s f =
      let is = mine p g (At n) refl f.0 in (
        room p g (At n) refl refl refl f.0,
        on t p g (At n) false is (keeps t ((G).after p g) Nothing false (others p.place g (ap (is_ask L) is)) f.1),
      )
  keeps (Deepens t) p g entry s f =
      let is = mine p g Deepen refl f.0 in (
        room p g Deepen refl refl refl f.0,
        on t p g Deepen false is (keeps t ((G).after p g) Nothing false (others p.place g (ap (is_ask L) is)) f.1),
      )
  keeps (Rises t) p g entry s f =
      let is = mine p g Rise refl f.0 in (
        room p g Rise refl refl refl f.0,
        on t p g Rise false is (keeps t ((G).after p g) Nothing false (others p.place g (ap (is_ask L) is)) f.1),
      )
  keeps (Refused t) p g entry s f =
      let is = mine p g Deepen refl f.0 in (
        room p g Deepen refl refl refl f.0,
        on t p g Deepen false is (keeps t ((G).after p g) TooDeep false (others p.place g (ap (is_ask L) is)) f.1),
      )
  keeps (Barred c t) p g entry s f =
      let is = mine p g (Enter c) refl f.0 in (
        room p g (Enter c) refl refl refl f.0,
        on t p g (Enter c) false is (keeps t ((G).after p g) TooDeep false (others p.place g (ap (is_ask L) is)) f.1),
      )
  keeps (Calls c child t) p g entry s f =
      let is = mine p g (Enter c) refl f.0 in (
        room p g (Enter c) refl refl refl f.0,
        keeps child ((G).start c) Nothing true (starts c) f.1,
        on t p g (Enter c) false is (back_keeps (ending child) t (Follows G ((G).after p g) Returned t) ((G).after p g).left
            (λ x. keeps t ((G).after p g) Returned false (others p.place g (ap (is_ask L) is)) x) f.2),
      )

  -- and one that keeps to it is one of that machine
  passes : (t : Run L.words.Call L.Item) (p : Watched (Place L.words L.Item)) (g : Told) (entry : Bool) → Stands p.place entry →
      Follows M p.place g t → Keeps entry p.left t → Follows G p g t
  passes Leaves p g entry s f k = kept p g Leave f refl refl
  passes Ends p g entry s f k = kept p g End f refl refl
  passes Spent p g entry s f k = kept p g Count f refl refl
  passes (Asks key value t) p g entry s f k =
      let at = asks_at p.place g key entry s f.0 in (
        kept p g (Ask key) f.0 (counted p.left (Ask key) k.0) (may_ask (is_quiet p.place) entry (moving key) at.0 k.1),
        passes t ((G).after p g) (Answered value) entry at.1 f.1 (off t p g (Ask key) entry f.0 k.2),
      )
  passes (Puts key value t) p g entry s f k = (
    kept p g (Put key value) f.0 (counted p.left (Put key value) k.0) k.1,
    passes t ((G).after p g) Nothing false (others p.place g (ap (is_ask L) f.0)) f.1 (off t p g (Put key value) false f.0 k.2),
  )
  passes (Counts t) p g entry s f k = (
    kept p g Count f.0 refl refl,
    passes t ((G).after p g) Nothing false (others p.place g (ap (is_ask L) f.0)) f.1 (off t p g Count false f.0 k),
  )
  passes (Bumps t) p g entry s f k = (
    kept p g Bump f.0 (counted p.left Bump k.0) refl,
    passes t ((G).after p g) Nothing false (others p.place g (ap (is_ask L) f.0)) f.1 (off t p g Bump false f.0 k.1),
  )
  passes (Emits item t) p g entry s f k = (
    kept p g (Emit item) f.0 (counted p.left (Emit item) k.0) refl,
    passes t ((G).after p g) Nothing false (others p.place g (ap (is_ask L) f.0)) f.1 (off t p g (Emit item) false f.0 k.1),
  )
  passes (Moves n t) p g entry s f k = (
    kept p g (At n) f.0 (counted p.left (At n) k.0) refl,
    passes t ((G).after p g) Nothing false (others p.place g (ap (is_ask L) f.0)) f.1 (off t p g (At n) false f.0 k.1),
  )
  passes (Deepens t) p g entry s f k = (
    kept p g Deepen f.0 (counted p.left Deepen k.0) refl,
    passes t ((G).after p g) Nothing false (others p.place g (ap (is_ask L) f.0)) f.1 (off t p g Deepen false f.0 k.1),
  )
  passes (Rises t) p g entry s f k = (
    kept p g Rise f.0 (counted p.left Rise k.0) refl,
    passes t ((G).after p g) Nothing false (others p.place g (ap (is_ask L) f.0)) f.1 (off t p g Rise false f.0 k.1),
  )
  passes (Refused t) p g entry s f k = (
    kept p g Deepen f.0 (counted p.left Deepen k.0) refl,
    passes t ((G).after p g) TooDeep false (others p.place g (ap (is_ask L) f.0)) f.1 (off t p g Deepen false f.0 k.1),
  )
  passes (Barred c t) p g entry s f k = (
    kept p g (Enter c) f.0 (counted p.left (Enter c) k.0) refl,
    passes t ((G).after p g) TooDeep false (others p.place g (ap (is_ask L) f.0)) f.1 (off t p g (Enter c) false f.0 k.1),
  )
  passes (Calls c child t) p g entry s f k = (
    kept p g (Enter c) f.0 (counted p.left (Enter c) k.0) refl,
    passes child ((G).start c) Nothing true (starts c) f.1 k.1,
    back_as (ending child) t (Follows M ((M).after p.place g) Returned t) (Follows G ((G).after p g) Returned t)
        (λ x. passes t ((G).after p g) Returned false (others p.place g (ap (is_ask L) f.0)) x (off t p g (Enter c) false f.0 k.2)) f.2,
  )

pub watched_runs_keep_to_it : (L : Language) (full : ℕ) (moving writable : Tree → Bool) → WatchedRunsKeepToIt L full moving writable
watched_runs_keep_to_it L full moving writable = λ call run.
    let start = (careful_expander L full moving writable).start call in (
      λ f. (
        follows_own (expander L) full moving writable is_quiet run start Nothing f,
        keeps L full moving writable run start Nothing true (starts L full moving writable call) f,
      ),
      λ both. passes L full moving writable run start Nothing true (starts L full moving writable call) both.0 both.1,
    )
