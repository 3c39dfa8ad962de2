-- Where the machine that expands may tell a point, and where its call is still at its entry. This project.
use Rattle.std.specs.Prelude.{◌≡◌, Bool, true, false, List, [], ◌∷◌, ◌++◌, Option, Some, None}
use Rattle.std.proofs.Common.{refl, sym, ap, ◌∙◌, subst}
use Rattle.std.proofs.lemmas.Bool.{true≢false}
use Rattle.kept_values.specs.Trees.{Tree, Pair}
use Rattle.asking_core.specs.Machines.{Told, Nothing, Answered, Returned, TooDeep, Move, Ask, Put, Count, Bump, Emit, Deepen, Rise, Enter, At, Leave, End, GiveUp, EmitsOnceACount, is_count}
use Rattle.plain_expansion.specs.Questions.{Led, Comes, Wants}
use Rattle.plain_expansion.specs.Language.{Vocabulary, Level, Stack, Entry, Nowhere, Calling, Copying, Effect, Language}
use Rattle.plain_expansion.specs.Expansion.{Going, GoesOn, GoesBack, GoesOut, GoesIn, carried, statement_at}
use Rattle.plain_expansion.specs.Engine.{Tail, Putting, Adding, Entering, GoingOn, Leaving, Finishing, Step, Performing, Telling, Rising, Trying, Ready, Opening, Doing, Placing, Deciding, Place, Standing, Hearing, Tried, Inside, Waiting, roomy_step, step_of, step_by, led_at, led_move, led_next, opened, entry_heard, tried, heard, here_move, here_next, first_ready, tail_move, tail_next, step_move, step_next, move_of, next_place, expander}
use Rattle.plain_expansion.specs.GuardLaws.{Quietens}

-- the point of a statement is still to be told
abbrev pub is_step_marked : {V : Vocabulary} {I : Type 0} → Step V I → Bool
is_step_marked (Performing rest) = false
is_step_marked (Telling item rest) = true
is_step_marked (Rising item rest) = true
is_step_marked (Trying limited item entry x) = true

abbrev pub is_ready_marked : {V : Vocabulary} {I : Type 0} → Ready V I → Bool
is_ready_marked (Opening call key keys pairs) = false
is_ready_marked (Doing step) = is_step_marked step
is_ready_marked (Placing x statement) = true
is_ready_marked (Deciding x statement pairs) = true

abbrev pub is_marked : {V : Vocabulary} {I : Type 0} → Place V I → Bool
is_marked (Standing ready) = is_ready_marked ready
is_marked (Hearing call key keys pairs) = false
is_marked (Tried limited item entry x) = true
is_marked (Inside x) = false
is_marked (Waiting x statement pairs key) = true

-- the keys of the entry are being asked
abbrev pub is_ready_quiet : {V : Vocabulary} {I : Type 0} → Ready V I → Bool
is_ready_quiet (Opening call key keys pairs) = true
is_ready_quiet (Doing step) = false
is_ready_quiet (Placing x statement) = false
is_ready_quiet (Deciding x statement pairs) = false

abbrev pub is_quiet : {V : Vocabulary} {I : Type 0} → Place V I → Bool
is_quiet (Standing ready) = is_ready_quiet ready
is_quiet (Hearing call key keys pairs) = true
is_quiet (Tried limited item entry x) = false
is_quiet (Inside x) = false
is_quiet (Waiting x statement pairs key) = false

module _ (L : Language) where
  opened_unmarked : (c : L.words.Call) (keys : List Tree) (ps : List Pair) → is_ready_marked (opened L c keys ps) ≡ false
  opened_unmarked c [] ps = refl
  opened_unmarked c (k ∷ keys) ps = refl

  entry_unmarked : (g : Told) (c : L.words.Call) (k : Tree) (keys : List Tree) (ps : List Pair) →
      is_ready_marked (entry_heard L g c k keys ps) ≡ false
  entry_unmarked (Answered value) c k keys ps = opened_unmarked c keys (ps ++ record { key = k; value = value } ∷ [])
  entry_unmarked Nothing c k keys ps = refl
  entry_unmarked Returned c k keys ps = refl
  entry_unmarked TooDeep c k keys ps = refl

  roomy_marked : (i : L.Item) (entry : Entry L.words) (x : Stack L.words) → is_step_marked (roomy_step i entry x) ≡ true
  roomy_marked i Nowhere x = refl
  roomy_marked i (Calling call puts) x = refl
  roomy_marked i (Copying listing) x = refl

  tried_marked : (g : Told) (j i : L.Item) (entry : Entry L.words) (x : Stack L.words) → is_step_marked (tried L g j i entry x) ≡ true
  tried_marked TooDeep j i entry x = refl
  tried_marked Nothing j i entry x = roomy_marked i entry x
  tried_marked (Answered value) j i entry x = roomy_marked i entry x
  tried_marked Returned j i entry x = roomy_marked i entry x

  -- what is told moves no mark
  heard_marked : (p : Place L.words L.Item) (g : Told) → is_ready_marked (heard L p g) ≡ is_marked p
  heard_marked (Standing ready) g = refl
  heard_marked (Hearing c k keys ps) g = entry_unmarked g c k keys ps
  heard_marked (Tried j i entry x) g = tried_marked g j i entry x
  heard_marked (Inside x) g = refl
  heard_marked (Waiting x statement ps k) g = refl

  -- an item takes the mark
  abbrev EmitsAt : Bool → Place L.words L.Item → Move L.words.Call L.Item → Type 0
  EmitsAt marked next (Emit item) = (marked ≡ true) × (is_marked next ≡ false)
  EmitsAt marked next (Ask key) = Unit {0}
  EmitsAt marked next (Put key value) = Unit {0}
  EmitsAt marked next Count = Unit {0}
  EmitsAt marked next Bump = Unit {0}
  EmitsAt marked next Deepen = Unit {0}
  EmitsAt marked next Rise = Unit {0}
  EmitsAt marked next (Enter call) = Unit {0}
  EmitsAt marked next (At n) = Unit {0}
  EmitsAt marked next Leave = Unit {0}
  EmitsAt marked next End = Unit {0}
  EmitsAt marked next GiveUp = Unit {0}

  here_emits : (o : Option L.words.Statement) (ls : List (Level L.words)) (b : Bool) (next : Place L.words L.Item) →
      EmitsAt b next (here_move L o ls)
  here_emits (Some statement) ls b next = tt
  here_emits None [] b next = tt
  here_emits None (m ∷ ls) b next = tt

  tail_emits : (rest : Tail L.words) (b : Bool) (next : Place L.words L.Item) → EmitsAt b next (tail_move L rest)
  tail_emits (Putting key value rest) b next = tt
  tail_emits (Adding rest) b next = tt
  tail_emits (Entering call x) b next = tt
  tail_emits (GoingOn x) b next = here_emits (statement_at L x.here) x.below b next
  tail_emits (Leaving x) b next = tt
  tail_emits (Finishing x) b next = tt

  step_emits : (step : Step L.words L.Item) → EmitsAt (is_step_marked step) (step_next L step) (step_move L step)
  step_emits (Performing rest) = tail_emits rest false (tail_next L rest)
  step_emits (Telling item rest) = (refl, refl)
  step_emits (Rising item rest) = tt
  step_emits (Trying j i entry x) = tt

  -- what a statement comes to is told
  going_marked : (going : Going L.words) (x : Stack L.words) → is_step_marked (step_of L going x) ≡ true
  going_marked (GoesOn point puts next) x = refl
  going_marked (GoesBack point) x = refl
  going_marked (GoesOut point) x = refl
  going_marked (GoesIn point limited entry) x = refl

  led_emits : (led : Led Tree (Effect L.words)) (x : Stack L.words) (statement : L.words.Statement) (ps : List Pair) →
      EmitsAt true (led_next L led x statement ps) (led_move L led x)
  led_emits (Wants key) x statement ps = tt
  led_emits (Comes effect) x statement ps =
      let step : Step L.words L.Item = step_by L effect x in
      subst (λ b. EmitsAt b (step_next L step) (step_move L step)) (going_marked (carried L effect.said effect.act x) x) (step_emits step)

  ready_emits : (r : Ready L.words L.Item) → EmitsAt (is_ready_marked r) (next_place L r) (move_of L r)
  ready_emits (Opening c k keys ps) = tt
  ready_emits (Doing step) = step_emits step
  ready_emits (Placing x statement) = tt
  ready_emits (Deciding x statement ps) = led_emits (led_at L x statement ps) x statement ps

  -- no other move but a count sets it
  here_others : (o : Option L.words.Statement) (ls : List (Level L.words)) (x : Stack L.words) → is_count (here_move L o ls) ≡ false →
      is_ready_marked (here_next L o ls x) ≡ false
  here_others (Some statement) ls x counts = absurd (true≢false counts)
  here_others None [] x counts = refl
  here_others None (m ∷ ls) x counts = refl

  tail_others : (rest : Tail L.words) → is_count (tail_move L rest) ≡ false → is_marked (tail_next L rest) ≡ false
  tail_others (Putting key value rest) counts = refl
  tail_others (Adding rest) counts = refl
  tail_others (Entering call x) counts = refl
  tail_others (GoingOn x) counts = here_others (statement_at L x.here) x.below x counts
  tail_others (Leaving x) counts = refl
  tail_others (Finishing x) counts = refl

  step_others : (step : Step L.words L.Item) → is_count (step_move L step) ≡ false → is_step_marked step ≡ false →
      is_marked (step_next L step) ≡ false
  step_others (Performing rest) counts unmarked = tail_others rest counts
  step_others (Telling item rest) counts unmarked = refl
  step_others (Rising item rest) counts unmarked = absurd (true≢false unmarked)
  step_others (Trying j i entry x) counts unmarked = absurd (true≢false unmarked)

  ready_others : (r : Ready L.words L.Item) → is_count (move_of L r) ≡ false → is_ready_marked r ≡ false →
      is_marked (next_place L r) ≡ false
  ready_others (Opening c k keys ps) counts unmarked = refl
  ready_others (Doing step) counts unmarked = step_others step counts unmarked
  ready_others (Placing x statement) counts unmarked = absurd (true≢false unmarked)
  ready_others (Deciding x statement ps) counts unmarked = absurd (true≢false unmarked)

  pub expander_emits_once : EmitsOnceACount (expander L) is_marked
  expander_emits_once = record {
    starts = λ c. opened_unmarked c (L.entry_keys c) [];
    emits = λ p g item is.
        let told = subst (EmitsAt (is_ready_marked (heard L p g)) (next_place L (heard L p g))) is (ready_emits (heard L p g)) in
        (sym (heard_marked p g) ∙ told.0, told.1);
    others = λ p g counts unmarked. ready_others (heard L p g) counts (heard_marked p g ∙ unmarked);
  }

  -- behind the entry a call is not quiet any more
  first_loud : (b : Bool) (x : Stack L.words) (statement : L.words.Statement) → is_ready_quiet (first_ready L b x statement) ≡ false
  first_loud true x statement = refl
  first_loud false x statement = refl

  here_loud : (o : Option L.words.Statement) (ls : List (Level L.words)) (x : Stack L.words) → is_ready_quiet (here_next L o ls x) ≡ false
  here_loud (Some statement) ls x = first_loud x.is_open_code x statement
  here_loud None [] x = refl
  here_loud None (m ∷ ls) x = refl

  tail_loud : (rest : Tail L.words) → is_quiet (tail_next L rest) ≡ false
  tail_loud (Putting key value rest) = refl
  tail_loud (Adding rest) = refl
  tail_loud (Entering call x) = refl
  tail_loud (GoingOn x) = here_loud (statement_at L x.here) x.below x
  tail_loud (Leaving x) = refl
  tail_loud (Finishing x) = refl

  step_loud : (step : Step L.words L.Item) → is_quiet (step_next L step) ≡ false
  step_loud (Performing rest) = tail_loud rest
  step_loud (Telling item rest) = refl
  step_loud (Rising item rest) = refl
  step_loud (Trying j i entry x) = refl

  led_loud : (led : Led Tree (Effect L.words)) (x : Stack L.words) (statement : L.words.Statement) (ps : List Pair) →
      is_quiet (led_next L led x statement ps) ≡ false
  led_loud (Wants key) x statement ps = refl
  led_loud (Comes effect) x statement ps = step_loud (step_by L effect x)

  ready_loud : (r : Ready L.words L.Item) → is_ready_quiet r ≡ false → is_quiet (next_place L r) ≡ false
  ready_loud (Opening c k keys ps) q = absurd (true≢false q)
  ready_loud (Doing step) q = step_loud step
  ready_loud (Placing x statement) q = refl
  ready_loud (Deciding x statement ps) q = led_loud (led_at L x statement ps) x statement ps

  heard_loud : (p : Place L.words L.Item) (g : Told) → is_quiet p ≡ false → is_ready_quiet (heard L p g) ≡ false
  heard_loud (Standing ready) g q = q
  heard_loud (Hearing c k keys ps) g q = absurd (true≢false q)
  heard_loud (Tried j i entry x) g q = refl
  heard_loud (Inside x) g q = refl
  heard_loud (Waiting x statement ps k) g q = refl

  -- a call that asks at its entry does not count or enter
  abbrev pub is_ask : Move L.words.Call L.Item → Bool
  is_ask (Ask key) = true
  is_ask (Put key value) = false
  is_ask Count = false
  is_ask Bump = false
  is_ask (Emit item) = false
  is_ask Deepen = false
  is_ask Rise = false
  is_ask (Enter call) = false
  is_ask (At n) = false
  is_ask Leave = false
  is_ask End = false
  is_ask GiveUp = false

  pub moved_loud : (r : Ready L.words L.Item) → is_ask (move_of L r) ≡ false → is_quiet (next_place L r) ≡ false
  moved_loud (Opening c k keys ps) asks = absurd (true≢false asks)
  moved_loud (Doing step) asks = step_loud step
  moved_loud (Placing x statement) asks = refl
  moved_loud (Deciding x statement ps) asks = led_loud (led_at L x statement ps) x statement ps

  pub expander_quietens : Quietens (expander L) is_quiet
  expander_quietens = record {
    bumped = λ p g is. moved_loud (heard L p g) (ap is_ask is);
    entered = λ p g c is. moved_loud (heard L p g) (ap is_ask is);
    stays = λ p g q. ready_loud (heard L p g) (heard_loud p g q);
  }
