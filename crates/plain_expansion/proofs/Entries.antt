-- Where the machine that expands asks the keys of an entry.
use Rattle.std.proofs.Common.{◌≡◌, Bool, true, false, List, [], ◌∷◌, ◌++◌, Option, Some, None, refl, sym, ap, ◌∙◌}
use Rattle.std.proofs.lemmas.Bool.{true≢false}
use Rattle.kept_values.specs.Trees.{Tree, Pair}
use Rattle.asking_core.specs.Machines.{Told, Nothing, Answered, Returned, TooDeep, Ask}
use Rattle.plain_expansion.specs.Language.{Vocabulary, Level, Language}
use Rattle.plain_expansion.specs.Expansion.{first_stack, statement_at}
use Rattle.plain_expansion.specs.Engine.{Tail, Putting, Adding, Entering, GoingOn, Leaving, Finishing, Step, Performing, Telling, Rising, Trying, Ready, Opening, Doing, Placing, Deciding, Place, Standing, Hearing, Tried, Inside, Waiting, opened, entry_heard, heard, here_move, move_of, next_place}
use Rattle.plain_expansion.specs.Marks.{is_quiet, is_ask}

-- a call that has done nothing but ask
abbrev pub is_going : {V : Vocabulary} → Tail V → Bool
is_going (GoingOn x) = true
is_going (Putting key value rest) = false
is_going (Adding rest) = false
is_going (Entering call x) = false
is_going (Leaving x) = false
is_going (Finishing x) = false

abbrev pub is_entry_step : {V : Vocabulary} {I : Type 0} → Step V I → Bool
is_entry_step (Performing rest) = is_going rest
is_entry_step (Telling item rest) = false
is_entry_step (Rising item rest) = false
is_entry_step (Trying limited item entry x) = false

abbrev pub is_entry_ready : {V : Vocabulary} {I : Type 0} → Ready V I → Bool
is_entry_ready (Opening call key keys pairs) = true
is_entry_ready (Doing step) = is_entry_step step
is_entry_ready (Placing x statement) = false
is_entry_ready (Deciding x statement pairs) = false

abbrev pub is_entry : {V : Vocabulary} {I : Type 0} → Place V I → Bool
is_entry (Standing ready) = is_entry_ready ready
is_entry (Hearing call key keys pairs) = true
is_entry (Tried limited item entry x) = false
is_entry (Inside x) = false
is_entry (Waiting x statement pairs key) = false

module _ (L : Language) where
  pub starts_at_entry : (c : L.words.Call) (keys : List Tree) (ps : List Pair) → is_entry_ready (opened L c keys ps) ≡ true
  starts_at_entry c [] ps = refl
  starts_at_entry c (k ∷ keys) ps = refl

  here_asks_nothing : (o : Option L.words.Statement) (ls : List (Level L.words)) → is_ask L (here_move L o ls) ≡ false
  here_asks_nothing (Some statement) ls = refl
  here_asks_nothing None [] = refl
  here_asks_nothing None (m ∷ ls) = refl

  abbrev AsksAtEntry : Bool → Ready L.words L.Item → Type 0
  AsksAtEntry quiet r = (key : Tree) → move_of L r ≡ Ask key → (quiet ≡ true) × (is_entry (next_place L r) ≡ true)

  tail_asks : (rest : Tail L.words) → is_going rest ≡ true → AsksAtEntry false (Doing (Performing rest))
  tail_asks (GoingOn x) e = λ key is.
      absurd (true≢false (sym (ap (is_ask L) is) ∙ here_asks_nothing (statement_at L x.here) x.below))
  tail_asks (Putting key value rest) e = absurd (true≢false (sym e))
  tail_asks (Adding rest) e = absurd (true≢false (sym e))
  tail_asks (Entering call x) e = absurd (true≢false (sym e))
  tail_asks (Leaving x) e = absurd (true≢false (sym e))
  tail_asks (Finishing x) e = absurd (true≢false (sym e))

  step_asks : (step : Step L.words L.Item) → is_entry_step step ≡ true → AsksAtEntry false (Doing step)
  step_asks (Performing rest) e = tail_asks rest e
  step_asks (Telling item rest) e = absurd (true≢false (sym e))
  step_asks (Rising item rest) e = absurd (true≢false (sym e))
  step_asks (Trying j i entry x) e = absurd (true≢false (sym e))

  ready_asks : (r : Ready L.words L.Item) → is_entry_ready r ≡ true → AsksAtEntry (is_quiet (Standing r)) r
  ready_asks (Opening c k keys ps) e = λ key is. (refl, refl)
  ready_asks (Doing step) e = step_asks step e
  ready_asks (Placing x statement) e = absurd (true≢false (sym e))
  ready_asks (Deciding x statement ps) e = absurd (true≢false (sym e))

  opened_asks : (c : L.words.Call) (keys : List Tree) (ps : List Pair) → AsksAtEntry true (opened L c keys ps)
  opened_asks c [] ps = λ key is. absurd (true≢false (sym (tail_asks (GoingOn (first_stack L c ps)) refl key is).0))
  opened_asks c (k ∷ keys) ps = λ key is. (refl, refl)

  heard_asks : (g : Told) (c : L.words.Call) (k : Tree) (keys : List Tree) (ps : List Pair) → AsksAtEntry true (entry_heard L g c k keys ps)
  heard_asks (Answered value) c k keys ps = opened_asks c keys (ps ++ record { key = k; value = value } ∷ [])
  heard_asks Nothing c k keys ps = λ key is. (refl, refl)
  heard_asks Returned c k keys ps = λ key is. (refl, refl)
  heard_asks TooDeep c k keys ps = λ key is. (refl, refl)

  -- a call at its entry that asks is quiet, and stays at its entry
  pub entry_asks : (p : Place L.words L.Item) (g : Told) → is_entry p ≡ true → AsksAtEntry (is_quiet p) (heard L p g)
  entry_asks (Standing ready) g e = ready_asks ready e
  entry_asks (Hearing c k keys ps) g e = heard_asks g c k keys ps
  entry_asks (Tried j i entry x) g e = absurd (true≢false (sym e))
  entry_asks (Inside x) g e = absurd (true≢false (sym e))
  entry_asks (Waiting x statement ps k) g e = absurd (true≢false (sym e))
