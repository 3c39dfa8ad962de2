-- The lists at a place, and whether a call stands at its entry.
use Rattle.std.proofs.Common.{◌≡◌, ℕ, zero, suc, Bool, true, false, List, [], ◌∷◌, map, drop, length, Option, Some, None, refl, sym, ap, ◌∙◌, arith}
use Rattle.std.specs.Prelude.{nat_lt, reverse}
use Rattle.std.proofs.lemmas.Bool.Decides.{nat_tests}
use Rattle.kept_values.specs.Trees.{Tree, Pair}
use Rattle.plain_expansion.specs.Language.{Language, Stack as StackOf}
use Rattle.plain_expansion.specs.Expansion.{statement_at}
use Rattle.plain_expansion.specs.Engine.{Tail, puts_then, opened, stack_levels, tail_levels, ready_levels, call_levels, levels_of}
use Rattle.plain_expansion.specs.Marks.{is_quiet, is_ready_quiet}
use Rattle.expansion_step.specs.declared.phase.Onward.{Onward}
use Rattle.expansion_step.specs.declared.phase.Onward.TheVariants as onward
use Rattle.expansion_step.specs.declared.phase.Pending.{Pending}
use Rattle.expansion_step.specs.declared.phase.Entrance.{Entrance}
use Rattle.expansion_step.specs.declared.phase.Phase.{Phase}
use Rattle.expansion_step.specs.declared.phase.Phase.TheVariants as phase
use Rattle.expansion_step.specs.Meaning.{Means, call_by, pairs_by}
use Rattle.expansion_step.specs.Places.{onward_by, counted_first, pending_by, hearing, entering, entrance_by, keys_left, placing, deciding, waiting, phase_by}

-- whether something is left of a list
is_more : {X : Type 0} → List X → Bool
is_more [] = false
is_more (x ∷ xs) = true

lt-none : (n : ℕ) → nat_lt n 0 ≡ false
lt-none n = grind (arith, nat_tests)

lt-zero : (k : ℕ) → nat_lt 0 (suc k) ≡ true
lt-zero k = grind (arith, nat_tests)

lt-both : (n k : ℕ) → nat_lt (suc n) (suc k) ≡ nat_lt n k
lt-both n k = grind (arith, nat_tests)

more-drop : {X : Type 0} (xs : List X) (n : ℕ) → nat_lt n (length xs) ≡ is_more (drop n xs)
unfolding is_more
more-drop [] zero = lt-none 0
more-drop [] (suc n) = lt-none (suc n)
more-drop (x ∷ xs) zero = lt-zero (length xs)
more-drop (x ∷ xs) (suc n) = lt-both n (length xs) ∙ more-drop xs n

length-keys : {K : Type 0} (f : K → Tree) (ks : List K) → length (map f ks) ≡ length ks
length-keys f [] = refl
length-keys f (k ∷ ks) = ap suc (length-keys f ks)

module _ {L : Language} {T B N D S I C K V : Type 0} (m : Means L T B N D S I C K V) where
  opened-quiet : (c : L.words.Call) (ks : List Tree) (ps : List Pair) → is_ready_quiet (opened L c ks ps) ≡ is_more ks
  unfolding is_more
  opened-quiet c [] ps = refl
  opened-quiet c (k ∷ ks) ps = refl

  hearing-quiet : (c : C) (ks : List Tree) (ps : List Pair) → is_quiet (hearing m c ks ps) ≡ is_more ks
  unfolding is_more
  hearing-quiet c [] ps = refl
  hearing-quiet c (k ∷ ks) ps = refl

  left-more : {X : Type 0} (ks : List K) (answers : List X) → nat_lt (length answers) (length ks) ≡ is_more (keys_left m ks answers)
  left-more ks answers =
      ap (nat_lt (length answers)) (sym (length-keys m.key ks)) ∙ more-drop (map m.key ks) (length answers)

  entering-quiet : (waits : Bool) (e : Entrance C K V) → is_quiet (entering m waits e) ≡ is_more (keys_left m e.keys.items e.answers.items)
  entering-quiet true e = hearing-quiet e.call (keys_left m e.keys.items e.answers.items) (pairs_by m e.answers.items)
  entering-quiet false e = opened-quiet (call_by m e.call) (keys_left m e.keys.items e.answers.items) (pairs_by m e.answers.items)

  -- a call is quiet at its entry while a key is left
  pub entrance-quiet : (e : Entrance C K V) → nat_lt (length e.answers.items) (length e.keys.items) ≡ is_quiet (entrance_by m e)
  entrance-quiet e = left-more e.keys.items e.answers.items ∙ sym (entering-quiet e.waits e)

  placing-loud : (o : Option L.words.Statement) (x : StackOf L.words) → is_ready_quiet (placing m o x) ≡ false
  placing-loud None x = refl
  placing-loud (Some s) x = refl

  deciding-loud : (o : Option L.words.Statement) (x : StackOf L.words) (ps : List Pair) → is_ready_quiet (deciding m o x ps) ≡ false
  deciding-loud None x ps = refl
  deciding-loud (Some s) x ps = refl

  waiting-loud : (o : Option L.words.Statement) (x : StackOf L.words) (ps : List Pair) (k : Tree) → is_quiet (waiting m o x ps k) ≡ false
  waiting-loud None x ps k = refl
  waiting-loud (Some s) x ps k = refl

  -- and nowhere else
  pub loud : (x : StackOf L.words) (p : Phase T C K V I) → is_quiet (phase_by m x p) ≡ false
  loud x phase.Ready = refl
  loud x phase.Placed = placing-loud (statement_at L x.here) x
  loud x (phase.Decides answers) = deciding-loud (statement_at L x.here) x (pairs_by m answers.items)
  loud x (phase.Waits answers key) = waiting-loud (statement_at L x.here) x (pairs_by m answers.items) (m.key key)
  loud x (phase.Tells item pending) = refl
  loud x (phase.Does pending) = refl
  loud x (phase.Tried limited item entry) = refl
  loud x phase.Inside = refl

  -- the lists of what is pending are those of its stack
  onward-levels : (o : Onward C) (x : StackOf L.words) → tail_levels L (onward_by m o x) ≡ stack_levels L x
  onward-levels onward.On x = refl
  onward-levels (onward.Enter c) x = refl
  onward-levels onward.Leave x = refl
  onward-levels onward.Finish x = refl

  puts-levels : (ps : List Pair) (rest : Tail L.words) → tail_levels L (puts_then ps rest) ≡ tail_levels L rest
  puts-levels [] rest = refl
  puts-levels (p ∷ ps) rest = puts-levels ps rest

  counted-levels : (b : Bool) (rest : Tail L.words) → tail_levels L (counted_first m b rest) ≡ tail_levels L rest
  counted-levels true rest = refl
  counted-levels false rest = refl

  pending-levels : (t : Pending C K V) (x : StackOf L.words) → tail_levels L (pending_by m t x) ≡ stack_levels L x
  pending-levels t x =
      counted-levels t.counts (puts_then (reverse (pairs_by m t.puts.items)) (onward_by m t.onward x))
      ∙ puts-levels (reverse (pairs_by m t.puts.items)) (onward_by m t.onward x)
      ∙ onward-levels t.onward x

  placing-levels : (o : Option L.words.Statement) (x : StackOf L.words) → ready_levels L (placing m o x) ≡ stack_levels L x
  placing-levels None x = refl
  placing-levels (Some s) x = refl

  deciding-levels : (o : Option L.words.Statement) (x : StackOf L.words) (ps : List Pair) →
      ready_levels L (deciding m o x ps) ≡ stack_levels L x
  deciding-levels None x ps = refl
  deciding-levels (Some s) x ps = refl

  waiting-levels : (o : Option L.words.Statement) (x : StackOf L.words) (ps : List Pair) (k : Tree) →
      levels_of L (waiting m o x ps k) ≡ stack_levels L x
  waiting-levels None x ps k = refl
  waiting-levels (Some s) x ps k = refl

  -- the lists at a place within a call: those of its stack
  pub levels-phase : (x : StackOf L.words) (p : Phase T C K V I) → levels_of L (phase_by m x p) ≡ x.here ∷ x.below
  levels-phase x phase.Ready = refl
  levels-phase x phase.Placed = placing-levels (statement_at L x.here) x
  levels-phase x (phase.Decides answers) = deciding-levels (statement_at L x.here) x (pairs_by m answers.items)
  levels-phase x (phase.Waits answers key) = waiting-levels (statement_at L x.here) x (pairs_by m answers.items) (m.key key)
  levels-phase x (phase.Tells item pending) = pending-levels pending x
  levels-phase x (phase.Does pending) = pending-levels pending x
  levels-phase x (phase.Tried limited item entry) = refl
  levels-phase x phase.Inside = refl

  opened-levels : (c : L.words.Call) (ks : List Tree) (ps : List Pair) → ready_levels L (opened L c ks ps) ≡ call_levels L c
  opened-levels c [] ps = refl
  opened-levels c (k ∷ ks) ps = refl

  hearing-levels : (c : C) (ks : List Tree) (ps : List Pair) → levels_of L (hearing m c ks ps) ≡ call_levels L (call_by m c)
  hearing-levels c [] ps = refl
  hearing-levels c (k ∷ ks) ps = refl

  entering-levels : (waits : Bool) (e : Entrance C K V) → levels_of L (entering m waits e) ≡ call_levels L (call_by m e.call)
  entering-levels true e = hearing-levels e.call (keys_left m e.keys.items e.answers.items) (pairs_by m e.answers.items)
  entering-levels false e = opened-levels (call_by m e.call) (keys_left m e.keys.items e.answers.items) (pairs_by m e.answers.items)

  -- and at its entry: the call's own
  pub levels-entry : (e : Entrance C K V) → levels_of L (entrance_by m e) ≡ call_levels L (call_by m e.call)
  levels-entry e = entering-levels e.waits e
