-- What a footprint says, and runs for which fuel was not wanting.
use Rattle.std.proofs.Common.{◌≡◌, Bool, true, false, cond, List, [], ◌∷◌, ◌++◌, Option, Some, None, is_some, refl, sym, ap, ◌∙◌, subst, map}
use Rattle.kept_values.specs.Trees.{Tree, Pair, same_tree, look_up}
use Rattle.kept_values.proofs.TreeLaws.{same_tree-one, same_tree-same}
use Rattle.trace_arena.specs.Points.{Point, within}
use Rattle.asking_core.specs.Worlds.{WorldModel, Holds}
use Rattle.asking_core.specs.Machines.{MachineModel, Told, Nothing, Answered, Returned, TooDeep}
use Rattle.asking_core.specs.Runs.{Run, Leaves, Ends, Spent, Asks, Puts, Counts, Bumps, Emits, Moves, Deepens, Rises, Refused, Calls, Barred, Ending, ByLeave, ByEnd, ByBudget, ending, Back, Follows, Paid, emitted, unpaid, unpaid_back}
use Rattle.asking_core.specs.Footprints.{noted, merged, unless_there}
use Rattle.asking_core.proofs.WorldSteps.{Holds-append}
use Rattle.asking_core.proofs.MergeLaws.{look_up-merged}
use Rattle.kept_outcomes.specs.Traces.{traced}
use Rattle.kept_outcomes.specs.Outcomes.{AllSaid}

later : (b : Bool) (v : Tree) (o : Option Tree) → is_some o ≡ true → is_some (cond b (Some v) o) ≡ true
later true v o is = refl
later false v o is = is

module _ (W : WorldModel) (s : W.State) where
  held_step : (p : Pair) (k v : Tree) (rest : Option Tree) (b : Bool) → same_tree p.key k ≡ b → W.answer s p.key ≡ p.value →
      (rest ≡ Some v → W.answer s k ≡ v) → cond b (Some p.value) rest ≡ Some v → W.answer s k ≡ v
  held_step p k v rest true same here later found =
      let e : p.value ≡ v = cc in
      ap (W.answer s) (sym (same_tree-one p.key k same)) ∙ here ∙ e
  held_step p k v rest false same here later found = later found

  -- what is said of a key, where all holds, is its answer
  pub held : (ps : List Pair) (k v : Tree) → Holds W s ps → look_up ps k ≡ Some v → W.answer s k ≡ v
  held [] k v h found = cc
  held (p ∷ ps) k v h found = held_step p k v (look_up ps k) (same_tree p.key k) refl h.0 (held ps k v h.1) found

  -- where all holds that is said, so does what it says
  pub said_holds : (read qs : List Pair) → AllSaid read qs → Holds W s read → Holds W s qs
  said_holds read [] said h = tt
  said_holds read (q ∷ qs) said h = (held read q.key q.value h said.0, said_holds read qs said.1 h)

  noted_holds : (o : Option Tree) (q : Pair) → W.answer s q.key ≡ q.value → Holds W s (unless_there o q [])
  noted_holds None q here = (here, tt)
  noted_holds (Some v) q here = tt

  pub merged_holds : (ps qs : List Pair) → Holds W s ps → Holds W s qs → Holds W s (merged ps qs)
  merged_holds ps [] a b = a
  merged_holds ps (q ∷ qs) a b =
      merged_holds (noted ps q) qs (Holds-append W s ps (unless_there (look_up ps q.key) q []) a (noted_holds (look_up ps q.key) q b.0)) b.1

  some_is : (o : Option Tree) (k v : Tree) → ((w : Tree) → o ≡ Some w → W.answer s k ≡ w) → is_some o ≡ true → W.answer s k ≡ v → o ≡ Some v
  some_is None k v is there here = cc
  some_is (Some w) k v is there here = ap Some (sym (is w refl) ∙ here)

  all_said : (read qs : List Pair) → Holds W s read → Holds W s qs → ((k : Tree) → is_some (look_up qs k) ≡ true → is_some (look_up read k) ≡ true) → AllSaid read qs
  all_said read [] h g there = tt
  all_said read (q ∷ qs) h g there =
      let first : is_some (look_up (q ∷ qs) q.key) ≡ true = ap (λ b. is_some (cond b (Some q.value) (look_up qs q.key))) (same_tree-same q.key) in (
        some_is (look_up read q.key) q.key q.value (λ w found. held read q.key w h found) (there q.key first) g.0,
        all_said read qs h g.1 (λ k is. there k (later (same_tree q.key k) q.value (look_up qs k) is)),
      )

  -- pairs that hold together are said by what they merge to
  pub merged_says : (qs : List Pair) → Holds W s qs → AllSaid (merged [] qs) qs
  merged_says qs h = all_said (merged [] qs) qs (merged_holds [] qs tt h) h (λ k is. ap is_some (look_up-merged [] qs k) ∙ is)

back_paid : {C I : Type 0} (e : Ending) (t : Run C I) (P : Type 0) → Back e t P → (ending t ≡ ByBudget → ⊥) → (e ≡ ByBudget → ⊥)
back_paid ByLeave t P back paid is = cc
back_paid ByEnd t P back paid is = cc
back_paid ByBudget t P back paid is = paid (ap ending back)

back_rest : {C I : Type 0} (e : Ending) (t : Run C I) (P : Type 0) → Back e t P → (ending t ≡ ByBudget → ⊥) → (P → Paid t) → Paid t
back_rest ByLeave t P back paid k = k back
back_rest {C} {I} ByEnd t P back paid k = let Q : Run C I → Type 0 = Paid in subst Q (sym back) tt
back_rest ByBudget t P back paid k = absurd (paid (ap ending back))

-- A run that did not end for want of fuel never wanted it.
pub paid_of : (M : MachineModel) (t : Run M.Call M.Item) (p : M.Place) (g : Told) → Follows M p g t → (ending t ≡ ByBudget → ⊥) → Paid t
paid_of M Leaves p g f paid = tt
paid_of M Ends p g f paid = tt
paid_of M Spent p g f paid = paid refl
paid_of M (Asks key value t) p g f paid = paid_of M t (M.after p g) (Answered value) f.1 paid
paid_of M (Puts key value t) p g f paid = paid_of M t (M.after p g) Nothing f.1 paid
paid_of M (Counts t) p g f paid = paid_of M t (M.after p g) Nothing f.1 paid
paid_of M (Bumps t) p g f paid = paid_of M t (M.after p g) Nothing f.1 paid
paid_of M (Emits item t) p g f paid = paid_of M t (M.after p g) Nothing f.1 paid
paid_of M (Moves n t) p g f paid = paid_of M t (M.after p g) Nothing f.1 paid
paid_of M (Deepens t) p g f paid = paid_of M t (M.after p g) Nothing f.1 paid
paid_of M (Rises t) p g f paid = paid_of M t (M.after p g) Nothing f.1 paid
paid_of M (Refused t) p g f paid = paid_of M t (M.after p g) TooDeep f.1 paid
paid_of M (Calls c child t) p g f paid = (
  paid_of M child (M.start c) Nothing f.1 (back_paid (ending child) t (Follows M (M.after p g) Returned t) f.2 paid),
  back_rest (ending child) t (Follows M (M.after p g) Returned t) f.2 paid (λ h. paid_of M t (M.after p g) Returned h paid),
)
paid_of M (Barred c t) p g f paid = paid_of M t (M.after p g) TooDeep f.1 paid

back_none : {C I F : Type 0} (e : Ending) (t : Run C I) (P : Type 0) (inner : List F) (frames : F) (rest : List F) → Back e t P → (ending t ≡ ByBudget → ⊥) →
    (P → rest ≡ []) → unpaid_back e inner frames rest ≡ []
back_none ByLeave t P inner frames rest back paid k = k back
back_none ByEnd t P inner frames rest back paid k = refl
back_none ByBudget t P inner frames rest back paid k = absurd (paid (ap ending back))

-- and no frames are left at which it was wanting
pub none_wanting : (M : MachineModel) (t : Run M.Call M.Item) (p : M.Place) (g : Told) → Follows M p g t → (ending t ≡ ByBudget → ⊥) → unpaid M p g t ≡ []
none_wanting M Leaves p g f paid = refl
none_wanting M Ends p g f paid = refl
none_wanting M Spent p g f paid = absurd (paid refl)
none_wanting M (Asks key value t) p g f paid = none_wanting M t (M.after p g) (Answered value) f.1 paid
none_wanting M (Puts key value t) p g f paid = none_wanting M t (M.after p g) Nothing f.1 paid
none_wanting M (Counts t) p g f paid = none_wanting M t (M.after p g) Nothing f.1 paid
none_wanting M (Bumps t) p g f paid = none_wanting M t (M.after p g) Nothing f.1 paid
none_wanting M (Emits item t) p g f paid = none_wanting M t (M.after p g) Nothing f.1 paid
none_wanting M (Moves n t) p g f paid = none_wanting M t (M.after p g) Nothing f.1 paid
none_wanting M (Deepens t) p g f paid = none_wanting M t (M.after p g) Nothing f.1 paid
none_wanting M (Rises t) p g f paid = none_wanting M t (M.after p g) Nothing f.1 paid
none_wanting M (Refused t) p g f paid = none_wanting M t (M.after p g) TooDeep f.1 paid
none_wanting M (Calls c child t) p g f paid =
    back_none (ending child) t (Follows M (M.after p g) Returned t) (unpaid M (M.start c) Nothing child) (M.frames_at (M.after p g)) (unpaid M (M.after p g) Returned t)
    f.2 paid (λ h. none_wanting M t (M.after p g) Returned h paid)
none_wanting M (Barred c t) p g f paid = none_wanting M t (M.after p g) TooDeep f.1 paid

-- fuel was never wanting, so it did not end the run
pub paid_ends : {C I : Type 0} (t : Run C I) → Paid t → ending t ≡ ByBudget → ⊥
paid_ends Leaves p is = cc
paid_ends Ends p is = cc
paid_ends Spent p is = p
paid_ends (Asks key value t) p is = paid_ends t p is
paid_ends (Puts key value t) p is = paid_ends t p is
paid_ends (Counts t) p is = paid_ends t p is
paid_ends (Bumps t) p is = paid_ends t p is
paid_ends (Emits item t) p is = paid_ends t p is
paid_ends (Moves n t) p is = paid_ends t p is
paid_ends (Deepens t) p is = paid_ends t p is
paid_ends (Rises t) p is = paid_ends t p is
paid_ends (Refused t) p is = paid_ends t p is
paid_ends (Calls c child t) p is = paid_ends t p.1 is
paid_ends (Barred c t) p is = paid_ends t p is

items_within : {I : Type 0} (last : List I) (ps : List (Point I)) → map (λ p. p.item) (map (within last) ps) ≡ map (λ p. p.item) ps
items_within last [] = refl
items_within last (p ∷ ps) = ap (λ x. p.item ∷ x) (items_within last ps)

items_append : {I : Type 0} (a b : List (Point I)) → map (λ p. p.item) (a ++ b) ≡ map (λ p. p.item) a ++ map (λ p. p.item) b
items_append [] b = refl
items_append (p ∷ a) b = ap (λ x. p.item ∷ x) (items_append a b)

-- the points of a run are its items
pub traced_items : {C I : Type 0} (t : Run C I) (last : List I) → map (λ p. p.item) (traced last t) ≡ emitted t
traced_items Leaves last = refl
traced_items Ends last = refl
traced_items Spent last = refl
traced_items (Asks key value t) last = traced_items t last
traced_items (Puts key value t) last = traced_items t last
traced_items (Counts t) last = traced_items t last
traced_items (Bumps t) last = traced_items t last
traced_items (Emits item t) last = ap (λ x. item ∷ x) (traced_items t (item ∷ []))
traced_items (Moves n t) last = traced_items t last
traced_items (Deepens t) last = traced_items t last
traced_items (Rises t) last = traced_items t last
traced_items (Refused t) last = traced_items t last
traced_items {C} {I} (Calls c child t) last =
    items_append (map (within last) (traced [] child)) (traced last t)
    ∙ ap (λ x. x ++ map (λ p. p.item) (traced last t)) (items_within last (traced [] child) ∙ traced_items child [])
    ∙ ap (λ x. emitted child ++ x) (traced_items t last)
traced_items (Barred c t) last = traced_items t last
