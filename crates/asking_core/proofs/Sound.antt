-- The law of footprints, step by step: what was read holds where it was read, and where it holds the run agrees.
use Rattle.std.proofs.Common.{◌≡◌, ℕ, ◌+◌, Bool, true, List, [], ◌∷◌, ◌++◌, Option, Some, None, refl, sym, ap, ◌∙◌, subst}
use Rattle.kept_values.specs.Trees.{Tree, Pair, look_up}
use Rattle.asking_core.specs.Worlds.{WorldModel, Fits, Holds, moved}
use Rattle.asking_core.specs.Runs.{Run, Leaves, Ends, Spent, Asks, Puts, Counts, Bumps, Emits, Moves, Deepens, Rises, Refused, Calls, Barred, Agrees, bumped, put_by}
use Rattle.asking_core.specs.Footprints.{Proper, HearsItself, IsPut, ArePut, carried, read_by, unless_there}
use Rattle.asking_core.proofs.WorldSteps.{AllWritable, AllWritable-append, Holds-append, Holds-parts, moved_put, moved_bump, answer_written, answer_unset, entered_written, entered_unset}
use Rattle.asking_core.proofs.Effects.{AllWritable-put_by, came_back}

holds_unless : (W : WorldModel) (s : W.State) (o : Option Tree) (key value : Tree) (rest : List Pair) → (o ≡ None → W.answer s key ≡ value) →
    Holds W s rest → Holds W s (unless_there o (record { key = key; value = value }) rest)
holds_unless W s (Some w) key value rest here further = further
holds_unless W s None key value rest here further = (here refl, further)

is_put : (o : Option Tree) (value : Tree) → ((w : Tree) → o ≡ Some w → w ≡ value) → IsPut o value
is_put None value is = tt
is_put (Some w) value is = is w refl

module _ (W : WorldModel) (moving writable : Tree → Bool) (rebased : Tree → Tree → ℕ → Tree) (fits : Fits W moving writable rebased) where
  carried_holds : (s : W.State) (ps : List Pair) (n : ℕ) (qs : List Pair) → AllWritable writable ps →
      Holds W (W.after_enter (moved W s ps n)) qs → Holds W s (carried rebased ps n qs)
  carried_holds s ps n [] x h = tt
  carried_holds s ps n (q ∷ qs) x h =
      holds_unless W s (look_up ps q.key) q.key (rebased q.key q.value n) (carried rebased ps n qs)
      (λ none. sym (fits.rebased_back s q.key n)
      ∙ ap (λ v. rebased q.key v n) (sym (entered_unset W moving writable rebased fits s ps n q.key x none) ∙ h.0))
      (carried_holds s ps n qs x h.1)

  are_put : (s : W.State) (ps : List Pair) (n : ℕ) (qs : List Pair) → AllWritable writable ps →
      Holds W (W.after_enter (moved W s ps n)) qs → ArePut ps qs
  are_put s ps n [] x h = tt
  are_put s ps n (q ∷ qs) x h = (
    is_put (look_up ps q.key) q.value (λ w is. sym (entered_written W moving writable rebased fits s ps n q.key w x is) ∙ h.0),
    are_put s ps n qs x h.1,
  )

  one_back : (u : W.State) (ps : List Pair) (n : ℕ) (q : Pair) (rest : List Pair) (o : Option Tree) → AllWritable writable ps → look_up ps q.key ≡ o →
      IsPut o q.value → Holds W u (unless_there o (record { key = q.key; value = rebased q.key q.value n }) rest) →
      (W.answer (W.after_enter (moved W u ps n)) q.key ≡ q.value) × Holds W u rest
  one_back u ps n q rest (Some w) x is put h = (entered_written W moving writable rebased fits u ps n q.key w x is ∙ put, h)
  one_back u ps n q rest None x is put h = (
    fits.rebased_once q.key (W.answer (W.after_enter (moved W u ps n)) q.key) q.value n
        (ap (λ v. rebased q.key v n) (entered_unset W moving writable rebased fits u ps n q.key x is) ∙ fits.rebased_back u q.key n ∙ h.0),
    h.1,
  )

  carried_back : (u : W.State) (ps : List Pair) (n : ℕ) (qs : List Pair) → AllWritable writable ps → ArePut ps qs →
      Holds W u (carried rebased ps n qs) → Holds W (W.after_enter (moved W u ps n)) qs
  carried_back u ps n [] x put h = tt
  carried_back u ps n (q ∷ qs) x put h =
      let both = one_back u ps n q (carried rebased ps n qs) (look_up ps q.key) x refl put.0 h in
      (both.0, carried_back u ps n qs x put.1 both.1)

  -- what was read is what the state at the start answers
  pub complete : {C I : Type 0} (t : Run C I) (s : W.State) (ps : List Pair) (n : ℕ) → Proper moving writable n t → AllWritable writable ps →
      Agrees W (moved W s ps n) t → Holds W s (read_by rebased ps n t)
  complete Leaves s ps n q x a = tt
  complete Ends s ps n q x a = tt
  complete Spent s ps n q x a = tt
  complete (Asks key value t) s ps n q x a =
      holds_unless W s (look_up ps key) key value (read_by rebased ps n t)
      (λ none. sym (answer_unset W moving writable rebased fits s ps n key x none q.0) ∙ a.0) (complete t s ps n q.1 x a.1)
  complete (Puts key value t) s ps n q x a =
      let P : W.State → Type 0 = λ y. Agrees W y t in
      complete t s (record { key = key; value = value } ∷ ps) n q.1 (q.0, x) (subst P (moved_put W moving writable rebased fits s ps n key value q.0) a)
  complete (Counts t) s ps n q x a = complete t s ps n q x a
  complete (Bumps t) s ps n q x a =
      let P : W.State → Type 0 = λ y. Agrees W y t in
      complete t s ps (n + 1) q x (subst P (moved_bump W moving writable rebased fits s ps n) a)
  complete (Emits item t) s ps n q x a = complete t s ps n q x a
  complete (Moves j t) s ps n q x a = absurd q
  complete (Deepens t) s ps n q x a = complete t s ps n q x a
  complete (Rises t) s ps n q x a = complete t s ps n q x a
  complete (Refused t) s ps n q x a = complete t s ps n q x a
  complete (Calls c child t) s ps n q x a =
      let P : W.State → Type 0 = λ y. Agrees W y child in
      let R : W.State → Type 0 = λ y. Agrees W y t in
      let w : AllWritable writable (put_by child) = AllWritable-put_by moving writable child 0 q.0 in
      let inner = complete child (W.after_enter (moved W s ps n)) [] 0 q.0 tt (subst P (sym (fits.bump_none (W.after_enter (moved W s ps n)))) a.0) in
      Holds-append W s (carried rebased ps n (read_by rebased [] 0 child)) (read_by rebased (put_by child ++ ps) (n + bumped child) t)
      (carried_holds s ps n (read_by rebased [] 0 child) x inner)
      (complete t s (put_by child ++ ps) (n + bumped child) q.1 (AllWritable-append writable (put_by child) ps w x)
      (subst R (came_back W moving writable rebased fits child s ps n q.0) a.1))
  complete (Barred c t) s ps n q x a = complete t s ps n q x a

  -- a run that agrees hears what it put
  pub hears_itself : {C I : Type 0} (t : Run C I) (s : W.State) (ps : List Pair) (n : ℕ) → Proper moving writable n t → AllWritable writable ps →
      Agrees W (moved W s ps n) t → HearsItself rebased ps t
  hears_itself Leaves s ps n q x a = tt
  hears_itself Ends s ps n q x a = tt
  hears_itself Spent s ps n q x a = tt
  hears_itself (Asks key value t) s ps n q x a = (
    is_put (look_up ps key) value (λ w is. sym (answer_written W moving writable rebased fits s ps n key w x is) ∙ a.0),
    hears_itself t s ps n q.1 x a.1,
  )
  hears_itself (Puts key value t) s ps n q x a =
      let P : W.State → Type 0 = λ y. Agrees W y t in
      hears_itself t s (record { key = key; value = value } ∷ ps) n q.1 (q.0, x) (subst P (moved_put W moving writable rebased fits s ps n key value q.0) a)
  hears_itself (Counts t) s ps n q x a = hears_itself t s ps n q x a
  hears_itself (Bumps t) s ps n q x a =
      let P : W.State → Type 0 = λ y. Agrees W y t in
      hears_itself t s ps (n + 1) q x (subst P (moved_bump W moving writable rebased fits s ps n) a)
  hears_itself (Emits item t) s ps n q x a = hears_itself t s ps n q x a
  hears_itself (Moves j t) s ps n q x a = absurd q
  hears_itself (Deepens t) s ps n q x a = hears_itself t s ps n q x a
  hears_itself (Rises t) s ps n q x a = hears_itself t s ps n q x a
  hears_itself (Refused t) s ps n q x a = hears_itself t s ps n q x a
  hears_itself (Calls c child t) s ps n q x a =
      let P : W.State → Type 0 = λ y. Agrees W y child in
      let R : W.State → Type 0 = λ y. Agrees W y t in
      let w : AllWritable writable (put_by child) = AllWritable-put_by moving writable child 0 q.0 in
      let within = subst P (sym (fits.bump_none (W.after_enter (moved W s ps n)))) a.0 in (
        hears_itself child (W.after_enter (moved W s ps n)) [] 0 q.0 tt within,
        are_put s ps n (read_by rebased [] 0 child) x (complete child (W.after_enter (moved W s ps n)) [] 0 q.0 tt within),
        hears_itself t s (put_by child ++ ps) (n + bumped child) q.1 (AllWritable-append writable (put_by child) ps w x)
            (subst R (came_back W moving writable rebased fits child s ps n q.0) a.1),
      )
  hears_itself (Barred c t) s ps n q x a = hears_itself t s ps n q x a

  one_answered : (u : W.State) (ps : List Pair) (n : ℕ) (key value : Tree) (rest : List Pair) (o : Option Tree) → AllWritable writable ps → look_up ps key ≡ o →
      (moving key ≡ true → n ≡ 0) → IsPut o value → Holds W u (unless_there o (record { key = key; value = value }) rest) →
      (W.answer (moved W u ps n) key ≡ value) × Holds W u rest
  one_answered u ps n key value rest (Some w) x is calm put h = (answer_written W moving writable rebased fits u ps n key w x is ∙ put, h)
  one_answered u ps n key value rest None x is calm put h = (answer_unset W moving writable rebased fits u ps n key x is calm ∙ h.0, h.1)

  -- a run that hears what it put agrees with each state that answers what it read
  pub sound : {C I : Type 0} (t : Run C I) (u : W.State) (ps : List Pair) (n : ℕ) → Proper moving writable n t → AllWritable writable ps →
      HearsItself rebased ps t → Holds W u (read_by rebased ps n t) → Agrees W (moved W u ps n) t
  sound Leaves u ps n q x own h = tt
  sound Ends u ps n q x own h = tt
  sound Spent u ps n q x own h = tt
  sound (Asks key value t) u ps n q x own h =
      let both = one_answered u ps n key value (read_by rebased ps n t) (look_up ps key) x refl q.0 own.0 h in
      (both.0, sound t u ps n q.1 x own.1 both.1)
  sound (Puts key value t) u ps n q x own h =
      let P : W.State → Type 0 = λ y. Agrees W y t in
      subst P (sym (moved_put W moving writable rebased fits u ps n key value q.0)) (sound t u (record { key = key; value = value } ∷ ps) n q.1 (q.0, x) own h)
  sound (Counts t) u ps n q x own h = sound t u ps n q x own h
  sound (Bumps t) u ps n q x own h =
      let P : W.State → Type 0 = λ y. Agrees W y t in
      subst P (sym (moved_bump W moving writable rebased fits u ps n)) (sound t u ps (n + 1) q x own h)
  sound (Emits item t) u ps n q x own h = sound t u ps n q x own h
  sound (Moves j t) u ps n q x own h = absurd q
  sound (Deepens t) u ps n q x own h = sound t u ps n q x own h
  sound (Rises t) u ps n q x own h = sound t u ps n q x own h
  sound (Refused t) u ps n q x own h = sound t u ps n q x own h
  sound (Calls c child t) u ps n q x own h =
      let P : W.State → Type 0 = λ y. Agrees W y child in
      let R : W.State → Type 0 = λ y. Agrees W y t in
      let w : AllWritable writable (put_by child) = AllWritable-put_by moving writable child 0 q.0 in
      let parts = Holds-parts W u (carried rebased ps n (read_by rebased [] 0 child)) (read_by rebased (put_by child ++ ps) (n + bumped child) t) h in
      let inner = carried_back u ps n (read_by rebased [] 0 child) x own.1 parts.0 in (
        subst P (fits.bump_none (W.after_enter (moved W u ps n))) (sound child (W.after_enter (moved W u ps n)) [] 0 q.0 tt own.0 inner),
        subst R (sym (came_back W moving writable rebased fits child u ps n q.0))
            (sound t u (put_by child ++ ps) (n + bumped child) q.1 (AllWritable-append writable (put_by child) ps w x) own.2 parts.1),
      )
  sound (Barred c t) u ps n q x own h = sound t u ps n q x own h
