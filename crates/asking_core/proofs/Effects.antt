-- What a run leaves of the world.
use Rattle.std.proofs.Common.{◌≡◌, ℕ, ◌+◌, Bool, List, [], ◌∷◌, ◌++◌, sym, ap, ◌∙◌, append_assoc, append-nil, arith}
use Rattle.std.proofs.Math.Nat.{add-zero, zero-add}
use Rattle.kept_values.specs.Trees.{Tree, Pair}
use Rattle.asking_core.specs.Worlds.{WorldModel, Fits, moved}
use Rattle.asking_core.specs.Runs.{Run, Leaves, Ends, Spent, Asks, Puts, Counts, Bumps, Emits, Moves, Deepens, Rises, Refused, Calls, Barred, after_run, bumped, put_by}
use Rattle.asking_core.specs.Footprints.{Proper}
use Rattle.asking_core.proofs.WorldSteps.{AllWritable, AllWritable-append, enter_moved, moved_moved, moved_put, moved_bump}

-- what a proper run puts is writable
pub AllWritable-put_by : {C I : Type 0} (moving writable : Tree → Bool) (t : Run C I) (n : ℕ) → Proper moving writable n t → AllWritable writable (put_by t)
AllWritable-put_by moving writable Leaves n q = tt
AllWritable-put_by moving writable Ends n q = tt
AllWritable-put_by moving writable Spent n q = tt
AllWritable-put_by moving writable (Asks key value t) n q = AllWritable-put_by moving writable t n q.1
AllWritable-put_by moving writable (Puts key value t) n q =
    AllWritable-append writable (put_by t) (record { key = key; value = value } ∷ []) (AllWritable-put_by moving writable t n q.1) (q.0, tt)
AllWritable-put_by moving writable (Counts t) n q = AllWritable-put_by moving writable t n q
AllWritable-put_by moving writable (Bumps t) n q = AllWritable-put_by moving writable t (n + 1) q
AllWritable-put_by moving writable (Emits item t) n q = AllWritable-put_by moving writable t n q
AllWritable-put_by moving writable (Moves j t) n q = absurd q
AllWritable-put_by moving writable (Deepens t) n q = AllWritable-put_by moving writable t n q
AllWritable-put_by moving writable (Rises t) n q = AllWritable-put_by moving writable t n q
AllWritable-put_by moving writable (Refused t) n q = AllWritable-put_by moving writable t n q
AllWritable-put_by moving writable (Calls c child t) n q =
    AllWritable-append writable (put_by t) (put_by child) (AllWritable-put_by moving writable t (n + bumped child) q.1) (AllWritable-put_by moving writable child 0 q.0)
AllWritable-put_by moving writable (Barred c t) n q = AllWritable-put_by moving writable t n q

module _ (W : WorldModel) (moving writable : Tree → Bool) (rebased : Tree → Tree → ℕ → Tree) (fits : Fits W moving writable rebased) where
  -- what a nested call leaves, where it leaves its own start so
  pub back_from : {C I : Type 0} (child : Run C I) (s : W.State) → AllWritable writable (put_by child) →
      after_run W (moved W (W.after_enter s) [] 0) child ≡ moved W (W.after_enter s) (put_by child ++ []) (0 + bumped child) →
      W.after_leave (after_run W (W.after_enter s) child) ≡ moved W s (put_by child) (bumped child)
  back_from child s x e =
      ap W.after_leave (ap (λ y. after_run W y child) (sym (fits.bump_none (W.after_enter s)))
      ∙ e
      ∙ ap (λ y. moved W (W.after_enter s) y (0 + bumped child)) (append-nil (put_by child))
      ∙ ap (moved W (W.after_enter s) (put_by child)) (zero-add (bumped child))
      ∙ sym (enter_moved W moving writable rebased fits s (put_by child) (bumped child) x))
      ∙ fits.leave_enter (moved W s (put_by child) (bumped child))

  pub effect : {C I : Type 0} (t : Run C I) (s : W.State) (ps : List Pair) (n : ℕ) → Proper moving writable n t → AllWritable writable ps →
      after_run W (moved W s ps n) t ≡ moved W s (put_by t ++ ps) (n + bumped t)
  effect Leaves s ps n q x = ap (moved W s ps) (sym (add-zero n))
  effect Ends s ps n q x = ap (moved W s ps) (sym (add-zero n))
  effect Spent s ps n q x = ap (moved W s ps) (sym (add-zero n))
  effect (Asks key value t) s ps n q x = effect t s ps n q.1 x
  effect (Puts key value t) s ps n q x =
      ap (λ y. after_run W y t) (moved_put W moving writable rebased fits s ps n key value q.0)
      ∙ effect t s (record { key = key; value = value } ∷ ps) n q.1 (q.0, x)
      ∙ ap (λ y. moved W s y (n + bumped t)) (sym (append_assoc (put_by t) (record { key = key; value = value } ∷ []) ps))
  effect (Counts t) s ps n q x = effect t s ps n q x
  effect (Bumps t) s ps n q x =
      let sum : n + 1 + bumped t ≡ n + (bumped t + 1) = omega arith in
      ap (λ y. after_run W y t) (moved_bump W moving writable rebased fits s ps n)
      ∙ effect t s ps (n + 1) q x
      ∙ ap (moved W s (put_by t ++ ps)) sum
  effect (Emits item t) s ps n q x = effect t s ps n q x
  effect (Moves j t) s ps n q x = absurd q
  effect (Deepens t) s ps n q x = effect t s ps n q x
  effect (Rises t) s ps n q x = effect t s ps n q x
  effect (Refused t) s ps n q x = effect t s ps n q x
  effect (Calls c child t) s ps n q x =
      let w : AllWritable writable (put_by child) = AllWritable-put_by moving writable child 0 q.0 in
      let sum : n + bumped child + bumped t ≡ n + (bumped child + bumped t) = omega arith in
      ap (λ y. after_run W y t) (back_from child (moved W s ps n) w (effect child (W.after_enter (moved W s ps n)) [] 0 q.0 tt)
      ∙ moved_moved W moving writable rebased fits s ps n (put_by child) (bumped child) w)
      ∙ effect t s (put_by child ++ ps) (n + bumped child) q.1 (AllWritable-append writable (put_by child) ps w x)
      ∙ ap (λ y. moved W s y (n + bumped child + bumped t)) (sym (append_assoc (put_by t) (put_by child) ps))
      ∙ ap (moved W s ((put_by t ++ put_by child) ++ ps)) sum
  effect (Barred c t) s ps n q x = effect t s ps n q x

  -- where the caller goes on behind a nested call
  pub came_back : {C I : Type 0} (child : Run C I) (s : W.State) (ps : List Pair) (n : ℕ) → Proper moving writable 0 child →
      W.after_leave (after_run W (W.after_enter (moved W s ps n)) child) ≡ moved W s (put_by child ++ ps) (n + bumped child)
  came_back child s ps n q =
      let w : AllWritable writable (put_by child) = AllWritable-put_by moving writable child 0 q in
      back_from child (moved W s ps n) w (effect child (W.after_enter (moved W s ps n)) [] 0 q tt)
      ∙ moved_moved W moving writable rebased fits s ps n (put_by child) (bumped child) w
