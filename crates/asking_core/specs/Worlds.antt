-- What a machine asks and changes, as states and what each call makes of them. This project.
use Rattle.std.specs.Prelude.{◌≡◌, ℕ, ◌+◌, Bool, true, false, List, [], ◌∷◌}
use Rattle.kept_values.specs.Trees.{Tree, Pair, same_tree}

-- A world: its states, what each answers, and the states that follow. Keys and values are trees.
pub record WorldModel : Type 1 where
  pub State : Type 0
  pub answer : State → Tree → Tree
  pub after_put : State → Tree → Tree → State
  pub after_bump : State → ℕ → State
  pub after_enter : State → State
  pub after_leave : State → State
  pub after_at : State → ℕ → State

-- the state after puts, of which the newest stands first
abbrev pub put_all : (W : WorldModel) → W.State → List Pair → W.State
put_all W s [] = s
put_all W s (p ∷ ps) = W.after_put (put_all W s ps) p.key p.value

-- the state after puts and counted calls
abbrev pub moved : (W : WorldModel) → W.State → List Pair → ℕ → W.State
moved W s ps n = W.after_bump (put_all W s ps) n

-- each pair is what the state answers
abbrev pub Holds : (W : WorldModel) → W.State → List Pair → Type 0
Holds W s [] = Unit {0}
Holds W s (p ∷ ps) = (W.answer s p.key ≡ p.value) × Holds W s ps

-- A world fits a machine that puts only keys that are writable, whose moving keys are those that counting, entering
-- and leaving may change, and that takes answers back by `rebased`:
pub record Fits (W : WorldModel) (moving writable : Tree → Bool) (rebased : Tree → Tree → ℕ → Tree) : Type 0 where
  -- no key that moves may be put
  pub writable_stays : (key : Tree) → writable key ≡ true → moving key ≡ false
  -- what was put is answered, and no other answer changes
  pub put_same : (s : W.State) (key value : Tree) → writable key ≡ true → W.answer (W.after_put s key value) key ≡ value
  pub put_other : (s : W.State) (key value other : Tree) → writable key ≡ true → same_tree key other ≡ false →
      W.answer (W.after_put s key value) other ≡ W.answer s other
  -- calls add up
  pub bump_none : (s : W.State) → W.after_bump s 0 ≡ s
  pub bump_more : (s : W.State) (m n : ℕ) → W.after_bump (W.after_bump s m) n ≡ W.after_bump s (m + n)
  -- counting and entering do not mind what was put, nor the one the other
  pub bump_put : (s : W.State) (key value : Tree) (n : ℕ) → writable key ≡ true →
      W.after_bump (W.after_put s key value) n ≡ W.after_put (W.after_bump s n) key value
  pub enter_put : (s : W.State) (key value : Tree) → writable key ≡ true →
      W.after_enter (W.after_put s key value) ≡ W.after_put (W.after_enter s) key value
  pub enter_bump : (s : W.State) (n : ℕ) → W.after_enter (W.after_bump s n) ≡ W.after_bump (W.after_enter s) n
  -- leaving undoes entering
  pub leave_enter : (s : W.State) → W.after_leave (W.after_enter s) ≡ s
  -- keys that do not move keep their answers
  pub bump_kept : (s : W.State) (key : Tree) (n : ℕ) → moving key ≡ false → W.answer (W.after_bump s n) key ≡ W.answer s key
  pub enter_kept : (s : W.State) (key : Tree) → moving key ≡ false → W.answer (W.after_enter s) key ≡ W.answer s key
  -- an answer just after `n` counted calls and entering is taken back to the one before them, and no two to one
  pub rebased_back : (s : W.State) (key : Tree) (n : ℕ) →
      rebased key (W.answer (W.after_enter (W.after_bump s n)) key) n ≡ W.answer s key
  pub rebased_once : (key one other : Tree) (n : ℕ) → rebased key one n ≡ rebased key other n → one ≡ other
