-- A world that does not fit its machine, and what comes of it. This project.
use Rattle.std.specs.Prelude.{◌≡◌, ℕ, zero, suc, ◌+◌, Bool, true, false, not}
use Rattle.kept_values.specs.Trees.{Tree, Leaf, Fork}
use Rattle.asking_core.specs.Worlds.{WorldModel}
use Rattle.asking_core.specs.Machines.{MachineModel, Move, Bump, Ask, Leave}

-- a bit, turned so often
abbrev pub turned : Bool → ℕ → Bool
turned bit zero = bit
turned bit (suc n) = not (turned bit n)

-- a bit as an answer
abbrev pub bit_answer : Bool → Tree
bit_answer false = Leaf 0
bit_answer true = Leaf 1

-- every key is answered by whether an even number of calls was counted; nothing else changes the state
abbrev pub parity : WorldModel
parity = record {
  State = Bool;
  answer = λ s key. bit_answer s;
  after_put = λ s key value. s;
  after_bump = turned;
  after_enter = λ s. s;
  after_leave = λ s. s;
  after_at = λ s n. s;
}

-- an answer taken back: turned so often, and any other tree as it is
abbrev pub turned_number : ℕ → ℕ
turned_number zero = 1
turned_number (suc zero) = 0
turned_number (suc (suc n)) = suc (suc n)

abbrev pub turned_tree : Tree → Tree
turned_tree (Leaf n) = Leaf (turned_number n)
turned_tree (Fork a b) = Fork a b

abbrev pub taken_back : Tree → Tree → ℕ → Tree
taken_back key value zero = value
taken_back key value (suc n) = turned_tree (taken_back key value n)

-- where the machine stands: it counts a call, asks a key, leaves
pub data Place : Type 0 where
  Counting : Place
  Asking : Place
  Leaving : Place

abbrev pub hasty_move : Place → Move Bool Bool
hasty_move Counting = Bump
hasty_move Asking = Ask (Leaf 0)
hasty_move Leaving = Leave

abbrev pub hasty_next : Place → Place
hasty_next Counting = Asking
hasty_next Asking = Leaving
hasty_next Leaving = Leaving

-- a machine that asks its key behind a call that it counted
abbrev pub hasty : MachineModel
hasty = record {
  Call = Bool;
  Item = Bool;
  Frames = Bool;
  Place = Place;
  start = λ call. Counting;
  move_at = λ p g. hasty_move p;
  after = λ p g. hasty_next p;
  frames_at = λ p. true;
}

-- every law of a world that fits a machine which puts nothing and for which no key moves, but the one that counting
-- keeps the answers of such keys
pub record FitsButForOne (W : WorldModel) (rebased : Tree → Tree → ℕ → Tree) : Type 0 where
  pub bump_none : (s : W.State) → W.after_bump s 0 ≡ s
  pub bump_more : (s : W.State) (m n : ℕ) → W.after_bump (W.after_bump s m) n ≡ W.after_bump s (m + n)
  pub enter_bump : (s : W.State) (n : ℕ) → W.after_enter (W.after_bump s n) ≡ W.after_bump (W.after_enter s) n
  pub leave_enter : (s : W.State) → W.after_leave (W.after_enter s) ≡ s
  pub enter_kept : (s : W.State) (key : Tree) → W.answer (W.after_enter s) key ≡ W.answer s key
  pub rebased_back : (s : W.State) (key : Tree) (n : ℕ) → rebased key (W.answer (W.after_enter (W.after_bump s n)) key) n ≡ W.answer s key
  pub rebased_once : (key one other : Tree) (n : ℕ) → rebased key one n ≡ rebased key other n → one ≡ other
