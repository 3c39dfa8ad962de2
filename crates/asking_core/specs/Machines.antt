-- Machines that ask: places, and the move that each makes. This project.
use Rattle.std.specs.Prelude.{◌≡◌, ◌<◌, ℕ, Bool, true, false}
use Rattle.kept_values.specs.Trees.{Tree}

-- what a machine is told before a move: the answer to what it asked, that a nested call came back, or that there is no
-- room for one more frame
pub data Told : Type 0 where
  Nothing : Told
  Answered : (value : Tree) → Told
  Returned : Told
  TooDeep : Told

-- What a machine does next. It gives up where it would break a law that it keeps by counting.
pub data Move (C I : Type 0) : Type 0 where
  Ask : (key : Tree) → Move C I
  Put : (key value : Tree) → Move C I
  Count : Move C I
  Bump : Move C I
  Emit : (item : I) → Move C I
  Deepen : Move C I
  Rise : Move C I
  Enter : (call : C) → Move C I
  At : (statement : ℕ) → Move C I
  Leave : Move C I
  End : Move C I
  GiveUp : Move C I

-- A machine: the place where a call starts, the move made at a place and the next place, by what is told there, and the
-- frames of the statement that is met at a place.
pub record MachineModel : Type 1 where
  pub Call : Type 0
  pub Item : Type 0
  pub Frames : Type 0
  pub Place : Type 0
  pub start : Call → Place
  pub move_at : Place → Told → Move Call Item
  pub after : Place → Told → Place
  pub frames_at : Place → Frames

-- Between two units of fuel a machine does only so much: each place has a number, and it falls with every move but
-- `Count`.
abbrev pub is_count : {C I : Type 0} → Move C I → Bool
is_count Count = true
is_count (Ask key) = false
is_count (Put key value) = false
is_count Bump = false
is_count (Emit item) = false
is_count Deepen = false
is_count Rise = false
is_count (Enter call) = false
is_count (At statement) = false
is_count Leave = false
is_count End = false
is_count GiveUp = false

-- whether a move ends the call
abbrev pub is_last : {C I : Type 0} → Move C I → Bool
is_last Leave = true
is_last End = true
is_last GiveUp = true
is_last Count = false
is_last (Ask key) = false
is_last (Put key value) = false
is_last Bump = false
is_last (Emit item) = false
is_last Deepen = false
is_last Rise = false
is_last (Enter call) = false
is_last (At statement) = false

-- each move that is no count and goes on lowers the number of the place
abbrev pub Falls : (M : MachineModel) → (M.Place → ℕ) → Type 0
Falls M number = (p : M.Place) (g : Told) → is_count (M.move_at p g) ≡ false → is_last (M.move_at p g) ≡ false → number (M.after p g) < number p

-- One item a unit of fuel: a call starts without a mark, a count sets it, an item is emitted only where it is set and
-- takes it away, and no other move sets it.
pub record EmitsOnceACount (M : MachineModel) (marked : M.Place → Bool) : Type 0 where
  pub starts : (c : M.Call) → marked (M.start c) ≡ false
  pub emits : (p : M.Place) (g : Told) (item : M.Item) → M.move_at p g ≡ Emit item →
      (marked p ≡ true) × (marked (M.after p g) ≡ false)
  pub others : (p : M.Place) (g : Told) → is_count (M.move_at p g) ≡ false → marked p ≡ false → marked (M.after p g) ≡ false

-- Modest: only writable keys are put, and a moving key is asked only where the call is still quiet, which it is not
-- after it counted a call or entered one.
pub record Modest (M : MachineModel) (moving writable : Tree → Bool) (quiet : M.Place → Bool) : Type 0 where
  pub puts : (p : M.Place) (g : Told) (key value : Tree) → M.move_at p g ≡ Put key value → writable key ≡ true
  pub asks : (p : M.Place) (g : Told) (key : Tree) → M.move_at p g ≡ Ask key → moving key ≡ true → quiet p ≡ true
  pub bumped : (p : M.Place) (g : Told) → M.move_at p g ≡ Bump → quiet (M.after p g) ≡ false
  pub entered : (p : M.Place) (g : Told) (c : M.Call) → M.move_at p g ≡ Enter c → quiet (M.after p g) ≡ false
  pub stays : (p : M.Place) (g : Told) → quiet p ≡ false → quiet (M.after p g) ≡ false
