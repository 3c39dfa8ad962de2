-- A machine that watches itself: it gives up where it would do more than so much between two units of fuel, ask a moving key
-- where the call is no longer quiet, or put a key that may not be put. All it does else is what the machine does. This project.
use Rattle.std.specs.Prelude.{ℕ, ◌-◌, Bool, true, false, not, ◌||◌, ◌&&◌, nat_lt, if◌then◌else◌}
use Rattle.kept_values.specs.Trees.{Tree}
use Rattle.asking_core.specs.Machines.{Told, Move, Ask, Put, Count, Bump, Emit, Deepen, Rise, Enter, At, Leave, End, GiveUp, MachineModel, is_count, is_last}

-- a place, and how much may still be done before the next unit of fuel
pub record Watched (P : Type 0) : Type 0 where
  pub place : P
  pub left : ℕ

-- whether a move is allowed: a moving key is asked only where the call is quiet, and only a writable one is put
abbrev pub is_allowed : {C I : Type 0} → (moving writable : Tree → Bool) → (quiet : Bool) → Move C I → Bool
is_allowed moving writable quiet (Ask key) = quiet || not (moving key)
is_allowed moving writable quiet (Put key value) = writable key
is_allowed moving writable quiet Count = true
is_allowed moving writable quiet Bump = true
is_allowed moving writable quiet (Emit item) = true
is_allowed moving writable quiet Deepen = true
is_allowed moving writable quiet Rise = true
is_allowed moving writable quiet (Enter call) = true
is_allowed moving writable quiet (At n) = true
is_allowed moving writable quiet Leave = true
is_allowed moving writable quiet End = true
is_allowed moving writable quiet GiveUp = true

-- whether there is room for it: a count and a last move always have it
abbrev pub is_counted : {C I : Type 0} → ℕ → Move C I → Bool
is_counted left move = is_count move || is_last move || nat_lt 0 left

abbrev pub kept_or_not : {C I : Type 0} → Bool → Move C I → Move C I
kept_or_not true move = move
kept_or_not false move = GiveUp

module _ (M : MachineModel) (full : ℕ) (moving writable : Tree → Bool) (quiet : M.Place → Bool) where
  abbrev pub is_kept : Watched M.Place → Told → Bool
  is_kept p g = is_counted p.left (M.move_at p.place g) && is_allowed moving writable (quiet p.place) (M.move_at p.place g)

  abbrev pub left_after : Watched M.Place → Told → ℕ
  left_after p g = if is_count (M.move_at p.place g) then full else p.left - 1

  abbrev pub guarded : MachineModel
  guarded = record {
    Call = M.Call;
    Item = M.Item;
    Frames = M.Frames;
    Place = Watched M.Place;
    start = λ call. record { place = M.start call; left = full };
    move_at = λ p g. kept_or_not (is_kept p g) (M.move_at p.place g);
    after = λ p g. record { place = M.after p.place g; left = left_after p g };
    frames_at = λ p. M.frames_at p.place;
  }
