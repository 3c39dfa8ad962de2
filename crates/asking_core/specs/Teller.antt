-- A tiny machine over the world of counters, for the tests. This project.
use Rattle.std.specs.Prelude.{ℕ, zero, suc, Bool, true, false}
use Rattle.kept_values.specs.Trees.{Tree, Leaf}
use Rattle.asking_core.specs.Machines.{MachineModel, Move, Ask, Put, Count, Bump, Emit, Leave}

-- it asks the counter, takes a unit of fuel, emits an item, puts the value, counts a call and leaves
pub data Stage : Type 0 where
  Asking : Stage
  Counting : Stage
  Emitting : Stage
  Putting : Stage
  Bumping : Stage
  Leaving : Stage

abbrev pub stage_of : ℕ → Stage
stage_of zero = Asking
stage_of (suc zero) = Counting
stage_of (suc (suc zero)) = Emitting
stage_of (suc (suc (suc zero))) = Putting
stage_of (suc (suc (suc (suc zero)))) = Bumping
stage_of (suc (suc (suc (suc (suc n))))) = Leaving

abbrev pub stage_move : Stage → Move Tree ℕ
stage_move Asking = Ask (Leaf 0)
stage_move Counting = Count
stage_move Emitting = Emit 0
stage_move Putting = Put (Leaf 2) (Leaf 7)
stage_move Bumping = Bump
stage_move Leaving = Leave

abbrev pub stage_next : Stage → Stage
stage_next Asking = Counting
stage_next Counting = Emitting
stage_next Emitting = Putting
stage_next Putting = Bumping
stage_next Bumping = Leaving
stage_next Leaving = Leaving

abbrev pub teller : MachineModel
teller = record {
  Call = Tree;
  Item = ℕ;
  Frames = ℕ;
  Place = Stage;
  start = λ call. Asking;
  move_at = λ p g. stage_move p;
  after = λ p g. stage_next p;
  frames_at = λ p. 0;
}

abbrev pub stage_number : Stage → ℕ
stage_number Asking = 5
stage_number Counting = 4
stage_number Emitting = 3
stage_number Putting = 2
stage_number Bumping = 1
stage_number Leaving = 0

abbrev pub stage_marked : Stage → Bool
stage_marked Asking = false
stage_marked Counting = false
stage_marked Emitting = true
stage_marked Putting = false
stage_marked Bumping = false
stage_marked Leaving = false

abbrev pub stage_quiet : Stage → Bool
stage_quiet Asking = true
stage_quiet Counting = true
stage_quiet Emitting = true
stage_quiet Putting = true
stage_quiet Bumping = true
stage_quiet Leaving = false
