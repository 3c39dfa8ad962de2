-- The points of a run. This project.
use Rattle.std.specs.Prelude.{List, [], ◌∷◌, ◌++◌, map}
use Rattle.trace_arena.specs.Points.{Point, own, within}
use Rattle.asking_core.specs.Runs.{Run, Leaves, Ends, Spent, Asks, Puts, Counts, Bumps, Emits, Moves, Deepens, Rises, Refused, Calls, Barred}

-- The points of a run: its items, and where a nested call ran, the points of that, each behind the item which the
-- caller had emitted last. `last` is the item that was emitted last before the run goes on from here, if one was.
abbrev pub traced : {C I : Type 0} → List I → Run C I → List (Point I)
traced last Leaves = []
traced last Ends = []
traced last Spent = []
traced last (Asks key value t) = traced last t
traced last (Puts key value t) = traced last t
traced last (Counts t) = traced last t
traced last (Bumps t) = traced last t
traced last (Emits item t) = own item ∷ traced (item ∷ []) t
traced last (Moves n t) = traced last t
traced last (Deepens t) = traced last t
traced last (Rises t) = traced last t
traced last (Refused t) = traced last t
traced last (Calls c child t) = map (within last) (traced [] child) ++ traced last t
traced last (Barred c t) = traced last t
