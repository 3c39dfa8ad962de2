-- What a run read of the world, told as of the start of its call: what it asks before it puts it, in nested calls too.
-- This project.
use Rattle.std.specs.Prelude.{◌≡◌, ℕ, ◌+◌, Bool, true, List, [], ◌∷◌, ◌++◌, Option, Some, None}
use Rattle.kept_values.specs.Trees.{Tree, Pair, look_up}
use Rattle.asking_core.specs.Runs.{Run, Leaves, Ends, Spent, Asks, Puts, Counts, Bumps, Emits, Moves, Deepens, Rises, Refused, Calls, Barred, bumped, put_by}

-- a pair more, unless its key has a value already
abbrev pub unless_there : Option Tree → Pair → List Pair → List Pair
unless_there (Some value) pair pairs = pairs
unless_there None pair pairs = pair ∷ pairs

-- what a nested call read, told as of the start of its caller, which had put `puts` and counted `calls` calls, the
-- nested one included
abbrev pub carried : (Tree → Tree → ℕ → Tree) → List Pair → ℕ → List Pair → List Pair
carried rebased puts calls [] = []
carried rebased puts calls (q ∷ qs) =
    unless_there (look_up puts q.key) (record { key = q.key; value = rebased q.key q.value calls }) (carried rebased puts calls qs)

-- what a run read from here on, where `puts` were put and `calls` calls counted before; nothing is claimed of what
-- follows an outermost statement
abbrev pub read_by : {C I : Type 0} → (Tree → Tree → ℕ → Tree) → List Pair → ℕ → Run C I → List Pair
read_by rebased puts calls Leaves = []
read_by rebased puts calls Ends = []
read_by rebased puts calls Spent = []
read_by rebased puts calls (Asks key value t) =
    unless_there (look_up puts key) (record { key = key; value = value }) (read_by rebased puts calls t)
read_by rebased puts calls (Puts key value t) = read_by rebased (record { key = key; value = value } ∷ puts) calls t
read_by rebased puts calls (Counts t) = read_by rebased puts calls t
read_by rebased puts calls (Bumps t) = read_by rebased puts (calls + 1) t
read_by rebased puts calls (Emits item t) = read_by rebased puts calls t
read_by rebased puts calls (Moves n t) = read_by rebased puts calls t
read_by rebased puts calls (Deepens t) = read_by rebased puts calls t
read_by rebased puts calls (Rises t) = read_by rebased puts calls t
read_by rebased puts calls (Refused t) = read_by rebased puts calls t
read_by rebased puts calls (Calls c child t) =
    carried rebased puts calls (read_by rebased [] 0 child) ++ read_by rebased (put_by child ++ puts) (calls + bumped child) t
read_by rebased puts calls (Barred c t) = read_by rebased puts calls t

-- a value is the one that was put, where one was
abbrev pub IsPut : Option Tree → Tree → Type 0
IsPut None value = Unit {0}
IsPut (Some put) value = put ≡ value

abbrev pub ArePut : List Pair → List Pair → Type 0
ArePut puts [] = Unit {0}
ArePut puts (q ∷ qs) = IsPut (look_up puts q.key) q.value × ArePut puts qs

-- what a run was told of keys that it had put is what it put; this names no world
abbrev pub HearsItself : {C I : Type 0} → (Tree → Tree → ℕ → Tree) → List Pair → Run C I → Type 0
HearsItself rebased puts Leaves = Unit {0}
HearsItself rebased puts Ends = Unit {0}
HearsItself rebased puts Spent = Unit {0}
HearsItself rebased puts (Asks key value t) = IsPut (look_up puts key) value × HearsItself rebased puts t
HearsItself rebased puts (Puts key value t) = HearsItself rebased (record { key = key; value = value } ∷ puts) t
HearsItself rebased puts (Counts t) = HearsItself rebased puts t
HearsItself rebased puts (Bumps t) = HearsItself rebased puts t
HearsItself rebased puts (Emits item t) = HearsItself rebased puts t
HearsItself rebased puts (Moves n t) = HearsItself rebased puts t
HearsItself rebased puts (Deepens t) = HearsItself rebased puts t
HearsItself rebased puts (Rises t) = HearsItself rebased puts t
HearsItself rebased puts (Refused t) = HearsItself rebased puts t
HearsItself rebased puts (Calls c child t) =
    HearsItself rebased [] child × ArePut puts (read_by rebased [] 0 child) × HearsItself rebased (put_by child ++ puts) t
HearsItself rebased puts (Barred c t) = HearsItself rebased puts t

-- A run that reads and writes as a modest machine does, where `calls` calls were counted before: it puts writable keys
-- alone, asks moving ones only before a call was counted, and tells the world of no outermost statement.
abbrev pub Proper : {C I : Type 0} → (Tree → Bool) → (Tree → Bool) → ℕ → Run C I → Type 0
Proper moving writable calls Leaves = Unit {0}
Proper moving writable calls Ends = Unit {0}
Proper moving writable calls Spent = Unit {0}
Proper moving writable calls (Asks key value t) = (moving key ≡ true → calls ≡ 0) × Proper moving writable calls t
Proper moving writable calls (Puts key value t) = (writable key ≡ true) × Proper moving writable calls t
Proper moving writable calls (Counts t) = Proper moving writable calls t
Proper moving writable calls (Bumps t) = Proper moving writable (calls + 1) t
Proper moving writable calls (Emits item t) = Proper moving writable calls t
Proper moving writable calls (Moves n t) = ⊥
Proper moving writable calls (Deepens t) = Proper moving writable calls t
Proper moving writable calls (Rises t) = Proper moving writable calls t
Proper moving writable calls (Refused t) = Proper moving writable calls t
Proper moving writable calls (Calls c child t) = Proper moving writable 0 child × Proper moving writable (calls + bumped child) t
Proper moving writable calls (Barred c t) = Proper moving writable calls t

-- a pair noted behind those that are: where its key is noted already, nothing is
abbrev pub noted : List Pair → Pair → List Pair
noted pairs pair = pairs ++ unless_there (look_up pairs pair.key) pair []

-- what was noted, and then another's pairs noted one after the other
abbrev pub merged : List Pair → List Pair → List Pair
merged pairs [] = pairs
merged pairs (q ∷ qs) = merged (noted pairs q) qs
