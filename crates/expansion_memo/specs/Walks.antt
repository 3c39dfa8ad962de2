-- A call under way in code, as the moment that it is, and what one step makes of it. This project.
use Rattle.std.specs.Prelude.{◌≡◌, ◌≢◌, ℕ, ◌<◌, List, map}
use Rattle.kept_values.specs.Trees.{Tree}
use Rattle.trace_arena.specs.Nodes.{Node, IsUnshared}
use Rattle.trace_arena.specs.Changes.{Stays, last_item}
use Rattle.asking_core.specs.Worlds.{WorldModel}
use Rattle.asking_core.specs.Machines.{MachineModel, Told, Nothing, Count, Enter, Leave, End}
use Rattle.asking_core.specs.Actions.{told_of}
use Rattle.kept_outcomes.specs.Moments.{Moment, Leads, stepped}
use Rattle.expansion_memo.specs.declared.walk.Walk.{Walk}
use Rattle.expansion_memo.specs.declared.walk.Next.{Next}
use Rattle.expansion_memo.specs.declared.walk.Next.TheVariants as next
use Rattle.expansion_memo.specs.Kept.{points_by}

-- the moment of a call: where its local stands, what is told there, the state of the world, and the points of its node
abbrev pub moment_at : (M : MachineModel) (W : WorldModel) {L K V I : Type 0} → (L → M.Place) → (I → M.Item) → Walk L K V → Told → W.State → List (Node I) → Moment M W
moment_at M W place item walk given s nodes = record {
  place = place walk.local;
  given = given;
  state = s;
  points = points_by item nodes walk.node.0;
  last = map item (last_item nodes walk.node.0);
  summary = walk.summary;
  frames = walk.frames;
}

-- What one step makes of a moment: another one to which it leads, or it is just behind a move that counts, enters a call,
-- leaves or ends all. `b` is the moment now, by what is told there.
abbrev pub GoesOn : (M : MachineModel) (W : WorldModel) {V C : Type 0} → (Tree → Tree → ℕ → Tree) → (V → Tree) → (C → M.Call) → ℕ → Moment M W → (Told → Moment M W) → Next V C → Type 0
GoesOn M W rebased value call depth a b (next.Tell g) = (fuel : ℕ) → Leads M W rebased fuel depth a (b (told_of value g))
GoesOn M W rebased value call depth a b next.Counts = (M.move_at a.place a.given ≡ Count) × (b Nothing ≡ stepped a)
GoesOn M W rebased value call depth a b (next.Enters c) = (M.move_at a.place a.given ≡ Enter (call c)) × (b Nothing ≡ stepped a)
GoesOn M W rebased value call depth a b next.Leaves = (M.move_at a.place a.given ≡ Leave) × (b Nothing ≡ stepped a)
GoesOn M W rebased value call depth a b next.Ends = (M.move_at a.place a.given ≡ End) × (b Nothing ≡ stepped a)

-- the next step is told this
abbrev pub Tells : {V C : Type 0} → (V → Tree) → Told → Next V C → Type 0
Tells value told (next.Tell g) = told_of value g ≡ told
Tells value told next.Counts = ⊥
Tells value told (next.Enters c) = ⊥
Tells value told next.Leaves = ⊥
Tells value told next.Ends = ⊥

-- each step but a count and the last lowers the number of the place
abbrev pub Lowers : {P V C : Type 0} → (P → ℕ) → P → P → Next V C → Type 0
Lowers number before after (next.Tell g) = number after < number before
Lowers number before after next.Counts = Unit {0}
Lowers number before after (next.Enters c) = number after < number before
Lowers number before after next.Leaves = Unit {0}
Lowers number before after next.Ends = Unit {0}

-- the node of a call may have more items, and no other changes
pub record OnlyAppends {I : Type 0} (old new : List (Node I)) (x : ℕ) : Type 0 where
  pub mine : IsUnshared new x
  pub others : (y : ℕ) → y ≢ x → Stays old new y
