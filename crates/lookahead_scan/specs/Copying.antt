-- A member that is gone through, with those that copied one another outside it. No public clause cites this file. This
-- project.
use Rattle.std.specs.Prelude.{◌≡◌, ℕ, ◌-◌, ◌<◌, Bool, false, List, [], ◌∷◌, ◌++◌, length, map, Option, Some, None}
use Rattle.hlasm_statements.specs.Statements.{statements_of}
use Rattle.text_pool.specs.Members.{Member, Absent, Unreadable, File}
use Rattle.lookahead_scan.specs.declared.copying.Copied.{Copied}
use Rattle.lookahead_scan.specs.declared.copying.Copying.{Copying}
use Rattle.lookahead_scan.specs.declared.copying.Progress.{Progress}
use Rattle.lookahead_scan.specs.declared.copying.Progress.TheVariants.{Goes, Stops}
use Rattle.lookahead_scan.specs.declared.sight.Sight.{Sight}
use Rattle.lookahead_scan.specs.Looks.{Met, none_met, and_then, met, all_met, member_met, deepest}
use Rattle.lookahead_scan.specs.Statements.{sights}

-- these are the statements of a member, or it has none
abbrev pub IsListOf : Member → Option (List Sight) → Type 0
IsListOf (File path text) (Some list) = list ≡ sights (statements_of text)
IsListOf (File path text) None = ⊥
IsListOf Absent (Some list) = ⊥
IsListOf Absent None = Unit {0}
IsListOf Unreadable (Some list) = ⊥
IsListOf Unreadable None = Unit {0}

-- what is met in all where this was met in the innermost list, and these statements are left of the lists outside it, the
-- outermost first; copies in that one may nest as deeply as the number says
abbrev pub resumed : (List ℕ → Member) → ℕ → List (List Sight) → Met → Met
resumed members depth [] inside = inside
resumed members depth (list ∷ lists) inside =
    and_then (resumed members (depth - 1) lists inside) (λ taken. all_met (member_met members depth) taken list)

-- the lists outside
abbrev pub outer_of : Copying → List (List Sight)
outer_of copying = map (λ left. left.items) copying.outer.items

-- how deeply copies in the list that is gone through may nest
abbrev pub depth_of : Copying → ℕ
depth_of copying = deepest - length (outer_of copying)

-- what was met so far
abbrev pub so_far : Copying → Bool → Met
so_far copying ended = record { labels = copying.labels.items; taken = copying.taken.items; ended = ended }

-- what is met in all, where this is met before the statements that are left
abbrev pub comes_to : (List ℕ → Member) → Copying → Met → Met
comes_to members copying inside =
    resumed members deepest (outer_of copying) (and_then inside (λ taken. all_met (member_met members (depth_of copying)) taken copying.current.items))

-- what is met in all
abbrev pub comes : (List ℕ → Member) → Copying → Met
comes members copying = comes_to members copying (so_far copying false)

-- nothing was met, and nothing is left
pub record IsNew (copying : Copying) : Type 0 where
  pub labels : copying.labels.items ≡ []
  pub taken : copying.taken.items ≡ []
  pub current : copying.current.items ≡ []
  pub outer : outer_of copying ≡ []

-- a list was begun within that which was gone through
pub record Begins (old new : Copying) (list : List Sight) : Type 0 where
  pub labels : new.labels.items ≡ old.labels.items
  pub taken : new.taken.items ≡ old.taken.items
  pub current : new.current.items ≡ list
  pub outer : outer_of new ≡ outer_of old ++ old.current.items ∷ []
  pub shallow : length (outer_of old) < deepest

-- a member was taken: in all, what it gives is met next
abbrev pub Enters : (List ℕ → Member) → (old new : Copying) → List ℕ → Type 0
Enters members old new name =
    comes members new ≡ comes_to members old (and_then (so_far old false) (λ taken. member_met members (depth_of old) (taken ++ name ∷ []) name))

-- a statement was seen: in all, what it gives is met next; at END that is what was met so far
abbrev pub Sees : (List ℕ → Member) → (old new : Copying) → Sight → Progress → Type 0
Sees members old new sight Goes =
    comes members new ≡ comes_to members old (and_then (so_far old false) (λ taken. met (member_met members (depth_of old)) taken sight))
Sees members old new sight (Stops ended) =
    so_far new ended ≡ comes_to members old (and_then (so_far old false) (λ taken. met (member_met members (depth_of old)) taken sight))

-- one step on the same is met in all; at the end that is what was met so far
abbrev pub Progresses : (List ℕ → Member) → (old new : Copying) → Progress → Type 0
Progresses members old new Goes = comes members new ≡ comes members old
Progresses members old new (Stops ended) = so_far new ended ≡ comes members old

-- this was met
pub record IsMet (met : Met) (copied : Copied) : Type 0 where
  pub labels : copied.labels.items ≡ met.labels
  pub ends : copied.ends ≡ met.ended
