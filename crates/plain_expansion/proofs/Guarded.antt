-- A run of a machine that watches itself is one of the machine.
use Rattle.std.proofs.Common.{◌≡◌, ℕ, List, Bool, false, refl, ap, ◌∙◌}
use Rattle.kept_values.specs.Trees.{Tree}
use Rattle.asking_core.specs.Worlds.{WorldModel}
use Rattle.asking_core.specs.Machines.{MachineModel, Told, Nothing, Answered, Returned, TooDeep, Move, Ask, Put, Count, Bump, Emit, Deepen, Rise, Enter, At, Leave, End}
use Rattle.asking_core.specs.Runs.{Run, Leaves, Ends, Spent, Asks, Puts, Counts, Bumps, Emits, Moves, Deepens, Rises, Refused, Calls, Barred, Ending, ByLeave, ByEnd, ByBudget, ending, Back, Follows, Plain, unpaid, unpaid_back}
use Rattle.plain_expansion.specs.Guard.{Watched, is_kept, guarded}
use Rattle.plain_expansion.specs.GuardLaws.{kept_move, gives_up}
use Rattle.plain_expansion.specs.Expansion.{Expansion}
use Rattle.plain_expansion.specs.Laws.{Gives}

pub back_as : {C I : Type 0} (e : Ending) (t : Run C I) (P Q : Type 0) → (P → Q) → Back e t P → Back e t Q
back_as ByLeave t P Q go b = go b
back_as ByEnd t P Q go b = b
back_as ByBudget t P Q go b = b

module _ (M : MachineModel) (full : ℕ) (moving writable : Tree → Bool) (quiet : M.Place → Bool) where
  abbrev G : MachineModel
  G = guarded M full moving writable quiet

  pub own : (p : Watched M.Place) (g : Told) (m : Move M.Call M.Item) → gives_up m ≡ false → (G).move_at p g ≡ m → M.move_at p.place g ≡ m
  own p g m goes is = (kept_move (is_kept M full moving writable quiet p g) (M.move_at p.place g) m goes is).1

  pub follows_own : (t : Run M.Call M.Item) (p : Watched M.Place) (g : Told) → Follows G p g t → Follows M p.place g t
  follows_own Leaves p g f = own p g Leave refl f
  follows_own Ends p g f = own p g End refl f
  follows_own Spent p g f = own p g Count refl f
  follows_own (Asks key value t) p g f = (own p g (Ask key) refl f.0, follows_own t ((G).after p g) (Answered value) f.1)
  follows_own (Puts key value t) p g f = (own p g (Put key value) refl f.0, follows_own t ((G).after p g) Nothing f.1)
  follows_own (Counts t) p g f = (own p g Count refl f.0, follows_own t ((G).after p g) Nothing f.1)
  follows_own (Bumps t) p g f = (own p g Bump refl f.0, follows_own t ((G).after p g) Nothing f.1)
  follows_own (Emits item t) p g f = (own p g (Emit item) refl f.0, follows_own t ((G).after p g) Nothing f.1)
  follows_own (Moves n t) p g f = (own p g (At n) refl f.0, follows_own t ((G).after p g) Nothing f.1)
  follows_own (Deepens t) p g f = (own p g Deepen refl f.0, follows_own t ((G).after p g) Nothing f.1)
  follows_own (Rises t) p g f = (own p g Rise refl f.0, follows_own t ((G).after p g) Nothing f.1)
  follows_own (Refused t) p g f = (own p g Deepen refl f.0, follows_own t ((G).after p g) TooDeep f.1)
  follows_own (Calls c child t) p g f = (
    own p g (Enter c) refl f.0,
    follows_own child ((G).start c) Nothing f.1,
    back_as (ending child) t (Follows G ((G).after p g) Returned t) (Follows M (M.after p.place g) Returned t)
        (λ x. follows_own t ((G).after p g) Returned x) f.2,
  )
  follows_own (Barred c t) p g f = (own p g (Enter c) refl f.0, follows_own t ((G).after p g) TooDeep f.1)

  unpaid_own : (t : Run M.Call M.Item) (p : Watched M.Place) (g : Told) → unpaid G p g t ≡ unpaid M p.place g t
  unpaid_own Leaves p g = refl
  unpaid_own Ends p g = refl
  unpaid_own Spent p g = refl
  unpaid_own (Asks key value t) p g = unpaid_own t ((G).after p g) (Answered value)
  unpaid_own (Puts key value t) p g = unpaid_own t ((G).after p g) Nothing
  unpaid_own (Counts t) p g = unpaid_own t ((G).after p g) Nothing
  unpaid_own (Bumps t) p g = unpaid_own t ((G).after p g) Nothing
  unpaid_own (Emits item t) p g = unpaid_own t ((G).after p g) Nothing
  unpaid_own (Moves n t) p g = unpaid_own t ((G).after p g) Nothing
  unpaid_own (Deepens t) p g = unpaid_own t ((G).after p g) Nothing
  unpaid_own (Rises t) p g = unpaid_own t ((G).after p g) Nothing
  unpaid_own (Refused t) p g = unpaid_own t ((G).after p g) TooDeep
  unpaid_own (Calls c child t) p g =
      ap (λ x. unpaid_back (ending child) x (M.frames_at (M.after p.place g)) (unpaid G ((G).after p g) Returned t))
      (unpaid_own child ((G).start c) Nothing)
      ∙ ap (unpaid_back (ending child) (unpaid M (M.start c) Nothing child) (M.frames_at (M.after p.place g)))
      (unpaid_own t ((G).after p g) Returned)
  unpaid_own (Barred c t) p g = unpaid_own t ((G).after p g) TooDeep

  pub plain_own : (W : WorldModel) (s : W.State) (p : Watched M.Place) (g : Told) (f d o : ℕ) (t : Run M.Call M.Item) →
      Plain G W s p g f d o t → Plain M W s p.place g f d o t
  plain_own W s p g f d o t plain = record { follows = follows_own t p g plain.follows; agrees = plain.agrees; within = plain.within }

  pub gives_own : (W : WorldModel) (last : List M.Item) (s : W.State) (p : Watched M.Place) (g : Told) (o : ℕ) (t : Run M.Call M.Item)
      (e : Expansion M.Item M.Frames W.State) →
      Gives M W last p.place g s o t e → Gives G W last p g s o t e
  gives_own W last s p g o t e gives = record {
    points = gives.points;
    world = gives.world;
    cost_is = gives.cost_is;
    ended = gives.ended;
    nested = gives.nested;
    unpaid_is = unpaid_own t p g ∙ gives.unpaid_is;
  }
