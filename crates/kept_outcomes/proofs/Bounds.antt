-- How far fuel and depth go in a run.
use Rattle.std.proofs.Common.{◌≡◌, ℕ, ◌+◌, ◌-◌, ◌≤◌, arith}
use Rattle.asking_core.specs.Runs.{Run, Leaves, Ends, Spent, Asks, Puts, Counts, Bumps, Emits, Moves, Deepens, Rises, Refused, Calls, Barred, ByLeave, ByEnd, ByBudget, Within, ending, cost, deepest, deepest_depth}

-- a run takes no more fuel than there is
pub cost_le : {C I : Type 0} (t : Run C I) (f d o : ℕ) → Within f d o t → cost t ≤ f
cost_le Leaves f d o w = omega arith
cost_le Ends f d o w = omega arith
cost_le Spent f d o w = omega arith
cost_le (Asks key value t) f d o w = cost_le t f d o w
cost_le (Puts key value t) f d o w = cost_le t f d o w
cost_le (Counts t) f d o w = let rest = cost_le t (f - 1) d o w.1 in let some = w.0 in omega arith
cost_le (Bumps t) f d o w = cost_le t f d o w
cost_le (Emits item t) f d o w = cost_le t f d o w
cost_le (Moves n t) f d o w = cost_le t f d o w
cost_le (Deepens t) f d o w = cost_le t f d (o + 1) w.1
cost_le (Rises t) f d o w = cost_le t f d (o - 1) w
cost_le (Refused t) f d o w = cost_le t f d o w.1
cost_le (Calls c child t) f d o w =
    let mine = cost_le child f (d + o + 1) 0 w.1 in
    let rest = cost_le t (f - cost child) d o w.2 in
    omega arith
cost_le (Barred c t) f d o w = cost_le t f d o w.1

wrong : {P : Type 0} → ByLeave ≡ ByBudget → P
wrong is = absurd (let e : ByLeave ≡ ByBudget = is in cc)

-- one that ended for want of fuel took all
pub spent_all : {C I : Type 0} (t : Run C I) (f d o : ℕ) → Within f d o t → ending t ≡ ByBudget → f ≤ cost t
spent_all Leaves f d o w is = wrong is
spent_all Ends f d o w is = absurd (let e : ByEnd ≡ ByBudget = is in cc)
spent_all Spent f d o w is = let none = w in omega arith
spent_all (Asks key value t) f d o w is = spent_all t f d o w is
spent_all (Puts key value t) f d o w is = spent_all t f d o w is
spent_all (Counts t) f d o w is = let rest = spent_all t (f - 1) d o w.1 is in omega arith
spent_all (Bumps t) f d o w is = spent_all t f d o w is
spent_all (Emits item t) f d o w is = spent_all t f d o w is
spent_all (Moves n t) f d o w is = spent_all t f d o w is
spent_all (Deepens t) f d o w is = spent_all t f d (o + 1) w.1 is
spent_all (Rises t) f d o w is = spent_all t f d (o - 1) w is
spent_all (Refused t) f d o w is = spent_all t f d o w.1 is
spent_all (Calls c child t) f d o w is = let rest = spent_all t (f - cost child) d o w.2 is in omega arith
spent_all (Barred c t) f d o w is = spent_all t f d o w.1 is

-- none comes deeper than the limit
pub deepest_le : {C I : Type 0} (t : Run C I) (f d o : ℕ) → d ≤ deepest_depth → Within f d o t → d + deepest o t ≤ deepest_depth
deepest_le Leaves f d o le w = omega arith
deepest_le Ends f d o le w = omega arith
deepest_le Spent f d o le w = omega arith
deepest_le (Asks key value t) f d o le w = deepest_le t f d o le w
deepest_le (Puts key value t) f d o le w = deepest_le t f d o le w
deepest_le (Counts t) f d o le w = deepest_le t (f - 1) d o le w.1
deepest_le (Bumps t) f d o le w = deepest_le t f d o le w
deepest_le (Emits item t) f d o le w = deepest_le t f d o le w
deepest_le (Moves n t) f d o le w = deepest_le t f d o le w
deepest_le (Deepens t) f d o le w = let room = w.0 in let rest = deepest_le t f d (o + 1) le w.1 in omega arith
deepest_le (Rises t) f d o le w = deepest_le t f d (o - 1) le w
deepest_le (Refused t) f d o le w = deepest_le t f d o le w.1
deepest_le (Calls c child t) f d o le w =
    let room = w.0 in
    let deeper : d + o + 1 ≤ deepest_depth = omega arith in
    let mine = deepest_le child f (d + o + 1) 0 deeper w.1 in
    let rest = deepest_le t (f - cost child) d o le w.2 in
    omega arith
deepest_le (Barred c t) f d o le w = deepest_le t f d o le w.1
