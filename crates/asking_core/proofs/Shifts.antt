-- Fuel and depth shift.
use Rattle.std.proofs.Common.{◌≡◌, ℕ, ◌+◌, ◌-◌, ◌<◌, ◌≤◌, true, false, arith}
use Rattle.std.proofs.lemmas.Bool.{or_parts}
use Rattle.asking_core.specs.Runs.{Run, Leaves, Ends, Spent, Asks, Puts, Counts, Bumps, Emits, Moves, Deepens, Rises, Refused, Calls, Barred, Within, Paid, cost, deepest, deepest_depth, met_deep}

pub fuel_shift : {C I : Type 0} (t : Run C I) (f more d o : ℕ) → Within f d o t → Paid t → cost t ≤ more → Within more d o t
fuel_shift Leaves f more d o w p k = tt
fuel_shift Ends f more d o w p k = tt
fuel_shift Spent f more d o w p k = absurd p
fuel_shift (Asks key value t) f more d o w p k = fuel_shift t f more d o w p k
fuel_shift (Puts key value t) f more d o w p k = fuel_shift t f more d o w p k
fuel_shift (Counts t) f more d o w p k = (omega arith, fuel_shift t (f - 1) (more - 1) d o w.1 p (omega arith))
fuel_shift (Bumps t) f more d o w p k = fuel_shift t f more d o w p k
fuel_shift (Emits item t) f more d o w p k = fuel_shift t f more d o w p k
fuel_shift (Moves n t) f more d o w p k = fuel_shift t f more d o w p k
fuel_shift (Deepens t) f more d o w p k = (w.0, fuel_shift t f more d (o + 1) w.1 p k)
fuel_shift (Rises t) f more d o w p k = fuel_shift t f more d (o - 1) w p k
fuel_shift (Refused t) f more d o w p k = (w.0, fuel_shift t f more d o w.1 p k)
fuel_shift (Calls c child t) f more d o w p k =
    let mine : cost child ≤ more = omega arith in
    let left : cost t ≤ more - cost child = omega arith in
    (w.0, fuel_shift child f more (d + o + 1) 0 w.1 p.0 mine, fuel_shift t (f - cost child) (more - cost child) d o w.2 p.1 left)
fuel_shift (Barred c t) f more d o w p k = (w.0, fuel_shift t f more d o w.1 p k)

wrong : {P : Type 0} → true ≡ false → P
wrong is = absurd (let e : true ≡ false = is in cc)

pub depth_shift : {C I : Type 0} (t : Run C I) (f more d e o : ℕ) → Within f d o t → Paid t → cost t ≤ more → met_deep t ≡ false →
    e + deepest o t ≤ deepest_depth → Within more e o t
depth_shift Leaves f more d e o w p k m h = tt
depth_shift Ends f more d e o w p k m h = tt
depth_shift Spent f more d e o w p k m h = absurd p
depth_shift (Asks key value t) f more d e o w p k m h = depth_shift t f more d e o w p k m h
depth_shift (Puts key value t) f more d e o w p k m h = depth_shift t f more d e o w p k m h
depth_shift (Counts t) f more d e o w p k m h = (omega arith, depth_shift t (f - 1) (more - 1) d e o w.1 p (omega arith) m h)
depth_shift (Bumps t) f more d e o w p k m h = depth_shift t f more d e o w p k m h
depth_shift (Emits item t) f more d e o w p k m h = depth_shift t f more d e o w p k m h
depth_shift (Moves n t) f more d e o w p k m h = depth_shift t f more d e o w p k m h
depth_shift (Deepens t) f more d e o w p k m h =
    let room : e + o < deepest_depth = omega arith in
    let rest : e + deepest (o + 1) t ≤ deepest_depth = omega arith in
    (room, depth_shift t f more d e (o + 1) w.1 p k m rest)
depth_shift (Rises t) f more d e o w p k m h = depth_shift t f more d e (o - 1) w p k m h
depth_shift (Refused t) f more d e o w p k m h = wrong m
depth_shift (Calls c child t) f more d e o w p k m h =
    let never = or_parts (met_deep child) (met_deep t) m in
    let room : e + o < deepest_depth = omega arith in
    let inner : e + o + 1 + deepest 0 child ≤ deepest_depth = omega arith in
    let rest : e + deepest o t ≤ deepest_depth = omega arith in
    let mine : cost child ≤ more = omega arith in
    let left : cost t ≤ more - cost child = omega arith in (
      room,
      depth_shift child f more (d + o + 1) (e + o + 1) 0 w.1 p.0 mine never.0 inner,
      depth_shift t (f - cost child) (more - cost child) d e o w.2 p.1 left never.1 rest,
    )
depth_shift (Barred c t) f more d e o w p k m h = wrong m
