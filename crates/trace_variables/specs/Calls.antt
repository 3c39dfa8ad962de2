-- The call that a frame of a point belongs to, and what it had done before the point (this project). Only the list of points is
-- looked at: a point knows the items of the calls that it is within.
use Rattle.std.specs.Prelude.{◌==◌, ℕ, zero, suc, ◌-◌, Bool, not, if◌then◌else◌, nat_le, nat_lt, List, [], ◌∷◌, Option, Some, None, length, map, filter, reverse, take_while}
use Rattle.trace_values.specs.CallFrames.{frames_of}
use Rattle.trace_values.specs.declared.item.TraceItem.{TraceItem}
use Rattle.trace_arena.specs.Points.{Point}

-- How many calls stand round the one that a frame belongs to, where these are the item of a point and those of the calls that it
-- is within, the innermost first. Each item has the frames of its own call; frames are counted from 1, the innermost first.
abbrev pub level_among : ℕ → List TraceItem → Option ℕ
level_among frame [] = None
level_among frame (item ∷ outer) =
    if nat_le frame (length (frames_of item.frames)) then Some (length outer)
    else level_among (frame - length (frames_of item.frames)) outer

-- the same of a frame of a point, which has no frame 0
abbrev pub level_of : Point TraceItem → ℕ → Option ℕ
level_of point zero = None
level_of point (suc n) = level_among (suc n) (point.item ∷ reverse point.calls)

-- what stands behind the last of these at which a test is true, or all of them where it is true at none
abbrev pub behind_last : {X : Type 0} → (X → Bool) → List X → List X
behind_last test xs = reverse (take_while (λ x. not (test x)) (reverse xs))

-- What the call of a level had done, where these are the points before one that is within it: its own points among those behind
-- the last point that is within fewer calls, since there the call was entered. An outer call's own item is the last of them.
abbrev pub done_before : ℕ → List (Point TraceItem) → List TraceItem
done_before level before =
    map (λ p. p.item) (filter (λ p. length p.calls == level) (behind_last (λ p. nat_lt (length p.calls) level) before))
