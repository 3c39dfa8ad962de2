-- The frames of a point are those of which a level is found.
use Rattle.std.proofs.Common.{◌≡◌, ℕ, zero, suc, ◌+◌, ◌-◌, ◌<◌, ◌≤◌, Bool, true, false, if◌then◌else◌, nat_le, Option, Some, None, List, [], ◌∷◌, ◌++◌, length, reverse, take, refl, sym, ap, ◌∙◌, arith}
use Rattle.std.specs.Prelude.{slice_get, is_some, IsSome}
use Rattle.std.specs.Option.{option_map, option_and_then}
use Rattle.std.proofs.lemmas.Bool.{false≢true, leb-true, leb-false}
use Rattle.std.proofs.lemmas.List.{length-append, reverse-append}
use Rattle.trace_values.specs.CallFrames.{frames_of}
use Rattle.trace_values.specs.declared.item.TraceItem.{TraceItem}
use Rattle.trace_values.specs.declared.variable.Variable.{Variable}
use Rattle.trace_arena.specs.Points.{Point}
use Rattle.trace_cursor.specs.Stacks.{frames_in, stack_of}
use Rattle.trace_variables.specs.Calls.{level_among, level_of}
use Rattle.trace_variables.specs.Variables.{rows_at}
use Rattle.trace_variables.specs.Laws.{HasFrame, FramesHaveVariables}

-- how many frames items have, in whichever order they stand
abbrev frames_within : List TraceItem → ℕ
frames_within [] = 0
frames_within (i ∷ is) = length (frames_of i.frames) + frames_within is

counted : (items : List TraceItem) → length (frames_in items) ≡ frames_within items
counted [] = refl
counted (i ∷ is) = omega (arith, length-append (frames_of i.frames) (frames_in is), counted is)

within_both : (is js : List TraceItem) → frames_within (is ++ js) ≡ frames_within is + frames_within js
within_both [] js = omega arith
within_both (i ∷ is) js = omega (arith, within_both is js)

within_reversed : (items : List TraceItem) → frames_within (reverse items) ≡ frames_within items
within_reversed [] = refl
within_reversed (i ∷ is) =
    omega (arith, ap frames_within (reverse-append (i ∷ []) is), within_both (reverse is) (i ∷ []), within_reversed is)

stack_counted : (point : Point TraceItem) → length (stack_of point) ≡ frames_within (point.item ∷ reverse point.calls)
stack_counted point =
    omega (
      arith,
      within_reversed point.calls,
      counted point.calls,
      length-append (frames_in point.calls) (frames_of point.item.frames),
    )

-- a level is found where there are so many frames
module _ (frame : ℕ) (i : TraceItem) (is : List TraceItem) where
  found_by : (b : Bool) → nat_le frame (length (frames_of i.frames)) ≡ b →
      (0 < frame - length (frames_of i.frames) → frame - length (frames_of i.frames) ≤ frames_within is → IsSome (level_among (frame - length (frames_of i.frames)) is)) →
      frame ≤ frames_within (i ∷ is) → IsSome (if b then Some (length is) else level_among (frame - length (frames_of i.frames)) is)
  found_by true le rest some = refl
  found_by false gt rest some =
      let more : length (frames_of i.frames) < frame = leb-false frame (length (frames_of i.frames)) gt in
      rest (omega (arith, more)) (omega (arith, some))

  among_by : (b : Bool) → nat_le frame (length (frames_of i.frames)) ≡ b →
      (IsSome (level_among (frame - length (frames_of i.frames)) is) → frame - length (frames_of i.frames) ≤ frames_within is) →
      IsSome (if b then Some (length is) else level_among (frame - length (frames_of i.frames)) is) → frame ≤ frames_within (i ∷ is)
  among_by true le rest some = let small : frame ≤ length (frames_of i.frames) = leb-true frame (length (frames_of i.frames)) le in omega arith
  among_by false gt rest some =
      let more : length (frames_of i.frames) < frame = leb-false frame (length (frames_of i.frames)) gt in
      omega (arith, more, rest some)

level_found : (frame : ℕ) (items : List TraceItem) → 0 < frame → frame ≤ frames_within items → IsSome (level_among frame items)
level_found frame [] some le = absurd (omega arith)
level_found frame (i ∷ is) some le =
    found_by frame i is (nat_le frame (length (frames_of i.frames))) refl
    (λ more less. level_found (frame - length (frames_of i.frames)) is more less) le

level_among_frames : (frame : ℕ) (items : List TraceItem) → IsSome (level_among frame items) → frame ≤ frames_within items
level_among_frames frame [] some = absurd (false≢true some)
level_among_frames frame (i ∷ is) some =
    among_by frame i is (nat_le frame (length (frames_of i.frames))) refl
    (λ rest. level_among_frames (frame - length (frames_of i.frames)) is rest) some

level_there : (point : Point TraceItem) (frame : ℕ) → HasFrame (Some point) frame → IsSome (level_of point frame)
level_there point zero has = absurd (omega (arith, has.0))
level_there point (suc n) has =
    level_found (suc n) (point.item ∷ reverse point.calls) has.0 (omega (arith, has.1, stack_counted point))

frame_there : (point : Point TraceItem) (frame : ℕ) → IsSome (level_of point frame) → HasFrame (Some point) frame
frame_there point zero some = absurd (false≢true some)
frame_there point (suc n) some =
    (omega arith, omega (arith, level_among_frames (suc n) (point.item ∷ reverse point.calls) some, stack_counted point))

mapped : {X Y : Type 0} (f : X → Y) (o : Option X) → is_some (option_map f o) ≡ is_some o
mapped f None = refl
mapped f (Some x) = refl

module _ (rows : ℕ → Point TraceItem → List Variable) (frame : ℕ) where
  abbrev shown_at : Option (Point TraceItem) → Option (List Variable)
  shown_at o = option_and_then (λ point. option_map (λ level. rows level point) (level_of point frame)) o

  has_shown : (o : Option (Point TraceItem)) → HasFrame o frame → IsSome (shown_at o)
  has_shown None has = absurd has
  has_shown (Some point) has = mapped (λ level. rows level point) (level_of point frame) ∙ level_there point frame has

  shown_has : (o : Option (Point TraceItem)) → IsSome (shown_at o) → HasFrame o frame
  shown_has None some = absurd (false≢true some)
  shown_has (Some point) some =
      frame_there point frame (sym (mapped (λ level. rows level point) (level_of point frame)) ∙ some)

pub frames_have : FramesHaveVariables
frames_have trace index frame = (
  shown_has (λ level point. rows_at (take index trace) level point.item) frame (slice_get trace index),
  has_shown (λ level point. rows_at (take index trace) level point.item) frame (slice_get trace index),
)
