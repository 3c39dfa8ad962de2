-- The frames of the places on the way to a point are its stack, and each of them has variables; a part of these.
use Rattle.std.proofs.Common.{◌≡◌, ℕ, ◌≤◌, Bool, true, false, if◌then◌else◌, Option, Some, None, List, [], ◌∷◌, ◌++◌, length, map, take, drop, append_assoc, append-nil, refl, sym, ap, ◌∙◌, arith}
use Rattle.std.specs.Prelude.{slice_get, filter, IsSome}
use Rattle.std.specs.Bool.{beq}
use Rattle.std.specs.List.{flat_map}
use Rattle.std.specs.Option.{option_map, option_map_or}
use Rattle.std.proofs.lemmas.List.{map-append, take_all}
use Rattle.trace_values.specs.CallFrames.{frames_of}
use Rattle.trace_values.specs.declared.item.TraceItem.{TraceItem}
use Rattle.trace_values.specs.declared.variable.Variable.{Variable}
use Rattle.trace_arena.specs.Nodes.{Node}
use Rattle.trace_arena.specs.Points.{Point, points}
use Rattle.trace_cursor.specs.declared.descent.ItemPlace.{ItemPlace}
use Rattle.trace_cursor.specs.Stacks.{frames_in, stack_of}
use Rattle.trace_cursor.specs.Pasts.{Past, plain, IsPath}
use Rattle.trace_cursor.proofs.WayLemmas.{first_of, item_at, items_there, point_there}
use Rattle.trace_variables.specs.Variables.{variables_of}
use Rattle.trace_variables.specs.Laws.{HasFrame, FramesHaveVariables}
use Rattle.macro_debugger.specs.Seen.{frames_there, part_of}
use Rattle.macro_debugger.specs.Walks.{IsFrame}

frames_are : (nodes : List (Node TraceItem)) (places : List ItemPlace) (items : List TraceItem) →
    map (item_at nodes) places ≡ map Some items → frames_there nodes places ≡ frames_in items
frames_are nodes [] [] e = refl
frames_are nodes [] (i ∷ is) e = absurd (omega (arith, ap (λ os. length os) e))
frames_are nodes (place ∷ places) [] e = absurd (omega (arith, ap (λ os. length os) e))
frames_are nodes (place ∷ places) (i ∷ is) e =
    ap (λ o. option_map_or (λ item. frames_of item.frames) o [] ++ frames_there nodes places) (ap (first_of (Some i)) e)
    ∙ ap (λ fs. frames_of i.frames ++ fs) (frames_are nodes places is (ap (drop 1) e))

frames_behind : (items : List TraceItem) (item : TraceItem) → frames_in (items ++ item ∷ []) ≡ frames_in items ++ frames_of item.frames
frames_behind [] item = append-nil (frames_of item.frames)
frames_behind (i ∷ is) item =
    ap (λ fs. frames_of i.frames ++ fs) (frames_behind is item) ∙ sym (append_assoc (frames_of i.frames) (frames_in is) (frames_of item.frames))

module _ (nodes : List (Node TraceItem)) (root index : ℕ) (places : List ItemPlace) (path : IsPath nodes root index places) where
  stack_is : frames_there nodes places ≡ stack_of (plain path.point)
  stack_is =
      frames_are nodes places (map (λ (p : Past TraceItem). p.item) (path.point.calls ++ path.point.item ∷ []))
      (items_there nodes places (path.point.calls ++ path.point.item ∷ []) path.same)
      ∙ ap frames_in (map-append (λ (p : Past TraceItem). p.item) path.point.calls (path.point.item ∷ []))
      ∙ frames_behind (map (λ (p : Past TraceItem). p.item) path.point.calls) path.point.item.item

  pub stack_there : option_map stack_of (slice_get (points nodes root) index) ≡ Some (frames_there nodes places)
  stack_there = ap (option_map stack_of) (point_there nodes root index places path) ∙ ap Some (sym stack_is)

-- a frame of a point has variables
frame_of : (o : Option (Point TraceItem)) (frame : ℕ) → IsFrame (option_map stack_of o) frame → HasFrame o frame
frame_of None frame is = is
frame_of (Some point) frame is = is

pub frame_there : FramesHaveVariables → (trace : List (Point TraceItem)) (index frame : ℕ) →
    IsFrame (option_map stack_of (slice_get trace index)) frame → IsSome (variables_of trace index frame)
frame_there have trace index frame is = (have trace index frame).1 (frame_of (slice_get trace index) frame is)

-- a part of what is shown
pub part_there : (globals : Bool) (o : Option (List Variable)) (all part : List Variable) → Some all ≡ o →
    part ≡ filter (λ v. beq v.global globals) all → option_map (filter (λ v. beq v.global globals)) o ≡ Some part
part_there globals o all part shown is =
    ap (option_map (filter (λ v. beq v.global globals))) (sym shown) ∙ ap Some (sym is)

-- the part of variables that is wanted
part_or : (b : Bool) (v : Variable) (vs : List Variable) → (if b then v ∷ [] else []) ++ vs ≡ (if b then v ∷ vs else vs)
part_or true v vs = refl
part_or false v vs = refl

parts : (globals : Bool) (vs : List Variable) → flat_map (part_of globals) vs ≡ filter (λ v. beq v.global globals) vs
parts globals [] = refl
parts globals (v ∷ vs) =
    ap (λ rest. part_of globals v ++ rest) (parts globals vs) ∙ part_or (beq v.global globals) v (filter (λ v. beq v.global globals) vs)

pub all_parts : (globals : Bool) (n : ℕ) (vs : List Variable) → length vs ≤ n →
    flat_map (part_of globals) (take n vs) ≡ filter (λ v. beq v.global globals) vs
all_parts globals n vs all = ap (flat_map (part_of globals)) (take_all n vs all) ∙ parts globals vs
