-- How many frames stand round a point.
use Rattle.std.proofs.Common.{◌≡◌, ℕ, zero, suc, ◌+◌, ◌-◌, List, [], ◌∷◌, ◌++◌, length, map, append_assoc, take, drop, Some, refl, sym, ap, ◌∙◌, arith, zero-add}
use Rattle.std.specs.Prelude.{slice_get}
use Rattle.std.specs.Option.{option_to_list}
use Rattle.std.proofs.lemmas.Option.{none-some}
use Rattle.std.proofs.lemmas.List.{length-append, map-append}
use Rattle.trace_values.specs.CallFrames.{frames_of}
use Rattle.trace_values.specs.declared.item.TraceItem.{TraceItem}
use Rattle.hl_base.specs.declared.place.Frame.{Frame}
use Rattle.trace_arena.specs.Nodes.{Node}
use Rattle.trace_arena.specs.Points.{Point, points, within, last_before}
use Rattle.trace_arena.specs.Changes.{Links, last_item}
use Rattle.trace_cursor.specs.Stacks.{frames_in, stack_of, counted}

pub frames_both : (xs ys : List TraceItem) → length (frames_in (xs ++ ys)) ≡ length (frames_in xs) + length (frames_in ys)
frames_both [] ys = sym (zero-add (length (frames_in ys)))
frames_both (x ∷ xs) ys =
    omega (
      arith,
      length-append (frames_of x.frames) (frames_in (xs ++ ys)),
      length-append (frames_of x.frames) (frames_in xs),
      frames_both xs ys,
    )

last_behind : {X : Type 0} (xs : List X) (k : ℕ) (x : X) → slice_get xs k ≡ Some x → drop k (take (suc k) xs) ≡ x ∷ []
last_behind [] k x e = absurd (none-some x e)
last_behind (y ∷ ys) zero x e = ap option_to_list e
last_behind (y ∷ ys) (suc k) x e = last_behind ys k x e

-- the last of so many items is one
pub last_is : {X : Type 0} (xs : List X) (k : ℕ) (x : X) → slice_get xs k ≡ Some x → last_before (suc k) xs ≡ x ∷ []
last_is xs k x e =
    let less : suc k - 1 ≡ k = omega arith in
    ap (λ n. drop n (take (suc k) xs)) less ∙ last_behind xs k x e

pub frames_last : (items : List TraceItem) (k : ℕ) (item : TraceItem) → slice_get items k ≡ Some item →
    length (frames_of item.frames) ≡ length (frames_in (last_before (suc k) items))
frames_last items k item e =
    omega (arith, ap (λ is. length (frames_in is)) (last_is items k item e), length-append (frames_of item.frames) [])

pub more_counted : (outer frames total : ℕ) → outer ≡ counted total → counted (outer + frames) ≡ counted (total + frames)
more_counted outer frames total e = omega (arith, e)

frames_joined : (xs ys : List TraceItem) → frames_in (xs ++ ys) ≡ frames_in xs ++ frames_in ys
frames_joined [] ys = refl
frames_joined (x ∷ xs) ys = ap (λ fs. frames_of x.frames ++ fs) (frames_joined xs ys) ∙ sym (append_assoc (frames_of x.frames) (frames_in xs) (frames_in ys))

stacks_within : (calls : List TraceItem) (ps : List (Point TraceItem)) →
    map stack_of (map (within calls) ps) ≡ map (λ (stack : List Frame). frames_in calls ++ stack) (map stack_of ps)
stacks_within calls [] = refl
stacks_within calls (p ∷ ps) =
    ap (λ fs. (fs ++ frames_of p.item.frames) ∷ map stack_of (map (within calls) ps)) (frames_joined calls p.calls)
    ∙ ap (λ fs. fs ∷ map stack_of (map (within calls) ps)) (append_assoc (frames_in calls) (frames_in p.calls) (frames_of p.item.frames))
    ∙ ap (λ ss. (frames_in calls ++ (frames_in p.calls ++ frames_of p.item.frames)) ∷ ss) (stacks_within calls ps)

-- the stacks of a node's points where it is linked
pub linked_stacks : (old new : List (Node TraceItem)) (parent child : ℕ) → Links old new parent child →
    map stack_of (points new parent) ≡ map stack_of (points old parent) ++ map (λ (stack : List Frame). frames_in (last_item old parent) ++ stack) (map stack_of (points old child))
linked_stacks old new parent child l =
    ap (map stack_of) l.points
    ∙ map-append stack_of (points old parent) (map (within (last_item old parent)) (points old child))
    ∙ ap (λ ss. map stack_of (points old parent) ++ ss) (stacks_within (last_item old parent) (points old child))
