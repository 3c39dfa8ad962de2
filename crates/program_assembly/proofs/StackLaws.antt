-- The whole stack of a point, from the places of its items.
use Rattle.std.proofs.Common.{◌≡◌, ℕ, zero, suc, ◌+◌, ◌-◌, true, false, ◌&&◌, List, [], ◌∷◌, ◌++◌, length, map, Some, refl, sym, ap, ◌∙◌, arith, append_assoc, append-nil, length-append}
use Rattle.std.specs.Prelude.{slice_get, unwrap_or, drop}
use Rattle.std.specs.List.{flat_map}
use Rattle.std.specs.Option.{option_map, option_map_or}
use Rattle.std.proofs.lemmas.List.{length-map, map-append}
use Rattle.std.proofs.lemmas.Option.{none-some}
use Rattle.note_rows.specs.Table.{line}
use Rattle.note_rows.specs.declared.row.Row.TheVariants.{BranchLimit}
use Rattle.trace_values.specs.CallFrames.{frames_of}
use Rattle.trace_values.specs.declared.item.TraceItem.{TraceItem}
use Rattle.trace_arena.specs.Nodes.{Node, node_at}
use Rattle.trace_arena.specs.Points.{Point, points}
use Rattle.trace_cursor.specs.Stacks.{frames_in}
use Rattle.trace_cursor.specs.declared.descent.ItemPlace.{ItemPlace}
use Rattle.trace_cursor.specs.Pasts.{Past, pasts, traced, plain, past_at, IsPath}
use Rattle.trace_cursor.proofs.PathLemmas.{traced_at}
use Rattle.trace_cursor.proofs.TracedLemmas.{points_plain}
use Rattle.program_assembly.specs.PointNotes.{stack_at}
use Rattle.program_assembly.specs.Stacks.{frames_there}
use Rattle.program_assembly.specs.Notes.{has_code, is_outer, is_limited, ends_limited}
use Rattle.program_assembly.proofs.ListLaws.{get-map}

abbrev pub item_in : Past TraceItem → TraceItem
item_in past = past.item

-- an item that knows those before it is the item
past_item : (before items : List TraceItem) (k : ℕ) (past : Past TraceItem) → slice_get (pasts before items) k ≡ Some past → slice_get items k ≡ Some past.item
past_item before [] k past e = absurd (none-some past e)
past_item before (i ∷ is) zero past e = ap (option_map item_in) e
past_item before (i ∷ is) (suc k) past e = past_item (before ++ i ∷ []) is k past e

pub there_item : (nodes : List (Node TraceItem)) (place : ItemPlace) (past : Past TraceItem) → past_at nodes place ≡ Some past →
    slice_get (node_at nodes place.node.0).items place.at ≡ Some past.item
there_item nodes place past e =
    past_item [] (node_at nodes place.node.0).items place.at past (ap (λ n. slice_get n.items place.at) (sym (traced_at nodes place.node.0)) ∙ e)

frames_there-past : (nodes : List (Node TraceItem)) (place : ItemPlace) (past : Past TraceItem) → past_at nodes place ≡ Some past →
    frames_there nodes place ≡ frames_of past.item.frames
frames_there-past nodes place past e = ap (λ o. option_map_or (λ (item : TraceItem). frames_of item.frames) o []) (there_item nodes place past e)

abbrev first_of : {X : Type 0} → X → List X → X
first_of d [] = d
first_of d (x ∷ xs) = x

-- the frames of the items at places, in turn
all_frames : (nodes : List (Node TraceItem)) (places : List ItemPlace) (ps : List (Past TraceItem)) → map (past_at nodes) places ≡ map Some ps →
    flat_map (frames_there nodes) places ≡ frames_in (map item_in ps)
all_frames nodes [] [] e = refl
all_frames nodes [] (p ∷ ps) e = absurd (omega (arith, ap (λ xs. length xs) e))
all_frames nodes (q ∷ qs) [] e = absurd (omega (arith, ap (λ xs. length xs) e))
all_frames nodes (q ∷ qs) (p ∷ ps) e =
    ap (λ fs. fs ++ flat_map (frames_there nodes) qs) (frames_there-past nodes q p (ap (first_of (Some p)) e))
    ∙ ap (λ fs. frames_of p.item.frames ++ fs) (all_frames nodes qs ps (ap (drop 1) e))

frames_in-append : (calls : List TraceItem) (item : TraceItem) → frames_in (calls ++ item ∷ []) ≡ frames_in calls ++ frames_of item.frames
frames_in-append [] item = append-nil (frames_of item.frames)
frames_in-append (c ∷ calls) item =
    ap (λ fs. frames_of c.frames ++ fs) (frames_in-append calls item) ∙ sym (append_assoc (frames_of c.frames) (frames_in calls) (frames_of item.frames))

-- the point of a path
pub point_is : (nodes : List (Node TraceItem)) (root index : ℕ) (places : List ItemPlace) (path : IsPath nodes root index places) →
    slice_get (points nodes root) index ≡ Some (plain path.point)
point_is nodes root index places path =
    ap (λ ps. slice_get ps index) (sym (points_plain nodes root)) ∙ get-map plain (points (traced nodes) root) index ∙ ap (option_map plain) path.found

-- the frames of the items of a path are the whole stack of its point
pub path_stack : (nodes : List (Node TraceItem)) (root index : ℕ) (places : List ItemPlace) → IsPath nodes root index places →
    flat_map (frames_there nodes) places ≡ stack_at (slice_get (points nodes root) index)
path_stack nodes root index places path =
    all_frames nodes places (path.point.calls ++ path.point.item ∷ []) path.same
    ∙ ap frames_in (map-append item_in path.point.calls (path.point.item ∷ []))
    ∙ frames_in-append (map item_in path.point.calls) path.point.item.item
    ∙ sym (ap stack_at (point_is nodes root index places path))

-- the last of some points tells whether the branch limit ended open code
some_same : (x y : Point TraceItem) → Some x ≡ Some y → x ≡ y
some_same x y e = ap (λ o. unwrap_or o x) e

pub ends_limited-last : (ps : List (Point TraceItem)) (p : Point TraceItem) → slice_get ps (length ps - 1) ≡ Some p → ends_limited ps ≡ is_limited p
ends_limited-last [] p e = absurd (none-some p e)
ends_limited-last (x ∷ []) p e = ap is_limited (some_same x p e)
ends_limited-last (x ∷ y ∷ rest) p e =
    let place : suc (suc (length rest)) - 1 ≡ suc (length rest) = omega arith in
    let here : suc (length rest) - 1 ≡ length rest = omega arith in
    let next = rw place at e in
    ends_limited-last (y ∷ rest) p (rw here next)

-- a point of several places stands in a call
long_path : (nodes : List (Node TraceItem)) (places : List ItemPlace) (calls : List (Past TraceItem)) (item : Past TraceItem) →
    map (past_at nodes) places ≡ map Some (calls ++ item ∷ []) → length places ≡ length calls + 1
long_path nodes places calls item e =
    let lengths : length (map (past_at nodes) places) ≡ length (map Some (calls ++ item ∷ [])) = ap (λ xs. length xs) e in
    let left = length-map places (past_at nodes) in
    let right = length-map (calls ++ item ∷ []) (λ (p : Past TraceItem). Some p) in
    let both = length-append calls (item ∷ []) in
    omega (arith, lengths, left, right, both)

is_outer-calls : (calls : List (Past TraceItem)) → ¬ (length calls + 1 ≡ 1) → is_outer (map item_in calls) ≡ false
is_outer-calls [] more = absurd (more (omega arith))
is_outer-calls (c ∷ calls) more = refl

pub within_call : (nodes : List (Node TraceItem)) (root index : ℕ) (places : List ItemPlace) (path : IsPath nodes root index places) →
    ¬ (length places ≡ 1) → is_limited (plain path.point) ≡ false
within_call nodes root index places path more =
    let long = long_path nodes places path.point.calls path.point.item path.same in
    ap (λ outer. outer && has_code (line BranchLimit).code path.point.item.item.notes)
    (is_outer-calls path.point.calls (λ one. more (long ∙ one)))

outer_calls : (nodes : List (Node TraceItem)) (places : List ItemPlace) (calls : List (Past TraceItem)) (item : Past TraceItem) (place : ItemPlace) →
    places ≡ place ∷ [] → map (past_at nodes) places ≡ map Some (calls ++ item ∷ []) → (is_outer (map item_in calls) ≡ true) × (past_at nodes place ≡ Some item)
outer_calls nodes places [] item place one e =
    (refl, ap (λ ps. first_of (past_at nodes place) (map (past_at nodes) ps)) (sym one) ∙ ap (first_of (past_at nodes place)) e)
outer_calls nodes places (c ∷ calls) item place one e =
    absurd (let long = long_path nodes places (c ∷ calls) item e in let short = ap (λ ps. length ps) one in omega (arith, long, short))

pub in_open_code : (nodes : List (Node TraceItem)) (root index : ℕ) (places : List ItemPlace) (path : IsPath nodes root index places) (place : ItemPlace) →
    places ≡ place ∷ [] → (is_limited (plain path.point) ≡ has_code (line BranchLimit).code path.point.item.item.notes)
    × (slice_get (node_at nodes place.node.0).items place.at ≡ Some path.point.item.item)
in_open_code nodes root index places path place one =
    let outer = outer_calls nodes places path.point.calls path.point.item place one path.same in (
      ap (λ out. out && has_code (line BranchLimit).code path.point.item.item.notes) outer.0,
      there_item nodes place path.point.item outer.1,
    )
