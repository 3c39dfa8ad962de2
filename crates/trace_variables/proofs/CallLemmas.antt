-- The places of a point, taken from the innermost one outwards.
use Rattle.std.proofs.Common.{◌≡◌, ℕ, zero, suc, ◌-◌, ◌<◌, ◌≤◌, if◌then◌else◌, nat_le, List, [], ◌∷◌, ◌++◌, length, map, Some, refl, sym, ap, ◌∙◌, arith, reverse}
use Rattle.std.specs.Prelude.{slice_get, drop}
use Rattle.std.specs.Option.{option_map_or, option_and_then}
use Rattle.std.specs.Global.{Vec}
use Rattle.std.specs.Vec.{vec_len}
use Rattle.std.proofs.lemmas.Bool.{lt-leb, le-leb}
use Rattle.std.proofs.lemmas.List.{reverse-append, length-reverse, map-append, length-map}
use Rattle.std.proofs.lemmas.Option.{none-some}
use Rattle.trace_values.specs.CallFrames.{frames_of}
use Rattle.trace_values.specs.declared.item.TraceItem.{TraceItem}
use Rattle.trace_arena.specs.Nodes.{Node}
use Rattle.trace_arena.specs.Points.{points}
use Rattle.trace_cursor.specs.declared.descent.ItemPlace.{ItemPlace}
use Rattle.trace_cursor.specs.Pasts.{Past, plain, IsThere, AreThere, IsPath}
use Rattle.trace_cursor.proofs.WayLemmas.{first_of, item_at, items_there, point_there}
use Rattle.trace_cursor.proofs.WeaveLemmas.{get_left}
use Rattle.trace_variables.specs.Calls.{level_among, level_of}
use Rattle.trace_variables.specs.Seen.{frames_at, level_within, level_in}

get_within : {X : Type 0} (xs : List X) (k : ℕ) (x : X) → slice_get xs k ≡ Some x → k < length xs
get_within [] k x e = absurd (none-some x e)
get_within (y ∷ ys) zero x e = omega arith
get_within (y ∷ ys) (suc k) x e = omega (arith, get_within ys k x e)

pub vec_length : {X : Type 0} (v : Vec X) → vec_len v ≡ length v.items
vec_length v = v.ok.0

get_last : {X : Type 0} (xs : List X) (x : X) → slice_get (xs ++ x ∷ []) (length xs) ≡ Some x
get_last [] x = refl
get_last (y ∷ ys) x = get_last ys x

module _ (nodes : List (Node TraceItem)) (all rest : List ItemPlace) (place : ItemPlace) (popped : all ≡ rest ++ place ∷ []) where
  pub last_there : AreThere nodes all → IsThere nodes place
  last_there there = there (length rest) place (ap (λ ps. slice_get ps (length rest)) popped ∙ get_last rest place)

  pub rest_there : AreThere nodes all → AreThere nodes rest
  rest_there there k p e =
      there k p (ap (λ ps. slice_get ps k) popped ∙ get_left rest (place ∷ []) k (get_within rest k p e) ∙ e)

  inward : reverse all ≡ place ∷ reverse rest
  inward = ap (λ ps. reverse ps) popped ∙ reverse-append rest (place ∷ [])

  pub level_found : (left count : ℕ) → count ≡ frames_at nodes place → left ≤ count →
      Some (length rest) ≡ level_within nodes left (reverse all)
  level_found left count e le =
      sym
      (ap (level_within nodes left) inward
      ∙ ap (λ b. if b then Some (length (reverse rest)) else level_within nodes (left - frames_at nodes place) (reverse rest))
      (le-leb left (frames_at nodes place) (omega (arith, e, le)))
      ∙ ap Some (length-reverse rest))

  pub level_on : (left count : ℕ) → count ≡ frames_at nodes place → count < left →
      level_within nodes left (reverse all) ≡ level_within nodes (left - count) (reverse rest)
  level_on left count e more =
      ap (level_within nodes left) inward
      ∙ ap (λ b. if b then Some (length (reverse rest)) else level_within nodes (left - frames_at nodes place) (reverse rest))
      (lt-leb left (frames_at nodes place) (omega (arith, e, more)))
      ∙ ap (λ n. level_within nodes (left - n) (reverse rest)) (sym e)

map_reverse : {X Y : Type 0} (f : X → Y) (xs : List X) → map f (reverse xs) ≡ reverse (map f xs)
map_reverse f [] = refl
map_reverse f (x ∷ xs) =
    ap (map f) (reverse-append (x ∷ []) xs)
    ∙ map-append f (reverse xs) (x ∷ [])
    ∙ ap (λ ys. ys ++ f x ∷ []) (map_reverse f xs)
    ∙ sym (reverse-append (f x ∷ []) (map f xs))

levels_are : (nodes : List (Node TraceItem)) (frame : ℕ) (places : List ItemPlace) (items : List TraceItem) →
    map (item_at nodes) places ≡ map Some items → level_within nodes frame places ≡ level_among frame items
levels_are nodes frame [] [] e = refl
levels_are nodes frame [] (i ∷ is) e = absurd (omega (arith, ap (λ os. length os) e))
levels_are nodes frame (p ∷ ps) [] e = absurd (omega (arith, ap (λ os. length os) e))
levels_are nodes frame (p ∷ ps) (i ∷ is) e =
    let here : frames_at nodes p ≡ length (frames_of i.frames) =
    ap (λ o. option_map_or (λ (item : TraceItem). length (frames_of item.frames)) o 0) (ap (first_of (Some i)) e) in
    let tail : map (item_at nodes) ps ≡ map Some is = ap (drop 1) e in
    let long : length ps ≡ length is =
    sym (length-map ps (item_at nodes)) ∙ ap (λ os. length os) tail ∙ length-map is Some in
    ap (λ n. if nat_le frame n then Some (length ps) else level_within nodes (frame - n) ps) here
    ∙ ap (λ n. if nat_le frame (length (frames_of i.frames)) then Some n else level_within nodes (frame - length (frames_of i.frames)) ps) long
    ∙ ap (λ o. if nat_le frame (length (frames_of i.frames)) then Some (length is) else o)
    (levels_are nodes (frame - length (frames_of i.frames)) ps is tail)

-- the level of a frame is that of the frame of the point
module _ (nodes : List (Node TraceItem)) (root index : ℕ) (places : List ItemPlace) (path : IsPath nodes root index places) where
  outwards : map (item_at nodes) (reverse places) ≡ map Some ((plain path.point).item ∷ reverse (plain path.point).calls)
  outwards =
      let calls = map (λ (p : Past TraceItem). p.item) path.point.calls in
      map_reverse (item_at nodes) places
      ∙ ap (λ os. reverse os) (items_there nodes places (path.point.calls ++ path.point.item ∷ []) path.same)
      ∙ sym (map_reverse Some (map (λ (p : Past TraceItem). p.item) (path.point.calls ++ path.point.item ∷ [])))
      ∙ ap (λ is. map Some (reverse is)) (map-append (λ (p : Past TraceItem). p.item) path.point.calls (path.point.item ∷ []))
      ∙ ap (map Some) (reverse-append calls (path.point.item.item ∷ []))

  level_same : (frame : ℕ) → level_in nodes places frame ≡ level_of (plain path.point) frame
  level_same zero = refl
  level_same (suc n) = levels_are nodes (suc n) (reverse places) ((plain path.point).item ∷ reverse (plain path.point).calls) outwards

  pub level_is : (frame : ℕ) →
      level_in nodes places frame ≡ option_and_then (λ point. level_of point frame) (slice_get (points nodes root) index)
  level_is frame = level_same frame ∙ ap (option_and_then (λ point. level_of point frame)) (sym (point_there nodes root index places path))
