-- What stands at the places on the way to a point.
use Rattle.std.proofs.Common.{◌≡◌, ℕ, zero, suc, ◌<◌, List, [], ◌∷◌, ◌++◌, length, map, drop, Option, Some, refl, sym, ap, ◌∙◌, inl, inr, arith}
use Rattle.std.specs.Prelude.{slice_get, unwrap_or}
use Rattle.std.specs.Option.{option_map}
use Rattle.std.proofs.lemmas.Bool.{cases_lt}
use Rattle.std.proofs.lemmas.Option.{none-some, slice_get-map}
use Rattle.trace_arena.specs.Nodes.{Node, node_at}
use Rattle.trace_arena.specs.Points.{points}
use Rattle.trace_arena.specs.Whole.{IsWhole}
use Rattle.trace_cursor.specs.declared.descent.ItemPlace.{ItemPlace}
use Rattle.trace_cursor.specs.Pasts.{Past, pasts, traced, plain, past_at, IsThere, AreThere, IsPath}
use Rattle.trace_cursor.proofs.PathLemmas.{traced_at, pasts_length}
use Rattle.trace_cursor.proofs.TracedLemmas.{items_are, points_plain}

get_within : {X : Type 0} (xs : List X) (k : ℕ) (x : X) → slice_get xs k ≡ Some x → k < length xs
get_within [] k x e = absurd (none-some x e)
get_within (y ∷ ys) zero x e = omega arith
get_within (y ∷ ys) (suc k) x e = omega (arith, get_within ys k x e)

some_same : (x y : ItemPlace) → Some x ≡ Some y → x ≡ y
some_same x y e = ap (λ o. unwrap_or o x) e

abbrev pub first_of : {X : Type 0} → X → List X → X
first_of d [] = d
first_of d (x ∷ xs) = x

-- the item of a place
abbrev pub item_at : {I : Type 0} → List (Node I) → ItemPlace → Option I
item_at nodes place = slice_get (node_at nodes place.node.0).items place.at

module _ {I : Type 0} (nodes : List (Node I)) where
  -- where an item knows those before it, there is one
  past_there : IsWhole nodes → (place : ItemPlace) (past : Past I) → past_at nodes place ≡ Some past → IsThere nodes place
  past_there whole place past e =
      let inside : place.at < length (node_at nodes place.node.0).items =
      omega (
        arith,
        get_within (node_at (traced nodes) place.node.0).items place.at past e,
        ap (λ n. length n.items) (traced_at nodes place.node.0),
        pasts_length [] (node_at nodes place.node.0).items,
      ) in
      record {
        live = elim (cases_lt 0 (node_at nodes place.node.0).owners) [
          | inl live ↦ live
          | inr none ↦ absurd (omega (arith, inside, ap (λ n. length n.items) (whole.free place.node.0 (omega (arith, none)))))
        ];
        inside = inside;
      }

  same_at : (places : List ItemPlace) (ps : List (Past I)) (f : ItemPlace → Option (Past I)) →
      map f places ≡ map Some ps → (k : ℕ) (place : ItemPlace) → slice_get places k ≡ Some place →
      (past : Past I) × (f place ≡ Some past)
  same_at [] ps f same k place e = absurd (none-some place e)
  same_at (p ∷ places) [] f same k place e = absurd (omega (arith, ap (λ os. length os) same))
  same_at (p ∷ places) (q ∷ qs) f same zero place e =
      (q, ap f (sym (some_same p place e)) ∙ ap (first_of (Some q)) same)
  same_at (p ∷ places) (q ∷ qs) f same (suc k) place e = same_at places qs f (ap (drop 1) same) k place e

  pub path_there : IsWhole nodes → (root index : ℕ) (places : List ItemPlace) → IsPath nodes root index places → AreThere nodes places
  path_there whole root index places path k place e =
      let found = same_at places (path.point.calls ++ path.point.item ∷ []) (past_at nodes) path.same k place e in
      past_there whole place found.0 found.1

  item_there : (place : ItemPlace) (past : Past I) → past_at nodes place ≡ Some past → item_at nodes place ≡ Some past.item
  item_there place past e =
      let items = (node_at nodes place.node.0).items in
      ap (λ is. slice_get is place.at) (sym (items_are [] items))
      ∙ slice_get-map (λ (p : Past I). p.item) (pasts [] items) place.at
      ∙ ap (option_map (λ (p : Past I). p.item)) (ap (λ n. slice_get n.items place.at) (sym (traced_at nodes place.node.0)) ∙ e)

  -- the items of places that know those before them
  pub items_there : (places : List ItemPlace) (ps : List (Past I)) →
      map (past_at nodes) places ≡ map Some ps → map (item_at nodes) places ≡ map Some (map (λ p. p.item) ps)
  items_there [] [] e = refl
  items_there [] (q ∷ qs) e = absurd (omega (arith, ap (λ os. length os) e))
  items_there (place ∷ places) [] e = absurd (omega (arith, ap (λ os. length os) e))
  items_there (place ∷ places) (q ∷ qs) e =
      ap (λ o. o ∷ map (item_at nodes) places) (item_there place q (ap (first_of (Some q)) e))
      ∙ ap (λ os. Some q.item ∷ os) (items_there places qs (ap (drop 1) e))

  -- the point to which the way leads
  pub point_there : (root index : ℕ) (places : List ItemPlace) (path : IsPath nodes root index places) →
      slice_get (points nodes root) index ≡ Some (plain path.point)
  point_there root index places path =
      ap (λ ps. slice_get ps index) (sym (points_plain nodes root))
      ∙ slice_get-map plain (points (traced nodes) root) index
      ∙ ap (option_map plain) path.found
