-- The points of nodes whose items know those before them are the points of the nodes.
use Rattle.std.proofs.Common.{◌≡◌, ℕ, zero, suc, ◌-◌, List, [], ◌∷◌, ◌++◌, map, take, drop, refl, sym, ap, ◌∙◌}
use Rattle.std.proofs.lemmas.List.{map-append, take-map, drop-map}
use Rattle.trace_arena.specs.declared.node.Link.{Link}
use Rattle.trace_arena.specs.Nodes.{Node, node_at}
use Rattle.trace_arena.specs.Points.{Point, own, within, last_before, weave, points_to, points}
use Rattle.trace_cursor.specs.Pasts.{Past, pasts, traced, plain}
use Rattle.trace_cursor.proofs.PathLemmas.{traced_at}

pub items_are : {I : Type 0} (before items : List I) → map (λ (p : Past I). p.item) (pasts before items) ≡ items
items_are before [] = refl
items_are before (i ∷ is) = ap (λ js. i ∷ js) (items_are (before ++ i ∷ []) is)

plain_own : {I : Type 0} (ps : List (Past I)) → map plain (map own ps) ≡ map own (map (λ (p : Past I). p.item) ps)
plain_own [] = refl
plain_own (p ∷ ps) = ap (λ qs. own p.item ∷ qs) (plain_own ps)

plain_within : {I : Type 0} (calls : List (Past I)) (ps : List (Point (Past I))) →
    map plain (map (within calls) ps) ≡ map (within (map (λ (c : Past I). c.item) calls)) (map plain ps)
plain_within calls [] = refl
plain_within calls (p ∷ ps) =
    ap (λ is. record { calls = is; item = p.item.item } ∷ map plain (map (within calls) ps)) (map-append (λ c. c.item) calls p.calls)
    ∙ ap (λ qs. within (map (λ c. c.item) calls) (plain p) ∷ qs) (plain_within calls ps)

last_plain : {I : Type 0} (at : ℕ) (ps : List (Past I)) →
    map (λ (p : Past I). p.item) (last_before at ps) ≡ last_before at (map (λ (p : Past I). p.item) ps)
last_plain at ps = sym (drop-map (λ p. p.item) (at - 1) (take at ps)) ∙ ap (drop (at - 1)) (sym (take-map (λ p. p.item) at ps))

module _ {I : Type 0} (f : ℕ → List (Point (Past I))) (g : ℕ → List (Point I)) (same : (c : ℕ) → map plain (f c) ≡ g c)
    (ps : List (Past I)) (items : List I) (are : map (λ (p : Past I). p.item) ps ≡ items) where
  pub weave_plain : (from : ℕ) (links : List Link) → map plain (weave f from ps links) ≡ weave g from items links
  unfolding weave
  weave_plain from [] =
      plain_own (drop from ps) ∙ ap (map own) (sym (drop-map (λ p. p.item) from ps) ∙ ap (drop from) are)
  weave_plain from (l ∷ ls) =
      let front = take (l.at - from) (drop from ps) in
      let inner = map (within (last_before l.at ps)) (f l.child.0) in
      map-append plain (map own front) (inner ++ weave f l.at ps ls)
      ∙ ap (λ qs. qs ++ map plain (inner ++ weave f l.at ps ls))
      (plain_own front
      ∙ ap (map own) (sym (take-map (λ p. p.item) (l.at - from) (drop from ps))
      ∙ ap (take (l.at - from)) (sym (drop-map (λ p. p.item) from ps) ∙ ap (drop from) are)))
      ∙ ap (λ qs. map own (take (l.at - from) (drop from items)) ++ qs)
      (map-append plain inner (weave f l.at ps ls)
      ∙ ap (λ qs. qs ++ map plain (weave f l.at ps ls))
      (plain_within (last_before l.at ps) (f l.child.0)
      ∙ ap (λ qs. map (within (map (λ p. p.item) (last_before l.at ps))) qs) (same l.child.0)
      ∙ ap (λ is. map (within is) (g l.child.0)) (last_plain l.at ps ∙ ap (last_before l.at) are))
      ∙ ap (λ qs. map (within (last_before l.at items)) (g l.child.0) ++ qs) (weave_plain l.at ls))

levels_plain : {I : Type 0} (nodes : List (Node I)) (d x : ℕ) → map plain (points_to d (traced nodes) x) ≡ points_to d nodes x
unfolding points_to
levels_plain nodes zero x = refl
levels_plain nodes (suc d) x =
    ap (λ n. map plain (weave (points_to d (traced nodes)) 0 n.items n.links)) (traced_at nodes x)
    ∙ weave_plain (points_to d (traced nodes)) (points_to d nodes) (levels_plain nodes d) (pasts [] (node_at nodes x).items)
    (node_at nodes x).items (items_are [] (node_at nodes x).items) 0 (node_at nodes x).links

pub points_plain : {I : Type 0} (nodes : List (Node I)) (x : ℕ) → map plain (points (traced nodes) x) ≡ points nodes x
unfolding points
points_plain nodes x =
    ap (λ n. map plain (points_to (suc n.height) (traced nodes) x)) (traced_at nodes x)
    ∙ levels_plain nodes (suc (node_at nodes x).height) x
