-- The points of a node: they are woven of its items and its children's points, and stay where these stay.
use Rattle.std.proofs.Common.{◌≡◌, ℕ, zero, suc, ◌+◌, ◌-◌, ◌<◌, ◌≤◌, List, [], ◌∷◌, ◌++◌, map, length, drop, refl, sym, ap, ◌∙◌, arith, length-drop, length-append, take}
use Rattle.std.proofs.lemmas.List.{append_assoc, append-nil, map-append, take-append-le, drop-append-le, take_rest, drop_all, length-map, length-take}
use Rattle.trace_arena.specs.declared.node.Link.{Link}
use Rattle.trace_arena.specs.declared.node.NodeId.{NodeId}
use Rattle.trace_arena.specs.Nodes.{Node, node_at, leads, IsLinked}
use Rattle.trace_arena.specs.Points.{Point, own, within, last_before, weave, points_to, points}
use Rattle.trace_arena.specs.Whole.{IsPlaced, IsWhole}
use Rattle.trace_arena.proofs.LinkLemmas.{leads_first, leads_rest}

-- what agrees on the children weaves alike
pub weave_agree : {I : Type 0} (f g : ℕ → List (Point I)) (from : ℕ) (items : List I) (links : List Link) →
    ((c : ℕ) → 0 < leads c links → f c ≡ g c) → weave f from items links ≡ weave g from items links
unfolding weave
weave_agree f g from items [] agree = refl
weave_agree f g from items (l ∷ ls) agree =
    rw (agree l.child.0 (leads_first l ls), weave_agree f g l.at items ls (λ c lt. agree c (leads_rest c l ls lt))) refl

pub weave_same : {I : Type 0} (f : ℕ → List (Point I)) (from : ℕ) (items others : List I) (links more : List Link) →
    items ≡ others → links ≡ more → weave f from items links ≡ weave f from others more
weave_same f from items others links more same_items same_links = cc

pub weave_none : {I : Type 0} (f : ℕ → List (Point I)) → weave f 0 [] [] ≡ []
unfolding weave
weave_none f = refl

-- a place is at most the end
pub placed_within : (total : ℕ → ℕ) (from before end whole : ℕ) (links : List Link) →
    IsPlaced total from before end whole links → from ≤ end
placed_within total from before end whole [] placed = placed.0
placed_within total from before end whole (l ∷ ls) placed =
    omega (arith, placed.0, placed_within total l.at (l.before + total l.child.0) end whole ls placed.2)

pub placed_agree : (t u : ℕ → ℕ) (from before end whole : ℕ) (links : List Link) →
    ((c : ℕ) → 0 < leads c links → u c ≡ t c) → IsPlaced t from before end whole links → IsPlaced u from before end whole links
placed_agree t u from before end whole [] agree placed = placed
placed_agree t u from before end whole (l ∷ ls) agree placed = (
  placed.0,
  placed.1,
  rw (agree l.child.0 (leads_first l ls))
      (placed_agree t u l.at (l.before + t l.child.0) end whole ls (λ c lt. agree c (leads_rest c l ls lt)) placed.2),
)

-- one item more
pub placed_push : (total : ℕ → ℕ) (from before end whole : ℕ) (links : List Link) →
    IsPlaced total from before end whole links → IsPlaced total from before (end + 1) (whole + 1) links
placed_push total from before end whole [] placed = (omega (arith, placed.0), omega (arith, placed.0, placed.1))
placed_push total from before end whole (l ∷ ls) placed =
    (placed.0, placed.1, placed_push total l.at (l.before + total l.child.0) end whole ls placed.2)

pub weave_push : {I : Type 0} (f : ℕ → List (Point I)) (total : ℕ → ℕ) (from before whole : ℕ) (items : List I) (links : List Link) (item : I) →
    IsPlaced total from before (length items) whole links →
    weave f from (items ++ item ∷ []) links ≡ weave f from items links ++ own item ∷ []
unfolding weave
weave_push f total from before whole items [] item placed =
    ap (map own) (drop-append-le from items (item ∷ []) placed.0) ∙ map-append own (drop from items) (item ∷ [])
weave_push f total from before whole items (l ∷ ls) item placed =
    let inside = placed_within total l.at (l.before + total l.child.0) (length items) whole ls placed.2 in
    let room : l.at - from ≤ length (drop from items) = omega (arith, length-drop from items, placed.0) in
    let start : from ≤ length items = omega (arith, placed.0) in
    rw (
      drop-append-le from items (item ∷ []) start,
      take-append-le (l.at - from) (drop from items) (item ∷ []) room,
      take-append-le l.at items (item ∷ []) inside,
      weave_push f total l.at (l.before + total l.child.0) whole items ls item placed.2,
    )
    (simp append_assoc refl)

-- one link more, behind all items
pub placed_link : (total : ℕ → ℕ) (from before end whole : ℕ) (links : List Link) (child : NodeId) →
    IsPlaced total from before end whole links →
    IsPlaced total from before end (whole + total child.0) (links ++ record { at = end; before = whole; child = child } ∷ [])
placed_link total from before end whole [] child placed =
    (placed.0, sym placed.1, (omega arith, omega arith))
placed_link total from before end whole (l ∷ ls) child placed =
    (placed.0, placed.1, placed_link total l.at (l.before + total l.child.0) end whole ls child placed.2)

pub weave_link : {I : Type 0} (f : ℕ → List (Point I)) (from : ℕ) (items : List I) (links : List Link) (l : Link) →
    l.at ≡ length items →
    weave f from items (links ++ l ∷ []) ≡ weave f from items links ++ map (within (last_before l.at items)) (f l.child.0)
unfolding weave
weave_link f from items [] l is =
    rw (is, take_rest items from, drop_all (length items) items (omega arith), append-nil) refl
weave_link f from items (k ∷ ks) l is =
    rw (weave_link f k.at items ks l is) (simp append_assoc refl)

-- any depth below which all links end gives the same points
pub points_depth : {I : Type 0} (nodes : List (Node I)) →
    ((x c : ℕ) → IsLinked nodes x c → (node_at nodes c).height < (node_at nodes x).height) →
    (d e x : ℕ) → (node_at nodes x).height < d → (node_at nodes x).height < e → points_to d nodes x ≡ points_to e nodes x
unfolding points_to
points_depth nodes below zero e x one two = absurd (omega arith)
points_depth nodes below (suc d) zero x one two = absurd (omega arith)
points_depth nodes below (suc d) (suc e) x one two =
    weave_agree (points_to d nodes) (points_to e nodes) 0 (node_at nodes x).items (node_at nodes x).links
    (λ c linked. points_depth nodes below d e c (omega (arith, below x c linked)) (omega (arith, below x c linked)))

-- the points of a node are its items with the points of its children
pub points_woven : {I : Type 0} (nodes : List (Node I)) →
    ((x c : ℕ) → IsLinked nodes x c → (node_at nodes c).height < (node_at nodes x).height) →
    (x : ℕ) → points nodes x ≡ weave (points nodes) 0 (node_at nodes x).items (node_at nodes x).links
unfolding points points_to
points_woven nodes below x =
    weave_agree (points_to (node_at nodes x).height nodes) (points nodes) 0 (node_at nodes x).items (node_at nodes x).links
    (λ c linked. points_depth nodes below (node_at nodes x).height (suc (node_at nodes c).height) c (below x c linked) (omega arith))

-- Nodes that keep their items and links, as do all their children, keep their points.
module _ {I : Type 0} (old new : List (Node I)) (S : ℕ → Type 0)
    (closed : (y c : ℕ) → S y → IsLinked new y c → S c)
    (items : (y : ℕ) → S y → (node_at new y).items ≡ (node_at old y).items)
    (links : (y : ℕ) → S y → (node_at new y).links ≡ (node_at old y).links) where
  pub points_to_keep : (d y : ℕ) → S y → points_to d new y ≡ points_to d old y
  unfolding points_to
  points_to_keep zero y s = refl
  points_to_keep (suc d) y s =
      weave_agree (points_to d new) (points_to d old) 0 (node_at new y).items (node_at new y).links
      (λ c linked. points_to_keep d c (closed y c s linked))
      ∙ weave_same (points_to d old) 0 (node_at new y).items (node_at old y).items (node_at new y).links (node_at old y).links (items y s) (links y s)

  pub points_keep : (y : ℕ) → S y → (node_at new y).height ≡ (node_at old y).height → points new y ≡ points old y
  unfolding points
  points_keep y s height =
      points_to_keep (suc (node_at new y).height) y s ∙ ap (λ h. points_to (suc h) old y) height

-- a woven list has as many points as its places say
pub weave_length : {I : Type 0} (f : ℕ → List (Point I)) (total : ℕ → ℕ) (from before whole : ℕ) (items : List I) (links : List Link) →
    ((c : ℕ) → 0 < leads c links → length (f c) ≡ total c) → IsPlaced total from before (length items) whole links →
    before + length (weave f from items links) ≡ whole
unfolding weave
weave_length f total from before whole items [] lengths placed =
    omega (arith, placed.0, placed.1, length-map (drop from items) own, length-drop from items)
weave_length f total from before whole items (l ∷ ls) lengths placed =
    let inside = placed_within total l.at (l.before + total l.child.0) (length items) whole ls placed.2 in
    let own_points = map own (take (l.at - from) (drop from items)) in
    let child_points = map (within (last_before l.at items)) (f l.child.0) in
    omega (
      arith,
      placed.0,
      placed.1,
      inside,
      length-append own_points (child_points ++ weave f l.at items ls),
      length-append child_points (weave f l.at items ls),
      length-map (take (l.at - from) (drop from items)) own,
      length-take (l.at - from) (drop from items),
      length-drop from items,
      length-map (f l.child.0) (within (last_before l.at items)),
      lengths l.child.0 (leads_first l ls),
      weave_length f total l.at (l.before + total l.child.0) whole items ls (λ c lt. lengths c (leads_rest c l ls lt)) placed.2,
    )

pub points_to_length : {I : Type 0} (nodes : List (Node I)) → IsWhole nodes → (d x : ℕ) → (node_at nodes x).height < d →
    length (points_to d nodes x) ≡ (node_at nodes x).total
unfolding points_to
points_to_length nodes whole zero x lt = absurd (omega arith)
points_to_length nodes whole (suc d) x lt =
    omega (
      arith,
      weave_length (points_to d nodes) (λ c. (node_at nodes c).total) 0 0 (node_at nodes x).total (node_at nodes x).items (node_at nodes x).links
          (λ c linked. points_to_length nodes whole d c (omega (arith, whole.below x c linked))) (whole.placed x),
    )

-- a node has as many points as it counts
pub points_length : {I : Type 0} (nodes : List (Node I)) → IsWhole nodes → (x : ℕ) → length (points nodes x) ≡ (node_at nodes x).total
unfolding points
points_length nodes whole x = points_to_length nodes whole (suc (node_at nodes x).height) x (omega arith)
