-- Where a point of a node stands: among the node's own items, or among the points of a linked node.
use Rattle.std.proofs.Common.{◌≡◌, ℕ, zero, suc, ◌+◌, ◌-◌, ◌<◌, ◌≤◌, List, [], ◌∷◌, ◌++◌, length, map, take, drop, refl, sym, ap, subst, ◌∙◌, arith}
use Rattle.std.specs.Prelude.{slice_get}
use Rattle.std.specs.Option.{option_map}
use Rattle.std.proofs.lemmas.List.{length-map}
use Rattle.trace_arena.specs.declared.node.Link.{Link}
use Rattle.trace_arena.specs.Nodes.{leads}
use Rattle.trace_arena.specs.Points.{Point, own, within, last_before, weave}
use Rattle.trace_arena.specs.Whole.{IsPlaced}
use Rattle.trace_arena.proofs.LinkLemmas.{leads_first, leads_rest}
use Rattle.trace_arena.proofs.PointLemmas.{placed_within}
use Rattle.trace_cursor.specs.Places.{link_at, gap_start, gap_stop, gap_before}

pub get_left : {X : Type 0} (xs ys : List X) (k : ℕ) → k < length xs → slice_get (xs ++ ys) k ≡ slice_get xs k
get_left [] ys k lt = absurd (omega arith)
get_left (x ∷ xs) ys zero lt = refl
get_left (x ∷ xs) ys (suc k) lt = get_left xs ys k (omega arith)

get_right : {X : Type 0} (xs ys : List X) (k j : ℕ) → k ≡ length xs + j → slice_get (xs ++ ys) k ≡ slice_get ys j
get_right [] ys k j e = ap (slice_get ys) (omega (arith, e))
get_right (x ∷ xs) ys zero j e = absurd (omega (arith, e))
get_right (x ∷ xs) ys (suc k) j e = get_right xs ys k j (omega (arith, e))

get_take : {X : Type 0} (n : ℕ) (xs : List X) (k : ℕ) → k < n → slice_get (take n xs) k ≡ slice_get xs k
get_take zero xs k lt = absurd (omega arith)
get_take (suc n) [] k lt = refl
get_take (suc n) (x ∷ xs) zero lt = refl
get_take (suc n) (x ∷ xs) (suc k) lt = get_take n xs k (omega arith)

get_drop : {X : Type 0} (n : ℕ) (xs : List X) (k : ℕ) → slice_get (drop n xs) k ≡ slice_get xs (n + k)
get_drop zero xs k =
    let e : k ≡ 0 + k = omega arith in
    ap (slice_get xs) e
get_drop (suc n) [] k = refl
get_drop (suc n) (x ∷ xs) k =
    let e : suc (n + k) ≡ suc n + k = omega arith in
    get_drop n xs k ∙ ap (slice_get (x ∷ xs)) e

pub get_map : {X Y : Type 0} (f : X → Y) (xs : List X) (k : ℕ) → slice_get (map f xs) k ≡ option_map f (slice_get xs k)
get_map f [] k = refl
get_map f (x ∷ xs) zero = refl
get_map f (x ∷ xs) (suc k) = get_map f xs k

length-taken : {X : Type 0} (n from : ℕ) (xs : List X) → from + n ≤ length xs → length (take n (drop from xs)) ≡ n
length-taken n zero xs le = length_front n xs (omega arith)
  where
    length_front : {X : Type 0} (n : ℕ) (xs : List X) → n ≤ length xs → length (take n xs) ≡ n
    length_front zero xs le = refl
    length_front (suc n) [] le = absurd (omega arith)
    length_front (suc n) (x ∷ xs) le = ap suc (length_front n xs (omega arith))
length-taken zero (suc from) [] le = refl
length-taken (suc n) (suc from) [] le = absurd (omega arith)
length-taken n (suc from) (x ∷ xs) le = length-taken n from xs (omega arith)

module _ {I : Type 0} (f : ℕ → List (Point I)) (total : ℕ → ℕ) (long : (c : ℕ) → length (f c) ≡ total c) (items : List I) where
  woven : (from : ℕ) (l : Link) (ls : List Link) → weave f from items (l ∷ ls)
      ≡ map own (take (l.at - from) (drop from items)) ++ (map (within (last_before l.at items)) (f l.child.0) ++ weave f l.at items ls)
  unfolding weave
  woven from l ls = refl

  woven_none : (from : ℕ) → weave f from items [] ≡ map own (drop from items)
  unfolding weave
  woven_none from = refl

  front_length : (from before whole : ℕ) (l : Link) (ls : List Link) → IsPlaced total from before (length items) whole (l ∷ ls) →
      length (map own (take (l.at - from) (drop from items))) ≡ l.at - from
  front_length from before whole l ls placed =
      let end : l.at ≤ length items = placed_within total l.at (l.before + total l.child.0) (length items) whole ls placed.2 in
      length-map (take (l.at - from) (drop from items)) own ∙ length-taken (l.at - from) from items (omega (arith, placed.0, end))

  child_length : (l : Link) → length (map (within (last_before l.at items)) (f l.child.0)) ≡ total l.child.0
  child_length l = length-map (f l.child.0) (within (last_before l.at items)) ∙ long l.child.0

  in_front : (from before whole : ℕ) (l : Link) (ls : List Link) (j : ℕ) → IsPlaced total from before (length items) whole (l ∷ ls) →
      from + j < l.at → slice_get (weave f from items (l ∷ ls)) j ≡ option_map own (slice_get items (from + j))
  in_front from before whole l ls j placed lt =
      ap (λ ps. slice_get ps j) (woven from l ls)
      ∙ get_left (map own (take (l.at - from) (drop from items))) _ j (omega (arith, front_length from before whole l ls placed, lt))
      ∙ get_map own (take (l.at - from) (drop from items)) j
      ∙ ap (option_map own) (get_take (l.at - from) (drop from items) j (omega (arith, lt)) ∙ get_drop from items j)

  in_child : (from before whole : ℕ) (l : Link) (ls : List Link) (rest j : ℕ) → IsPlaced total from before (length items) whole (l ∷ ls) →
      before + rest ≡ l.before + j → j < total l.child.0 →
      slice_get (weave f from items (l ∷ ls)) rest ≡ option_map (within (last_before l.at items)) (slice_get (f l.child.0) j)
  in_child from before whole l ls rest j placed e lt =
      ap (λ ps. slice_get ps rest) (woven from l ls)
      ∙ get_right (map own (take (l.at - from) (drop from items))) _ rest j
      (omega (arith, front_length from before whole l ls placed, placed.0, placed.1, e))
      ∙ get_left (map (within (last_before l.at items)) (f l.child.0)) _ j (omega (arith, child_length l, lt))
      ∙ get_map (within (last_before l.at items)) (f l.child.0) j

  behind_child : (from before whole : ℕ) (l : Link) (ls : List Link) (rest j : ℕ) → IsPlaced total from before (length items) whole (l ∷ ls) →
      before + rest ≡ l.before + total l.child.0 + j →
      slice_get (weave f from items (l ∷ ls)) rest ≡ slice_get (weave f l.at items ls) j
  behind_child from before whole l ls rest j placed e =
      ap (λ ps. slice_get ps rest) (woven from l ls)
      ∙ get_right (map own (take (l.at - from) (drop from items))) _ rest (total l.child.0 + j)
      (omega (arith, front_length from before whole l ls placed, placed.0, placed.1, e))
      ∙ get_right (map (within (last_before l.at items)) (f l.child.0)) _ (total l.child.0 + j) j (omega (arith, child_length l))

  -- no later link has fewer points before it, and what it leads to ends with the whole at the latest
  pub befores_rise : (from before whole : ℕ) (links : List Link) (k : ℕ) → IsPlaced total from before (length items) whole links →
      k < length links → (before ≤ (link_at links k).before) × ((link_at links k).before + total (link_at links k).child.0 ≤ whole)
  befores_rise from before whole [] k placed lt = absurd (omega arith)
  befores_rise from before whole (l ∷ ls) zero placed lt =
      (omega (arith, placed.1), ends_within l.at (l.before + total l.child.0) whole ls placed.2)
    where
      ends_within : (from before whole : ℕ) (links : List Link) → IsPlaced total from before (length items) whole links → before ≤ whole
      ends_within from before whole [] placed = omega (arith, placed.1)
      ends_within from before whole (l ∷ ls) placed =
          omega (arith, placed.1, ends_within l.at (l.before + total l.child.0) whole ls placed.2)
  befores_rise from before whole (l ∷ ls) (suc k) placed lt =
      let later = befores_rise l.at (l.before + total l.child.0) whole ls k placed.2 (omega arith) in
      (omega (arith, placed.1, later.0), later.1)

  -- the items before a link are points before it
  pub at_before : (from before whole : ℕ) (links : List Link) (k : ℕ) → IsPlaced total from before (length items) whole links →
      from ≤ before → k < length links → (link_at links k).at ≤ (link_at links k).before
  at_before from before whole [] k placed le lt = absurd (omega arith)
  at_before from before whole (l ∷ ls) zero placed le lt = omega (arith, placed.0, placed.1, le)
  at_before from before whole (l ∷ ls) (suc k) placed le lt =
      at_before l.at (l.before + total l.child.0) whole ls k placed.2 (omega (arith, placed.0, placed.1, le)) (omega arith)

  -- no link stands past the end of the items
  pub at_within : (from before whole : ℕ) (links : List Link) (k : ℕ) → IsPlaced total from before (length items) whole links →
      k < length links → (link_at links k).at ≤ length items
  at_within from before whole [] k placed lt = absurd (omega arith)
  at_within from before whole (l ∷ ls) zero placed lt =
      placed_within total l.at (l.before + total l.child.0) (length items) whole ls placed.2
  at_within from before whole (l ∷ ls) (suc k) placed lt =
      at_within l.at (l.before + total l.child.0) whole ls k placed.2 (omega arith)

  -- the points of the child of a link
  pub child_run : (from before whole : ℕ) (links : List Link) (k rest j : ℕ) → IsPlaced total from before (length items) whole links →
      k < length links → before + rest ≡ (link_at links k).before + j → j < total (link_at links k).child.0 →
      slice_get (weave f from items links) rest
      ≡ option_map (within (last_before (link_at links k).at items)) (slice_get (f (link_at links k).child.0) j)
  child_run from before whole [] k rest j placed lt e small = absurd (omega arith)
  child_run from before whole (l ∷ ls) zero rest j placed lt e small = in_child from before whole l ls rest j placed e small
  child_run from before whole (l ∷ ls) (suc k) rest j placed lt e small =
      let rise = befores_rise l.at (l.before + total l.child.0) whole ls k placed.2 (omega arith) in
      let next = (link_at ls k).before + j - (l.before + total l.child.0) in
      behind_child from before whole l ls rest next placed (omega (arith, e, rise.0))
      ∙ child_run l.at (l.before + total l.child.0) whole ls k next j placed.2 (omega arith) (omega (arith, rise.0)) small

  -- the items behind so many links
  pub gap_run : (from before whole : ℕ) (links : List Link) (count rest j : ℕ) → IsPlaced total from before (length items) whole links →
      count ≤ length links → before + rest ≡ gap_before total before links count + j →
      gap_start from links count + j < gap_stop (length items) links count →
      slice_get (weave f from items links) rest ≡ option_map own (slice_get items (gap_start from links count + j))
  gap_run from before whole [] count rest j placed le e lt =
      let same : rest ≡ j = omega (arith, e) in
      ap (λ ps. slice_get ps rest) (woven_none from)
      ∙ get_map own (drop from items) rest ∙ ap (option_map own) (get_drop from items rest ∙ ap (λ n. slice_get items (from + n)) same)
  gap_run from before whole (l ∷ ls) zero rest j placed le e lt =
      let same : j ≡ rest = omega (arith, e) in
      subst (λ n. slice_get (weave f from items (l ∷ ls)) n ≡ option_map own (slice_get items (from + j))) same
      (in_front from before whole l ls j placed lt)
  gap_run from before whole (l ∷ ls) (suc count) rest j placed le e lt =
      let rise : l.before + total l.child.0 ≤ gap_before total (l.before + total l.child.0) ls count =
      gap_rises l.at (l.before + total l.child.0) whole ls count placed.2 in
      let next = gap_before total (l.before + total l.child.0) ls count + j - (l.before + total l.child.0) in
      behind_child from before whole l ls rest next placed (omega (arith, e, rise))
      ∙ gap_run l.at (l.before + total l.child.0) whole ls count next j placed.2 (omega arith) (omega (arith, rise)) lt
    where
      gap_rises : (from before whole : ℕ) (links : List Link) (count : ℕ) → IsPlaced total from before (length items) whole links →
          before ≤ gap_before total before links count
      gap_rises from before whole [] count placed = omega arith
      gap_rises from before whole (l ∷ ls) zero placed = omega arith
      gap_rises from before whole (l ∷ ls) (suc count) placed =
          omega (arith, placed.1, gap_rises l.at (l.before + total l.child.0) whole ls count placed.2)

  -- where the items behind so many links begin and end
  pub record Gap (from before whole : ℕ) (links : List Link) (count : ℕ) : Type 0 where
    pub rises : gap_start from links count ≤ gap_stop (length items) links count
    pub ends : gap_stop (length items) links count ≤ length items
    pub next : count < length links → (link_at links count).before
        ≡ gap_before total before links count + (gap_stop (length items) links count - gap_start from links count)
    pub last : count ≡ length links →
        whole ≡ gap_before total before links count + (gap_stop (length items) links count - gap_start from links count)
    pub room : gap_before total before links count + (gap_stop (length items) links count - gap_start from links count) ≤ whole

  whole_rises : (from before whole : ℕ) (links : List Link) → IsPlaced total from before (length items) whole links → before ≤ whole
  whole_rises from before whole [] placed = omega (arith, placed.1)
  whole_rises from before whole (l ∷ ls) placed =
      omega (arith, placed.1, whole_rises l.at (l.before + total l.child.0) whole ls placed.2)

  pub gap_is : (from before whole : ℕ) (links : List Link) (count : ℕ) → IsPlaced total from before (length items) whole links →
      count ≤ length links → Gap from before whole links count
  gap_is from before whole [] (suc count) placed le = absurd (omega arith)
  gap_is from before whole [] zero placed le = record {
    rises = placed.0;
    ends = omega arith;
    next = λ n. absurd (omega (arith, n));
    last = λ e. sym placed.1;
    room = omega (arith, placed.1);
  }
  gap_is from before whole (l ∷ ls) zero placed le = record {
    rises = placed.0;
    ends = placed_within total l.at (l.before + total l.child.0) (length items) whole ls placed.2;
    next = λ n. placed.1;
    last = λ e. absurd (omega (arith, e));
    room = omega (arith, placed.1, whole_rises l.at (l.before + total l.child.0) whole ls placed.2);
  }
  gap_is from before whole (l ∷ ls) (suc count) placed le =
      let later = gap_is l.at (l.before + total l.child.0) whole ls count placed.2 (omega arith) in
      record {
        rises = later.rises;
        ends = later.ends;
        next = λ n. later.next (omega (arith, n));
        last = λ e. later.last (omega (arith, e));
        room = later.room;
      }

  -- before the first link, and behind another one
  pub gap_none : (from before : ℕ) (links : List Link) → (gap_start from links 0 ≡ from) × (gap_before total before links 0 ≡ before)
  gap_none from before [] = (refl, refl)
  gap_none from before (l ∷ ls) = (refl, refl)

  pub gap_some : (from before : ℕ) (links : List Link) (k : ℕ) → k < length links → (gap_start from links (suc k) ≡ (link_at links k).at)
      × (gap_before total before links (suc k) ≡ (link_at links k).before + total (link_at links k).child.0)
  gap_some from before [] k lt = absurd (omega arith)
  gap_some from before (l ∷ ls) zero lt = gap_none l.at (l.before + total l.child.0) ls
  gap_some from before (l ∷ ls) (suc k) lt = gap_some l.at (l.before + total l.child.0) ls k (omega arith)

  -- a link is one
  pub link_leads : (links : List Link) (k : ℕ) → k < length links → 0 < leads (link_at links k).child.0 links
  link_leads [] k lt = absurd (omega arith)
  link_leads (l ∷ ls) zero lt = leads_first l ls
  link_leads (l ∷ ls) (suc k) lt = leads_rest (link_at ls k).child.0 l ls (link_leads ls k (omega arith))

-- where the next link stands, or where there is none
pub stop_found : (end : ℕ) (links : List Link) (count : ℕ) → count < length links → (link_at links count).at ≡ gap_stop end links count
stop_found end [] count lt = absurd (omega arith)
stop_found end (x ∷ xs) zero lt = refl
stop_found end (x ∷ xs) (suc count) lt = stop_found end xs count (omega arith)

pub stop_none : (end : ℕ) (links : List Link) (count : ℕ) → length links ≤ count → end ≡ gap_stop end links count
stop_none end [] count le = refl
stop_none end (x ∷ xs) zero le = absurd (omega arith)
stop_none end (x ∷ xs) (suc count) le = stop_none end xs count (omega arith)
