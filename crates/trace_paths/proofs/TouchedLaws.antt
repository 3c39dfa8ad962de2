-- The paths of the own frames of points are those of all their frames, and how they are gathered.
use Rattle.std.proofs.Common.{◌≡◌, ◌⊎◌, inl, inr, ℕ, zero, suc, ◌-◌, ◌≤◌, Option, Some, None, List, [], ◌∷◌, ◌++◌, map, take, drop, refl, sym, ap, ◌∙◌, subst, arith}
use Rattle.std.specs.Prelude.{length, unwrap_or}
use Rattle.std.specs.Option.{option_map, option_map_or, MatchOption}
use Rattle.std.proofs.lemmas.Option.{none-some}
use Rattle.std.specs.List.{All, AllByRecursion, Contains, flat_map}
use Rattle.std.specs.Ordering.{nat_cmp, match_ordering}
use Rattle.std.specs.BTreeSet.{insert_key}
use Rattle.std.specs.declared.cmp.Ordering.{Ordering}
use Rattle.std.specs.declared.cmp.Ordering.TheVariants.{Less, Equal, Greater}
use Rattle.std.proofs.lemmas.List.{drop-drop, map-append}
use Rattle.std.proofs.lemmas.List.Elements.{All-from_recursion, All-weaker}
use Rattle.std.proofs.lemmas.Map.Lookups.{exact_unsigned}
use Rattle.trace_values.specs.CallFrames.{frames_of}
use Rattle.trace_values.specs.declared.item.TraceItem.{TraceItem}
use Rattle.trace_arena.specs.declared.node.Link.{Link}
use Rattle.trace_arena.specs.Nodes.{Node, node_at}
use Rattle.trace_arena.specs.Points.{Point, own, within, last_before, weave, points_to, points}
use Rattle.trace_cursor.specs.Stacks.{frames_in}
use Rattle.trace_paths.specs.Touched.{frame_path, stack_paths, all_paths}
use Rattle.trace_paths.specs.Touching.{call_paths, own_paths, with_paths}

module _ {A : Type 0} (P : A → Type 0) where
  abbrev Each : List A → Type 0
  Each xs = AllByRecursion P xs

  each-append : (xs ys : List A) → Each xs → Each ys → Each (xs ++ ys)
  each-append [] ys a b = b
  each-append (x ∷ xs) ys a b = (a.0, each-append xs ys a.1 b)

  each-left : (xs ys : List A) → Each (xs ++ ys) → Each xs
  each-left [] ys a = tt
  each-left (x ∷ xs) ys a = (a.0, each-left xs ys a.1)

  each-right : (xs ys : List A) → Each (xs ++ ys) → Each ys
  each-right [] ys a = a
  each-right (x ∷ xs) ys a = each-right xs ys a.1

  each-take : (n : ℕ) (xs : List A) → Each xs → Each (take n xs)
  each-take zero [] a = tt
  each-take (suc n) [] a = tt
  each-take zero (x ∷ xs) a = tt
  each-take (suc n) (x ∷ xs) a = (a.0, each-take n xs a.1)

  each-drop : (n : ℕ) (xs : List A) → Each xs → Each (drop n xs)
  each-drop zero [] a = tt
  each-drop (suc n) [] a = tt
  each-drop zero (x ∷ xs) a = a
  each-drop (suc n) (x ∷ xs) a = each-drop n xs a.1

  each-split : (n : ℕ) (xs : List A) → Each (take n xs) → Each (drop n xs) → Each xs
  each-split zero [] a b = tt
  each-split (suc n) [] a b = tt
  each-split zero (x ∷ xs) a b = b
  each-split (suc n) (x ∷ xs) a b = (a.0, each-split n xs a.1 b)

  module _ {B : Type 0} (f : B → A) where
    each-map : (ys : List B) → AllByRecursion (λ y. P (f y)) ys → Each (map f ys)
    each-map [] a = tt
    each-map (y ∷ ys) a = (a.0, each-map ys a.1)

    each-unmap : (ys : List B) → Each (map f ys) → AllByRecursion (λ y. P (f y)) ys
    each-unmap [] a = tt
    each-unmap (y ∷ ys) a = (a.0, each-unmap ys a.1)

  module _ {B : Type 0} (f : B → List A) where
    each-flat : (ys : List B) → AllByRecursion (λ y. Each (f y)) ys → Each (flat_map f ys)
    each-flat [] a = tt
    each-flat (y ∷ ys) a = each-append (f y) (flat_map f ys) a.0 (each-flat ys a.1)

    each-unflat : (ys : List B) → Each (flat_map f ys) → AllByRecursion (λ y. Each (f y)) ys
    each-unflat [] a = tt
    each-unflat (y ∷ ys) a = (each-left (f y) (flat_map f ys) a, each-unflat ys (each-right (f y) (flat_map f ys) a))

-- what holds of the item of each point of a node holds of each item behind which a node is linked
module _ {I : Type 0} (Q : I → Type 0) where
  abbrev OfItem : Point I → Type 0
  OfItem p = Q p.item

  abbrev OfCalls : Point I → Type 0
  OfCalls p = AllByRecursion Q p.calls

  own_calls : (items : List I) → AllByRecursion OfCalls (map own items)
  own_calls [] = tt
  own_calls (i ∷ is) = (tt, own_calls is)

  within_items : (calls : List I) (ps : List (Point I)) → AllByRecursion OfItem (map (within calls) ps) → AllByRecursion OfItem ps
  within_items calls ps held = each-unmap OfItem (within calls) ps held

  within_calls : (calls : List I) → AllByRecursion Q calls → (ps : List (Point I)) → AllByRecursion OfCalls ps → AllByRecursion OfCalls (map (within calls) ps)
  within_calls calls outer [] held = tt
  within_calls calls outer (p ∷ ps) held = (each-append Q calls p.calls outer held.0, within_calls calls outer ps held.1)

  own_items : (f : ℕ → List (Point I)) (from : ℕ) (items : List I) (links : List Link) →
      AllByRecursion OfItem (weave f from items links) → AllByRecursion Q (drop from items)
  unfolding weave
  own_items f from items [] held = each-unmap OfItem own (drop from items) held
  own_items f from items (l ∷ ls) held =
      let gap = take (l.at - from) (drop from items) in
      let child = map (within (last_before l.at items)) (f l.child.0) in
      let behind = weave f l.at items ls in
      let first : AllByRecursion Q gap = each-unmap OfItem own gap (each-left OfItem (map own gap) (child ++ behind) held) in
      let later : AllByRecursion Q (drop l.at items) =
      own_items f l.at items ls (each-right OfItem child behind (each-right OfItem (map own gap) (child ++ behind) held)) in
      let last : AllByRecursion Q (drop (l.at - from) (drop from items)) =
      subst (λ xs. AllByRecursion Q xs)
      (drop-drop (from - l.at) l.at items
      ∙ ap (λ (n : ℕ). drop n items) (omega arith)
      ∙ sym (drop-drop (l.at - from) from items))
      (each-drop Q (from - l.at) (drop l.at items) later) in
      each-split Q (l.at - from) (drop from items) first last

  calls_in : (f : ℕ → List (Point I)) → ((x : ℕ) → AllByRecursion OfItem (f x) → AllByRecursion OfCalls (f x)) →
      (from : ℕ) (items : List I) (links : List Link) → AllByRecursion Q items → AllByRecursion OfItem (weave f from items links) →
      AllByRecursion OfCalls (weave f from items links)
  unfolding weave
  calls_in f deeper from items [] all held = own_calls (drop from items)
  calls_in f deeper from items (l ∷ ls) all held =
      let gap = take (l.at - from) (drop from items) in
      let outer = last_before l.at items in
      let child = map (within outer) (f l.child.0) in
      let behind = weave f l.at items ls in
      let after = each-right OfItem (map own gap) (child ++ behind) held in
      let outer_held : AllByRecursion Q outer = each-drop Q (l.at - 1) (take l.at items) (each-take Q l.at items all) in
      each-append OfCalls (map own gap) (child ++ behind) (own_calls gap)
      (each-append OfCalls child behind
      (within_calls outer outer_held (f l.child.0) (deeper l.child.0 (within_items outer (f l.child.0) (each-left OfItem child behind after))))
      (calls_in f deeper l.at items ls all (each-right OfItem child behind after)))

  calls_to : (depth : ℕ) (nodes : List (Node I)) (x : ℕ) → AllByRecursion OfItem (points_to depth nodes x) → AllByRecursion OfCalls (points_to depth nodes x)
  unfolding points_to
  calls_to zero nodes x held = tt
  calls_to (suc depth) nodes x held =
      let node = node_at nodes x in
      calls_in (points_to depth nodes) (calls_to depth nodes) 0 node.items node.links
      (own_items (points_to depth nodes) 0 node.items node.links held) held

  pub calls_are_items : (nodes : List (Node I)) (x : ℕ) → AllByRecursion OfItem (points nodes x) → AllByRecursion OfCalls (points nodes x)
  unfolding points
  calls_are_items nodes x held = calls_to (suc (node_at nodes x).height) nodes x held

-- a number stands in a list
abbrev Among : List ℕ → ℕ → Type 0
Among [] n = ⊥
Among (k ∷ ks) n = (k ≡ n) ⊎ Among ks n

among-contains : (ks : List ℕ) (n : ℕ) → Among ks n → Contains ks n
among-contains [] n here = absurd here
among-contains (k ∷ ks) n (inl same) = (0, omega arith, same)
among-contains (k ∷ ks) n (inr here) =
    let c = among-contains ks n here in
    (suc c.0, omega (arith, c.1), c.2)

among-left : (xs ys : List ℕ) (n : ℕ) → Among xs n → Among (xs ++ ys) n
among-left [] ys n here = absurd here
among-left (x ∷ xs) ys n (inl same) = inl same
among-left (x ∷ xs) ys n (inr here) = inr (among-left xs ys n here)

among-right : (xs ys : List ℕ) (n : ℕ) → Among ys n → Among (xs ++ ys) n
among-right [] ys n here = here
among-right (x ∷ xs) ys n here = inr (among-right xs ys n here)

each-weaker : {A : Type 0} (P Q : A → Type 0) → ((a : A) → P a → Q a) → (xs : List A) → AllByRecursion P xs → AllByRecursion Q xs
each-weaker P Q on [] a = tt
each-weaker P Q on (x ∷ xs) a = (on x a.0, each-weaker P Q on xs a.1)

among-self : (xs : List ℕ) → AllByRecursion (Among xs) xs
among-self [] = tt
among-self (x ∷ xs) = (inl refl, each-weaker (Among xs) (Among (x ∷ xs)) (λ n here. inr here) xs (among-self xs))

-- a number that is added to an ordered list stands in it then, and so do those that stood in it
by_order : (P : List ℕ → Type 0) (o : Ordering) (less same more : List ℕ) → P less → P same → P more → P (match_ordering o less same more)
by_order P Less less same more a b c = a
by_order P Equal less same more a b c = b
by_order P Greater less same more a b c = c

kept_in : (ks : List ℕ) (k n : ℕ) → Among ks n → Among (insert_key nat_cmp ks k) n
kept_in [] k n here = absurd here
kept_in (x ∷ xs) k n here =
    by_order (λ ls. Among ls n) (nat_cmp k x) (k ∷ x ∷ xs) (x ∷ xs) (x ∷ insert_key nat_cmp xs k) (inr here) here
    (elim here [
      | inl same ↦ inl same
      | inr later ↦ inr (kept_in xs k n later)
    ])

added_by : (o : Ordering) (x : ℕ) (xs : List ℕ) (k : ℕ) → (o ≡ Equal → k ≡ x) → Among (insert_key nat_cmp xs k) k →
    Among (match_ordering o (k ∷ x ∷ xs) (x ∷ xs) (x ∷ insert_key nat_cmp xs k)) k
added_by Less x xs k same later = inl refl
added_by Equal x xs k same later = inl (sym (same refl))
added_by Greater x xs k same later = inr later

added : (ks : List ℕ) (k : ℕ) → Among (insert_key nat_cmp ks k) k
added [] k = inl refl
added (x ∷ xs) k = added_by (nat_cmp k x) x xs k (exact_unsigned k x) (added xs k)

only_added : (P : ℕ → Type 0) (ks : List ℕ) (k : ℕ) → AllByRecursion P ks → P k → AllByRecursion P (insert_key nat_cmp ks k)
only_added P [] k held new = (new, tt)
only_added P (x ∷ xs) k held new =
    by_order (AllByRecursion P) (nat_cmp k x) (k ∷ x ∷ xs) (x ∷ xs) (x ∷ insert_key nat_cmp xs k) (new, held) held
    (held.0, only_added P xs k held.1 new)

all_kept : (ks ns : List ℕ) (n : ℕ) → Among ks n → Among (with_paths ks ns) n
all_kept ks [] n here = here
all_kept ks (m ∷ ms) n here = all_kept (insert_key nat_cmp ks m) ms n (kept_in ks m n here)

all_added : (ks ns : List ℕ) → AllByRecursion (Among (with_paths ks ns)) ns
all_added ks [] = tt
all_added ks (m ∷ ms) = (all_kept (insert_key nat_cmp ks m) ms m (added ks m), all_added (insert_key nat_cmp ks m) ms)

only_these : (P : ℕ → Type 0) (ks ns : List ℕ) → AllByRecursion P ks → AllByRecursion P ns → AllByRecursion P (with_paths ks ns)
only_these P ks [] held new = held
only_these P ks (m ∷ ms) held new = only_these P (insert_key nat_cmp ks m) ms (only_added P ks m held new.0) new.1

-- the paths of a point's stack: those of its calls, and its own
stack_parts : (p : Point TraceItem) → stack_paths p ≡ map frame_path (frames_in p.calls) ++ own_paths p
stack_parts p = map-append frame_path (frames_in p.calls) (frames_of p.item.frames)

frames_each : (P : ℕ → Type 0) (calls : List TraceItem) → AllByRecursion (λ (i : TraceItem). AllByRecursion P (call_paths i.frames)) calls →
    AllByRecursion P (map frame_path (frames_in calls))
frames_each P [] held = tt
frames_each P (c ∷ cs) held =
    subst (AllByRecursion P) (sym (map-append frame_path (frames_of c.frames) (frames_in cs)))
    (each-append P (call_paths c.frames) (map frame_path (frames_in cs)) held.0 (frames_each P cs held.1))

stacks_each : (P : ℕ → Type 0) (ps : List (Point TraceItem)) →
    AllByRecursion (λ (p : Point TraceItem). AllByRecursion P (own_paths p)) ps →
    AllByRecursion (λ (p : Point TraceItem). AllByRecursion (λ (i : TraceItem). AllByRecursion P (call_paths i.frames)) p.calls) ps →
    AllByRecursion (λ p. AllByRecursion P (stack_paths p)) ps
stacks_each P [] own_held calls_held = tt
stacks_each P (p ∷ ps) own_held calls_held = (
  subst (AllByRecursion P) (sym (stack_parts p))
      (each-append P (map frame_path (frames_in p.calls)) (own_paths p) (frames_each P p.calls calls_held.0) own_held.0),
  stacks_each P ps own_held.1 calls_held.1,
)

among-cases : (xs ys : List ℕ) (n : ℕ) → Among (xs ++ ys) n → Among xs n ⊎ Among ys n
among-cases [] ys n here = inr here
among-cases (x ∷ xs) ys n (inl same) = inl (inl same)
among-cases (x ∷ xs) ys n (inr here) =
    elim (among-cases xs ys n here) [
      | inl mine ↦ inl (inr mine)
      | inr later ↦ inr later
    ]

own_among : (ps : List (Point TraceItem)) (n : ℕ) → Among (flat_map own_paths ps) n → Among (all_paths ps) n
own_among [] n here = absurd here
own_among (p ∷ ps) n here =
    elim (among-cases (own_paths p) (flat_map own_paths ps) n here) [
      | inl mine ↦ among-left (stack_paths p) (all_paths ps) n
          (subst (λ ns. Among ns n) (sym (stack_parts p)) (among-right (map frame_path (frames_in p.calls)) (own_paths p) n mine))
      | inr later ↦ among-right (stack_paths p) (all_paths ps) n (own_among ps n later)
    ]

abbrev pub own_item : Point TraceItem → TraceItem
own_item point = point.item

-- where there is an item, these are the paths of its point
pub own_there : (o : Option (Point TraceItem)) (item : TraceItem) → option_map own_item o ≡ Some item → option_map_or own_paths o [] ≡ call_paths item.frames
own_there None item is = absurd (none-some item is)
own_there (Some p) item is = ap (λ o. call_paths (unwrap_or o item).frames) is

-- where there is no cursor at the first point, there is no point
pub no_points : {A C : Type 0} (xs : List A) (o : Option C) (P : C → Type 0) → o ≡ None → MatchOption o (length xs ≤ 0) P → xs ≡ []
no_points [] o P is found = refl
no_points (x ∷ xs) None P is none = absurd (omega (arith, none))
no_points (x ∷ xs) (Some c) P is found = absurd (none-some c (sym is))

module _ (nodes : List (Node TraceItem)) (root : ℕ) (ks : List ℕ) (met : ks ≡ with_paths [] (flat_map own_paths (points nodes root))) where
  -- each path of a frame is met
  pub all_met : All (Contains ks) (all_paths (points nodes root))
  all_met =
      let ps = points nodes root in
      let P : ℕ → Type 0 = λ n. Among ks n in
      let mine : AllByRecursion P (flat_map own_paths ps) =
      subst (λ ls. AllByRecursion (Among ls) (flat_map own_paths ps)) (sym met) (all_added [] (flat_map own_paths ps)) in
      let own_held = each-unflat P own_paths ps mine in
      let calls_held = calls_are_items (λ (i : TraceItem). AllByRecursion P (call_paths i.frames)) nodes root own_held in
      All-weaker P (Contains ks) (among-contains ks) (all_paths ps)
      (All-from_recursion P (all_paths ps) (each-flat P stack_paths ps (stacks_each P ps own_held calls_held)))

  -- and no other
  pub only_met : All (Contains (all_paths (points nodes root))) ks
  only_met =
      let ps = points nodes root in
      let P : ℕ → Type 0 = λ n. Among (all_paths ps) n in
      let mine : AllByRecursion P (flat_map own_paths ps) =
      each-weaker (Among (flat_map own_paths ps)) P (own_among ps) (flat_map own_paths ps) (among-self (flat_map own_paths ps)) in
      subst (All (Contains (all_paths ps))) (sym met)
      (All-weaker P (Contains (all_paths ps)) (among-contains (all_paths ps)) (with_paths [] (flat_map own_paths ps))
      (All-from_recursion P (with_paths [] (flat_map own_paths ps)) (only_these P [] (flat_map own_paths ps) tt mine)))
