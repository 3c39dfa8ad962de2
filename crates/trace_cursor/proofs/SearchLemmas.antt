-- What each step of the search leaves, over the nodes of an arena.
use Rattle.std.proofs.Common.{◌≡◌, ℕ, suc, ◌+◌, ◌-◌, ◌<◌, ◌≤◌, List, [], ◌++◌, length, Option, Some, None, refl, sym, ap, subst, ◌∙◌, inl, inr, arith}
use Rattle.std.specs.Prelude.{slice_get}
use Rattle.std.specs.Option.{option_map}
use Rattle.std.proofs.lemmas.Bool.{cases_lt}
use Rattle.std.proofs.lemmas.List.{append_assoc}
use Rattle.trace_arena.specs.declared.node.Link.{Link}
use Rattle.trace_arena.specs.Nodes.{Node, node_at, IsLive}
use Rattle.trace_arena.specs.Points.{Point, within, last_before, weave, points}
use Rattle.trace_arena.specs.Whole.{IsWhole}
use Rattle.trace_arena.proofs.LinkLemmas.{linked_live}
use Rattle.trace_cursor.specs.Places.{link_at, totals, gap_start, gap_stop, gap_before, called, Counts, Descends, Enters, Owns, IsChild, IsOwn}
use Rattle.trace_cursor.proofs.WeaveLemmas.{child_run, gap_run, gap_is, gap_none, gap_some, link_leads, befores_rise, at_before, at_within}

pub within_called : {I : Type 0} (calls : List I) (o : Option I) →
    option_map (within calls) (option_map (called []) o) ≡ option_map (called (calls ++ [])) o
within_called calls (Some item) = refl
within_called calls None = refl

within_within : {I : Type 0} (outer inner : List I) (o : Option (Point I)) →
    option_map (within outer) (option_map (within inner) o) ≡ option_map (within (outer ++ inner)) o
within_within outer inner (Some p) = ap (λ calls. Some (record { calls = calls; item = p.item })) (sym (append_assoc outer inner p.calls))
within_within outer inner None = refl

within_none : {I : Type 0} (o : Option (Point I)) → o ≡ option_map (within []) o
within_none (Some p) = refl
within_none None = refl

module _ {I : Type 0} (nodes : List (Node I)) (whole : IsWhole nodes)
    (woven : (x : ℕ) → points nodes x ≡ weave (points nodes) 0 (node_at nodes x).items (node_at nodes x).links)
    (counted : (x : ℕ) → length (points nodes x) ≡ (node_at nodes x).total) where
  child_live : (x k : ℕ) → k < length (node_at nodes x).links → IsLive nodes (link_at (node_at nodes x).links k).child.0
  child_live x k lt =
      linked_live nodes whole x (link_at (node_at nodes x).links k).child.0
      (link_leads (points nodes) (totals nodes) counted (node_at nodes x).items (node_at nodes x).links k lt)

  enters : (x rest k : ℕ) → k < length (node_at nodes x).links → (link_at (node_at nodes x).links k).before ≤ rest →
      rest - (link_at (node_at nodes x).links k).before < (node_at nodes (link_at (node_at nodes x).links k).child.0).total →
      Enters nodes x rest (link_at (node_at nodes x).links k).child.0 (rest - (link_at (node_at nodes x).links k).before)
      (link_at (node_at nodes x).links k).at
  enters x rest k lt low small =
      let links = (node_at nodes x).links in
      let items = (node_at nodes x).items in
      let l = link_at links k in
      let rise = befores_rise (points nodes) (totals nodes) counted items 0 0 (node_at nodes x).total links k (whole.placed x) lt in
      record {
        descends = record {
          calls = last_before l.at items;
          live = child_live x k lt;
          inside = small;
          before = omega arith;
          room = omega (arith, rise.1, low, counted x);
          run = λ j less.
              ap (λ ps. slice_get ps (rest - (rest - l.before) + j)) (woven x)
              ∙ child_run (points nodes) (totals nodes) counted items 0 0 (node_at nodes x).total links k (rest - (rest - l.before) + j) j
              (whole.placed x) lt (omega (arith, low)) less;
        };
        behind = refl;
        within_items = at_within (points nodes) (totals nodes) counted items 0 0 (node_at nodes x).total links k (whole.placed x) lt;
        past_items = omega (
          arith,
          low,
          at_before (points nodes) (totals nodes) counted items 0 0 (node_at nodes x).total links k (whole.placed x) (omega arith) lt,
        );
        linked = link_leads (points nodes) (totals nodes) counted items links k lt;
        lower = whole.below x l.child.0 (link_leads (points nodes) (totals nodes) counted items links k lt);
      }

  owns : (x rest count : ℕ) → Counts (node_at nodes x).links rest count → rest < (node_at nodes x).total →
      gap_before (totals nodes) 0 (node_at nodes x).links count ≤ rest →
      Owns nodes x rest (gap_start 0 (node_at nodes x).links count + (rest - gap_before (totals nodes) 0 (node_at nodes x).links count))
      (gap_stop (length (node_at nodes x).items) (node_at nodes x).links count)
  owns x rest count counts lt low =
      let links = (node_at nodes x).links in
      let items = (node_at nodes x).items in
      let gap = gap_is (points nodes) (totals nodes) counted items 0 0 (node_at nodes x).total links count (whole.placed x) counts.within in
      let inside : gap_start 0 links count + (rest - gap_before (totals nodes) 0 links count) < gap_stop (length items) links count =
      elim (cases_lt count (length links)) [
        | inl more ↦ omega (arith, gap.next more, counts.next more, gap.rises, low)
        | inr none ↦ omega (arith, gap.last (omega (arith, none, counts.within)), lt, gap.rises, low)
      ] in
      record {
        inside = inside;
        ends = gap.ends;
        room = omega (arith, gap.room, gap.rises, inside, low);
        run = λ k less.
            let e : gap_start 0 links count + (rest - gap_before (totals nodes) 0 links count + k)
            ≡ gap_start 0 links count + (rest - gap_before (totals nodes) 0 links count) + k = omega arith in
            ap (λ ps. slice_get ps (rest + k)) (woven x)
            ∙ gap_run (points nodes) (totals nodes) counted items 0 0 (node_at nodes x).total links count (rest + k)
            (rest - gap_before (totals nodes) 0 links count + k) (whole.placed x) counts.within (omega (arith, low)) (omega (arith, e, less))
            ∙ ap (λ n. option_map (called []) (slice_get items n)) e;
      }

  -- what the code reads: the links, the items, and the last of so many links
  module _ (x rest count : ℕ) (ls : List Link) (same : ls ≡ (node_at nodes x).links) (counts : Counts (node_at nodes x).links rest count) where
    pub read_live : 0 < count → IsLive nodes (link_at ls (count - 1)).child.0
    read_live some =
        subst (λ ks. IsLive nodes (link_at ks (count - 1)).child.0) (sym same) (child_live x (count - 1) (omega (arith, some, counts.within)))

    pub read_low : 0 < count → (link_at ls (count - 1)).before ≤ rest
    read_low some = subst (λ ks. (link_at ks (count - 1)).before ≤ rest) (sym same) (counts.last some)

    pub read_none : count ≡ 0 → gap_before (totals nodes) 0 (node_at nodes x).links count ≤ rest
    read_none zero_is =
        let none = gap_none (points nodes) (totals nodes) counted (node_at nodes x).items 0 0 (node_at nodes x).links in
        subst (λ n. gap_before (totals nodes) 0 (node_at nodes x).links n ≤ rest) (sym zero_is) (omega (arith, none.1))

    gap_read : 0 < count → (gap_start 0 (node_at nodes x).links count ≡ (link_at ls (count - 1)).at)
        × (gap_before (totals nodes) 0 (node_at nodes x).links count
        ≡ (link_at ls (count - 1)).before + (node_at nodes (link_at ls (count - 1)).child.0).total)
    gap_read some =
        let e : suc (count - 1) ≡ count = omega (arith, some) in
        subst (λ ks. (gap_start 0 (node_at nodes x).links count ≡ (link_at ks (count - 1)).at)
        × (gap_before (totals nodes) 0 (node_at nodes x).links count
        ≡ (link_at ks (count - 1)).before + (node_at nodes (link_at ks (count - 1)).child.0).total)) (sym same)
        (subst (λ n. (gap_start 0 (node_at nodes x).links n ≡ (link_at (node_at nodes x).links (count - 1)).at)
        × (gap_before (totals nodes) 0 (node_at nodes x).links n
        ≡ (link_at (node_at nodes x).links (count - 1)).before
        + (node_at nodes (link_at (node_at nodes x).links (count - 1)).child.0).total)) e
        (gap_some (points nodes) (totals nodes) counted (node_at nodes x).items 0 0 (node_at nodes x).links (count - 1)
        (omega (arith, some, counts.within))))

    pub read_past : 0 < count → (node_at nodes (link_at ls (count - 1)).child.0).total ≤ rest - (link_at ls (count - 1)).before →
        gap_before (totals nodes) 0 (node_at nodes x).links count ≤ rest
    read_past some past = omega (arith, (gap_read some).1, past, read_low some)

    pub read_child : 0 < count → rest - (link_at ls (count - 1)).before < (node_at nodes (link_at ls (count - 1)).child.0).total →
        IsChild (totals nodes) (node_at nodes x).links rest (link_at ls (count - 1)).child.0
        (rest - (link_at ls (count - 1)).before) (link_at ls (count - 1)).at
    read_child some small = record {
      k = count - 1;
      is_link = omega (arith, some, counts.within);
      low = counts.last some;
      small = small;
      child_is = ap (λ ks. (link_at ks (count - 1)).child.0) same;
      left_is = ap (λ ks. rest - (link_at ks (count - 1)).before) same;
      at_is = ap (λ ks. (link_at ks (count - 1)).at) same;
    }

    pub read_behind : 0 < count → gap_before (totals nodes) 0 (node_at nodes x).links count ≤ rest →
        (node_at nodes (link_at ls (count - 1)).child.0).total ≤ rest - (link_at ls (count - 1)).before
    read_behind some low = omega (arith, (gap_read some).1, low)

    module _ (is : List I) (alike : is ≡ (node_at nodes x).items) (stop : ℕ) (stops : stop ≡ gap_stop (length is) ls count)
        (low : gap_before (totals nodes) 0 (node_at nodes x).links count ≤ rest) where
      read_stop : stop ≡ gap_stop (length (node_at nodes x).items) (node_at nodes x).links count
      read_stop =
          stops ∙ ap (λ (n : List I). gap_stop (length n) ls count) alike
          ∙ ap (λ n. gap_stop (length (node_at nodes x).items) n count) same

      read_own : (at : ℕ) → at ≡ gap_start 0 (node_at nodes x).links count
          + (rest - gap_before (totals nodes) 0 (node_at nodes x).links count) →
          IsOwn (totals nodes) (node_at nodes x).links (length (node_at nodes x).items) rest at stop
      read_own at e = record { count = count; counts = counts; behind = low; at_is = e; stop_is = read_stop }

      pub own_first : count ≡ 0 → IsOwn (totals nodes) (node_at nodes x).links (length (node_at nodes x).items) rest rest stop
      own_first zero_is =
          let none = gap_none (points nodes) (totals nodes) counted (node_at nodes x).items 0 0 (node_at nodes x).links in
          read_own rest
          (subst (λ n. rest ≡ gap_start 0 (node_at nodes x).links n + (rest - gap_before (totals nodes) 0 (node_at nodes x).links n))
          (sym zero_is) (omega (arith, none.0, none.1)))

      pub own_behind : (more : ℕ) → 0 < count → more ≡ (node_at nodes (link_at ls (count - 1)).child.0).total →
          IsOwn (totals nodes) (node_at nodes x).links (length (node_at nodes x).items) rest
          ((link_at ls (count - 1)).at + (rest - (link_at ls (count - 1)).before - more)) stop
      own_behind more some is_total =
          read_own ((link_at ls (count - 1)).at + (rest - (link_at ls (count - 1)).before - more))
          (omega (arith, (gap_read some).0, (gap_read some).1, is_total, low))

  -- what a place says of the points
  pub child_enters : (x rest child left at : ℕ) → IsChild (totals nodes) (node_at nodes x).links rest child left at →
      Enters nodes x rest child left at
  child_enters x rest child left at place =
      let l = link_at (node_at nodes x).links place.k in
      let small : rest - l.before < totals nodes l.child.0 =
      subst (λ n. n < totals nodes l.child.0) place.left_is (subst (λ n. left < totals nodes n) place.child_is place.small) in
      subst (λ n. Enters nodes x rest n left at) (sym place.child_is)
      (subst (λ n. Enters nodes x rest l.child.0 n at) (sym place.left_is)
      (subst (Enters nodes x rest l.child.0 (rest - l.before)) (sym place.at_is) (enters x rest place.k place.is_link place.low small)))

  pub own_owns : (x rest at stop : ℕ) → rest < (node_at nodes x).total →
      IsOwn (totals nodes) (node_at nodes x).links (length (node_at nodes x).items) rest at stop → Owns nodes x rest at stop
  own_owns x rest at stop inside place =
      subst (λ n. Owns nodes x rest n stop) (sym place.at_is)
      (subst (Owns nodes x rest (gap_start 0 (node_at nodes x).links place.count
      + (rest - gap_before (totals nodes) 0 (node_at nodes x).links place.count))) (sym place.stop_is)
      (owns x rest place.count place.counts inside place.behind))

  pub descend_start : (root index : ℕ) → IsLive nodes root → index < length (points nodes root) →
      (down : Descends nodes root index root index) × (down.calls ≡ [])
  descend_start root index live lt = (
    record {
      calls = [];
      live = live;
      inside = omega (arith, lt, counted root);
      before = omega arith;
      room = omega (arith, counted root);
      run = λ k less.
          let e : index - index + k ≡ k = omega arith in
          ap (slice_get (points nodes root)) e ∙ within_none (slice_get (points nodes root) k);
    },
    refl,
  )

  pub descend_step : (root index node rest child left at : ℕ) (down : Descends nodes root index node rest)
      (into : Enters nodes node rest child left at) →
      (further : Descends nodes root index child left) × (further.calls ≡ down.calls ++ into.descends.calls)
  descend_step root index node rest child left at down into =
      let inner = into.descends in (
        record {
          calls = down.calls ++ inner.calls;
          live = inner.live;
          inside = inner.inside;
          before = omega (arith, inner.before, down.before);
          room = omega (arith, inner.room, down.room, inner.before, down.before, counted node);
          run = λ k less.
              let e : index - left + k ≡ index - rest + (rest - left + k) = omega (arith, inner.before, down.before) in
              ap (slice_get (points nodes root)) e
              ∙ down.run (rest - left + k) (omega (arith, inner.room, counted node, less))
              ∙ ap (option_map (within down.calls)) (inner.run k less)
              ∙ within_within down.calls inner.calls (slice_get (points nodes child) k);
        },
        refl,
      )
