-- What the search keeps on its way down, and what stands at a cursor.
use Rattle.std.proofs.Common.{◌≡◌, ℕ, ◌+◌, ◌-◌, ◌<◌, ◌≤◌, min, take, List, [], ◌++◌, length, Some, refl, sym, ap, ◌∙◌, arith}
use Rattle.std.specs.Prelude.{slice_get}
use Rattle.std.specs.Option.{option_map}
use Rattle.std.proofs.lemmas.List.{length-append, length-drop, length-take}
use Rattle.std.proofs.lemmas.Bool.{eq-eqb}
use Rattle.trace_values.specs.CallFrames.{frames_of}
use Rattle.trace_values.specs.declared.item.TraceItem.{TraceItem}
use Rattle.trace_arena.specs.Nodes.{Node, node_at, IsLive, IsReached.from_outside, IsReached.by_link}
use Rattle.trace_arena.specs.Points.{Point, last_before, weave, points}
use Rattle.trace_arena.specs.Whole.{IsWhole}
use Rattle.trace_cursor.specs.declared.cursor.Cursor.{Cursor}
use Rattle.trace_cursor.specs.Stacks.{frames_in, counted, depth_of, only, IsBelow}
use Rattle.trace_cursor.specs.Places.{called, totals, Comes, IsChild, IsOwn, StandsAt}
use Rattle.trace_cursor.proofs.SearchLemmas.{within_called, descend_start, descend_step, child_enters, own_owns}
use Rattle.trace_cursor.proofs.StackLemmas.{frames_both, more_counted}
use Rattle.trace_cursor.proofs.PathLemmas.{get_some}

below_itself : {I : Type 0} (nodes : List (Node I)) (root : ℕ) → IsBelow nodes root root
below_itself nodes root =
    let e : only root root ≡ 1 = rw (eq-eqb root root refl) refl in
    from_outside root (omega (arith, e))

-- how many the last of so many items are
length_last : (at : ℕ) (items : List TraceItem) → at ≤ length items → length (last_before at items) ≡ min at 1
length_last at items le = omega (arith, length-drop (at - 1) (take at items), length-take at items)

module _ (nodes : List (Node TraceItem)) (whole : IsWhole nodes)
    (woven : (x : ℕ) → points nodes x ≡ weave (points nodes) 0 (node_at nodes x).items (node_at nodes x).links)
    (long : (x : ℕ) → length (points nodes x) ≡ (node_at nodes x).total) where
  pub comes_start : (root index : ℕ) → IsLive nodes root → index < length (points nodes root) → Comes nodes root index root index 0 0
  comes_start root index live lt =
      let down = descend_start nodes whole woven long root index live lt in
      record {
        descends = down.0;
        below = below_itself nodes root;
        counts = ap (λ (is : List TraceItem). counted (length (frames_in is))) (sym down.1);
        level = ap (λ (is : List TraceItem). length is) (sym down.1);
        before = omega arith;
      }

  pub comes_step : (root index node rest outer calls child left at frames : ℕ) → Comes nodes root index node rest outer calls →
      IsChild (totals nodes) (node_at nodes node).links rest child left at → frames ≡ length (frames_in (last_before at (node_at nodes node).items)) →
      Comes nodes root index child left (counted (outer + frames)) (calls + min at 1)
  comes_step root index node rest outer calls child left at frames down place e =
      let into = child_enters nodes whole woven long node rest child left at place in
      let behind = down.descends.calls in
      let further = descend_step nodes whole woven long root index node rest child left at down.descends into in
      let both : length (frames_in further.0.calls) ≡ length (frames_in behind) + frames =
      ap (λ is. length (frames_in is)) further.1
      ∙ frames_both behind into.descends.calls
      ∙ ap (λ n. length (frames_in behind) + n) (ap (λ is. length (frames_in is)) into.behind ∙ sym e) in
      record {
        descends = further.0;
        below = by_link node child down.below into.linked;
        counts = more_counted outer frames (length (frames_in behind)) down.counts ∙ ap counted (sym both);
        level = omega (
          arith,
          down.level,
          ap (λ is. length is) further.1,
          length-append behind into.descends.calls,
          ap (λ is. length is) into.behind,
          length_last at (node_at nodes node).items into.within_items,
        );
        before = omega (arith, down.before, into.past_items);
      }

  pub comes_end : (c : Cursor) (rest : ℕ) → Comes nodes c.root.0 c.index c.node.0 rest c.outer c.calls →
      IsOwn (totals nodes) (node_at nodes c.node.0).links (length (node_at nodes c.node.0).items) rest c.at c.stop → StandsAt nodes c
  comes_end c rest comes place =
      let down = comes.descends in
      let own_run = own_owns nodes whole woven long c.node.0 rest c.at c.stop down.inside place in
      let both : length (frames_in (down.calls ++ [])) ≡ length (frames_in down.calls) =
      omega (arith, frames_both down.calls []) in
      record {
        calls = down.calls ++ [];
        outer = comes.counts ∙ ap counted (sym both);
        level = omega (arith, comes.level, length-append down.calls []);
        below = comes.below;
        live = down.live;
        inside = own_run.inside;
        ends = own_run.ends;
        room = omega (arith, down.room, down.before, own_run.room, down.inside);
        run = λ k less.
            let e : c.index + k ≡ c.index - rest + (rest + k) = omega (arith, down.before) in
            ap (slice_get (points nodes c.root.0)) e
            ∙ down.run (rest + k) (omega (arith, own_run.room, less))
            ∙ ap (option_map (λ (p : Point TraceItem). record { calls = down.calls ++ p.calls; item = p.item })) (own_run.run k less)
            ∙ within_called down.calls (slice_get (node_at nodes c.node.0).items (c.at + k));
      }

-- the point of a cursor is that of the item at its place
pub point_is : (nodes : List (Node TraceItem)) (c : Cursor) (stands : StandsAt nodes c) (item : TraceItem) →
    slice_get (node_at nodes c.node.0).items c.at ≡ Some item →
    slice_get (points nodes c.root.0) c.index ≡ Some (called stands.calls item)
point_is nodes c stands item found =
    let e : c.index ≡ c.index + 0 = omega arith in
    let d : c.at + 0 ≡ c.at = omega arith in
    ap (slice_get (points nodes c.root.0)) e
    ∙ stands.run 0 (omega (arith, stands.inside))
    ∙ ap (λ n. option_map (called stands.calls) (slice_get (node_at nodes c.node.0).items n)) d
    ∙ ap (option_map (called stands.calls)) found

-- how deep that point is
pub depth_is : (nodes : List (Node TraceItem)) (c : Cursor) (stands : StandsAt nodes c) (item : TraceItem) →
    0 < length (frames_of item.frames) →
    counted (c.outer + (length (frames_of item.frames) - 1)) ≡ counted (depth_of (called stands.calls item))
depth_is nodes c stands item some =
    more_counted c.outer (length (frames_of item.frames) - 1) (length (frames_in stands.calls)) stands.outer
    ∙ ap counted (omega (arith, some, length-append (frames_in stands.calls) (frames_of item.frames)))

-- how many calls stand round that point
pub calls_are : (nodes : List (Node TraceItem)) (c : Cursor) (stands : StandsAt nodes c) →
    option_map (λ (p : Point TraceItem). length p.calls) (slice_get (points nodes c.root.0) c.index) ≡ Some c.calls
calls_are nodes c stands =
    let item = get_some (node_at nodes c.node.0).items c.at (omega (arith, stands.inside, stands.ends)) in
    ap (option_map (λ (p : Point TraceItem). length p.calls)) (point_is nodes c stands item.0 item.1) ∙ ap Some (sym stands.level)
