use Rattle.std.proofs.Common.{◌≡◌, List, [], ap, ◌∙◌}
use Rattle.kept_values.specs.Trees.{Pair}
use Rattle.asking_core.specs.Footprints.{carried, merged}
use Rattle.asking_core.specs.Places.{pairs_of}
use Rattle.kept_outcomes.specs.Outcomes.{CallSummary}
use Rattle.kept_outcomes.specs.Pairs.{newest_first}
use Rattle.kept_outcomes.specs.Moments.{reading_child}
use Rattle.kept_outcomes.proofs.MergedLists.{merged-merged, carried-alike}
use Rattle.kept_outcomes.proofs.summary.CallSummary.join_read.Goals as goal

pub returns : goal.returns
returns g c =
    let kc = g.K.Kept.code in
    let vc = g.V.Kept.code in
    let rebased = g.M.AskMachine.rebased in
    let old : CallSummary = record {
      read = pairs_of kc vc c.self.inside.read;
      puts = newest_first (pairs_of kc vc c.self.inside.puts.items);
      calls = c.self.inside.calls;
      units = c.self.inside.units;
      levels = c.self.inside.levels;
      no_room = c.self.inside.no_room;
      at_told = c.self.inside.at_told;
    } in
    let theirs : List Pair = pairs_of kc vc c.child.inside.read in
    let written : List Pair = pairs_of kc vc c.self.inside.written in
    let child_read : theirs ≡ c.args.child.now.read = ap (λ (s : CallSummary). s.read) c.child.view_is in
    let noted : pairs_of kc vc c.merge_child.new.self ≡ merged old.read (carried rebased old.puts old.calls c.args.child.now.read) =
    c.in_ok-merge_child.ensures
    ∙ ap (merged old.read) c.in_ok-carried.ensures
    ∙ merged-merged old.read [] (carried rebased written old.calls theirs)
    ∙ ap (merged old.read) (carried-alike rebased written old.puts old.calls theirs c.self.invariant)
    ∙ ap (λ qs. merged old.read (carried rebased old.puts old.calls qs)) child_read in
    ap (λ (ps : List Pair). record old { read = ps }) noted
    ∙ ap (λ s. reading_child rebased s c.args.child.now) c.self.view_is
