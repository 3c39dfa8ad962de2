use Rattle.std.proofs.Common.{◌≡◌, ◌+◌, List, ◌++◌, drop, sym, ap, ◌∙◌, arith}
use Rattle.std.proofs.lemmas.List.{at_drop_all}
use Rattle.kept_values.specs.Trees.{Pair}
use Rattle.asking_core.specs.Places.{pairs_of}
use Rattle.kept_outcomes.specs.Outcomes.{CallSummary}
use Rattle.kept_outcomes.specs.Pairs.{newest_first}
use Rattle.kept_outcomes.specs.Moments.{putting}
use Rattle.kept_outcomes.proofs.PutLists.{with_rest, rest_next}
use Rattle.kept_outcomes.proofs.summary.CallSummary.join_puts.Goals as goal

pub returns : goal.returns
returns g c =
    let kc = g.K.Kept.code in
    let vc = g.V.Kept.code in
    let now : CallSummary = c.loop-put.self in
    let old : CallSummary = c.args.self.now in
    let xs = c.as_slice-puts.result.now in
    let end : with_rest kc vc now (drop c.loop-put.put-index xs) ≡ now = at_drop_all (λ ns. with_rest kc vc now ns) xs c.loop-put.put-index (omega arith) in
    let puts : newest_first (pairs_of kc vc xs) ≡ c.args.child.now.puts =
    ap (λ ns. newest_first (pairs_of kc vc ns)) c.as_slice-puts.ensures.value ∙ ap (λ (s : CallSummary). s.puts) c.child.view_is in
    sym end ∙ c.loop-put.invariant.whole ∙ ap (λ (ps : List Pair). record old { puts = ps ++ old.puts }) puts

pub loop-put-preserved : goal.loop-put-preserved
loop-put-preserved g c =
    let kc = g.K.Kept.code in
    let vc = g.V.Kept.code in
    let s : CallSummary = c.loop-put.self in
    let n = c.put-item.result in
    let xs = c.as_slice-puts.result.now in
    let i = c.loop-put.put-index in
    let now : c.push_put.new.self ≡ putting s (kc n.key) (vc n.value) =
    c.in_ok-push_put.ensures
    ∙ ap (λ k. putting s k (vc c.in_ok-copy-2.field-0)) c.in_ok-copy.ensures
    ∙ ap (λ v. putting s (kc n.key) v) c.in_ok-copy-2.ensures in
    record {
      kept = ap (λ (x : CallSummary). x.at_told) now ∙ c.loop-put.invariant.kept;
      whole = ap (λ (x : CallSummary). with_rest kc vc x (drop (i + 1) xs)) now
          ∙ rest_next kc vc s xs i n (omega arith) c.put-item.is c.loop-put.invariant.kept
          ∙ c.loop-put.invariant.whole;
    }
