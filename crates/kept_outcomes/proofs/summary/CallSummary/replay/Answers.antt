use Rattle.std.proofs.Common.{◌≡◌, ◌+◌, drop, sym, ap, ◌∙◌, arith}
use Rattle.std.proofs.lemmas.List.{at_drop_all}
use Rattle.asking_core.specs.Worlds.{put_all}
use Rattle.asking_core.specs.Places.{pairs_of}
use Rattle.kept_outcomes.specs.Outcomes.{CallSummary}
use Rattle.kept_outcomes.specs.Pairs.{newest_first}
use Rattle.kept_outcomes.proofs.PutLists.{put_all_next}
use Rattle.kept_outcomes.proofs.summary.CallSummary.replay.Goals as goal

pub returns : goal.returns
returns g c =
    let kc = g.K.Kept.code in
    let vc = g.V.Kept.code in
    let W = g.W.World.model in
    let s = g.W.World.state c.loop-put.world in
    let xs = c.as_slice-puts.result.now in
    let end : put_all W s (newest_first (pairs_of kc vc (drop c.loop-put.put-index xs))) ≡ s =
    at_drop_all (λ ns. put_all W s (newest_first (pairs_of kc vc ns))) xs c.loop-put.put-index (omega arith) in
    let puts : newest_first (pairs_of kc vc xs) ≡ c.args.self.now.puts =
    ap (λ ns. newest_first (pairs_of kc vc ns)) c.as_slice-puts.ensures.value ∙ ap (λ (s : CallSummary). s.puts) c.self.view_is in
    c.bump.ensures
    ∙ ap (λ s. W.after_bump s c.self.inside.calls) (sym end ∙ c.loop-put.invariant ∙ ap (put_all W (g.W.World.state c.args.world.now)) puts)
    ∙ ap (λ (t : CallSummary). W.after_bump (put_all W (g.W.World.state c.args.world.now) c.args.self.now.puts) t.calls) c.self.view_is

pub loop-put-preserved : goal.loop-put-preserved
loop-put-preserved g c =
    let kc = g.K.Kept.code in
    let vc = g.V.Kept.code in
    let W = g.W.World.model in
    let s = g.W.World.state c.loop-put.world in
    let n = c.put-item.result in
    let xs = c.as_slice-puts.result.now in
    let i = c.loop-put.put-index in
    let rest = newest_first (pairs_of kc vc (drop (i + 1) xs)) in
    let now : g.W.World.state c.put.new.self ≡ W.after_put s (kc n.key) (vc n.value) =
    c.in_ok-put.ensures.ok
    ∙ ap (λ k. W.after_put s k (vc c.in_ok-copy-2.field-0)) c.in_ok-copy.ensures
    ∙ ap (λ v. W.after_put s (kc n.key) v) c.in_ok-copy-2.ensures in
    ap (λ t. put_all W t rest) now ∙ sym (put_all_next kc vc W s xs i n (omega arith) c.put-item.is) ∙ c.loop-put.invariant
