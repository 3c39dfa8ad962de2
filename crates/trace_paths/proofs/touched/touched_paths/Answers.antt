use Rattle.std.proofs.Common.{sym, subst}
use Rattle.std.specs.List.{All, Contains}
use Rattle.std.specs.List.Sorted.{IsStrictlySortedBy}
use Rattle.std.specs.Ordering.{nat_cmp}
use Rattle.std.proofs.lemmas.Result.{IfOk-weaker}
use Rattle.trace_arena.specs.Points.{points}
use Rattle.trace_paths.specs.Touched.{all_paths}
use Rattle.trace_paths.proofs.TouchedLaws.{all_met, only_met}
use Rattle.trace_paths.proofs.touched.touched_paths.Goals as goal

pub returns : goal.returns
returns c =
    let nodes = c.args.arena.now.nodes in
    let root = c.args.root.0 in
    let met = c.in_ok-met.met.keys in
    let paths_of = all_paths (points nodes root) in
    IfOk-weaker c.listed.result _ _
    (λ paths is. record {
      rising = subst (IsStrictlySortedBy nat_cmp) (sym is) c.listed.ensures.rising;
      all = subst (λ ks. All (Contains ks) paths_of) (sym is) (all_met nodes root met c.in_ok-met.ensures);
      only = subst (All (Contains paths_of)) (sym is) (only_met nodes root met c.in_ok-met.ensures);
    })
    c.listed.ensures.paths
