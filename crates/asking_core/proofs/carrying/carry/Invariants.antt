use Rattle.std.proofs.Common.{◌≡◌, drop, []}
use Rattle.asking_core.specs.Footprints.{carried, merged}
use Rattle.asking_core.specs.Places.{pairs_of}
use Rattle.asking_core.proofs.carrying.carry.Given as goal

-- what is left of the child brings what is carried to the whole
abbrev pub invariant-loop-noted : goal.invariant-loop-noted
invariant-loop-noted g l =
    let key = g.M.Key.Kept.code in
    let value = g.M.Value.Kept.code in
    let of = carried g.M.AskMachine.rebased (pairs_of key value l.puts) l.calls in
    merged (pairs_of key value l.carried) (of (pairs_of key value (drop l.noted-index l.noted-items)))
    ≡ merged [] (of (pairs_of key value l.child))
