use Rattle.std.proofs.Common.{◌+◌, ◌*◌, ◌-◌}
use Rattle.asking_core.specs.Actions.{told_of}
use Rattle.expansion_memo.proofs.RunParts.{UnitSoFar, CallSoFar}
use Rattle.expansion_memo.proofs.Passing.{UnitMaking, CallMaking}
use Rattle.expansion_memo.proofs.running.+run.Given as goal

-- a nested call is one deeper
abbrev pub decreases-run_call : goal.decreases-run_call
decreases-run_call g l = 4 * (128 - l.depth) + 3

abbrev pub decreases-run_unit : goal.decreases-run_unit
decreases-run_unit g l = 4 * (128 - l.depth) + 2

abbrev pub decreases-run_step : goal.decreases-run_step
decreases-run_step g l = 4 * (128 - l.depth) + 1

abbrev pub decreases-run_within : goal.decreases-run_within
decreases-run_within g l = 4 * (128 - l.depth)

abbrev pub invariant-run_call-loop-walk : goal.invariant-run_call-loop-walk
invariant-run_call-loop-walk g l =
    CallSoFar g.M.AskMachine.model g.W.World.model g.M.AskMachine.rebased g.M.AskMachine.call_of g.M.AskMachine.place g.M.AskMachine.item_of l.fuel l.depth
    (g.M.AskMachine.call_of (g.M.Call.Kept.code l.call)) l.walk (g.W.World.state l.fn.world) (g.W.World.state l.world) l.fn.arena.nodes l.arena.nodes l.fn.memo l.memo
    × CallMaking g.M.AskMachine.model g.W.World.model g.M.AskMachine.call_of g.M.AskMachine.place g.M.AskMachine.item_of g.M.AskMachine.marked l.fuel l.depth
    (g.M.AskMachine.call_of (g.M.Call.Kept.code l.call)) l.walk (g.W.World.state l.fn.world) (g.W.World.state l.world) l.arena.nodes l.fn.arena.made l.arena.made l.fn.memo

abbrev pub decreases-run_call-loop-walk : goal.decreases-run_call-loop-walk
decreases-run_call-loop-walk g l = l.fuel - l.walk.summary.units

abbrev pub invariant-run_unit-loop-passed : goal.invariant-run_unit-loop-passed
invariant-run_unit-loop-passed g l =
    UnitSoFar g.M.AskMachine.model g.W.World.model g.M.AskMachine.rebased g.M.AskMachine.call_of g.M.AskMachine.place g.M.AskMachine.item_of l.fuel l.depth
    l.fn.walk l.walk (told_of g.M.Value.Kept.code l.given) (g.W.World.state l.fn.world) (g.W.World.state l.world) l.fn.arena.nodes l.arena.nodes l.fn.memo l.memo
    × UnitMaking g.M.AskMachine.model g.W.World.model g.M.AskMachine.call_of g.M.AskMachine.place g.M.AskMachine.item_of g.M.AskMachine.marked l.fuel l.depth
    l.fn.walk l.walk (told_of g.M.Value.Kept.code l.given) (g.W.World.state l.fn.world) (g.W.World.state l.world) l.fn.arena.nodes l.arena.nodes l.fn.arena.made l.arena.made l.fn.memo

abbrev pub decreases-run_unit-loop-passed : goal.decreases-run_unit-loop-passed
decreases-run_unit-loop-passed g l = g.M.AskMachine.number (g.M.AskMachine.place l.walk.local)
