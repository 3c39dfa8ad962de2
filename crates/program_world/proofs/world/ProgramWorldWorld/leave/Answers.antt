use Rattle.std.proofs.Common.{ap}
use Rattle.asking_core.specs.Counters.{Round, round}
use Rattle.asking_core.proofs.CounterLaws.{round_more}
use Rattle.program_world.specs.World.{ProgramState}
use Rattle.program_world.specs.Puts.{held_by}
use Rattle.program_world.proofs.world.ProgramWorldWorld.leave.Goals as goal

pub returns : goal.returns
returns g c =
    let now = c.args.self.now in
    let with : Round → ProgramState = λ r. record { put = held_by now.puts; calls = round now.calls; depth = r; statement = now.statement; text = now.sources.text; parm = now.parm; members = g.P.Present.members now.sources.present } in
    ap with (round_more now.depth 4294967295)
