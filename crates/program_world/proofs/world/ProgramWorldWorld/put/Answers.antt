use Rattle.std.proofs.Common.{ap}
use Rattle.std.proofs.lemmas.Result.{IfErr-weaker}
use Rattle.kept_values.specs.Trees.{Tree}
use Rattle.std.proofs.Common.{Option}
use Rattle.asking_core.specs.Counters.{round}
use Rattle.program_world.specs.World.{ProgramState}
use Rattle.program_world.proofs.world.ProgramWorldWorld.put.Goals as goal

pub returns-clause-err : goal.returns-clause-err
returns-clause-err g c =
    let now = c.args.self.now in
    let with : (Tree → Option Tree) → ProgramState =
    λ puts. record { put = puts; calls = round now.calls; depth = round now.depth; statement = now.statement; text = now.sources.text; parm = now.parm; members = g.P.Present.members now.sources.present } in
    IfErr-weaker c.put.result _ _ (λ _ same. ap with same) c.put.ensures.err
