use Rattle.std.proofs.Common.{ap}
use Rattle.kept_values.specs.Trees.{Leaf}
use Rattle.asking_core.specs.Counters.{Round, round}
use Rattle.asking_core.proofs.CounterLaws.{round_more}
use Rattle.example_language.specs.World.{Held}
use Rattle.example_language.proofs.world.CellsWorld.bump.Goals as goal

pub returns : goal.returns
returns c =
    let now = c.args.self.now in
    let with : Round → Held = λ r. record { value = Leaf now.value; calls = r; depth = round now.depth; at = now.at } in
    ap with (round_more now.calls c.args.calls)
