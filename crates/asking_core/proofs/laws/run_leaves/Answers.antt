use Rattle.std.proofs.Common.{◌+◌, refl, sym, ap, ◌∙◌, [], append-nil}
use Rattle.std.proofs.Math.Nat.{zero-add}
use Rattle.asking_core.specs.Worlds.{moved}
use Rattle.asking_core.specs.Machines.{Nothing}
use Rattle.asking_core.specs.Runs.{after_run, put_by, bumped}
use Rattle.asking_core.proofs.Modesty.{proper_of}
use Rattle.asking_core.proofs.Effects.{effect}
use Rattle.asking_core.proofs.laws.run_leaves.Goals as goal

pub returns : goal.returns
returns g c = λ call t s f a.
    let M = g.M.AskMachine.model in
    let W = g.W.World.model in
    let moving = g.M.AskMachine.moving in
    let writable = g.M.AskMachine.writable in
    let rebased = g.M.AskMachine.rebased in
    let q = proper_of M moving writable g.M.AskMachine.quiet g.met.M.AskMachine.modest t (M.start call) Nothing 0 (λ is. refl) a f in
    ap (λ y. after_run W y t) (sym (c.requires.bump_none s))
    ∙ effect W moving writable rebased c.requires t s [] 0 q tt
    ∙ ap (λ y. moved W s y (0 + bumped t)) (append-nil (put_by t))
    ∙ ap (moved W s (put_by t)) (zero-add (bumped t))
