use Rattle.std.proofs.Common.{refl, sym, subst, []}
use Rattle.asking_core.specs.Machines.{Nothing}
use Rattle.asking_core.specs.Runs.{Agrees}
use Rattle.asking_core.proofs.Modesty.{proper_of}
use Rattle.asking_core.proofs.Sound.{complete, hears_itself, sound}
use Rattle.asking_core.proofs.laws.footprints_suffice.Goals as goal

pub returns : goal.returns
returns g c =
    let M = g.M.AskMachine.model in
    let W = g.W.World.model in
    let moving = g.M.AskMachine.moving in
    let writable = g.M.AskMachine.writable in
    let rebased = g.M.AskMachine.rebased in
    record {
      suffices = λ call t s u f a agrees holds.
          let P : W.State → Type 0 = λ y. Agrees W y t in
          let q = proper_of M moving writable g.M.AskMachine.quiet g.met.M.AskMachine.modest t (M.start call) Nothing 0 (λ is. refl) a f in
          subst P (c.requires.bump_none u)
          (sound W moving writable rebased c.requires t u [] 0 q tt
          (hears_itself W moving writable rebased c.requires t s [] 0 q tt (subst P (sym (c.requires.bump_none s)) agrees))
          holds);
      answered = λ call t s f a agrees.
          let P : W.State → Type 0 = λ y. Agrees W y t in
          let q = proper_of M moving writable g.M.AskMachine.quiet g.met.M.AskMachine.modest t (M.start call) Nothing 0 (λ is. refl) a f in
          complete W moving writable rebased c.requires t s [] 0 q tt (subst P (sym (c.requires.bump_none s)) agrees);
    }
