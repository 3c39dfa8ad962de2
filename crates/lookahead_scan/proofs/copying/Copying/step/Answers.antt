use Rattle.std.proofs.Common.{refl}
use Rattle.std.proofs.lemmas.Result.{IfOk-weaker}
use Rattle.lookahead_scan.proofs.Copies.{seen-step, same-step}
use Rattle.lookahead_scan.proofs.copying.Copying.step.Goals as goal

pub returns-in-Some : goal.returns-in-Some
returns-in-Some g c =
    let popped = record c.args.self.now { current = c.pop_front.new.self } in
    IfOk-weaker c.see.result _ _
    (λ progress sees. seen-step (g.P.Present.members c.args.present.now) c.args.self.now popped c.see.new.self c.in-Some.sight progress refl refl refl c.in-Some.ensures.items sees)
    c.see.ensures

pub returns-in-None : goal.returns-in-None
returns-in-None g c =
    let popped = record c.args.self.now { current = c.pop_front.new.self } in
    same-step (g.P.Present.members c.args.present.now) c.args.self.now popped c.back.new.self c.back.result refl refl refl c.in-None.ensures.items
    (c.back.ensures (g.P.Present.members c.args.present.now))
