use Rattle.std.proofs.Common.{Option, ◌++◌, refl, ap, subst}
use Rattle.rpc_framing.specs.Reading.{bodies_of}
use Rattle.rpc_framing.specs.Steps.{Accepts}
use Rattle.rpc_framing.specs.declared.unfinished.Astray.{Astray}
use Rattle.rpc_framing.proofs.Pieces.{Stops-Spoils}
use Rattle.rpc_framing.proofs.reader.FrameReader.feed.Goals as goal

pub returns-in-Some-fault-clause-stops : goal.returns-in-Some-fault-clause-stops
returns-in-Some-fault-clause-stops c = λ other sound.
    let before = c.self.inside in
    let now = c.accept.new in
    let Reads : Option Astray → Type 0 = λ fault.
    Accepts (before.rest.header.items ++ before.rest.body.items) c.args.piece.now (bodies_of before.ready.items)
    (bodies_of now.ready.items) (now.rest.header.items ++ now.rest.body.items) fault in
    Stops-Spoils _ _ _ _ _ _ _ _ _ _ (subst Reads c.in-Some-fault.is c.in_ok-fault.ensures.reads) sound
    (ap (λ r. r.rest) c.self.view_is) (ap (λ r. r.ready) c.self.view_is) (ap (λ r. r.fed) c.self.view_is) refl refl c.of-fault.ensures refl
