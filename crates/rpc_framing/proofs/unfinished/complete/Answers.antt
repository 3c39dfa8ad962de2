use Rattle.std.proofs.Common.{◌≡◌, List, ℕ, [], ◌∷◌, ◌++◌, ◌-◌, ◌∙◌, length, take, drop, subst, sym, ap, arith, rules}
use Rattle.rpc_framing.specs.Reading.{bodies_of}
use Rattle.rpc_framing.specs.Steps.{Accepts}
use Rattle.rpc_framing.proofs.Pieces.{Accepts-whole, within_later}
use Rattle.rpc_framing.proofs.unfinished.complete.Goals as goal

pub returns-clause-stands : goal.returns-clause-stands
returns-clause-stands c = rw c.take_up.ensures.rest c.in_ok-ahead.ensures.stands

pub returns-clause-within : goal.returns-clause-within
returns-clause-within c =
    within_later c.args.piece.now c.args.end _ _ c.in_ok-ahead.ahead.fault c.map.result c.requires.reaches.1 c.in_ok-ahead.ensures.reads (search rules)

pub returns-clause-reads : goal.returns-clause-reads
returns-clause-reads c =
    let e = c.requires.reaches in
    let piece : List ℕ = c.args.piece.now in
    let before : List (List ℕ) = bodies_of c.args.ready.now.items in
    let ahead = c.in_ok-ahead.ahead in
    let fresh : List (List ℕ) = bodies_of ahead.bodies.items in
    let grown : List ℕ = c.args.rest.now.body.items ++ drop c.args.size (take c.args.end piece) in
    let made = c.in_ok-make_room.ensures in
    let joined : bodies_of c.take_up.new.ready.items ≡ before ++ grown ∷ fresh =
    c.take_up.ensures.ready ∙ ap (λ t. bodies_of t ++ c.make_room.new.rest.body.items ∷ fresh) made.ready ∙ ap (λ t. before ++ t ∷ fresh) made.body in
    let Reads : List ℕ → Type 0 = λ new. Accepts [] (take (length piece - c.args.end) (drop c.args.end piece)) [] fresh new ahead.fault in
    Accepts-whole _ e.2 _ _ piece c.args.size c.args.end _ before (bodies_of c.take_up.new.ready.items) fresh _ ahead.fault c.map.result
    c.requires.stands (grind arith) e.0 e.1 e.3 e.4
    (subst Reads (ap (λ now. now.header.items ++ now.body.items) (sym c.take_up.ensures.rest)) c.in_ok-ahead.ensures.reads)
    (search rules) joined
