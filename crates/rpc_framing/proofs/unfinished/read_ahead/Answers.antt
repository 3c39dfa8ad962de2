use Rattle.std.proofs.Common.{◌≡◌, List, ℕ, [], ◌++◌, ◌∙◌, refl, take, drop, subst, sym, ap}
use Rattle.std.proofs.lemmas.List.{take_rest}
use Rattle.rpc_framing.specs.Frames.{IsFrames}
use Rattle.rpc_framing.specs.Reading.{bodies_of}
use Rattle.rpc_framing.proofs.Standing.{Stands-nil}
use Rattle.rpc_framing.proofs.Pieces.{Stands-grown, Brings-ahead, Spoils-ahead, IsFrames-ahead, bodies_of-push}
use Rattle.rpc_framing.proofs.unfinished.read_ahead.Goals as goal

pub returns-in-Within-clause-reads : goal.returns-in-Within-clause-reads
returns-in-Within-clause-reads c =
    let grown = c.in_ok-grow-in-Within.ensures in
    let read = c.loop-size.invariant in
    let left : List ℕ = c.loop-size.left.now in
    let header : c.grow.new.self.header.items ≡ take c.in-Within.size left = grown.header ∙ ap (λ t. t ++ take c.in-Within.size left) c.new-rest.ensures.header in
    let body : c.grow.new.self.body.items ≡ drop c.in-Within.size left = grown.body ∙ ap (λ t. t ++ drop c.in-Within.size left) c.new-rest.ensures.body in
    Brings-ahead _ _ read.0 left _ _ _ _ _ read.1 read.2
    (Stands-grown _ _ _ [] [] left _ _ _ _ Stands-nil refl c.in-Within.ensures.1 c.in-Within.ensures.2 header body grown.stage)
    c.in-Within.ensures.1 header body

pub returns-in-Dead-clause-reads : goal.returns-in-Dead-clause-reads
returns-in-Dead-clause-reads c =
    let read = c.loop-size.invariant in
    Spoils-ahead _ _ _ _ _ _ read.1 read.2 c.in-Dead.ensures

pub loop-size-preserved : goal.loop-size-preserved
loop-size-preserved c =
    let read = c.loop-size.invariant in
    let e = c.in-Whole.ensures in
    let left : List ℕ = c.loop-size.left.now in
    let front : List ℕ = read.0 ++ take c.in-Whole.end left in
    let more = IsFrames-ahead e.2 read.0 left c.args.piece.now (bodies_of c.loop-size.bodies.items) c.in-Whole.size c.in-Whole.end read.1 read.2 e.0 e.1 e.3 e.4 in
    let pushed = bodies_of-push _ _ _ _ c.in_ok-push_back-in-Whole.ensures.items c.in_ok-from_slice-in-Whole.ensures.items in
    let P : List (List ℕ) → Type 0 = λ t. IsFrames front t in
    (front, subst P (sym pushed) more.0, more.1 ∙ ap (λ t. front ++ t) (sym (take_rest left c.in-Whole.end)))
