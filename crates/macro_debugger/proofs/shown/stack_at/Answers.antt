use Rattle.std.proofs.Common.{Some, sym, ap, ◌∙◌}
use Rattle.std.proofs.lemmas.Result.{IfOk-weaker}
use Rattle.macro_debugger.specs.Seen.{frames_there}
use Rattle.macro_debugger.proofs.FrameLemmas.{stack_there}
use Rattle.macro_debugger.proofs.shown.stack_at.Goals as goal

pub returns : goal.returns
returns c =
    let nodes = c.args.arena.now.nodes in
    let places = c.in_ok-places.places.items in
    IfOk-weaker c.frames_in.result _ _
    (λ frames is. stack_there nodes c.args.root.0 c.args.index places c.in_ok-places.ensures.path
    ∙ ap Some (ap (frames_there nodes) (sym c.as_slice.ensures.value) ∙ sym is))
    c.frames_in.ensures
