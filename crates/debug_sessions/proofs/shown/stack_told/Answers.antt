use Rattle.std.proofs.Common.{◌∙◌, map, ap, sym, arith}
use Rattle.std.specs.Prelude.{reverse}
use Rattle.std.proofs.lemmas.List.{take_all}
use Rattle.std.proofs.lemmas.Result.{IfOk-weaker}
use Rattle.dap_messages.specs.Written.{stack_value}
use Rattle.debug_sessions.specs.Shown.{shown_frame}
use Rattle.debug_sessions.proofs.FrameLemmas.{map_of_reverse}
use Rattle.debug_sessions.proofs.shown.stack_told.Goals as goal

pub returns-clause-body : goal.returns-clause-body
returns-clause-body c =
    let shown = shown_frame c.args.store.now.store.paths in
    let frames = c.args.frames.now in
    IfOk-weaker c.stack_body.result _ _
    (λ v is.
    is
    ∙ ap stack_value (
    c.as_slice.ensures.value
    ∙ c.reverse.ensures.items
    ∙ ap reverse (c.loop-frame.invariant ∙ ap (map shown) (take_all c.loop-frame.frame-index frames (omega arith)))
    ∙ sym (map_of_reverse shown frames)))
    c.stack_body.ensures.body
