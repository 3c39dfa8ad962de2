use Rattle.std.proofs.Common.{length, ap, ◌∙◌, arith}
use Rattle.macro_debugger.proofs.FrameLemmas.{all_parts}
use Rattle.macro_debugger.proofs.shown.part.Goals as goal

pub returns : goal.returns
returns c =
    c.loop-variable.invariant
    ∙ all_parts c.args.globals c.loop-variable.variable-index c.args.variables.now (omega (arith, ap (λ vs. length vs) c.as_slice-variable-items.ensures))
