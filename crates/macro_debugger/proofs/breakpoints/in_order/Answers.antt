use Rattle.std.proofs.Common.{[], get_or, sym, ap, ◌∙◌, arith}
use Rattle.std.specs.Ordering.{nat_cmp}
use Rattle.std.specs.BTreeSet.{insert_key}
use Rattle.std.proofs.lemmas.List.Sums.{fold_more}
use Rattle.macro_debugger.proofs.breakpoints.in_order.Goals as goal

pub loop-line-preserved : goal.loop-line-preserved
loop-line-preserved c =
    c.in_ok-insert.ensures.keys
    ∙ ap (λ ks. insert_key nat_cmp ks (get_or c.args.lines.now c.loop-line.line-index 0)) c.loop-line.invariant
    ∙ sym (fold_more (insert_key nat_cmp) [] c.args.lines.now c.loop-line.line-index 0 (omega arith))
