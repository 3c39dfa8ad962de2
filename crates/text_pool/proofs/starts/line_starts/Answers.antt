use Rattle.std.proofs.Common.{refl, sym, subst}
use Rattle.text_pool.proofs.StartLemmas.{AreFirst, AreFirst-none, AreFirst-push}
use Rattle.text_pool.proofs.starts.line_starts.Goals as goal

pub loop-init : goal.loop-init
loop-init c = AreFirst-none c.args.text.now c.new-starts.result.items 0 c.utf8.text c.new-starts.ensures.items refl

pub loop-preserved : goal.loop-preserved
loop-preserved c =
    subst (λ xs. AreFirst c.args.text.now xs c.in-Some.next) (sym c.in_ok-push.ensures.items)
    (AreFirst-push c.args.text.now c.loop.starts.items c.loop.start c.in-Some.next c.loop.invariant c.in-Some.ensures)
