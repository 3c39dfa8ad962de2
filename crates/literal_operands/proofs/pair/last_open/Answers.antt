use Rattle.std.proofs.Common.{◌≡◌, ◌∙◌, [], ℕ, List, length, drop, ap, sym, refl, arith}
use Rattle.std.specs.Prelude.{chars}
use Rattle.std.proofs.lemmas.Iterator.{YieldsList-from_chars}
use Rattle.std.proofs.lemmas.Iterator.Consumers.{YieldsList-turn, YieldsList-end}
use Rattle.std.proofs.lemmas.List.{length_push}
use Rattle.std.proofs.Math.ListN.{drop_of_length-le}
use Rattle.hl_base.specs.Quoting.{IsBehind}
use Rattle.literal_operands.specs.Pairs.{opens}
use Rattle.literal_operands.proofs.Opens.{with_opened, found-init, found-more, found-end}
use Rattle.literal_operands.proofs.pair.last_open.Goals as goal
use Rattle.literal_operands.proofs.pair.last_open.Goals.{then-opens, else-opens}

pub loop-c-init : goal.loop-c-init
loop-c-init c = (refl, found-init c.new-nesting.result (chars c.args.text.now) c.new-nesting.ensures)

pub loop-c-preserved : goal.loop-c-preserved
loop-c-preserved c =
    let t = YieldsList-turn (YieldsList-from_chars c.args.text.now c.utf8.text cc) c.loop-c.yielded _ c.loop-c.yielded_by _ _ c.in-Some.c c.in-Some.is c.next.ensures.steps in
    let n = length_push c.loop-c.yielded c.in-Some.c in
    let finds : (before : List ℕ) → IsBehind c.loop-c.nesting before → c.if-opens.found ≡ with_opened (opens c.in-Some.c before) c.loop-c.at c.loop-c.found =
    λ before behind.
    let opens_here : c.opens.result ≡ opens c.in-Some.c before = c.opens.ensures before behind in
    elim c.if-opens.branch [
      | then-opens w ↦ w.found-is ∙ ap (λ b. with_opened b c.loop-c.at c.loop-c.found) (sym w.if-opens.true ∙ opens_here)
      | else-opens w ↦ w.found-is ∙ ap (λ b. with_opened b c.loop-c.at c.loop-c.found) (sym w.if-opens.false ∙ opens_here)
    ] in (
      omega (arith, n),
      found-more c.loop-c.nesting c.read.new.self c.loop-c.found c.if-opens.found c.loop-c.at (length c.loop-c.yielded) _ c.in-Some.c (chars c.args.text.now) _
          c.loop-c.invariant.1 t n c.in_ok-read.ensures finds,
    )

pub returns : goal.returns
returns c =
    let t = YieldsList-end (YieldsList-from_chars c.args.text.now c.utf8.text cc) c.loop-c.yielded _ c.loop-c.yielded_by _ _ c.in-None.is c.next.ensures.steps in
    let end : drop (length c.loop-c.yielded) (chars c.args.text.now) ≡ [] = drop_of_length-le (chars c.args.text.now) (omega (arith, t.1)) in
    found-end c.loop-c.nesting c.loop-c.found c.loop-c.at _ _ c.loop-c.invariant.1 end
