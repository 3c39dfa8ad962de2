use Rattle.std.proofs.Common.{◌≡◌, ◌∙◌, [], sym, ap, length, drop, arith}
use Rattle.std.specs.Prelude.{chars}
use Rattle.std.proofs.lemmas.Iterator.{YieldsList-from_chars}
use Rattle.std.proofs.lemmas.Iterator.Consumers.{YieldsList-turn, YieldsList-end}
use Rattle.std.proofs.lemmas.List.{length_push}
use Rattle.std.proofs.Math.ListN.{drop_of_length-le}
use Rattle.operand_list.proofs.SplitLaws.{parted-init, parted-more, parted-end, none-of_empty, operands-of_some, IfOk-map}
use Rattle.operand_list.proofs.split.split_operands.Goals as goal

pub returns-then-is_empty : goal.returns-then-is_empty
returns-then-is_empty c = c.new-parting.ensures.none ∙ none-of_empty c.args.text.now (sym c.is_empty.ensures ∙ c.if-is_empty.true)

pub loop-c-init : goal.loop-c-init
loop-c-init c =
    parted-init c.new-parting.result (chars c.args.text.now) c.new-parting.ensures.behind c.new-parting.ensures.none c.new-parting.ensures.count (ap chars c.new-parting.ensures.from)

pub loop-c-preserved : goal.loop-c-preserved
loop-c-preserved c =
    let t = YieldsList-turn (YieldsList-from_chars c.args.text.now c.utf8.text cc) c.loop-c.yielded _ c.loop-c.yielded_by _ _ c.in-Some.c c.in-Some.is c.next.ensures.steps in
    parted-more 0 c.loop-c.parting c.read.new.self (chars c.args.text.now) (length c.loop-c.yielded) _ c.in-Some.c _ c.loop-c.invariant t (length_push c.loop-c.yielded c.in-Some.c) c.in_ok-read.ensures

pub returns : goal.returns
returns c =
    let t = YieldsList-end (YieldsList-from_chars c.args.text.now c.utf8.text cc) c.loop-c.yielded _ c.loop-c.yielded_by _ _ c.in-None.is c.next.ensures.steps in
    let end : drop (length c.loop-c.yielded) (chars c.args.text.now) ≡ [] = drop_of_length-le (chars c.args.text.now) (omega (arith, t.1)) in
    IfOk-map c.close.result
    (λ texts is. parted-end 0 c.loop-c.parting texts _ _ c.loop-c.invariant end is ∙ operands-of_some c.args.text.now c.utf8.text (sym c.is_empty.ensures ∙ c.if-is_empty.false))
    c.close.ensures
