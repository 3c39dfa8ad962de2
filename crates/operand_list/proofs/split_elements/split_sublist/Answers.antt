use Rattle.std.proofs.Common.{◌≡◌, [], ℕ, List, subst, length, drop, arith}
use Rattle.std.specs.Prelude.{chars}
use Rattle.std.proofs.lemmas.Iterator.{YieldsList-from_chars}
use Rattle.std.proofs.lemmas.Iterator.Consumers.{YieldsList-turn, YieldsList-end}
use Rattle.std.proofs.lemmas.List.{length_push}
use Rattle.std.proofs.Math.ListN.{drop_of_length-le}
use Rattle.operand_list.specs.SplitSublist.{IsListed, elements_of}
use Rattle.operand_list.proofs.SplitLaws.{IfOk-map}
use Rattle.operand_list.proofs.SplitSublistLaws.{listed-more}
use Rattle.operand_list.proofs.split_elements.split_sublist.Goals as goal

pub loop-c-preserved : goal.loop-c-preserved
loop-c-preserved c =
    let t = YieldsList-turn (YieldsList-from_chars c.args.text.now c.utf8.text cc) c.loop-c.yielded _ c.loop-c.yielded_by _ _ c.in-Some.c c.in-Some.is c.next.ensures.steps in
    listed-more c.loop-c.sublist.stage c.read.new.self.stage c.loop-c.sublist.parting c.read.new.self.parting (chars c.args.text.now) (length c.loop-c.yielded) _ c.in-Some.c _ c.loop-c.invariant t (length_push c.loop-c.yielded c.in-Some.c) c.in_ok-read.ensures

pub returns : goal.returns
returns c =
    let t = YieldsList-end (YieldsList-from_chars c.args.text.now c.utf8.text cc) c.loop-c.yielded _ c.loop-c.yielded_by _ _ c.in-None.is c.next.ensures.steps in
    let end : drop (length c.loop-c.yielded) (chars c.args.text.now) ≡ [] = drop_of_length-le (chars c.args.text.now) (omega (arith, t.1)) in
    let P : List ℕ → Type 0 = λ rest. IsListed c.loop-c.sublist.stage c.loop-c.sublist.parting rest (elements_of (chars c.args.text.now)) in
    IfOk-map c.close.result (λ found is. is (elements_of (chars c.args.text.now)) (subst P end c.loop-c.invariant)) c.close.ensures
