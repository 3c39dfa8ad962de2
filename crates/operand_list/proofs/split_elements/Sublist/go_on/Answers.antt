use Rattle.std.proofs.Common.{sym, subst}
use Rattle.operand_list.specs.declared.split_elements.Stage.{Stage}
use Rattle.operand_list.specs.SplitSublist.{IsListed}
use Rattle.operand_list.proofs.SplitLaws.{OnOk-map}
use Rattle.operand_list.proofs.SplitSublistLaws.{listed-within}
use Rattle.operand_list.proofs.split_elements.Sublist.go_on.Goals as goal

pub returns : goal.returns
returns c =
    OnOk-map c.read.result
    (λ reads rest whole listed.
    let P : Stage → Type 0 = λ stage. IsListed stage c.read.new.self rest whole in
    subst P (sym c.requires)
    (listed-within c.args.self.now.parting c.read.new.self c.args.c rest whole c.in_ok-closes.field-0 c.if-branch.false c.in_ok-closes.ensures reads listed))
    c.read.ensures
