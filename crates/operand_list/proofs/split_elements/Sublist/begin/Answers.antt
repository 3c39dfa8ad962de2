use Rattle.operand_list.proofs.SplitSublistLaws.{listed-opened}
use Rattle.operand_list.proofs.split_elements.Sublist.begin.Goals as goal

pub returns : goal.returns
returns c = λ rest whole listed.
    listed-opened c.args.self.now.parting c.open.new.self c.args.c rest whole c.if-c-ne40.false c.open.ensures.done c.in_ok-open.ensures.count c.in_ok-open.ensures.from c.in_ok-open.ensures.behind listed
