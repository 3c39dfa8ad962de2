use Rattle.std.proofs.Common.{◌∙◌, ap, sym, is_some}
use Rattle.text_lists.specs.Lists.{with_list}
use Rattle.text_lists.proofs.TextLaws.{copied-none, text-added}
use Rattle.text_lists.proofs.lists.TextLists.add.Goals as goal

pub returns : goal.returns
returns c =
    text-added c.self.inside.texts c.insert.new.self.entries c.args.self.now c.args.path.0 c.in_ok-list.list c.self.view_is
    (ap is_some (sym c.text_of.ensures ∙ copied-none c.text_of.result (sym c.is_some.ensures ∙ c.if-is_some.false)))
    c.in_ok-insert.ensures.entries
    ∙ ap (with_list c.args.self.now c.args.path.0) c.in_ok-list.ensures
