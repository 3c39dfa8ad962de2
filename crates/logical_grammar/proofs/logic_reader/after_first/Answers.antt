use Rattle.std.proofs.Common.{[]}
use Rattle.logical_grammar.specs.LogicViews.{open_of}
use Rattle.logical_grammar.proofs.logic_reader.after_first.Goals as goal

pub returns-in_ok-moved-in-Quote : goal.returns-in_ok-moved-in-Quote
returns-in_ok-moved-in-Quote c = rw c.in-Quote.is (c.in_ok-moved-in-Quote.ensures (open_of c.args.layers.now.items []))
