use Rattle.section_table.specs.Spans as spans
use Rattle.section_table.specs.Views.{spelled}
use Rattle.section_table.proofs.Changes.{changed_there}
use Rattle.std.proofs.Common.{◌<◌, length, arith}
use Rattle.section_table.proofs.table.SectionTable.org.Goals as goal

pub returns-clause-moved : goal.returns-clause-moved
returns-clause-moved c =
    let table = c.args.self.now in
    let inside : c.in-Some.section < length table.spans.items = omega (arith, c.len.ensures) in
    changed_there (spelled table.names.keys) table.spans.items table.current c.in-Some.section c.index_mut.result.now c.org.new.self (spans.org c.args.at)
    c.in-Some.is inside c.index_mut.ensures.value c.org.ensures.moved
