use Rattle.std.proofs.Common.{◌≡◌, ◌∙◌, ◌<◌, length, ap, sym, arith, Some, map}
use Rattle.section_table.specs.Spans as spans
use Rattle.section_table.specs.Tables.{begins_in, placed_in, span_in}
use Rattle.section_table.specs.Views.{span_of, spelled}
use Rattle.section_table.proofs.Changes.{changed_there, given_there}
use Rattle.section_table.proofs.table.SectionTable.take.Goals as goal

pub returns-in_err-offset-clause-taken : goal.returns-in_err-offset-clause-taken
returns-in_err-offset-clause-taken c =
    let table = c.args.self.now in
    let inside : c.in_ok-section.section < length table.spans.items = omega (arith, c.len.ensures) in
    changed_there (spelled table.names.keys) table.spans.items table.current c.in_ok-section.section c.index_mut.result.now c.take.new.self (spans.taken c.args.boundary c.args.bytes)
    c.in_ok-section.was inside c.index_mut.ensures.value c.take.ensures.taken

pub returns-clause-taken : goal.returns-clause-taken
returns-clause-taken c =
    let table = c.args.self.now in
    let inside : c.in_ok-section.section < length table.spans.items = omega (arith, c.len.ensures) in
    changed_there (spelled table.names.keys) table.spans.items table.current c.in_ok-section.section c.index_mut.result.now c.take.new.self (spans.taken c.args.boundary c.args.bytes)
    c.in_ok-section.was inside c.index_mut.ensures.value c.take.ensures.taken

pub returns-clause-begins : goal.returns-clause-begins
returns-clause-begins c =
    let table = c.args.self.now in
    let section = c.in_ok-section.section in
    let inside : section < length table.spans.items = omega (arith, c.len.ensures) in
    let held = span_of c.index_mut.result.now in
    let given = given_there table.spans.items table.current section c.index_mut.result.now c.in_ok-section.was inside c.index_mut.ensures.value in
    sym (ap (λ o. placed_in o (begins_in c.args.boundary c.args.bytes (span_in table.current (map span_of table.spans.items)))) c.in_ok-section.was
    ∙ ap (λ o. placed_in (Some section) (begins_in c.args.boundary c.args.bytes o)) given
    ∙ ap (placed_in (Some section)) (sym c.take.ensures.begins ∙ c.in_ok-offset.was))
