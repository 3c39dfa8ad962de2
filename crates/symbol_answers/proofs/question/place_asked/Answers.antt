use Rattle.document_store.specs.Holdings.{present_text}
use Rattle.document_store.specs.Store.{present_at}
use Rattle.symbol_answers.proofs.PresentLaws.{text_is_present, unreadable_told, nothing_told, column_told}
use Rattle.symbol_answers.proofs.question.place_asked.Goals as goal

pub column-requires : goal.column-requires
column-requires c = record {
  present = text_is_present c.args.store.now.pool (present_at c.args.store.now.store c.args.path.0) c.in-Some-File.field-0 c.in-Some-File.field-0-0 c.in-Some-File.field-0-is
      c.in-Some-File.ensures;
}

pub returns-in-Some-File : goal.returns-in-Some-File
returns-in-Some-File c =
    column_told (present_text c.args.store.now.store c.args.path.0) c.args.at c.column.result
    (text_is_present c.args.store.now.pool (present_at c.args.store.now.store c.args.path.0) c.in-Some-File.field-0 c.in-Some-File.field-0-0 c.in-Some-File.field-0-is
    c.in-Some-File.ensures)
    c.column.ensures.line c.column.ensures.column

pub returns-in-Some-Unreadable : goal.returns-in-Some-Unreadable
returns-in-Some-Unreadable c =
    unreadable_told c.args.store.now.pool (present_at c.args.store.now.store c.args.path.0) c.in-Some-Unreadable.field-0 c.args.at c.in-Some-Unreadable.field-0-is
    c.in-Some-Unreadable.ensures

pub returns-in-None : goal.returns-in-None
returns-in-None c = nothing_told c.args.store.now.pool (present_at c.args.store.now.store c.args.path.0) c.args.at c.in-None.ensures
