-- The sections as contracts see them. This project.
use Rattle.std.specs.Prelude.{map}
use Rattle.section_table.specs.declared.table.SectionTable.{SectionTable}
use Rattle.section_table.specs.Tables.{Table}
use Rattle.section_table.specs.Views.{span_of, spelled}

abbrev pub table_of : SectionTable → Table
table_of table = record { names = spelled table.names.keys; spans = map span_of table.spans.items; current = table.current }
