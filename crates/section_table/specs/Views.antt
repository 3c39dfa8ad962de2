-- What the program's sections are. This project.
use Rattle.std.specs.Prelude.{ℕ, List, map, string_bytes}
use Rattle.std.specs.declared.string.String.{String}
use Rattle.std.specs.declared.alloc.Global.{Global}
use Rattle.section_table.specs.declared.span.Span as declared
use Rattle.section_table.specs.Spans.{Span}

abbrev pub span_of : declared.Span → Span
span_of span = record { at = span.counter.at; length = span.counter.length; dummy = span.dummy }

-- the names that keys spell
abbrev pub spelled : List (String Global) → List (List ℕ)
spelled keys = map string_bytes keys
