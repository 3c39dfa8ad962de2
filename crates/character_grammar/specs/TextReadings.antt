-- How character expressions are read (this project): a function of a text, which follows the reader character by
-- character. The law `laws::text_reading` says that it finds what the grammar says.
use Rattle.std.specs.Prelude.{ℕ, List, None, Result}
use Rattle.expression_grammar.specs.Readings.{read_by}
use Rattle.expression_grammar.specs.Spelling.{most_parts}
use Rattle.expression_grammar.specs.Trees.{Tree}
use Rattle.character_grammar.specs.TextReading.{WantPart, text_advance, text_accept}

-- the tree of a text, or the length of its longest front that some character expression begins with
abbrev pub read_text : List ℕ → Result Tree ℕ
read_text text = read_by (text_advance most_parts) text_accept (WantPart None) 0 text
