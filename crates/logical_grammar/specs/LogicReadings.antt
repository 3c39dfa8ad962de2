-- How logical expressions are read (this project): functions of a text, which follow the reader character by character. The
-- laws `laws::logic_reading` and `laws::logic_fronts` say that they find what the grammar says.
use Rattle.std.specs.Prelude.{ℕ, List, [], false, Result}
use Rattle.expression_grammar.specs.Readings.{Front, front_by, read_by}
use Rattle.expression_grammar.specs.Spelling.{most_parts}
use Rattle.expression_grammar.specs.Trees.{Tree}
use Rattle.logical_grammar.specs.LogicReading.{Want, at_point, logic_advance, logic_accept}

-- the tree of a text, or the length of its longest front that some logical expression begins with
abbrev pub read_logic : List ℕ → Result Tree ℕ
read_logic text = read_by (logic_advance most_parts) logic_accept (at_point [] (Want false)) 0 text

-- the front of a text that is a logical expression before a closing parenthesis, or how far the text goes
abbrev pub read_logic_front : List ℕ → Result Front ℕ
read_logic_front text = front_by (logic_advance most_parts) logic_accept (at_point [] (Want false)) 0 text
