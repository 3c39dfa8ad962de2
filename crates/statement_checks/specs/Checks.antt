-- Which check a statement has, by its operation (HLASM Language Reference SC26-4940, "Machine instruction statements", "DC
-- instruction", "DS instruction", "USING instruction", "DROP instruction"). All others have none.
use Rattle.std.specs.Prelude.{ℕ, List, codes, encode_utf8_all, if◌then◌else◌}
use Rattle.std.specs.Str.{bytes_eq}
use Rattle.hl_base.specs.declared.set.Line.{Line}
use Rattle.section_layout.specs.Statements.{meaning}
use Rattle.symbol_attributes.specs.declared.meaning.OpMeaning.{OpMeaning}
use Rattle.symbol_attributes.specs.declared.meaning.OpMeaning.TheVariants as op
use Rattle.statement_checks.specs.declared.checks.Check.{Check}
use Rattle.statement_checks.specs.declared.checks.Check.TheVariants.{Machine, Constants, Using, Drop, Nothing}

abbrev pub check_of_name : List ℕ → Check
check_of_name name =
    if bytes_eq name (codes "USING") then Using else
    (if bytes_eq name (codes "DROP") then Drop else
    (if bytes_eq name (codes "DC") then Constants else
    (if bytes_eq name (codes "DS") then Constants else
    Nothing)))

abbrev pub check_of : OpMeaning → Check
check_of (op.Machine format) = Machine format
check_of (op.Assembler name) = check_of_name name
check_of op.Other = Nothing

unfoldable pub check : Line → Check
check line = check_of (meaning (encode_utf8_all line.op))
