use Rattle.std.proofs.Common.{◌∙◌, refl, ap}
use Rattle.std.specs.Prelude.{chars}
use Rattle.std.specs.List.{list_all}
use Rattle.hlasm_statements.specs.Columns.{is_ink}
use Rattle.hlasm_statements.proofs.FieldLaws.{all_while}
use Rattle.hlasm_statements.proofs.WordLaws.{read-blanks}
use Rattle.hlasm_statements.proofs.reader.Reader.read_run.Goals as goal

pub returns-then-blanks-gt0-clause-read : goal.returns-then-blanks-gt0-clause-read
returns-then-blanks-gt0-clause-read c = λ alternate.
    read-blanks c.args.self.now _ alternate c.args.line c.args.column c.front_blanks-blanks.result.count (chars c.args.text.now)
    (record {
      stage = c.behind_blanks-self.ensures;
      label = refl;
      op = refl;
      operands = refl;
      label_places = refl;
      op_places = refl;
      operand_places = refl;
      nesting = refl;
      comma = refl;
    })
    c.requires c.front_blanks-blanks.ensures.count c.if-blanks-gt0.true

pub read_word-requires-clause-ink : goal.read_word-requires-clause-ink
read_word-requires-clause-ink c = ap (list_all is_ink) c.front_word-word.ensures.text ∙ all_while is_ink (chars c.args.text.now)
