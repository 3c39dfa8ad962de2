use Rattle.std.proofs.Common.{◌∙◌, ◌++◌, ◌<◌, length, refl, ap, arith}
use Rattle.std.specs.Prelude.{chars}
use Rattle.hlasm_statements.specs.Places.{side_by_side}
use Rattle.hlasm_statements.proofs.WordLaws.{label-on, operation-on}
use Rattle.hlasm_statements.proofs.reader.Reader.read_word.Goals as goal

pub returns-in_ok-add-in-Label : goal.returns-in_ok-add-in-Label
returns-in_ok-add-in-Label c = λ alternate.
    label-on c.args.self.now _ alternate c.args.line c.args.column (chars c.args.word.now)
    (record {
      stage = refl;
      label = c.in_ok-add-in-Label.ensures.text;
      op = refl;
      operands = refl;
      label_places = c.in_ok-add-in-Label.ensures.places ∙ ap (λ n. c.args.self.now.label_places ++ side_by_side c.args.line c.args.column n) c.requires.count;
      op_places = refl;
      operand_places = refl;
      nesting = refl;
      comma = refl;
    })
    c.in-Label.is c.requires.ink

pub returns-in_ok-add-in_default : goal.returns-in_ok-add-in_default
returns-in_ok-add-in_default c = λ alternate.
    let some : 0 < length (chars c.args.word.now) = omega (arith, c.requires.count, c.requires.some) in
    operation-on c.args.self.now _ alternate c.args.line c.args.column (chars c.args.word.now)
    (record {
      stage = refl;
      label = refl;
      op = c.in_ok-add-in_default.ensures.text;
      operands = refl;
      label_places = refl;
      op_places = c.in_ok-add-in_default.ensures.places ∙ ap (λ n. c.args.self.now.op_places ++ side_by_side c.args.line c.args.column n) c.requires.count;
      operand_places = refl;
      nesting = refl;
      comma = refl;
    })
    some c.requires.before c.in_default.not-Label c.requires.ink
