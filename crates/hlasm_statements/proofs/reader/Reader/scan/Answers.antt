use Rattle.std.proofs.Common.{◌∙◌, ap, refl, arith}
use Rattle.std.specs.Prelude.{chars}
use Rattle.hlasm_statements.proofs.CharLaws.{ascii-cut, ascii-front}
use Rattle.hlasm_statements.proofs.FrontFieldLaws.{all-ascii, scanned-front}
use Rattle.hlasm_statements.proofs.reader.Reader.scan.Goals as goal

pub split_at-requires : goal.split_at-requires
split_at-requires c = ascii-cut c.args.text.now _ c.utf8.text (omega (arith, c.in-Some.ensures.front.within)) (all-ascii _ c.in-Some.ensures.front.ascii)

pub returns-in-Some-clause-scan : goal.returns-in-Some-clause-scan
returns-in-Some-clause-scan c =
    scanned-front c.args.self.now c.args.alternate c.args.text.now c.in-Some.front _ c.utf8.text c.in-Some.ensures.begins c.in-Some.ensures.front refl refl refl

pub returns-in-Some-clause-field : goal.returns-in-Some-clause-field
returns-in-Some-clause-field c =
    ap chars c.split_at.ensures.front
    ∙ ascii-front c.args.text.now _ c.in-Some.front.count c.utf8.text (omega (arith, c.in-Some.ensures.front.within)) (all-ascii _ c.in-Some.ensures.front.ascii)
