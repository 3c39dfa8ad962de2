use Rattle.std.proofs.Common.{◌≡◌, ◌∙◌, ◌<◌, [], ◌++◌, ℕ, List, length, refl, sym, ap, subst}
use Rattle.std.specs.Prelude.{chars}
use Rattle.std.proofs.lemmas.Bool.{eqb-true}
use Rattle.std.proofs.lemmas.List.{nil_from_length}
use Rattle.hlasm_statements.specs.Columns.{placed}
use Rattle.hlasm_statements.specs.Reading.{ReadsOn}
use Rattle.hlasm_statements.proofs.CharLaws.{none-chars}
use Rattle.hlasm_statements.proofs.ListLaws.{above_zero}
use Rattle.hlasm_statements.proofs.OperandLaws.{reads-past, read-scanned}
use Rattle.hlasm_statements.proofs.ReadingLaws.{reads-none}
use Rattle.hlasm_statements.proofs.reader.Reader.read_operands.Goals as goal

pub returns-then-is_empty : goal.returns-then-is_empty
returns-then-is_empty c =
    let none : chars c.args.part.now ≡ [] = nil_from_length (chars c.args.part.now) (eqb-true _ 0 (sym (none-chars c.args.part.now c.utf8.part) ∙ sym c.is_empty.ensures ∙ c.if-is_empty.true)) in
    let P : List ℕ → Type 0 = λ text. ReadsOn c.args.self.now c.args.self.now c.args.alternate (placed c.args.line c.args.column text) in
    subst P (sym none) (reads-none c.args.self.now c.args.alternate)

pub returns-then-is_past : goal.returns-then-is_past
returns-then-is_past c = reads-past c.args.self.now c.args.alternate c.args.line c.args.column (chars c.args.part.now) (sym c.is_past.ensures ∙ c.if-is_past.true)

pub returns : goal.returns
returns c =
    let some : 0 < length (chars c.args.part.now) = above_zero _ (sym (none-chars c.args.part.now c.utf8.part) ∙ sym c.is_empty.ensures ∙ c.if-is_empty.false) in
    read-scanned c.args.self.now _ c.args.alternate c.args.line c.args.column (chars c.args.part.now) c.in_ok-scan.scan c.requires (sym c.is_past.ensures ∙ c.if-is_past.false) some c.in_ok-scan.ensures.scan
    (record {
      stage = c.stage_scanned-self.ensures;
      label = refl;
      op = refl;
      operands = c.in_ok-add.ensures.text ∙ ap (λ front. c.args.self.now.operands ++ front) c.in_ok-scan.ensures.field;
      label_places = refl;
      op_places = refl;
      operand_places = c.in_ok-add.ensures.places;
      nesting = refl;
      comma = refl;
    })
