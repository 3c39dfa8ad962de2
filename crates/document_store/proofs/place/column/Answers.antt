use Rattle.std.proofs.Common.{◌∙◌, ◌+◌, length, ap, arith, cond}
use Rattle.std.specs.Prelude.{chars, ◌==◌}
use Rattle.document_store.specs.Positions.{characters_before}
use Rattle.document_store.proofs.PlaceLemmas.{spot_of-line, spot_of-before, length-line_bytes, before_is_within}
use Rattle.document_store.proofs.place.column.Goals as goal

pub overflow_cast-result : goal.overflow_cast-result
overflow_cast-result c =
    let within = before_is_within (chars c.line_or_last-line.result.text.now) c.args.at.character (c.line_or_last-line.result.number == c.args.at.line) in
    let line = ap length c.line_or_last-line.ensures.text in
    omega (arith, c.characters_in.ensures, within, line, length-line_bytes c.args.text.now c.line_or_last-line.result.number c.utf8.text)

pub overflow_add-result : goal.overflow_add-result
overflow_add-result c =
    let within = before_is_within (chars c.line_or_last-line.result.text.now) c.args.at.character (c.line_or_last-line.result.number == c.args.at.line) in
    let line = ap length c.line_or_last-line.ensures.text in
    omega (arith, c.characters_in.ensures, within, line, length-line_bytes c.args.text.now c.line_or_last-line.result.number c.utf8.text)

pub returns-clause-line : goal.returns-clause-line
returns-clause-line c = spot_of-line (chars c.args.text.now) c.args.at c.line_or_last-line.result.number c.line_or_last-line.ensures.number

pub returns-clause-column : goal.returns-clause-column
returns-clause-column c =
    ap (λ n. n + 1)
    (c.characters_in.ensures
    ∙ ap (λ line. cond (c.line_or_last-line.result.number == c.args.at.line) (characters_before c.args.at.character line) (length line)) c.line_or_last-line.ensures.text
    ∙ spot_of-before (chars c.args.text.now) c.args.at c.line_or_last-line.result.number c.line_or_last-line.ensures.number)
