use Rattle.std.proofs.Common.{◌∙◌, ◌-◌, length, take, ap, arith, cond}
use Rattle.std.specs.Prelude.{ℕ, chars, ◌==◌}
use Rattle.hl_base.specs.Texts.{units}
use Rattle.hl_base.specs.declared.edit.Position.{Position}
use Rattle.document_store.proofs.PlaceLemmas.{position_of-is, length-line_bytes, units_are_within}
use Rattle.document_store.proofs.place.position.Goals as goal

pub overflow_cast-result : goal.overflow_cast-result
overflow_cast-result c =
    let within = units_are_within (chars c.line_or_last-found.result.text.now) (c.args.column - 1) (c.line_or_last-found.result.number == c.args.line) in
    let line = ap length c.line_or_last-found.ensures.text in
    omega (arith, c.units_in.ensures, within, line, length-line_bytes c.args.text.now c.line_or_last-found.result.number c.utf8.text)

pub returns : goal.returns
returns c =
    let at : ℕ → Position = λ character. record { line = c.line_or_last-found.result.number; character = character } in
    ap at
    (c.units_in.ensures
    ∙ ap (λ line. cond (c.line_or_last-found.result.number == c.args.line) (units (take (c.args.column - 1) line)) (units line)) c.line_or_last-found.ensures.text)
    ∙ position_of-is (chars c.args.text.now) c.args.line c.args.column c.line_or_last-found.result.number c.line_or_last-found.ensures.number
