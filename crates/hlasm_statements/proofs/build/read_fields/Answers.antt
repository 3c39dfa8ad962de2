use Rattle.std.proofs.Common.{◌≡◌, ◌+◌, [], List, sym, subst, arith, append-nil}
use Rattle.std.specs.Prelude.{chars}
use Rattle.hlasm_statements.specs.Columns.{Placed, placed}
use Rattle.hlasm_statements.specs.Reading.{IsRead}
use Rattle.hlasm_statements.proofs.ResultLaws.{some_value}
use Rattle.hlasm_statements.proofs.BuildLaws.{lines-more}
use Rattle.hlasm_statements.proofs.build.read_fields.Goals as goal

pub loop-body-init : goal.loop-body-init
loop-body-init c =
    let P : List Placed → Type 0 = λ source. IsRead c.read_part.new.self c.args.alternate source in (
      subst P (sym (append-nil (placed c.args.number 1 (chars c.args.first.now)))) (c.in_ok-read_part.ensures [] c.requires),
      omega arith,
    )

pub loop-body-preserved : goal.loop-body-preserved
loop-body-preserved c =
    let on : c.in_ok-line.line ≡ c.loop-body.line + 1 = some_value _ c.checked_add.result _ _ c.checked_add.ensures c.in_ok-line.ensures.ok_part in
    let at : c.in_ok-line.line ≡ c.args.number + (c.loop-body.body-index + 1) = omega (arith, on, c.loop-body.invariant.1) in
    let P : List Placed → Type 0 = λ source. IsRead c.read_part-in-loop-body.new.self c.args.alternate source in (
      subst P (lines-more c.args.number (chars c.args.first.now) c.args.rest.now c.loop-body.body-index c.in_ok-line.line _ (chars c.split_columns.result.1.now) c.loop-body-test.true at c.split_columns.ensures.back)
          (c.in_ok-read_part-2.ensures _ c.loop-body.invariant.0),
      at,
    )
