use Rattle.std.proofs.Common.{◌≡◌, ◌∙◌, false, sym, arith}
use Rattle.std.specs.Prelude.{◌&&◌, ◌||◌, not, nat_lt, slice_index}
use Rattle.hlasm_statements.specs.Columns.{is_blank}
use Rattle.hlasm_statements.proofs.FrontFieldLaws.{plain-stays, seeing-more}
use Rattle.hlasm_statements.proofs.front_field.front_field.Goals as goal
use Rattle.hlasm_statements.proofs.front_field.front_field.Goals.{else-not-is_plain-via-then-not-is_plain+else-is_end, else-not-is_plain-via-else-not-is_plain}

pub loop-count-preserved : goal.loop-count-preserved
loop-count-preserved c =
    let sight = c.loop-count.sight in
    let keeps = c.args.keeps_groups in
    let byte = slice_index c.args.bytes.now c.loop-count.count in
    let stays : (is_blank byte && not (sight.is_quoted || (nat_lt 0 sight.depth && keeps))) ≡ false = elim c.else-not-is_plain.branch [
      | else-not-is_plain-via-then-not-is_plain+else-is_end w ↦ sym w.is_end.ensures ∙ w.if-is_end.false
      | else-not-is_plain-via-else-not-is_plain w ↦ plain-stays keeps sight byte (sym c.is_plain.ensures ∙ w.if-not-is_plain.false)
    ] in (
      seeing-more keeps sight c.in_ok-sight.sight c.args.bytes.now c.loop-count.count c.loop-count-test.true c.loop-count.invariant.0 stays c.in_ok-sight.ensures.ascii c.in_ok-sight.ensures.seen,
      omega (arith, c.loop-count-test.true),
    )
