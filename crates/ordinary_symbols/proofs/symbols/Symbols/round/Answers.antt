use Rattle.std.proofs.Common.{◌≡◌, ◌<◌, ◌∙◌, sym, length, arith}
use Rattle.ordinary_symbols.specs.Shown.{table_of}
use Rattle.ordinary_symbols.proofs.Settling.{turn_step}
use Rattle.ordinary_symbols.proofs.symbols.Symbols.round.Goals as goal
use Rattle.ordinary_symbols.proofs.symbols.Symbols.round.Goals.{then-try_at, else-try_at}

pub loop-at-preserved : goal.loop-at-preserved
loop-at-preserved c =
    let so_far = c.loop-at.invariant in
    let inside : c.loop-at.at < length (table_of c.loop-at.self) = let as_long = so_far.as_long in omega (arith, c.loop-at-test.true) in
    let step = turn_step (table_of c.loop-at.self) (table_of c.try_at.new.self) c.loop-at.at inside c.try_at.ensures.table in
    record {
      so_far = step.0 ∙ so_far.so_far;
      as_long = step.1 ∙ so_far.as_long;
      same = λ none. elim c.if-try_at.branch [
        | then-try_at w ↦ absurd (let settled = w.settled-is in cc)
        | else-try_at w ↦ c.try_at.ensures.same w.if-try_at.false ∙ so_far.same (sym w.settled-is ∙ none)
      ];
    }
