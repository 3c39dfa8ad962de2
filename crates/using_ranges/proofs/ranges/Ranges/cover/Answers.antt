use Rattle.std.proofs.Common.{ℤ, subst, to_z-of_z, arith}
use Rattle.using_ranges.proofs.Best.{all_of_them}
use Rattle.using_ranges.specs.Ranges.{IsBestBelow}
use Rattle.using_ranges.proofs.ranges.Ranges.cover.Goals as goal

pub returns : goal.returns
returns c =
    let P : ℤ → Type 0 = λ z. IsBestBelow c.args.self.now c.args.section z c.loop-register.register c.loop-register.best in
    all_of_them c.args.self.now c.args.section c.args.offset c.loop-register.register c.loop-register.best
    (let each = c.registers-register-end.ensures.each in omega arith)
    (subst P (to_z-of_z c.ranges.offset) c.loop-register.invariant)
