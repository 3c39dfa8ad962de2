use Rattle.std.proofs.Common.{ℕ, ◌+◌, ℤ, Option, sym, subst, w32}
use Rattle.std.proofs.lemmas.Int.{to_z-of_z}
use Rattle.using_ranges.proofs.Best.{adds_nothing, stays}
use Rattle.using_ranges.specs.Ranges.{Covers, IsBestBelow}
use Rattle.using_ranges.proofs.ranges.Ranges.better.Goals as goal

pub returns-in_default : goal.returns-in_default
returns-in_default c =
    adds_nothing c.args.self.now c.args.section c.args.offset c.args.register c.args.best c.requires.below (λ d h.
    let P : ℤ → Type 0 = λ z. Covers c.args.self.now c.args.section z c.args.register d in
    c.in_default.ensures d (subst P (sym (to_z-of_z w32 c.args.offset c.ranges.offset)) h))

pub returns-in-Some-best : goal.returns-in-Some-best
returns-in-Some-best c =
    let P : Option (ℕ × ℕ) → Type 0 = λ o. IsBestBelow c.args.self.now c.args.section c.args.offset c.args.register o in
    let Q : Option (ℕ × ℕ) → Type 0 = λ o. IsBestBelow c.args.self.now c.args.section c.args.offset (c.args.register + 1) o in
    let C : ℤ → Type 0 = λ z. Covers c.args.self.now c.args.section z c.args.register c.in-Some.displacement in
    subst Q (sym c.in-Some-best.is) (stays c.args.self.now c.args.section c.args.offset c.args.register c.in-Some.displacement
    (c.in-Some-best.field-0-0, c.in-Some-best.least) (subst P c.in-Some-best.is c.requires.below)
    (subst C (to_z-of_z w32 c.args.offset c.ranges.offset) (c.in-Some.ensures)) c.if-least-displacement.true)
