use Rattle.std.proofs.Common.{◌≡◌, ℕ, List, subst, None, if◌then◌else◌}
use Rattle.std.proofs.Math.ListN.{drop_of_length-le}
use Rattle.using_ranges.specs.Ranges.{Held, range_at, is_among}
use Rattle.using_ranges.proofs.ranges.Ranges.drop_regs.Goals as goal

pub returns-clause-ranges : goal.returns-clause-ranges
returns-clause-ranges c = record {
  ranges = λ r h.
      let P : List ℕ → Type 0 = λ left. (if is_among r left then None else range_at c.loop-register.self-inside.held r)
      ≡ (if is_among r c.args.registers.now then None else range_at c.self.inside.held r) in
      let Q : Held → Type 0 = λ held. range_at c.loop-register.self-inside.held r
      ≡ (if is_among r c.args.registers.now then None else range_at held r) in
      subst Q c.self.view_is (subst P (drop_of_length-le c.args.registers.now c.loop-register-test.false) (c.loop-register.invariant.1 r h));
}
