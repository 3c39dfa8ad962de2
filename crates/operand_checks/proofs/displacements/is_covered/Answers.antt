use Rattle.std.proofs.Common.{◌∙◌, ℕ, ℤ, MatchOption, subst, to_z-of_z}
use Rattle.using_ranges.specs.Ranges.{Covers, IsCover}
use Rattle.operand_checks.proofs.Covers.{covers-test}
use Rattle.operand_checks.proofs.displacements.is_covered.Goals as goal

pub returns : goal.returns
returns c =
    let held = c.args.ranges.now in
    let best = c.cover.result in
    let P : ℤ → Type 0 = λ z. MatchOption best ((r d : ℕ) → Covers held c.args.section z r d → ⊥) (λ p. IsCover held c.args.section z p.0 p.1) in
    c.is_some.ensures ∙ covers-test held c.args.section c.args.offset best (subst P (to_z-of_z c.ranges.offset) c.cover.ensures)
