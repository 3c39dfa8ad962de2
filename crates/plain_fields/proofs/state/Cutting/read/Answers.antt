use Rattle.std.proofs.Common.{◌∙◌, ◌∷◌, sym, ap, subst, take, drop, ℕ}
use Rattle.std.specs.Prelude.{chars}
use Rattle.operand_list.proofs.SplitLaws.{whole-ends, whole-goes-on, take-one_more, drop-one_more}
use Rattle.plain_fields.specs.Cutting.{IsBehind, part_of}
use Rattle.plain_fields.proofs.CuttingLaws.{behind_more, separator, separator-stays}
use Rattle.plain_fields.proofs.state.Cutting.read.Goals as goal

pub returns-then-separates : goal.returns-then-separates
returns-then-separates c = λ before left behind at plain. (
  subst (λ (n : ℕ). IsBehind n (c.args.byte ∷ before)) (sym c.cut.ensures.depth) (separator-stays c.args.self.now.depth c.args.byte before behind plain (sym c.separates.ensures ∙ c.if-separates.true)),
  ap (λ n. drop n (chars c.cut.new.self.from.now)) c.in_ok-cut.ensures.count ∙ c.in_ok-cut.ensures.from ∙ ap (drop 1) at,
  λ rest.
      whole-ends 0 c.args.byte before rest c.args.self.now.done c.cut.new.self.done (part_of c.args.self.now) (part_of c.cut.new.self)
      (separator c.args.self.now.depth c.args.byte before behind ∙ sym c.separates.ensures ∙ c.if-separates.true)
      c.in_ok-cut.ensures.done
      (ap (λ n. take n (chars c.cut.new.self.from.now)) c.in_ok-cut.ensures.count),
)

pub returns : goal.returns
returns c = λ before left behind at plain. (
  behind_more c.args.self.now.depth c.in_ok-self.field-0 c.args.byte before behind plain c.in_ok-self.ensures,
  ap (λ n. drop n (chars c.args.self.now.from.now)) c.in_ok-count.ensures ∙ drop-one_more c.args.self.now.count (chars c.args.self.now.from.now) c.args.byte left at,
  λ rest.
      whole-goes-on 0 c.args.byte before rest c.args.self.now.done (part_of c.args.self.now) (take c.in_ok-count.count (chars c.args.self.now.from.now))
      (separator c.args.self.now.depth c.args.byte before behind ∙ sym c.separates.ensures ∙ c.if-separates.false)
      (ap (λ n. take n (chars c.args.self.now.from.now)) c.in_ok-count.ensures ∙ take-one_more c.args.self.now.count (chars c.args.self.now.from.now) c.args.byte left at),
)
