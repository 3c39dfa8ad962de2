use Rattle.std.proofs.Common.{◌∙◌, ◌∷◌, sym, ap, subst, take, drop}
use Rattle.std.specs.Prelude.{chars}
use Rattle.hl_base.specs.Quoting.{IsBehind}
use Rattle.hl_base.specs.declared.quoting.Nesting.{Nesting}
use Rattle.operand_list.specs.Split.{part_of}
use Rattle.operand_list.proofs.SplitLaws.{whole-ends, whole-goes-on, take-one_more, drop-one_more}
use Rattle.operand_list.proofs.split.Parting.read.Goals as goal

pub returns-then-separates : goal.returns-then-separates
returns-then-separates c = λ before left behind at. (
  subst (λ (n : Nesting). IsBehind n (c.args.c ∷ before)) (sym c.cut.ensures.nesting) (c.in_ok-read.ensures before behind),
  ap (λ n. drop n (chars c.cut.new.self.from.now)) c.in_ok-cut.ensures.count ∙ c.in_ok-cut.ensures.from ∙ ap (drop 1) at,
  λ rest.
      whole-ends c.args.level c.args.c before rest c.args.self.now.done c.cut.new.self.done (part_of c.args.self.now) (part_of c.cut.new.self)
      (sym (c.is_separator-separates.ensures before behind) ∙ c.if-separates.true)
      c.in_ok-cut.ensures.done
      (ap (λ n. take n (chars c.cut.new.self.from.now)) c.in_ok-cut.ensures.count),
)

pub returns : goal.returns
returns c = λ before left behind at. (
  c.in_ok-read.ensures before behind,
  ap (λ n. drop n (chars c.args.self.now.from.now)) c.in_ok-count.ensures ∙ drop-one_more c.args.self.now.count (chars c.args.self.now.from.now) c.args.c left at,
  λ rest.
      whole-goes-on c.args.level c.args.c before rest c.args.self.now.done (part_of c.args.self.now) (take c.in_ok-count.count (chars c.args.self.now.from.now))
      (sym (c.is_separator-separates.ensures before behind) ∙ c.if-separates.false)
      (ap (λ n. take n (chars c.args.self.now.from.now)) c.in_ok-count.ensures ∙ take-one_more c.args.self.now.count (chars c.args.self.now.from.now) c.args.c left at),
)
