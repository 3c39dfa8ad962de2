use Rattle.std.proofs.Common.{◌≡◌, ◌∙◌, ◌≤◌, length, ap, sym, arith}
use Rattle.ordinary_symbols.specs.Shown.{table_of}
use Rattle.section_layout.specs.declared.layout.StatementLayout.{StatementLayout}
use Rattle.section_layout.specs.Layout.{judged}
use Rattle.section_layout.specs.Views.{met_of}
use Rattle.section_layout.proofs.Judgments.{judged_all, judged_more, judged_none}
use Rattle.section_layout.proofs.judge.judge_all.Goals as goal

pub loop-one-init : goal.loop-one-init
loop-one-init c = judged_none (table_of c.args.symbols.now) c.args.all.now

pub loop-one-preserved : goal.loop-one-preserved
loop-one-preserved c =
    judged_more (table_of c.args.symbols.now) c.loop-one.all c.loop-one.one-index c.one-item.result c.judge.new.one
    (let counted = c.loop-one.auto.all in omega (arith, c.loop-one-test.true)) c.one-item.is
    (c.in_ok-judge.ensures ∙ ap (λ (s : StatementLayout). judged (table_of c.args.symbols.now) (met_of s)) (sym c.one-item.is))
    ∙ c.loop-one.invariant

pub returns : goal.returns
returns c =
    let past : length c.loop-one.all ≤ c.loop-one.one-index = let counted = c.loop-one.auto.all in omega (arith, c.loop-one-test.false) in
    sym (judged_all (table_of c.args.symbols.now) c.loop-one.all c.loop-one.one-index past) ∙ c.loop-one.invariant
