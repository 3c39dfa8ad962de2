use Rattle.std.proofs.Common.{◌≡◌, ◌∙◌, Some, None, slice_get}
use Rattle.expansion_step.specs.Meaning.{meaning}
use Rattle.expansion_step.proofs.Steps.{outermost-some, outermost-none}
use Rattle.expansion_step.proofs.expander.Expander.outermost.Goals as goal

pub returns-in-Some : goal.returns-in-Some
returns-in-Some g c =
    let m = meaning g.X.CodedLanguage.reads g.X.CodedLanguage.call_of g.X.Call.Kept.code g.X.Key.Kept.code g.X.Value.Kept.code in
    let x = c.args.stack.now in
    let at : slice_get x.below.items 0 ≡ Some c.in-Some.level.now = let a = c.in-Some.ensures.value in let b = c.as_slice.ensures.value in
    cc in
    c.saturating_sub.ensures ∙ outermost-some m x x.below.items c.in-Some.level.now at

pub returns-in-None : goal.returns-in-None
returns-in-None g c =
    let m = meaning g.X.CodedLanguage.reads g.X.CodedLanguage.call_of g.X.Call.Kept.code g.X.Key.Kept.code g.X.Value.Kept.code in
    let x = c.args.stack.now in
    let at : slice_get x.below.items 0 ≡ None = let a = c.in-None.ensures.value in let b = c.as_slice.ensures.value in cc in
    outermost-none m x x.below.items at
