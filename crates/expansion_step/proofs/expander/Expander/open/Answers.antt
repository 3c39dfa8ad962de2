use Rattle.std.proofs.Common.{◌≡◌, suc, map, drop, length, sym, ap, ◌∙◌, Some, None, slice_get}
use Rattle.plain_expansion.specs.Expansion.{first_stack}
use Rattle.plain_expansion.specs.Engine.{opened, Doing, Performing, GoingOn}
use Rattle.expansion_step.specs.Meaning.{meaning, call_by, pairs_by, stack_by}
use Rattle.expansion_step.specs.Places.{keys_left, opened_by}
use Rattle.expansion_step.proofs.Lists.{drop-there, drop-none}
use Rattle.expansion_step.proofs.Steps.{takes-at, asks-move, asks-next}
use Rattle.expansion_step.proofs.expander.Expander.open.Goals as goal

pub returns-in_default : goal.returns-in_default
returns-in_default g c =
    let L = g.X.CodedLanguage.language in
    let m = meaning g.X.CodedLanguage.reads g.X.CodedLanguage.call_of g.X.Call.Kept.code g.X.Key.Kept.code g.X.Value.Kept.code in
    let e = c.args.entrance.now in
    let keys = e.keys.items in
    let answers = e.answers.items in
    let at : slice_get keys (length answers) ≡ None = let a = c.in_default.ensures in let d = c.as_slice-place.ensures.value in
    let f = c.as_slice.ensures.value in cc in
    let none = drop-none g.X.Key.Kept.code keys (length answers) at in
    let first = c.in_ok-stack.ensures in
    let pairs = c.as_slice-answers.ensures.value in
    let is : Doing (Performing (GoingOn (stack_by m c.in_ok-stack.stack))) ≡ opened_by m e =
    ap (λ y. Doing (Performing (GoingOn y))) (first ∙ ap (λ y. first_stack L (call_by m e.call) (pairs_by m y)) pairs)
    ∙ sym (ap (λ ks. opened L (call_by m e.call) ks (pairs_by m answers)) none) in
    takes-at m (Doing (Performing (GoingOn (stack_by m c.in_ok-stack.stack)))) (opened_by m e) c.go_on-taken.new.stack c.go_on-taken.result is
    c.go_on-taken.ensures

pub returns : goal.returns
returns g c =
    let L = g.X.CodedLanguage.language in
    let m = meaning g.X.CodedLanguage.reads g.X.CodedLanguage.call_of g.X.Call.Kept.code g.X.Key.Kept.code g.X.Value.Kept.code in
    let e = c.args.entrance.now in
    let keys = e.keys.items in
    let answers = e.answers.items in
    let at : slice_get keys (length answers) ≡ Some c.in-Some.key.now = let a = c.in-Some.ensures in
    let d = c.as_slice-place.ensures.value in let f = c.as_slice.ensures.value in cc in
    let there = drop-there g.X.Key.Kept.code keys (length answers) c.in-Some.key.now at in
    let rest = drop (suc (length answers)) (map g.X.Key.Kept.code keys) in
    record {
      action = asks-move m (call_by m e.call) (keys_left m keys answers) rest (pairs_by m answers)
          (g.X.Key.Kept.code c.in-Some.key.now) (g.X.Key.Kept.code c.in_ok-asked.asked) there c.in_ok-asked.ensures;
      place = asks-next m e.call (keys_left m keys answers) rest (pairs_by m answers) (g.X.Key.Kept.code c.in-Some.key.now) there;
    }
