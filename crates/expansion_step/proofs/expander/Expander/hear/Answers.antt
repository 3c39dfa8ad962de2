use Rattle.std.proofs.Common.{◌≡◌, suc, [], ◌∷◌, ◌++◌, map, drop, length, sym, ap, ◌∙◌, Some, None, slice_get}
use Rattle.std.proofs.lemmas.List.{map-append}
use Rattle.asking_core.specs.declared.footprint.Noted.{Noted}
use Rattle.asking_core.specs.Places.{pair_of}
use Rattle.asking_core.specs.Actions.{told_of}
use Rattle.asking_core.specs.Machines.{Answered}
use Rattle.plain_expansion.specs.Engine.{opened, entry_heard}
use Rattle.expansion_step.specs.Meaning.{meaning, call_by, pairs_by}
use Rattle.expansion_step.specs.Places.{keys_left}
use Rattle.expansion_step.proofs.Lists.{drop-there, drop-none, length-more}
use Rattle.expansion_step.proofs.Steps.{heard-none, heard-more}
use Rattle.expansion_step.proofs.expander.Expander.hear.Goals as goal

pub returns-in_default-key_at : goal.returns-in_default-key_at
returns-in_default-key_at g c = λ call.
    let m = meaning g.X.CodedLanguage.reads g.X.CodedLanguage.call_of g.X.Call.Kept.code g.X.Key.Kept.code g.X.Value.Kept.code in
    let keys = c.args.keys.now in
    let answers = c.args.answers.items in
    let at : slice_get keys (length answers) ≡ None = let a = c.in_default-key_at.ensures in let d = c.as_slice-place.ensures.value in cc in
    heard-none m call (keys_left m keys answers) (pairs_by m answers) (told_of g.X.Value.Kept.code c.args.given)
    (drop-none g.X.Key.Kept.code keys (length answers) at)

pub returns : goal.returns
returns g c = λ call.
    let L = g.X.CodedLanguage.language in
    let m = meaning g.X.CodedLanguage.reads g.X.CodedLanguage.call_of g.X.Call.Kept.code g.X.Key.Kept.code g.X.Value.Kept.code in
    let keys = c.args.keys.now in
    let answers = c.args.answers.items in
    let now = c.push.new.self.items in
    let k = g.X.Key.Kept.code c.in-Some.key.now in
    let v = g.X.Value.Kept.code c.in-Answer.value in
    let told = told_of g.X.Value.Kept.code c.args.given in
    let at : slice_get keys (length answers) ≡ Some c.in-Some.key.now = let a = c.in-Some.ensures in
    let d = c.as_slice-place.ensures.value in cc in
    let there = drop-there g.X.Key.Kept.code keys (length answers) c.in-Some.key.now at in
    let rest = drop (suc (length answers)) (map g.X.Key.Kept.code keys) in
    let pair : Noted _ _ = record { key = c.in_ok-key.key; value = c.in-Answer.value } in
    let more : now ≡ answers ++ pair ∷ [] = c.in_ok-push.ensures.items in
    let left : keys_left m keys now ≡ rest =
    ap (λ y. drop (length y) (map g.X.Key.Kept.code keys)) more ∙ ap (λ y. drop y (map g.X.Key.Kept.code keys))
    (length-more answers pair) in
    let pairs : pairs_by m now ≡ pairs_by m answers ++ record { key = k; value = v } ∷ [] =
    ap (pairs_by m) more ∙ map-append (pair_of g.X.Key.Kept.code g.X.Value.Kept.code) answers (pair ∷ [])
    ∙ ap (λ y. pairs_by m answers ++ record { key = y; value = v } ∷ []) c.in_ok-key.ensures in
    let given : told ≡ Answered v = ap (told_of g.X.Value.Kept.code) c.in-Answer.is in
    let same : opened L (call_by m call) rest (pairs_by m now) ≡ entry_heard L told (call_by m call) k rest (pairs_by m answers) =
    ap (opened L (call_by m call) rest) pairs ∙ sym (ap (λ y. entry_heard L y (call_by m call) k rest (pairs_by m answers)) given) in
    ap (λ y. opened L (call_by m call) y (pairs_by m now)) left
    ∙ heard-more m call (keys_left m keys answers) rest (pairs_by m answers) (pairs_by m now) told k there same
