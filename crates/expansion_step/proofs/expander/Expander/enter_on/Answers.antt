use Rattle.std.proofs.Common.{◌≡◌, List, false, true, sym, ap, ◌∙◌}
use Rattle.asking_core.specs.Actions.{told_of}
use Rattle.plain_expansion.specs.Engine.{Ready, heard, opened}
use Rattle.expansion_step.specs.Meaning.{meaning, call_by, pairs_by}
use Rattle.expansion_step.specs.Places.{entering, entrance_by, hearing, keys_left, opened_by}
use Rattle.expansion_step.specs.Takes.{Opens}
use Rattle.expansion_step.proofs.Steps.{if_ok-map, opens-at}
use Rattle.expansion_step.proofs.expander.Expander.enter_on.Goals as goal

pub returns-then-not-entrance : goal.returns-then-not-entrance
returns-then-not-entrance g c =
    let L = g.X.CodedLanguage.language in
    let m = meaning g.X.CodedLanguage.reads g.X.CodedLanguage.call_of g.X.Call.Kept.code g.X.Key.Kept.code g.X.Value.Kept.code in
    let old = c.args.entrance.now in
    let told = told_of g.X.Value.Kept.code c.args.given in
    let still : false ≡ old.waits = sym c.if-not-entrance.true in
    let at : opened_by m old ≡ heard L (entrance_by m old) told = ap (λ w. heard L (entering m w old) told) still in
    if_ok-map c.open.result (Opens m (opened_by m old) c.open.new.entrance) (Opens m (heard L (entrance_by m old) told) c.open.new.entrance)
    (λ o opens. opens-at m (opened_by m old) (heard L (entrance_by m old) told) c.open.new.entrance o at opens) c.open.ensures

pub returns : goal.returns
returns g c =
    let L = g.X.CodedLanguage.language in
    let m = meaning g.X.CodedLanguage.reads g.X.CodedLanguage.call_of g.X.Call.Kept.code g.X.Key.Kept.code g.X.Value.Kept.code in
    let old = c.args.entrance.now in
    let told = told_of g.X.Value.Kept.code c.args.given in
    let waits : true ≡ old.waits = sym c.if-not-entrance.false in
    let call = old.call in
    let now = c.in_ok-entrance.field-0 in
    let heard_at : List _ → List _ → Ready L.words L.Item = λ keys answers. heard L
    (hearing m call (keys_left m keys answers) (pairs_by m answers)) told in
    let at : opened_by m (record old { answers = now }) ≡ heard L (entrance_by m old) told =
    sym (ap (λ keys. opened L (call_by m call) (keys_left m keys now.items) (pairs_by m now.items)) c.as_slice.ensures.value)
    ∙ c.in_ok-entrance.ensures call
    ∙ ap (λ keys. heard_at keys c.replace-answers.result.items) c.as_slice.ensures.value
    ∙ ap (λ answers. heard_at old.keys.items answers.items) c.replace-answers.ensures.value
    ∙ ap (λ w. heard L (entering m w old) told) waits in
    if_ok-map c.open-2.result (Opens m (opened_by m (record old { answers = now })) c.open-2.new.entrance)
    (Opens m (heard L (entrance_by m old) told) c.open-2.new.entrance)
    (λ o opens. opens-at m (opened_by m (record old { answers = now })) (heard L (entrance_by m old) told) c.open-2.new.entrance o at opens)
    c.open-2.ensures
