use Rattle.std.proofs.Common.{map, ap, refl, ◌∙◌}
use Rattle.std.proofs.lemmas.List.{map-append}
use Rattle.serde_json.specs.Data.{array}
use Rattle.serde_json.specs.View.{items_of}
use Rattle.serde_json.proofs.Views.{view-Array}
use Rattle.dap_messages.specs.Written.{frame_value}
use Rattle.dap_messages.proofs.ListLaws.{take-enumerated, take-all-enumerated}
use Rattle.dap_messages.proofs.bodies.frames_json.Goals as goal

pub returns : goal.returns
returns c =
    view-Array c.loop-index.values
    ∙ ap (λ values. array (items_of values))
    (c.loop-index.invariant ∙ ap (map frame_value) (take-all-enumerated _ _ c.loop-index-test.false))

pub loop-index-preserved : goal.loop-index-preserved
loop-index-preserved c =
    let one_more = take-enumerated _ _ _ c.loop-index-test.true c.index-frames-index.is in
    let added = c.in_ok-values-2.ensures _ c.frame_json.ensures in
    rw (added, one_more, map-append frame_value, c.loop-index.invariant)
    refl
