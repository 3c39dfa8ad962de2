use Rattle.std.proofs.Common.{List, [], ◌∷◌, ◌++◌, map, ap, ◌∙◌}
use Rattle.serde_json.specs.Data.{array}
use Rattle.serde_json.specs.View.{view, items_of}
use Rattle.serde_json.specs.declared.value.Value.{Value}
use Rattle.serde_json.proofs.Views.{view-Array}
use Rattle.dap_messages.specs.Written.{thread_value}
use Rattle.dap_messages.proofs.bodies.threads_json.Goals as goal

pub returns : goal.returns
returns c =
    view-Array c.in_ok-list.list
    ∙ ap (λ values. array (items_of values))
    (c.in_ok-list.ensures _ c.thread_json.ensures ∙ ap (λ (values : List Value). map view values ++ thread_value ∷ []) c.new.ensures.items)
