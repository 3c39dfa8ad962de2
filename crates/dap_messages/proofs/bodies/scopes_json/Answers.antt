use Rattle.std.proofs.Common.{List, [], ◌∷◌, ◌++◌, map, ap, ◌∙◌}
use Rattle.std.specs.Prelude.{codes}
use Rattle.serde_json.specs.Data.{Data, array}
use Rattle.serde_json.specs.View.{view, items_of}
use Rattle.serde_json.specs.declared.value.Value.{Value}
use Rattle.serde_json.proofs.Views.{view-Array}
use Rattle.dap_messages.specs.Written.{scope_value}
use Rattle.dap_messages.proofs.bodies.scopes_json.Goals as goal

pub returns : goal.returns
returns c =
    let first = c.in_ok-list.ensures _ c.scope_json.ensures in
    let second = c.in_ok-list-2.ensures _ c.scope_json-2.ensures in
    let none = ap (λ (values : List Value). map view values ++ scope_value (codes "Locals") c.args.locals ∷ []) c.new.ensures.items in
    view-Array c.in_ok-list-2.list
    ∙ ap (λ values. array (items_of values))
    (second ∙ ap (λ (values : List Data). values ++ scope_value (codes "Globals") c.args.globals ∷ []) (first ∙ none))
