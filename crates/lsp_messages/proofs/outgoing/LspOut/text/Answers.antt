use Rattle.std.proofs.Common.{◌≡◌, ap, ◌∙◌}
use Rattle.std.proofs.lemmas.Result.{IfOk-weaker}
use Rattle.serde_json.specs.View.{view}
use Rattle.serde_json.specs.Written.{compact_text, has_float}
use Rattle.lsp_messages.specs.Written.{value_of, text_of}
use Rattle.lsp_messages.proofs.WrittenLaws.{has_float-value_of}
use Rattle.lsp_messages.proofs.outgoing.LspOut.text.Goals as goal

pub returns-clause-text : goal.returns-clause-text
unfolding text_of
returns-clause-text c =
    let is_value : view c.in_ok-value.field-0 ≡ value_of c.args.self.now = c.in_ok-value.ensures in
    IfOk-weaker c.compact.result _ _
    (λ text exact is_whole. exact (ap has_float is_value ∙ has_float-value_of c.args.self.now is_whole) ∙ ap compact_text is_value)
    c.compact.ensures.text
