use Rattle.std.proofs.Common.{ℤ, Some, ap, ◌∙◌}
use Rattle.std.specs.Int.{w32}
use Rattle.std.proofs.lemmas.Int.{to_z-of_z}
use Rattle.std.proofs.lemmas.Result.{IfOk-weaker}
use Rattle.lsp_messages.specs.Written.{published_params}
use Rattle.lsp_messages.proofs.writing.versioned_json.Goals as goal

pub returns : goal.returns
returns c =
    let made = c.object.ensures _ (c.with_integer.ensures _ (c.with_text-made.ensures _
    (c.with_made-made.ensures _ _ c.no_members.ensures c.diagnostics_json-list.ensures))) in
    IfOk-weaker c.object.result _ _
    (λ v exact. exact ∙ ap (λ (n : ℤ). published_params c.args.uri.now (Some n) c.args.diagnostics.now) (to_z-of_z w32 c.args.version c.ranges.version))
    made
