use Rattle.std.proofs.Common.{◌∙◌, sym, ap}
use Rattle.std.specs.Prelude.{◌==◌}
use Rattle.std.specs.List.{list_any}
use Rattle.std.proofs.lemmas.Bool.{true≢false}
use Rattle.hlasm_statements.proofs.BuildLaws.{alternate-none, alternate-ampersand, alternate-name}
use Rattle.hlasm_statements.proofs.build.is_alternate_operation.Goals as goal

pub returns-then-is_empty : goal.returns-then-is_empty
returns-then-is_empty c = alternate-none c.args.op.now (c.is_empty.ensures.0 c.if-is_empty.true)

pub returns-then-has_ampersand : goal.returns-then-has_ampersand
returns-then-has_ampersand c =
    alternate-ampersand c.args.op.now
    (ap (list_any (λ k. k == 38)) (sym c.as_str-text.ensures.characters) ∙ sym c.has_ampersand.ensures ∙ c.if-has_ampersand.true)

pub returns : goal.returns
returns c =
    alternate-name c.args.op.now c.as_str-text.result.now c.is_alternate_name.result
    (λ none. true≢false (sym (c.is_empty.ensures.1 none) ∙ c.if-is_empty.false))
    (ap (list_any (λ k. k == 38)) (sym c.as_str-text.ensures.characters) ∙ sym c.has_ampersand.ensures ∙ c.if-has_ampersand.false)
    c.as_str-text.ensures.bytes c.is_alternate_name.ensures
