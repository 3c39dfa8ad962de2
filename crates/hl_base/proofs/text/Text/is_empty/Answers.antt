use Rattle.std.proofs.Common.{◌∙◌, length, sym, ap}
use Rattle.std.specs.Prelude.{chars, ◌==◌, encode_utf8_all}
use Rattle.std.proofs.lemmas.Bool.{eqb-true}
use Rattle.std.proofs.lemmas.List.{nil_from_length}
use Rattle.std.proofs.lemmas.Str.{chars-nil}
use Rattle.hl_base.proofs.text.Text.is_empty.Goals as goal

pub returns : goal.returns
returns c = (
  (λ empty. sym c.as_str.ensures.characters ∙ ap chars (nil_from_length c.as_str.result.now (eqb-true _ 0 (sym c.is_empty.ensures ∙ empty))) ∙ chars-nil),
  (λ none. c.is_empty.ensures ∙ ap (λ bytes. length bytes == 0) (c.as_str.ensures.bytes ∙ ap encode_utf8_all none)),
)
