use Rattle.std.proofs.Common.{◌∙◌, ap, sym}
use Rattle.std.specs.Prelude.{encode_utf8_all}
use Rattle.std.proofs.lemmas.Str.{encodes-chars, IsUtf8-had}
use Rattle.hl_base.specs.Content.{content_bytes}
use Rattle.hl_base.proofs.text.Text.as_str.Goals as goal

pub returns-clause-bytes : goal.returns-clause-bytes
returns-clause-bytes c =
    let bytes = content_bytes c.self.inside.content in
    c.as_str.ensures ∙ sym (encodes-chars bytes (IsUtf8-had bytes c.self.invariant)) ∙ ap encode_utf8_all c.self.view_is
