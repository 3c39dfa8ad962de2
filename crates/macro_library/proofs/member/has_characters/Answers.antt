use Rattle.std.proofs.Common.{◌≡◌, ap, sym, ◌∙◌, rules, encode_utf8_all}
use Rattle.std.specs.Prelude.{IsTrue, ◌↔◌}
use Rattle.std.specs.Str.{chars}
use Rattle.std.proofs.lemmas.Str.{encodes-chars}
use Rattle.macro_library.proofs.member.has_characters.Goals as goal

pub returns : goal.returns
returns c =
    let own = c.as_str.result.now in
    let other = c.args.characters.now in
    let both : IsTrue c.eq.result ↔ (own ≡ other) = search rules in
    let value = c.as_str.ensures.value in (
      (λ is. ap chars (sym value ∙ both.0 is)),
      (λ is. both.1 (sym (encodes-chars own c.as_str.utf8) ∙ ap encode_utf8_all (ap chars value ∙ is) ∙ encodes-chars other c.utf8.characters)),
    )
