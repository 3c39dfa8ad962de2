use Rattle.std.proofs.Common.{◌≡◌, ap, sym, ◌∙◌, rules}
use Rattle.std.specs.Prelude.{IsTrue, ◌↔◌}
use Rattle.std.specs.Str.{chars}
use Rattle.call_sites.proofs.CallLaws.{bytes-chars}
use Rattle.call_sites.proofs.call_site.same_text.Goals as goal

pub returns : goal.returns
returns c =
    let both : IsTrue c.eq.result ↔ (c.as_str.result.now ≡ c.as_str-2.result.now) = search rules in
    let one = c.as_str.ensures.value in
    let other = c.as_str-2.ensures.value in (
      (λ is. ap chars (sym one ∙ both.0 is ∙ other)),
      (λ is. both.1 (bytes-chars _ _ c.as_str.utf8 c.as_str-2.utf8 (ap chars one ∙ is ∙ sym (ap chars other)))),
    )
