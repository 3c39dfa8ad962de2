use Rattle.std.proofs.Common.{◌≡◌, arith, sym, ap, ◌∙◌, ◌<◌, ◌++◌, codes, subst, IfOk}
use Rattle.std.specs.List.{flat_map}
use Rattle.percent_encoding.specs.Iter.{encoded_text}
use Rattle.std.specs.Str.{chars}
use Rattle.std.proofs.lemmas.List.Elements.{All-from_get_or}
use Rattle.std.proofs.lemmas.Str.{encodes-chars}
use Rattle.file_uri.specs.Paths.{uri_of, escaped}
use Rattle.file_uri.proofs.UriLaws.{same_escapes}
use Rattle.file_uri.proofs.uri_of.Goals as goal

pub returns : goal.returns
unfolding uri_of
returns c =
    let small = All-from_get_or (λ b. b < 256) c.args.path.now 0 (λ i within. omega (arith, c.type_inv.path i)) in
    let path = same_escapes c.args.path.now small ∙ ap (flat_map escaped) (sym (encodes-chars c.args.path.now c.utf8.path)) in
    let bytes = c.deref.ensures ∙ c.in_ok-append_to.ensures.ok ∙ ap (λ z. z ++ encoded_text c.utf8_percent_encode.result) c.in_ok-uri.ensures.ok
    ∙ ap (λ z. codes "file://" ++ z) (c.utf8_percent_encode.ensures.text ∙ path) in
    subst (λ z. IfOk c.of.result (λ uri. uri ≡ z)) (ap chars bytes) c.of.ensures
