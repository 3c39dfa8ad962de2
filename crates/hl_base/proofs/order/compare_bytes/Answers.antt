use Rattle.std.proofs.Common.{◌≡◌, rules, tests, refl, nat_cmp}
use Rattle.std.proofs.lemmas.Iterator.{YieldsList-from_chars, YieldsList-from_map}
use Rattle.std.proofs.lemmas.Iterator.Consumers.{YieldsList-at}
use Rattle.std.proofs.lemmas.Iterator.Search.{cmp_from_yields_List}
use Rattle.hl_base.specs.Order as codes
use Rattle.hl_base.proofs.order.compare_bytes.Goals as goal

pub returns : goal.returns
unfolding codes.compare_bytes
returns c =
    cmp_from_yields_List (λ x y. y ≡ x) _ nat_cmp _ c.cmp.ensures.ran
    (YieldsList-from_map _ codes.ebcdic (YieldsList-at c.map.ensures.source
    (YieldsList-from_chars c.args.a.now c.utf8.a c.chars.ensures.rest)) c.map.ensures.closure
    (λ x r q k. search (rules, tests)))
    (λ it e. YieldsList-at e (YieldsList-from_map _ codes.ebcdic (YieldsList-at c.map-2.ensures.source
    (YieldsList-from_chars c.args.b.now c.utf8.b c.chars-2.ensures.rest)) c.map-2.ensures.closure
    (λ x r q k. search (rules, tests))))
    (λ x y. refl)
