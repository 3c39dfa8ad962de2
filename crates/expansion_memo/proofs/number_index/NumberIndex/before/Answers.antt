use Rattle.std.proofs.Common.{◌<◌, [], length, get_or, take, sym, ap, ◌∙◌, arith}
use Rattle.std.proofs.lemmas.List.{length-map}
use Rattle.expansion_memo.specs.declared.number_index.Link.{Link}
use Rattle.expansion_memo.specs.Latest.{latest}
use Rattle.expansion_memo.specs.Links.{numbers_of}
use Rattle.expansion_memo.proofs.LatestLaws.{linked_at, number_at}
use Rattle.expansion_memo.proofs.number_index.NumberIndex.before.Goals as goal

pub returns : goal.returns
returns c =
    let ls = c.self.inside.links.items in
    let i = c.args.place in
    let lt : i < length ls = omega (arith, ap length c.self.view_is, length-map ls (λ (l : Link). l.number)) in
    linked_at [] ls i c.index.result.now lt c.index.ensures c.self.invariant.linked
    ∙ ap (λ q. latest q (take i (numbers_of ls))) (sym (number_at ls i c.index.result.now lt c.index.ensures))
    ∙ ap (λ ns. latest (get_or ns i 0) (take i ns)) c.self.view_is
