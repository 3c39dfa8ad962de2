use Rattle.std.proofs.Common.{◌≡◌, ℕ, ◌==◌, cond, List, [], ◌∷◌, ◌++◌, Some, length, sym, ap, ◌∙◌, subst, arith}
use Rattle.std.proofs.lemmas.List.{length-map, map-append}
use Rattle.expansion_memo.specs.declared.number_index.Link.{Link}
use Rattle.expansion_memo.specs.Latest.{latest}
use Rattle.expansion_memo.specs.Links.{numbers_of, AreLinked}
use Rattle.expansion_memo.proofs.LatestLaws.{latest-push, linked_push}
use Rattle.expansion_memo.proofs.number_index.NumberIndex.push.Goals as goal

pub invariant_of-self-2 : goal.invariant_of-self-2
invariant_of-self-2 c =
    let ls = c.self.inside.links.items in
    let n : ℕ = c.args.number in
    let l : Link = record { number = n; before = c.in_ok-before.before } in
    let number = λ (x : Link). x.number in
    let items : c.push_reserved.new.self.items ≡ ls ++ l ∷ [] = c.push_reserved.ensures.items ∙ ap (λ xs. xs ++ l ∷ []) c.reserve.ensures.items in
    let place : c.len-place.result ≡ length (numbers_of ls) = omega (arith, length-map ls number, c.self.inside.links.ok.0) in
    let Linked : List Link → Type 0 = AreLinked [] in
    record {
      newest_is = λ q.
          c.in_ok-before.ensures.updates.0 q
          ∙ ap (λ o. cond (n == q) (Some c.len-place.result) o) (c.self.invariant.newest_is q)
          ∙ ap (λ k. cond (n == q) (Some k) (latest q (numbers_of ls))) place
          ∙ sym (latest-push q (numbers_of ls) n)
          ∙ sym (ap (latest q) (map-append number ls (l ∷ [])))
          ∙ sym (ap (λ xs. latest q (numbers_of xs)) items);
      linked = subst Linked (sym items) (linked_push [] ls l c.self.invariant.linked (c.in_ok-before.ensures.old ∙ c.self.invariant.newest_is n));
    }
