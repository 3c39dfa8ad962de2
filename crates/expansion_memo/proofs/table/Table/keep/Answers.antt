use Rattle.std.proofs.Common.{◌≡◌, ℕ, List, [], ◌∷◌, ◌++◌, Some, option_map, sym, ap, ◌∙◌, subst}
use Rattle.std.proofs.lemmas.List.{map-append}
use Rattle.kept_values.specs.Trees.{Pair}
use Rattle.asking_core.specs.Places.{pairs_of}
use Rattle.expansion_memo.specs.Kept.{first_key, found_number, IsListed}
use Rattle.expansion_memo.specs.Entries.{kept_by, kept_of, IsFindable}
use Rattle.expansion_memo.proofs.KeptLists.{findable_stays, findable_push}
use Rattle.expansion_memo.proofs.table.Table.keep.Goals as goal

pub invariant_of-self-in_err-list : goal.invariant_of-self-in_err-list
invariant_of-self-in_err-list g c =
    let code = g.C.Kept.code in
    let call = g.C.Kept.number_of in
    let value = g.V.Kept.number_of in
    let f = findable_stays call value (kept_of code c.self.inside.entries.items) c.self.inside.answers c.self.inside.firsts c.list.new.self c.self.invariant c.list.ensures.stays in
    subst (λ es. IsFindable call value (kept_of code es) c.self.inside.answers c.list.new.self.numbers c.list.new.self.keys) (sym c.reserve.ensures.items) f

pub invariant_of-self-in_err-push : goal.invariant_of-self-in_err-push
invariant_of-self-in_err-push g c =
    let code = g.C.Kept.code in
    let call = g.C.Kept.number_of in
    let value = g.V.Kept.number_of in
    let f = findable_stays call value (kept_of code c.self.inside.entries.items) c.self.inside.answers c.self.inside.firsts c.list.new.self c.self.invariant c.list.ensures.stays in
    let F : List ℕ → Type 0 = λ ns. IsFindable call value (kept_of code c.reserve.new.self.items) ns c.list.new.self.numbers c.list.new.self.keys in
    subst F (sym c.in_err-push.ensures.err)
    (subst (λ es. IsFindable call value (kept_of code es) c.self.inside.answers c.list.new.self.numbers c.list.new.self.keys) (sym c.reserve.ensures.items) f)

pub invariant_of-self-2 : goal.invariant_of-self-2
invariant_of-self-2 g c =
    let code = g.C.Kept.code in
    let call = g.C.Kept.number_of in
    let value = g.V.Kept.number_of in
    let kept = kept_of code c.self.inside.entries.items in
    let o = kept_by code c.args.entry in
    let read : pairs_of g.K.Kept.code g.V.Kept.code c.as_slice-read.result.now ≡ o.summary.read =
    ap (pairs_of g.K.Kept.code g.V.Kept.code) c.as_slice-read.ensures ∙ c.read.ensures in
    let f = findable_stays call value kept c.self.inside.answers c.self.inside.firsts c.list.new.self c.self.invariant c.list.ensures.stays in
    let number : c.found_number-number.result ≡ found_number (call o.call) value o.summary.read =
    c.found_number-number.ensures
    ∙ ap (λ n. found_number n value (pairs_of g.K.Kept.code g.V.Kept.code c.as_slice-read.result.now)) c.number-start.ensures
    ∙ ap (found_number (call o.call) value) read in
    let L : ℕ → List Pair → Type 0 = λ n ps. IsListed c.list.new.self.numbers c.list.new.self.keys n (first_key ps) in
    let listed : L (call o.call) o.summary.read =
    subst (L (call o.call)) read (subst (λ n. L n (pairs_of g.K.Kept.code g.V.Kept.code c.as_slice-read.result.now)) c.number-start.ensures c.in_ok-list.ensures.listed) in
    let items : kept_of code c.push_reserved.new.self.items ≡ kept ++ Some o ∷ [] =
    ap (kept_of code) (c.push_reserved.ensures.items ∙ ap (λ es. es ++ Some c.args.entry ∷ []) c.reserve.ensures.items)
    ∙ map-append (option_map (kept_by code)) c.self.inside.entries.items (Some c.args.entry ∷ []) in
    let done = findable_push call value kept c.self.inside.answers c.list.new.self.numbers c.list.new.self.keys o c.found_number-number.result f number listed in
    subst (λ ks. IsFindable call value ks c.push.new.self c.list.new.self.numbers c.list.new.self.keys) (sym items)
    (subst (λ ns. IsFindable call value (kept ++ Some o ∷ []) ns c.list.new.self.numbers c.list.new.self.keys) (sym c.in_ok-push.ensures.ok) done)
