use Rattle.std.proofs.Common.{◌≡◌, ap, sym, ◌∙◌, ◌++◌, ◌∷◌, [], length, sum, rules, ◌+◌}
use Rattle.std.proofs.lemmas.List.{length_push}
use Rattle.std.proofs.lemmas.List.Sums.{sum_by_push}
use Rattle.literal_pools.specs.Views.{joined, spelled}
use Rattle.literal_pools.proofs.Texts.{insert_new, joined-append, length-spelled, spelled-append}
use Rattle.literal_pools.proofs.pool.Pool.admit.Goals as goal

pub invariant_of-self-2 : goal.invariant_of-self-2
invariant_of-self-2 c =
    let pool = c.args.self.now in
    let lengths = pool.lengths.items in
    let keys = c.in_ok-insert.ensures.keys ∙ insert_new pool.texts.keys c.in_ok-key.key lengths c.args.text.now pool.paired c.requires c.in_ok-key.ensures.ok in
    let pushed = c.push_within.ensures ∙ ap (λ ns. ns ++ c.args.length ∷ []) c.reserve.ensures.items in
    let value : c.from.result ≡ c.args.length = search rules in
    record {
      paired =
          ap length keys ∙ length_push pool.texts.keys c.in_ok-key.key
          ∙ ap (λ n. n + 1) pool.paired
          ∙ sym (ap length pushed ∙ length_push lengths c.args.length);
      summed =
          c.in-Some.ensures.1
          ∙ ap (λ n. pool.size + n) value
          ∙ ap (λ n. n + c.args.length) pool.summed
          ∙ sym (ap sum pushed ∙ sum_by_push (λ n. n) lengths c.args.length);
    }

pub returns-clause-admitted : goal.returns-clause-admitted
returns-clause-admitted c =
    let pool = c.args.self.now in
    let keys = insert_new pool.texts.keys c.in_ok-key.key pool.lengths.items c.args.text.now pool.paired c.requires c.in_ok-key.ensures.ok in
    ap (λ ks. joined (spelled ks) c.push_within.new.lengths.items) (c.in_ok-insert.ensures.keys ∙ keys)
    ∙ ap (λ ns. joined (spelled (pool.texts.keys ++ c.in_ok-key.key ∷ [])) ns) (c.push_within.ensures ∙ ap (λ ns. ns ++ c.args.length ∷ []) c.reserve.ensures.items)
    ∙ ap (λ texts. joined texts (pool.lengths.items ++ c.args.length ∷ [])) (spelled-append pool.texts.keys c.in_ok-key.key ∙ ap (λ t. spelled pool.texts.keys ++ t ∷ []) c.in_ok-key.ensures.ok)
    ∙ joined-append (spelled pool.texts.keys) pool.lengths.items c.args.text.now c.args.length (length-spelled pool.texts.keys ∙ pool.paired)
