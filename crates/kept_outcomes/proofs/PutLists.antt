-- What was put, one put after the other.
use Rattle.std.proofs.Common.{◌≡◌, ℕ, suc, ◌+◌, ◌<◌, Bool, true, false, cond, List, [], ◌∷◌, ◌++◌, Option, Some, None, length, get_or, drop, is_some, refl, sym, ap, ◌∙◌, append_assoc, add-one}
use Rattle.std.proofs.Math.Seq.{drop-cons}
use Rattle.std.specs.Option.{option_or}
use Rattle.kept_values.specs.Trees.{Tree, Pair, same_tree, look_up}
use Rattle.asking_core.specs.declared.footprint.Noted.{Noted}
use Rattle.asking_core.specs.Worlds.{WorldModel, put_all}
use Rattle.asking_core.specs.Footprints.{noted}
use Rattle.asking_core.specs.Places.{pair_of, pairs_of}
use Rattle.asking_core.proofs.WorldSteps.{put_all-append}
use Rattle.asking_core.proofs.MergeLaws.{look_up-merged}
use Rattle.kept_outcomes.specs.Outcomes.{CallSummary}
use Rattle.kept_outcomes.specs.Pairs.{newest_first, HaveOneKeys}
use Rattle.kept_outcomes.specs.Moments.{putting}

keys_step : (b : Bool) (v : Tree) (o q : Option Tree) → is_some o ≡ is_some q → is_some (option_or o (cond b (Some v) None)) ≡ is_some (cond b (Some v) q)
keys_step true v None q same = refl
keys_step true v (Some w) q same = refl
keys_step false v None q same = same
keys_step false v (Some w) q same = same

-- a key is noted where it is put
pub one_keys_step : (ws ns : List Pair) (p : Pair) → HaveOneKeys ws ns → HaveOneKeys (noted ws p) (p ∷ ns)
one_keys_step ws ns p same key =
    ap is_some (look_up-merged ws (p ∷ []) key)
    ∙ keys_step (same_tree p.key key) p.value (look_up ws key) (look_up ns key) (same key)

pub with_puts : (summary : CallSummary) (xs ys : List Pair) → xs ≡ ys → record summary { puts = xs } ≡ record summary { puts = ys }
with_puts summary xs ys is = ap (λ x. record summary { puts = x }) is

pub kept_put : (summary : CallSummary) (k v : Tree) (b : Bool) → summary.at_told ≡ b → b ≡ false →
    cond summary.at_told summary.puts (record { key = k; value = v } ∷ summary.puts) ≡ record { key = k; value = v } ∷ summary.puts
kept_put summary k v true is kept = cc
kept_put summary k v false is kept = ap (λ b. cond b summary.puts (record { key = k; value = v } ∷ summary.puts)) is

module _ {K V : Type 0} (key : K → Tree) (value : V → Tree) where
  pub newest_push : (ns : List (Noted K V)) (n : Noted K V) →
      newest_first (pairs_of key value (ns ++ n ∷ [])) ≡ pair_of key value n ∷ newest_first (pairs_of key value ns)
  newest_push [] n = refl
  newest_push (m ∷ ns) n = ap (λ x. x ++ pair_of key value m ∷ []) (newest_push ns n)

  pub puts_next : (ns : List (Noted K V)) (i : ℕ) (n : Noted K V) (xs : List Pair) → i < length ns → n ≡ get_or ns i n →
      newest_first (pairs_of key value (drop i ns)) ++ xs ≡ newest_first (pairs_of key value (drop (i + 1) ns)) ++ (pair_of key value n ∷ xs)
  puts_next ns i n xs lt at =
      ap (λ x. newest_first (pairs_of key value x) ++ xs) (drop-cons ns i n lt)
      ∙ ap (λ x. (newest_first (pairs_of key value (drop (suc i) ns)) ++ pair_of key value x ∷ []) ++ xs) (sym at)
      ∙ append_assoc (newest_first (pairs_of key value (drop (suc i) ns))) (pair_of key value n ∷ []) xs
      ∙ ap (λ j. newest_first (pairs_of key value (drop j ns)) ++ (pair_of key value n ∷ xs)) (sym (add-one i))

  pub put_all_next : (W : WorldModel) (s : W.State) (ns : List (Noted K V)) (i : ℕ) (n : Noted K V) → i < length ns → n ≡ get_or ns i n →
      put_all W s (newest_first (pairs_of key value (drop i ns)))
      ≡ put_all W (W.after_put s (key n.key) (value n.value)) (newest_first (pairs_of key value (drop (i + 1) ns)))
  put_all_next W s ns i n lt at =
      ap (λ x. put_all W s (newest_first (pairs_of key value x))) (drop-cons ns i n lt)
      ∙ ap (λ x. put_all W s (newest_first (pairs_of key value (drop (suc i) ns)) ++ pair_of key value x ∷ [])) (sym at)
      ∙ put_all-append W s (newest_first (pairs_of key value (drop (suc i) ns))) (pair_of key value n ∷ [])
      ∙ ap (λ j. put_all W (W.after_put s (key n.key) (value n.value)) (newest_first (pairs_of key value (drop j ns)))) (sym (add-one i))

  -- the puts of a child that are left, and those that were joined
  abbrev pub with_rest : CallSummary → List (Noted K V) → CallSummary
  with_rest summary ns = record summary { puts = newest_first (pairs_of key value ns) ++ summary.puts }

  -- one put of a child more is joined
  pub rest_next : (now : CallSummary) (ns : List (Noted K V)) (i : ℕ) (n : Noted K V) → i < length ns → n ≡ get_or ns i n → now.at_told ≡ false →
      with_rest (putting now (key n.key) (value n.value)) (drop (i + 1) ns) ≡ with_rest now (drop i ns)
  rest_next now ns i n lt at kept =
      with_puts now _ _ (ap (λ x. newest_first (pairs_of key value (drop (i + 1) ns)) ++ x) (kept_put now (key n.key) (value n.value) now.at_told refl kept)
      ∙ sym (puts_next ns i n now.puts lt at))
