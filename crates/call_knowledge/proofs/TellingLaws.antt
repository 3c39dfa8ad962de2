-- The first answer to a key, one noted pair after the other.
use Rattle.std.proofs.Common.{◌≡◌, ◌∙◌, ◌+◌, ◌<◌, ◌≤◌, ℕ, cond, List, length, get_or, drop, Some, None, refl, ap, sym, drop_of_length-le}
use Rattle.std.specs.Option.{option_map}
use Rattle.hl_base.specs.declared.set.Key.{Key}
use Rattle.kept_values.specs.Trees.{same_tree, look_up}
use Rattle.kept_values.specs.Keys.{key_tree}
use Rattle.kept_values.proofs.TreeLaws.{same_tree-same, same_tree-other}
use Rattle.asking_core.specs.declared.footprint.Noted.{Noted}
use Rattle.asking_core.specs.Places.{pairs_of}
use Rattle.question_trees.specs.Answers.{answer_in}
use Rattle.question_trees.proofs.ReadBack.{answer_back}
use Rattle.call_sites.specs.Values.{known_tree, told_of}
use Rattle.call_sites.specs.declared.known.Known.{Known}
use Rattle.call_sites.specs.declared.known.Known.TheVariants as known
use Rattle.call_knowledge.specs.Tellings.{answers_of}
use Rattle.call_knowledge.proofs.ListLaws.{item-at}

-- what expressions are told of what is known is what is read from its tree
pub told_back : (k : Known) → told_of k ≡ answer_in (known_tree k)
told_back (known.Plain answer) = sym (answer_back answer)
told_back (known.Macro content) = refl
told_back (known.Member member) = refl

-- a pair of the key itself
pub answer-found : (ns : List (Noted Key Known)) (i : ℕ) (n : Noted Key Known) (key : Key) → i < length ns → n ≡ get_or ns i n →
    key_tree n.key ≡ key_tree key → answers_of (drop i ns) key ≡ Some (answer_in (known_tree n.value))
answer-found ns i n key within is same =
    ap (λ xs. answers_of xs key) (item-at ns i n within is)
    ∙ ap (λ b. option_map answer_in (cond b (Some (known_tree n.value)) (look_up (pairs_of key_tree known_tree (drop (i + 1) ns)) (key_tree key))))
    (ap (λ t. same_tree t (key_tree key)) same ∙ same_tree-same (key_tree key))

-- a pair of another key
pub answer-passed : (ns : List (Noted Key Known)) (i : ℕ) (n : Noted Key Known) (key : Key) → i < length ns → n ≡ get_or ns i n →
    ¬ (key_tree n.key ≡ key_tree key) → answers_of (drop i ns) key ≡ answers_of (drop (i + 1) ns) key
answer-passed ns i n key within is differ =
    ap (λ xs. answers_of xs key) (item-at ns i n within is)
    ∙ ap (λ b. option_map answer_in (cond b (Some (known_tree n.value)) (look_up (pairs_of key_tree known_tree (drop (i + 1) ns)) (key_tree key))))
    (same_tree-other (key_tree n.key) (key_tree key) differ)

-- and none is left
pub answer-none : (ns : List (Noted Key Known)) (i : ℕ) (key : Key) → length ns ≤ i → answers_of (drop i ns) key ≡ None
answer-none ns i key past = ap (λ xs. answers_of xs key) (drop_of_length-le ns past)
