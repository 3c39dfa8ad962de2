-- Lists of lines, the first that bears a label, and the answers to a question.
use Rattle.std.proofs.Common.{◌≡◌, ◌+◌, ◌<◌, ◌≤◌, ℕ, zero, suc, Bool, true, false, cond, List, [], ◌∷◌, ◌++◌, length, get_or, drop, map, reverse, Option, Some, None, refl, sym, ap, ◌∙◌, add-one, arith}
use Rattle.std.specs.Prelude.{option_map, slice_get}
use Rattle.std.proofs.Math.Seq.{drop-cons}
use Rattle.std.proofs.lemmas.List.{drop_all, reverse-append, map-append}
use Rattle.kept_values.specs.Trees.{Tree, Leaf, same_tree, look_up}
use Rattle.asking_core.specs.declared.footprint.Noted.{Noted}
use Rattle.asking_core.specs.Places.{pairs_of}
use Rattle.plain_expansion.specs.Expansion.{first_where}
use Rattle.plain_expansion.specs.Example.{example_list, value_key}
use Rattle.example_language.specs.declared.lines.Listing.{Listing}
use Rattle.example_language.specs.declared.values.Question.{Question}
use Rattle.example_language.specs.declared.values.Question.TheVariants as question
use Rattle.example_language.specs.declared.values.Value.{Value}
use Rattle.example_language.specs.Lines.{lines_by}
use Rattle.example_language.specs.Values.{question_tree, value_tree}

-- the list of a number
pub list-some : (ls : List Listing) (n : ℕ) (l : Listing) → slice_get ls n ≡ Some l → example_list (map lines_by ls) n ≡ lines_by l
list-some [] n l is = cc
list-some (x ∷ ls) zero l is = let one : x ≡ l = cc in ap lines_by one
list-some (x ∷ ls) (suc n) l is = list-some ls n l is

pub list-none : (ls : List Listing) (n : ℕ) → slice_get ls n ≡ None → example_list (map lines_by ls) n ≡ []
list-none [] n is = refl
list-none (x ∷ ls) zero is = cc
list-none (x ∷ ls) (suc n) is = list-none ls n is

plus_more : (o : Option ℕ) (i : ℕ) → option_map (λ n. n + (i + 1)) o ≡ option_map (λ n. n + i) (option_map (λ n. n + 1) o)
plus_more None i = refl
plus_more (Some n) i = let e : n + (i + 1) ≡ n + 1 + i = omega arith in ap Some e

-- the first that holds, in what is left of a list from a place on
module _ {X S : Type 0} (f : X → S) (p : S → Bool) (xs ys : List X) (i : ℕ) where
  abbrev pub IsFirstFrom : ℕ → Type 0
  IsFirstFrom j = option_map (λ n. n + j) (first_where p (map f (drop j xs))) ≡ first_where p (map f xs)

  there : (d : X) → ys ≡ xs → i < length ys → (b : Bool) → b ≡ p (f (get_or ys i d)) →
      first_where p (map f (drop i xs)) ≡ cond b (Some 0) (option_map (λ n. n + 1) (first_where p (map f (drop (suc i) xs))))
  there d same lt b is =
      ap (λ l. first_where p (map f (drop i l))) (sym same)
      ∙ ap (λ l. first_where p (map f l)) (drop-cons ys i d lt)
      ∙ ap (λ t. cond t (Some 0) (option_map (λ n. n + 1) (first_where p (map f (drop (suc i) ys))))) (sym is)
      ∙ ap (λ l. cond b (Some 0) (option_map (λ n. n + 1) (first_where p (map f (drop (suc i) l))))) same

  pub first-here : (d : X) (at : ℕ) → ys ≡ xs → i < length ys → at ≡ i → true ≡ p (f (get_or ys i d)) → IsFirstFrom i →
      Some at ≡ first_where p (map f xs)
  first-here d at same lt is holds so_far =
      let e : at ≡ 0 + i = omega arith in
      ap Some e ∙ sym (ap (option_map (λ n. n + i)) (there d same lt true holds)) ∙ so_far

  pub first-on : (d : X) → ys ≡ xs → i < length ys → false ≡ p (f (get_or ys i d)) → IsFirstFrom i → IsFirstFrom (i + 1)
  first-on d same lt holds so_far =
      ap (λ k. option_map (λ n. n + (i + 1)) (first_where p (map f (drop k xs)))) (add-one i)
      ∙ plus_more (first_where p (map f (drop (suc i) xs))) i
      ∙ sym (ap (option_map (λ n. n + i)) (there d same lt false holds))
      ∙ so_far

  pub first-none : ys ≡ xs → length ys ≤ i → IsFirstFrom i → None ≡ first_where p (map f xs)
  first-none same le so_far =
      let past : length xs ≤ i = let l = ap length same in omega arith in
      sym (ap (λ l. option_map (λ n. n + i) (first_where p (map f l))) (drop_all i xs past)) ∙ so_far

-- the answer to the world's value, from a place on
abbrev told : List (Noted Question Value) → Option Tree
told ns = look_up (pairs_of question_tree value_tree ns) value_key

key_test : (k : Question) (n : Noted Question Value) (ns : List (Noted Question Value)) → n.key ≡ k →
    told (n ∷ ns) ≡ cond (same_tree (question_tree k) value_key) (Some (value_tree n.value)) (told ns)
key_test k n ns is = ap (λ y. cond (same_tree (question_tree y) value_key) (Some (value_tree n.value)) (told ns)) is

from : (ns : List (Noted Question Value)) (i : ℕ) (d : Noted Question Value) → i < length ns →
    told (drop i ns) ≡ told (get_or ns i d ∷ drop (suc i) ns)
from ns i d lt = ap told (drop-cons ns i d lt)

pub told-here : (ns : List (Noted Question Value)) (i : ℕ) (d : Noted Question Value) → i < length ns →
    (get_or ns i d).key ≡ question.Value →
    told (drop i ns) ≡ told ns → Some (Leaf (get_or ns i d).value.number) ≡ told ns
told-here ns i d lt is so_far =
    sym (key_test question.Value (get_or ns i d) (drop (suc i) ns) is) ∙ sym (from ns i d lt) ∙ so_far

pub told-on : (ns : List (Noted Question Value)) (i : ℕ) (d : Noted Question Value) → i < length ns → (get_or ns i d).key ≡ question.Calls →
    told (drop i ns) ≡ told ns → told (drop (i + 1) ns) ≡ told ns
told-on ns i d lt is so_far =
    ap (λ k. told (drop k ns)) (add-one i)
    ∙ sym (key_test question.Calls (get_or ns i d) (drop (suc i) ns) is)
    ∙ sym (from ns i d lt)
    ∙ so_far

pub told-none : (ns : List (Noted Question Value)) (i : ℕ) → length ns ≤ i → told (drop i ns) ≡ told ns → None ≡ told ns
told-none ns i le so_far = sym (ap told (drop_all i ns le)) ∙ so_far

-- what is read of a list, from its end
reverse-cons : {X : Type 0} (x : X) (xs : List X) → reverse (x ∷ xs) ≡ reverse xs ++ x ∷ []
reverse-cons x xs = reverse-append (x ∷ []) xs

pub map-reverse : {X Y Z : Type 0} (f : X → Y) (p : Y → Z) (xs : List X) → map (λ x. p (f x)) (reverse xs) ≡ map p (reverse (map f xs))
map-reverse f p [] = refl
map-reverse f p (x ∷ xs) =
    ap (map (λ y. p (f y))) (reverse-cons x xs)
    ∙ map-append (λ y. p (f y)) (reverse xs) (x ∷ [])
    ∙ ap (λ l. l ++ p (f x) ∷ []) (map-reverse f p xs)
    ∙ sym (map-append p (reverse (map f xs)) (f x ∷ []))
    ∙ sym (ap (map p) (reverse-cons (f x) (map f xs)))
