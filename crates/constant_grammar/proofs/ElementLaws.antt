-- Values that are read one after the other.
use Rattle.std.proofs.Common.{◌≡◌, ◌∙◌, ◌+◌, ◌<◌, ◌≤◌, ℕ, List, [], ◌∷◌, ◌++◌, length, drop, get_or, refl, sym, ap, suc, append_assoc, append-nil, add-one, drop-cons}
use Rattle.std.specs.Prelude.{Option, Some, None}
use Rattle.std.proofs.Math.ListN.{drop_of_length-le}
use Rattle.constant_table.specs.declared.constant_type.ValueKind.{ValueKind}
use Rattle.constant_grammar.specs.Elements.{Element, element}
use Rattle.constant_grammar.specs.Nominals.{all_elements, in_front}

-- values, and then others where all can be read
abbrev pub behind_values : List Element → Option (List Element) → Option (List Element)
behind_values done (Some values) = Some (done ++ values)
behind_values done None = None

pub behind_values-none : (found : Option (List Element)) → found ≡ behind_values [] found
behind_values-none (Some values) = refl
behind_values-none None = refl

-- one more was read
pub values-go : (whole : Option (List Element)) (done : List Element) (one : Option Element) (others : Option (List Element)) (v : Element) →
    whole ≡ behind_values done (in_front one others) → Some v ≡ one → whole ≡ behind_values (done ++ v ∷ []) others
values-go whole done (Some u) (Some vs) v e is = e ∙ ap (λ x. behind_values done (in_front x (Some vs))) (sym is) ∙ ap Some (sym (append_assoc done (v ∷ []) vs))
values-go whole done (Some u) None v e is = e
values-go whole done None others v e is = cc

-- one cannot be read
pub values-stop : (whole : Option (List Element)) (done : List Element) (one : Option Element) (others : Option (List Element)) →
    whole ≡ behind_values done (in_front one others) → None ≡ one → None ≡ whole
values-stop whole done (Some u) others e is = cc
values-stop whole done None others e is = sym e

-- all were read
pub values-end : (whole : Option (List Element)) (done : List Element) → whole ≡ behind_values done (Some []) → Some done ≡ whole
values-end whole done e = sym (e ∙ ap Some (append-nil done))

-- the next of the texts
pub values-at : (kind : ValueKind) (texts : List (List ℕ)) (i : ℕ) (text : List ℕ) → i < length texts → text ≡ get_or texts i text →
    all_elements kind (drop i texts) ≡ in_front (element kind text) (all_elements kind (drop (i + 1) texts))
values-at kind texts i text h is =
    ap (all_elements kind) (drop-cons texts i text h ∙ ap (λ t. t ∷ drop (suc i) texts) (sym is)) ∙ ap (λ k. in_front (element kind text) (all_elements kind (drop k texts))) (sym (add-one i))

pub values-past : (kind : ValueKind) (texts : List (List ℕ)) (i : ℕ) → length texts ≤ i → all_elements kind (drop i texts) ≡ Some []
values-past kind texts i h = ap (all_elements kind) (drop_of_length-le texts h)
