-- Lists that grow by one.
use Rattle.std.proofs.Common.{◌≡◌, ◌∙◌, List, [], ◌∷◌, ◌++◌, map, ap, append_assoc}
use Rattle.std.proofs.lemmas.List.{map-append}

-- one more element, seen through a view
pub mapped_push : {A B : Type 0} (view : A → B) (front grown : List A) (one : A) → grown ≡ front ++ one ∷ [] →
    map view grown ≡ map view front ++ view one ∷ []
mapped_push view front grown one is = ap (map view) is ∙ map-append view front (one ∷ [])

-- one more, and then the rest
pub next_mapped : {B : Type 0} (front grown : List B) (one : B) (rest : List B) → grown ≡ front ++ one ∷ [] →
    grown ++ rest ≡ front ++ one ∷ rest
next_mapped front grown one rest is = ap (λ all. all ++ rest) is ∙ append_assoc front (one ∷ []) rest
