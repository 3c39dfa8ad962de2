-- Lists gone through from the front.
use Rattle.std.proofs.Common.{◌≡◌, ℕ, zero, suc, ◌+◌, List, [], ◌∷◌, ◌++◌, take, sym, refl, ap, ◌∙◌, add-one, append_assoc, append-nil}
use Rattle.std.specs.Prelude.{slice_get}
use Rattle.std.specs.List.{flat_map}
use Rattle.std.specs.Option.{option_map_or}

-- one element more
more_step : {A B : Type 0} (f : A → List B) (xs : List A) (k : ℕ) →
    flat_map f (take (suc k) xs) ≡ flat_map f (take k xs) ++ option_map_or f (slice_get xs k) []
more_step f [] zero = refl
more_step f [] (suc k) = refl
more_step f (x ∷ xs) zero = append-nil (f x)
more_step f (x ∷ xs) (suc k) =
    ap (λ ys. f x ++ ys) (more_step f xs k) ∙ sym (append_assoc (f x) (flat_map f (take k xs)) (option_map_or f (slice_get xs k) []))

pub flat_map-more : {A B : Type 0} (f : A → List B) (xs : List A) (k : ℕ) →
    flat_map f (take (k + 1) xs) ≡ flat_map f (take k xs) ++ option_map_or f (slice_get xs k) []
flat_map-more f xs k = ap (λ n. flat_map f (take n xs)) (add-one k) ∙ more_step f xs k
