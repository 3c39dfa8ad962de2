-- All of some values, one after the other.
use Rattle.std.proofs.Common.{◌≡◌, List, [], ◌∷◌, ◌++◌, refl, ap, append-nil, append_assoc}
use Rattle.std.specs.Prelude.{Option, Some, None}
use Rattle.using_statements.specs.Wholes.{with_others}

-- values that stand before all of others
abbrev pub behind : {A : Type 0} → List A → Option (List A) → Option (List A)
behind front None = None
behind front (Some rest) = Some (front ++ rest)

-- before the first one
pub behind_none : {A : Type 0} (all : Option (List A)) → behind [] all ≡ all
behind_none None = refl
behind_none (Some rest) = refl

-- one more
pub behind_more : {A : Type 0} (front : List A) (one : A) (others : Option (List A)) →
    behind (front ++ one ∷ []) others ≡ behind front (with_others (Some one) others)
behind_more front one None = refl
behind_more front one (Some rest) = ap Some (append_assoc front (one ∷ []) rest)

-- behind the last one
pub behind_all : {A : Type 0} (front : List A) → behind front (Some []) ≡ Some front
behind_all front = ap Some (append-nil front)
