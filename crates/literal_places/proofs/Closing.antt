-- Pools that were closed, as they are seen.
use Rattle.std.proofs.Common.{◌≡◌, ℕ, zero, suc, List, [], ◌∷◌, ◌++◌, length, map, refl}
use Rattle.std.specs.Prelude.{slice_get}
use Rattle.std.specs.Option.{option_map}
use Rattle.std.proofs.lemmas.List.{length-map, map_push}
use Rattle.literal_places.specs.declared.literals.ClosedPool.{ClosedPool}
use Rattle.literal_places.specs.Shown.{closed_of}

pub closed_count : (pools : List ClosedPool) → length (map closed_of pools) ≡ length pools
closed_count pools = length-map pools closed_of

pub closed_push : (pools : List ClosedPool) (one : ClosedPool) → map closed_of (pools ++ one ∷ []) ≡ map closed_of pools ++ closed_of one ∷ []
closed_push pools one = map_push closed_of pools one

pub closed_get : (pools : List ClosedPool) (i : ℕ) → slice_get (map closed_of pools) i ≡ option_map closed_of (slice_get pools i)
closed_get [] i = refl
closed_get (one ∷ pools) zero = refl
closed_get (one ∷ pools) (suc i) = closed_get pools i
