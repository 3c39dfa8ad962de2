-- How many lists copied the one that a call processes.
use Rattle.std.proofs.Common.{◌≡◌, ◌∙◌, List, length, map, reverse}
use Rattle.std.proofs.lemmas.List.{length-reverse, length-map}

pub below_count : {X Y : Type 0} (f : X → Y) (xs : List X) → length (reverse (map f xs)) ≡ length xs
below_count f xs = length-reverse (map f xs) ∙ length-map xs f
