-- Parts of a list whose end lies past its own.
use Rattle.std.proofs.Common.{◌≡◌, ℕ, ◌≤◌, List, [], length, take, drop, sym}
use Rattle.std.proofs.lemmas.List.{take_all, drop_all}

pub past : {X : Type 0} (n : ℕ) (xs : List X) → length xs ≤ n → [] ≡ drop n xs
past n xs less = sym (drop_all n xs less)

pub all : {X : Type 0} (n : ℕ) (xs : List X) → length xs ≤ n → xs ≡ take n xs
all n xs less = sym (take_all n xs less)
