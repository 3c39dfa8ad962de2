-- A footprint as the pairs of trees that it says, and when the pairs behind the first few are found by numbers. This
-- project.
use Rattle.std.specs.Prelude.{◌≡◌, ℕ, ◌<◌, ◌≤◌, ◌==◌, true, List, map, length, is_some, slice_index}
use Rattle.std.specs.HashMap.{HashMap, get}
use Rattle.kept_values.specs.Trees.{Tree, Pair}
use Rattle.asking_core.specs.declared.footprint.Noted.{Noted}

-- what a noted key and its answer say
abbrev pub pair_of : {K V : Type 0} → (K → Tree) → (V → Tree) → Noted K V → Pair
pair_of key value n = record { key = key n.key; value = value n.value }

-- what a footprint says
abbrev pub pairs_of : {K V : Type 0} → (K → Tree) → (V → Tree) → List (Noted K V) → List Pair
pairs_of key value ns = map (pair_of key value) ns

-- the numbers of the noted keys
abbrev pub numbers_of : {K V : Type 0} → (K → Tree) → (Tree → ℕ) → List (Noted K V) → List ℕ
numbers_of key number ns = map (λ n. number (key n.key)) ns

-- how many pairs are looked through one by one
abbrev pub few : ℕ
few = 8

-- the table has a number
abbrev pub IsFound : {X S : Type 0} → HashMap ℕ X S → ℕ → Type 0
IsFound table number = is_some (get (λ a b. a == b) table number) ≡ true

-- what one table has, the other has too
abbrev pub StaysFound : {X S : Type 0} → HashMap ℕ X S → HashMap ℕ X S → Type 0
StaysFound old new = (number : ℕ) → IsFound old number → IsFound new number

-- each number behind the first few is in the table
abbrev pub AreFound : {X S : Type 0} → List ℕ → HashMap ℕ X S → Type 0
AreFound numbers table = (i : ℕ) → few ≤ i → i < length numbers → IsFound table (slice_index numbers i)
