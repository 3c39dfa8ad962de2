-- A world whose counters go round at 2^32, and that fits a machine which asks them. This project.
use Rattle.std.specs.Prelude.{◌≡◌, ℕ, zero, suc, ◌+◌, ◌-◌, ◌%◌, Bool, true, false, nat_lt, if◌then◌else◌}
use Rattle.std.proofs.Common.{lit<}
use Rattle.std.proofs.Math.Nat.{mod-lt}
use Rattle.std.proofs.lemmas.Bool.{lt-ltb}
use Rattle.kept_values.specs.Trees.{Tree, Leaf, Fork}
use Rattle.asking_core.specs.Worlds.{WorldModel}

-- a number of 32 bits
pub record Round : Type 0 where
  pub number : ℕ
  pub small : nat_lt number 4294967296 ≡ true

-- a number, gone round
abbrev pub round : ℕ → Round
round n = record { number = n % 4294967296; small = lt-ltb (n % 4294967296) 4294967296 (mod-lt n (lit< tt)) }

-- how many calls were counted, how deep the call stands, and the one value that may be put
pub record Counted : Type 0 where
  pub calls : Round
  pub depth : Round
  pub cell : Tree

-- key 0 asks the calls, key 1 the depth, key 2 the value; every other key is answered by 0
abbrev pub counted_answer : Counted → Tree → Tree
counted_answer s (Leaf zero) = Leaf s.calls.number
counted_answer s (Leaf (suc zero)) = Leaf s.depth.number
counted_answer s (Leaf (suc (suc zero))) = s.cell
counted_answer s (Leaf (suc (suc (suc n)))) = Leaf 0
counted_answer s (Fork a b) = Leaf 0

abbrev pub counters : WorldModel
counters = record {
  State = Counted;
  answer = counted_answer;
  after_put = λ s key value. record s { cell = value };
  after_bump = λ s n. record s { calls = round (s.calls.number + n) };
  after_enter = λ s. record s { depth = round (s.depth.number + 1) };
  after_leave = λ s. record s { depth = round (s.depth.number + 4294967295) };
  after_at = λ s n. s;
}

-- the two counters move, and the value may be put
abbrev pub counters_move : Tree → Bool
counters_move (Leaf zero) = true
counters_move (Leaf (suc zero)) = true
counters_move (Leaf (suc (suc n))) = false
counters_move (Fork a b) = false

abbrev pub cell_is_writable : Tree → Bool
cell_is_writable (Leaf zero) = false
cell_is_writable (Leaf (suc zero)) = false
cell_is_writable (Leaf (suc (suc zero))) = true
cell_is_writable (Leaf (suc (suc (suc n)))) = false
cell_is_writable (Fork a b) = false

-- a counter taken back by so many, going round; what is no number of 32 bits stays
abbrev pub number_back : ℕ → ℕ → ℕ
number_back m n = if nat_lt m 4294967296 then (m + (4294967296 - n % 4294967296)) % 4294967296 else m

abbrev pub tree_back : Tree → ℕ → Tree
tree_back (Leaf m) n = Leaf (number_back m n)
tree_back (Fork a b) n = Fork a b

abbrev pub counters_back : Tree → Tree → ℕ → Tree
counters_back (Leaf zero) value n = tree_back value n
counters_back (Leaf (suc zero)) value n = tree_back value 1
counters_back (Leaf (suc (suc m))) value n = value
counters_back (Fork a b) value n = value
