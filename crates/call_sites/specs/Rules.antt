-- The rules on keys, over their trees: which may change as calls are counted and entered, which may be given an answer,
-- and how an answer is taken back from within a call. This project.
use Rattle.std.specs.Prelude.{ℕ, ◌+◌, ◌-◌, ◌%◌, ◌==◌, ◌&&◌, ◌||◌, Bool, false, nat_lt, Option, Some, None, if◌then◌else◌}
use Rattle.std.specs.Int.{cast_signed, w32}
use Rattle.hl_base.specs.declared.set.Answer.TheVariants as answer
use Rattle.kept_values.specs.Trees.{Tree, Leaf, Fork}
use Rattle.kept_values.specs.Answers.{answer_tree}

-- counting and entering calls may change the answers to Nest and Counter
abbrev pub is_moving : Tree → Bool
is_moving (Leaf kind) = kind == 6 || kind == 8
is_moving (Fork left right) = false

-- a statement may give an answer to Global, Op, Sym and Sect
abbrev pub is_writable : Tree → Bool
is_writable (Leaf kind) = kind == 5
is_writable (Fork (Leaf kind) named) = kind == 0 || (kind == 1 || kind == 3)
is_writable (Fork (Fork a b) named) = false

-- the tree of a number of 32 bits, which is kept with a sign
abbrev pub number_tree : ℕ → Tree
number_tree bits = answer_tree (answer.Number (cast_signed w32 bits))

-- the 32 bits of the number that a tree is, if it is one: from its sign and its size
abbrev pub signed_bits : ℕ → ℕ → ℕ
signed_bits sign size = if sign == 0 then size else 4294967295 - size

abbrev pub bits_in : Tree → Option ℕ
bits_in (Fork (Leaf kind) (Fork (Leaf sign) (Leaf size))) =
    if kind == 1 && (nat_lt sign 2 && nat_lt size 2147483648) then Some (signed_bits sign size) else None
bits_in other = None

-- a number taken back by so many, going round; what is no number stays
abbrev pub bits_back : ℕ → ℕ → ℕ
bits_back bits n = (bits + (4294967296 - n % 4294967296)) % 4294967296

abbrev pub number_back : Option ℕ → Tree → ℕ → Tree
number_back None value n = value
number_back (Some bits) value n = number_tree (bits_back bits n)

abbrev pub taken_back : Tree → ℕ → Tree
taken_back value n = number_back (bits_in value) value n

-- an answer just within a nested call, as of the start of its caller, which had counted `n` calls, the nested one included:
-- Counter is that much less, Nest one less, and every other answer is the same
abbrev pub rebased : Tree → Tree → ℕ → Tree
rebased (Leaf kind) value n = if kind == 8 then taken_back value n else (if kind == 6 then taken_back value 1 else value)
rebased (Fork left right) value n = value
