-- A source in memory: what it holds, and what a take gives of it (this project).
use Rattle.std.specs.Prelude.{ℕ, min, List, [], ◌∷◌, ◌++◌, Bool, length, drop, Result, Ok, Err}
use Rattle.io_edge.specs.Counts.{one_more}
use Rattle.io_edge.specs.declared.fault.Failed.{Failed}

-- what a source in memory holds: the bytes not yet taken, the sizes of its pieces with the next one first, the
-- answers of `waiting` still to come, the numbers of the takes that are to fail, how many takes there were, and how
-- many of them failed
pub record Supply : Type 0 where
  pub bytes : List ℕ
  pub sizes : List ℕ
  pub answers : List Bool
  pub failing : List ℕ
  pub takes : ℕ
  pub refusals : ℕ

-- the sizes after one was used: it comes again behind the others
abbrev pub turned : List ℕ → List ℕ
turned [] = []
turned (size ∷ sizes) = sizes ++ size ∷ []

-- how many bytes a piece may have, where there is room for so many; no size sets no limit
abbrev pub piece_limit : List ℕ → ℕ → ℕ
piece_limit [] room = room
piece_limit (size ∷ _) room = min size room

-- how many bytes a take gives that does not fail
abbrev pub given_len : Supply → ℕ → ℕ
given_len supply room = min (piece_limit supply.sizes room) (length supply.bytes)

-- what is held after a take
abbrev pub after_take : Supply → Result ℕ Failed → Supply
after_take supply (Ok count) = record {
  bytes = drop count supply.bytes;
  sizes = turned supply.sizes;
  answers = supply.answers;
  failing = supply.failing;
  takes = one_more supply.takes;
  refusals = supply.refusals;
}
after_take supply (Err _) = record {
  bytes = supply.bytes;
  sizes = supply.sizes;
  answers = supply.answers;
  failing = supply.failing;
  takes = one_more supply.takes;
  refusals = one_more supply.refusals;
}
