-- A sink in memory: what it holds, and what a put adds to it (this project).
use Rattle.std.specs.Prelude.{◌≡◌, ℕ, ◌-◌, ◌<◌, ◌⊎◌, min, List, ◌++◌, length, take, Result, Ok, Err}
use Rattle.io_edge.specs.Counts.{one_more, IsToFail}
use Rattle.io_edge.specs.declared.fault.Failed.{Failed}

-- what a sink in memory holds: the bytes put so far, the room left for more, the most bytes that one put takes, the
-- numbers of the puts that are to fail, how many puts there were, and how many of them failed
pub record SinkState : Type 0 where
  pub bytes : List ℕ
  pub room : ℕ
  pub most : ℕ
  pub failing : List ℕ
  pub puts : ℕ
  pub refusals : ℕ

-- the next put is one of those that are to fail, or there is no room for any of the piece
abbrev pub IsPutRefused : SinkState → List ℕ → Type 0
IsPutRefused store piece = IsToFail store.failing store.puts ⊎ ((0 < length piece) × (store.room ≡ 0))

-- how many bytes of a piece a put takes that does not fail
abbrev pub put_len : SinkState → List ℕ → ℕ
put_len store piece = min (min store.most store.room) (length piece)

-- what is held after a put
abbrev pub after_put : SinkState → List ℕ → Result ℕ Failed → SinkState
after_put store piece (Ok count) = record {
  bytes = store.bytes ++ take count piece;
  room = store.room - count;
  most = store.most;
  failing = store.failing;
  puts = one_more store.puts;
  refusals = store.refusals;
}
after_put store piece (Err _) = record {
  bytes = store.bytes;
  room = store.room;
  most = store.most;
  failing = store.failing;
  puts = one_more store.puts;
  refusals = one_more store.refusals;
}
