-- The forms over std's readers and writers, which tell nothing of their bytes (this project).
use Rattle.std.specs.Prelude.{ℕ, List, Result, Ok, Err}
use Rattle.io_edge.specs.Counts.{one_more}

-- what is known of a source over a reader: the bytes that it has read ahead, and how many takes failed
pub record Ahead : Type 0 where
  pub buffered : List ℕ
  pub refusals : ℕ

-- a count of failed calls after one more call
abbrev pub counted_fault : {T E : Type 0} → Result T E → ℕ → ℕ
counted_fault (Ok _) refusals = refusals
counted_fault (Err _) refusals = one_more refusals
