-- The numbers that stand for texts as they are sought. No public clause cites this file. This project.
use Rattle.std.specs.Prelude.{ℕ, List, length, min, take, fold}
use Rattle.std.specs.Hash as fed
use Rattle.std.specs.Hash.FoldHasher as folding

-- a hash of the first 512 bytes, and of the length
unfoldable pub mark_of : List ℕ → ℕ
mark_of bytes = folding.finish (fold folding.write (folding.write folding.initial (take (min (length bytes) 512) bytes)) (fed.usize (length bytes)))
