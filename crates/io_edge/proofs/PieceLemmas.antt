-- Bytes that go into the front of a buffer.
use Rattle.std.proofs.Common.{◌≡◌, ℕ, ◌+◌, ◌≤◌, List, ◌++◌, length, take, drop, min, ap, sym, ◌∙◌, arith}
use Rattle.std.proofs.Math.Nat.{min-le_right}
use Rattle.std.proofs.lemmas.List.{take-append-le, take-append-drop, take_all, length-take-le, drop-drop}
use Rattle.io_edge.specs.Told.{overwritten}

-- what was written to the front of a buffer stands there
pub take-overwritten : (bytes buffer : List ℕ) (count : ℕ) → count ≤ length bytes →
    take count (overwritten (take count bytes) buffer) ≡ take count bytes
take-overwritten bytes buffer count within =
    let full : length (take count bytes) ≡ count = length-take-le count bytes within in
    take-append-le count (take count bytes) (drop (length (take count bytes)) buffer) (omega arith)
    ∙ take_all count (take count bytes) (omega arith)

-- the bytes from a place on are those that a take put into the buffer and those behind them
pub taken-overwritten : (bytes buffer now : List ℕ) (place most count : ℕ) →
    count ≡ min most (length (drop place bytes)) → now ≡ overwritten (take count (drop place bytes)) buffer →
    drop place bytes ≡ take count now ++ drop (place + count) bytes
taken-overwritten bytes buffer now place most count is written =
    let within : count ≤ length (drop place bytes) = omega (arith, min-le_right most (length (drop place bytes))) in
    sym (take-append-drop count (drop place bytes))
    ∙ ap (λ front. front ++ drop count (drop place bytes))
    (sym (ap (take count) written ∙ take-overwritten (drop place bytes) buffer count within))
    ∙ ap (λ rest. take count now ++ rest) (drop-drop count place bytes)
