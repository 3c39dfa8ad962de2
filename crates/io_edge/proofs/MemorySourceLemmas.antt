-- A source in memory gives at least one byte where it has any.
use Rattle.std.proofs.Common.{◌≡◌, ℕ, ◌<◌, List, [], ◌∷◌, ◌++◌, length, take, drop, min, refl, arith}
use Rattle.std.specs.List.{All}
use Rattle.std.proofs.lemmas.List.Elements.{All-append, All-drop, All-take}
use Rattle.io_edge.specs.MemorySource.{piece_limit}

-- where each size is at least 1 and there is room, a piece may have a byte
pub piece_limit-positive : (sizes : List ℕ) (room : ℕ) → All (λ size. 0 < size) sizes → 0 < room →
    0 < piece_limit sizes room
piece_limit-positive [] room each some = some
piece_limit-positive (size ∷ sizes) room each some =
    let positive : 0 < size = each 0 0 (omega arith) in omega arith

-- a take that gives nothing though there is room finds nothing left
pub nothing_given : (sizes bytes : List ℕ) (turn room count : ℕ) → All (λ size. 0 < size) sizes → 0 < room →
    count ≡ min (piece_limit (drop turn sizes ++ take turn sizes) room) (length bytes) → count ≡ 0 → bytes ≡ []
nothing_given sizes [] turn room count each some is none = refl
nothing_given sizes (byte ∷ bytes) turn room count each some is none =
    let positive = All-append (λ size. 0 < size) (drop turn sizes) (take turn sizes)
    (All-drop (λ size. 0 < size) turn sizes each) (All-take (λ size. 0 < size) turn sizes each) in
    absurd (omega (arith, piece_limit-positive (drop turn sizes ++ take turn sizes) room positive some))
