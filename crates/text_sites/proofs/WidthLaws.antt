-- Bounds on the widths of lines.
use Rattle.std.proofs.Common.{◌≡◌, ℕ, ◌*◌, ◌≤◌, List, length, take, get_or, ap, arith}
use Rattle.std.proofs.lemmas.List.{length-take}
use Rattle.std.proofs.lemmas.List.Sums.{sum_by-le}
use Rattle.hl_base.specs.Texts.{units, unit_width}

-- a character takes at most two units
unit_width-le : (c : ℕ) → unit_width c ≤ 2
unit_width-le c = grind arith

units-le : (line : List ℕ) → units line ≤ 2 * length line
units-le line = omega (arith, sum_by-le unit_width 2 line (λ i d within. unit_width-le (get_or line i d)))

-- so many columns are at most twice as many units wide
pub width-small : (shown line : List ℕ) (count : ℕ) → count ≤ 71 → shown ≡ take count line → units shown ≤ 142
width-small shown line count few is =
    let bound = units-le shown in
    let size : length shown ≡ length (take count line) = ap length is in
    omega (arith, length-take count line)
