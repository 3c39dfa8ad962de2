-- Arithmetic in 32 bits with sign (HLASM Language Reference SC26-4940, "Arithmetic (SETA) expressions").
use Rattle.std.specs.Prelude.{ℤ, pos, negsuc, int_div, Bool, nat_lt, Option, Some, None, if◌then◌else◌}
use Rattle.std.specs.Ordering.{int_eq}

-- whether a number fits 32 bits with sign
abbrev pub fits : ℤ → Bool
fits (pos n) = nat_lt n 2147483648
fits (negsuc n) = nat_lt n 2147483648

-- the number, where it fits
abbrev pub fitting : ℤ → Option ℤ
fitting n = if fits n then Some n else None

-- the quotient without its fraction, where it fits; 0 where the divisor is 0
abbrev pub quotient : ℤ → ℤ → Option ℤ
quotient left right = if int_eq right (pos 0) then Some (pos 0) else fitting (int_div left right)
