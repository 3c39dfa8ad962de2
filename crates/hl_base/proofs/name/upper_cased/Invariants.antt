use Rattle.std.proofs.Common.{◌≡◌, map, take}
use Rattle.std.specs.Char.{to_ascii_uppercase}
use Rattle.hl_base.proofs.name.upper_cased.Given as goal

-- the bytes so far are upper-cased
abbrev pub invariant-loop-byte : goal.invariant-loop-byte
invariant-loop-byte l = l.upper.bytes ≡ map to_ascii_uppercase (take l.byte-index l.symbol)
