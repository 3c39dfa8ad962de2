-- Every constant stands on some boundary.
use Rattle.std.proofs.Common.{ℕ, ◌<◌, Bool, true, false, arith}
use Rattle.constant_table.specs.declared.constant_type.ConstantType.{ConstantType}
use Rattle.constant_table.specs.declared.constant_type.ConstantType.TheVariants.{Character, Hexadecimal, Binary, Packed, Zoned, Fullword, Halfword, Doubleword, Address, LongAddress, ShortAddress, ExternalAddress, BasedAddress, LongFloat, ShortFloat, ExtendedFloat}
use Rattle.constant_values.specs.Values.{boundary}

pub boundary_some : (type : ConstantType) (sized : Bool) → 0 < boundary type sized
boundary_some type true = omega arith
boundary_some Character false = omega arith
boundary_some Hexadecimal false = omega arith
boundary_some Binary false = omega arith
boundary_some Packed false = omega arith
boundary_some Zoned false = omega arith
boundary_some Fullword false = omega arith
boundary_some Halfword false = omega arith
boundary_some Doubleword false = omega arith
boundary_some Address false = omega arith
boundary_some LongAddress false = omega arith
boundary_some ShortAddress false = omega arith
boundary_some ExternalAddress false = omega arith
boundary_some BasedAddress false = omega arith
boundary_some LongFloat false = omega arith
boundary_some ShortFloat false = omega arith
boundary_some ExtendedFloat false = omega arith
