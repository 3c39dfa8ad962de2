use Rattle.std.proofs.Common.{◌≡◌, take}
use Rattle.hl_base.proofs.set.Declarations.copy.Given as goal

-- the declarations so far are copied
abbrev pub invariant-loop-declaration : goal.invariant-loop-declaration
invariant-loop-declaration l = l.declarations.items ≡ take l.declaration-index l.declaration-items
