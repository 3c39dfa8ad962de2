use Rattle.std.proofs.Common.{◌≡◌, drop}
use Rattle.std.specs.List.{find}
use Rattle.variable_meanings.specs.Meanings.{declares}
use Rattle.variable_meanings.proofs.place.by_declaration.Given as goal

-- the first that is left is the first of all
abbrev pub invariant-loop-declaration : goal.invariant-loop-declaration
invariant-loop-declaration l = find (declares l.name) (drop l.declaration-index l.declared) ≡ find (declares l.name) l.declared
