use Rattle.std.proofs.Common.{◌≡◌, take}
use Rattle.std.specs.List.{fold}
use Rattle.variable_meanings.specs.Meanings.{with_declaration}
use Rattle.variable_meanings.proofs.known.KnownVariables.declare.Given as goal

-- those known behind the declarations so far
abbrev pub invariant-loop-declaration : goal.invariant-loop-declaration
invariant-loop-declaration l = l.self ≡ fold (with_declaration l.own) l.initial.self (take l.declaration-index l.declared)
