use Rattle.std.proofs.Common.{◌≡◌, take}
use Rattle.std.specs.List.{fold}
use Rattle.trace_variables.specs.Values.{after_declaration}
use Rattle.trace_variables.specs.Seen.{seen}
use Rattle.trace_variables.proofs.values.declare_all.Given as goal

-- the declarations so far were made
abbrev pub invariant-loop-declaration : goal.invariant-loop-declaration
invariant-loop-declaration l =
    seen l.values ≡ fold (after_declaration l.global) (seen l.initial.values) (take l.declaration-index l.declarations)
