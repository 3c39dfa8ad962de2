use Rattle.std.proofs.Common.{◌≡◌, take}
use Rattle.trace_variables.specs.Seen.{seen_symbols, all_noted}
use Rattle.trace_variables.proofs.known.note_all.Given as goal

-- the symbols so far are declared
abbrev pub invariant-loop-declaration : goal.invariant-loop-declaration
invariant-loop-declaration l =
    seen_symbols l.symbols ≡ all_noted (seen_symbols l.initial.symbols) (take l.declaration-index l.declarations)
