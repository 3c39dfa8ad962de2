use Rattle.std.proofs.Common.{◌≡◌, [], map, take}
use Rattle.std.specs.List.{flat_map}
use Rattle.trace_variables.specs.Seen.{seen_symbols, all_noted}
use Rattle.trace_variables.proofs.known.known_by.Given as goal

-- the symbols of the items so far are declared
abbrev pub invariant-loop-item : goal.invariant-loop-item
invariant-loop-item l =
    seen_symbols l.symbols ≡ all_noted [] (flat_map (λ item. item.declared) (map (λ i. i.now) (take l.item-index l.items)))
