use Rattle.std.proofs.Common.{◌≡◌, ◌++◌, map}
use Rattle.std.specs.List.{flat_map}
use Rattle.trace_variables.specs.Globals.{settings_of}
use Rattle.trace_variables.specs.Seen.{seen, seen_entry, set_kind}
use Rattle.trace_variables.proofs.globals.add_all_of.Given as goal

-- with the values that are left, all of the type are added
abbrev pub invariant-loop-key : goal.invariant-loop-key
invariant-loop-key l =
    l.settings ++ flat_map (settings_of (set_kind l.kind)) (map seen_entry l.key-iterator)
    ≡ l.initial.settings ++ flat_map (settings_of (set_kind l.kind)) (seen l.values)
