use Rattle.std.proofs.Common.{◌≡◌, ◌-◌, [], map}
use Rattle.kept_values.specs.Keys.{key_tree}
use Rattle.kept_values.specs.Trees.{look_up}
use Rattle.asking_core.specs.Places.{pairs_of}
use Rattle.macro_library.specs.Contents.{written}
use Rattle.call_sites.specs.Values.{known_tree}
use Rattle.asked_definitions.proofs.DefiningLaws.{led}
use Rattle.asked_definitions.proofs.definition.asked_definition.Given as goal

-- the answers lead from here as far as from the start
abbrev pub invariant-loop-asked : goal.invariant-loop-asked
invariant-loop-asked l =
    let told = look_up (pairs_of key_tree known_tree l.answers) in
    let list = map written l.list in
    led told list l.start 65536 [] ≡ led told list l.start (65536 - l._asked) l.members
