use Rattle.std.proofs.Common.{◌==◌, [], ap}
use Rattle.std.proofs.Math.Path.{fun_ext}
use Rattle.std.specs.Map.{lookup}
use Rattle.std.specs.Option.{option_map_or}
use Rattle.kept_values.specs.Trees.{look_up, tree_number}
use Rattle.kept_values.specs.Keys.{key_tree}
use Rattle.call_sites.specs.Values.{known_tree}
use Rattle.asking_core.specs.Places.{pairs_of}
use Rattle.program_world.proofs.puts.Puts.new.Goals as goal

pub returns : goal.returns
returns c = fun_ext (λ key. ap (λ entries. look_up (option_map_or (λ found. pairs_of key_tree known_tree found.items) (lookup (λ b. tree_number key == b) entries) []) key) c.new.ensures.empty)
