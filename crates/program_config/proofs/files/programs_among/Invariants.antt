-- the rows so far, and then what is left
use Rattle.std.proofs.Common.{◌≡◌, map, drop}
use Rattle.serde_json.specs.View.{view}
use Rattle.program_config.specs.Members.{each}
use Rattle.program_config.specs.Files.{entry_in}
use Rattle.program_config.proofs.ListLaws.{behind}
use Rattle.program_config.proofs.files.programs_among.Given as goal

abbrev pub invariant-loop-element : goal.invariant-loop-element
invariant-loop-element l = each entry_in (map view l.elements) ≡ behind l.programs (each entry_in (map view (drop l.element-index l.elements)))
