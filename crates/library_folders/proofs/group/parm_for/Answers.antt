use Rattle.std.proofs.Common.{ap, ◌∙◌, []}
use Rattle.std.specs.Option.{option_map_or}
use Rattle.std.proofs.lemmas.Str.{chars-nil}
use Rattle.program_config.specs.declared.groups.Group.{Group}
use Rattle.library_folders.proofs.group.parm_for.Goals as goal

pub returns-in-None : goal.returns-in-None
returns-in-None c = chars-nil ∙ ap (λ found. option_map_or (λ (group : Group). group.sysparm) found []) c.in-None.ensures
