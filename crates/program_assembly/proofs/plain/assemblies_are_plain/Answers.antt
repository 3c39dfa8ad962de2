use Rattle.program_assembly.proofs.OpenCode.{assembly_is_plain}
use Rattle.program_assembly.proofs.plain.assemblies_are_plain.Goals as goal

pub returns : goal.returns
returns g c = assembly_is_plain c.runs_are_expansions.ensures
