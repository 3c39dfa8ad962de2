use Rattle.std.proofs.Common.{◌∙◌, ap, sym}
use Rattle.trace_arena.specs.Nodes.{outside}
use Rattle.program_assembly.specs.KeptRoots.{owners_without}
use Rattle.program_assembly.proofs.KeptRootLaws.{owners_of_none, owners_of_some}
use Rattle.program_assembly.proofs.kept_expansions.retire_root.Goals as goal

pub returns-in-Some-clause-owners : goal.returns-in-Some-clause-owners
returns-in-Some-clause-owners c = λ x.
    let owners = outside c.args.arena.now.nodes in
    c.retire.ensures.released.outer x
    ∙ sym (owners_of_some c.in-Some.root owners x)
    ∙ ap (λ root. owners_without root owners x) (sym c.in-Some.is)

pub returns-in-None-clause-owners : goal.returns-in-None-clause-owners
returns-in-None-clause-owners c = λ x.
    let owners = outside c.args.arena.now.nodes in
    sym (owners_of_none owners x) ∙ ap (λ root. owners_without root owners x) (sym c.in-None.is)
