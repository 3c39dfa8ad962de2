use Rattle.std.proofs.Common.{sym, subst}
use Rattle.program_world.specs.Found.{AreFound}
use Rattle.program_world.proofs.MemberLaws.{none_found}
use Rattle.program_world.proofs.sources.Sources.new.Goals as goal

pub invariant_of-result : goal.invariant_of-result
invariant_of-result g c =
    let members = g.P.Present.members c.args.present.now in
    record { found = subst (AreFound members) (sym c.new.ensures) (none_found members); foreseen = tt }
