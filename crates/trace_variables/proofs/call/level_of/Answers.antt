use Rattle.std.proofs.Common.{◌∙◌}
use Rattle.trace_variables.proofs.CallLemmas.{level_is}
use Rattle.trace_variables.proofs.call.level_of.Goals as goal

pub returns : goal.returns
returns c =
    c.level_in.ensures
    ∙ level_is c.args.arena.now.nodes c.args.root.0 c.args.index c.in_ok-places.places.items c.in_ok-places.ensures.path c.args.frame
