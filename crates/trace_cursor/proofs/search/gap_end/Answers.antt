use Rattle.std.proofs.Common.{ap, ◌∙◌}
use Rattle.trace_cursor.specs.Places.{no_link}
use Rattle.trace_cursor.proofs.WeaveLemmas.{stop_found, stop_none}
use Rattle.trace_cursor.proofs.search.gap_end.Goals as goal

pub returns-in-Some : goal.returns-in-Some
returns-in-Some c =
    let found = c.in-Some.ensures.lookup.3 in
    ap (λ l. l.at) (found.1 no_link) ∙ stop_found c.args.items c.args.links.now c.args.count found.0

pub returns-in-None : goal.returns-in-None
returns-in-None c = stop_none c.args.items c.args.links.now c.args.count c.in-None.ensures.lookup.3
