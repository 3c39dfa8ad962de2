use Rattle.std.proofs.Common.{◌∙◌, List, ap}
use Rattle.hl_base.specs.declared.place.Origin.{Origin}
use Rattle.called_definitions.specs.Called.{with_prototypes}
use Rattle.trace_arena.specs.Points.{points}
use Rattle.program_names.proofs.NameLaws.{names_are}
use Rattle.program_names.proofs.assembling.names_in.Goals as goal

pub returns : goal.returns
returns g c =
    let members = g.P.Present.members c.args.present.now in
    let here = points c.args.arena.now.nodes c.args.root.0 in
    let texts = c.in_ok-texts.texts in
    let run = c.in_ok-definitions.definitions in
    names_are c.args.store.now.store c.args.path.0 members here c.in_ok-met.met.keys texts run c.add_definitions.new.known c.in_ok-occurrences.occurrences
    c.in_ok-symbols.symbols.rows c.in_ok-symbols.symbols.sections c.in_ok-places.places.items c.in_ok-touched.touched.items
    c.in_ok-met.ensures c.in_ok-texts.ensures c.in_ok-definitions.ensures c.in_ok-occurrences.ensures
    c.in_ok-symbols.ensures.rows c.in_ok-symbols.ensures.sections c.in_ok-places.ensures
    (c.in_ok-add_definitions.ensures ∙ ap (λ (os : List Origin). with_prototypes texts members run os) c.as_slice.ensures.value)
    c.in_ok-touched.ensures
