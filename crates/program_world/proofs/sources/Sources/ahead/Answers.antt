use Rattle.std.proofs.Common.{ap, ◌∙◌}
use Rattle.std.specs.Str.{chars}
use Rattle.std.specs.Rc.{rc_str_bytes}
use Rattle.hlasm_statements.specs.Statements.{statements_of}
use Rattle.look_places.specs.Places.{look_behind}
use Rattle.program_world.specs.Sourced.{Sourced}
use Rattle.program_world.proofs.AheadLaws.{foreseen_is}
use Rattle.program_world.proofs.sources.Sources.ahead.Goals as goal

pub returns-in-Some-clause-value : goal.returns-in-Some-clause-value
returns-in-Some-clause-value g c =
    let name = c.args.name.now in
    let place = c.args.place in
    let members = g.P.Present.members c.self.inside.present.now in
    let text = chars (rc_str_bytes c.self.inside.text) in
    c.find.ensures
    ∙ foreseen_is members text c.self.inside.foresight c.in-Some.foresight c.self.invariant.foreseen c.in-Some.is name place
    ∙ ap {A = Sourced _} (λ s. look_behind (g.P.Present.members s.present) (statements_of s.text) name place) c.self.view_is
