use Rattle.std.proofs.Common.{◌≡◌, ◌∙◌, ap, sym}
use Rattle.std.specs.Option.{option_copied}
use Rattle.std.specs.List.{fold}
use Rattle.standing_occurrences.specs.Standing.{with_first}
use Rattle.running_calls.specs.Calls.{held, outside, reached}
use Rattle.program_occurrences.specs.Occurrences.{Situation, of_point}
use Rattle.program_occurrences.proofs.WalkLaws.{met-is, met-there}
use Rattle.program_occurrences.proofs.walk.Walk.pass.Goals as goal

pub returns-in_default : goal.returns-in_default
returns-in_default g c = absurd (met-there c.args.self.now.calls _ c.args.level c.args.item.now c.in_ok-meet.ensures (ap option_copied (sym c.in_default.is) ∙ c.at.ensures))

pub returns-clause-calls : goal.returns-clause-calls
returns-clause-calls g c =
    let calls = c.args.self.now.calls in
    c.in_ok-pass.ensures (outside calls c.args.level) (reached (held calls c.args.level) c.args.item.now) c.in_ok-meet.ensures

pub returns-clause-kept : goal.returns-clause-kept
returns-clause-kept g c =
    let item = c.args.item.now in
    c.in_ok-push_point.ensures
    ∙ ap (λ (s : Situation). fold with_first c.args.self.now.kept (of_point c.args.texts.now c.args.definitions.now (g.P.Present.members c.args.present.now) s item))
    (met-is c.args.self.now.calls _ c.args.self.now.symbols c.args.level item c.in-Some.call.now c.first.result c.in_ok-meet.ensures c.in-Some.ensures c.first.ensures)
