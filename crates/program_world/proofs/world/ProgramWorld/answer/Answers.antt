use Rattle.std.proofs.Common.{ap, sym, ◌∙◌}
use Rattle.std.proofs.lemmas.Result.{IfOk-weaker}
use Rattle.kept_values.specs.Keys.{key_tree}
use Rattle.program_world.specs.World.{meaning_tree, program_answer}
use Rattle.program_world.specs.States.{state_of}
use Rattle.program_world.proofs.AheadLaws.{look_is}
use Rattle.program_world.proofs.MemberLaws.{found_answer}
use Rattle.program_world.proofs.world.ProgramWorld.answer.Goals as goal

pub returns-in-Member-clause-value : goal.returns-in-Member-clause-value
returns-in-Member-clause-value g c =
    let members = g.P.Present.members c.args.self.now.sources.present in
    IfOk-weaker c.member.result _ _
    (λ v is.
    is
    ∙ sym (found_answer members c.in-Member.name)
    ∙ ap (λ k. program_answer (state_of g.P.Present.members c.args.self.now) (key_tree k)) (sym c.in-Member.is))
    c.member.ensures.value

pub returns-in_ok-found-in-Look-clause-value : goal.returns-in_ok-found-in-Look-clause-value
returns-in_ok-found-in-Look-clause-value g c =
    let s = state_of g.P.Present.members c.args.self.now in
    c.meaning.ensures
    ∙ ap meaning_tree c.in_ok-found-in-Look.ensures.value
    ∙ sym (look_is s c.in-Look.name)
    ∙ ap (λ k. program_answer s (key_tree k)) (sym c.in-Look.is)
