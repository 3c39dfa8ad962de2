use Rattle.std.proofs.Common.{ap, sym, ◌∙◌}
use Rattle.std.proofs.lemmas.Result.{IfOk-weaker}
use Rattle.hl_base.specs.declared.set.Key.TheVariants as key
use Rattle.kept_values.specs.Keys.{key_tree}
use Rattle.call_sites.specs.Values.{known_tree}
use Rattle.program_world.specs.Puts.{held_by}
use Rattle.program_world.specs.Sourced.{Sourced}
use Rattle.program_world.specs.World.{member_tree}
use Rattle.program_world.proofs.MemberLaws.{found_answer, one_more}
use Rattle.program_world.proofs.sources.Sources.member.Goals as goal

pub returns-in-Some-clause-value : goal.returns-in-Some-clause-value
returns-in-Some-clause-value g c =
    let name = c.args.name.now in
    let members = g.P.Present.members c.self.inside.present.now in
    IfOk-weaker c.copy-in-Some.result _ _
    (λ v is.
    is
    ∙ c.self.invariant.found (key_tree (key.Member name)) (known_tree c.in-Some.known.now) (sym (c.in-Some.ensures ∙ ap (λ n. held_by c.self.inside.found (key_tree (key.Member n))) c.copy.ensures))
    ∙ found_answer members name
    ∙ ap {A = Sourced _} (λ s. member_tree (g.P.Present.members s.present name)) c.self.view_is)
    c.copy-in-Some.ensures

pub invariant_of-self-in_err-put : goal.invariant_of-self-in_err-put
invariant_of-self-in_err-put g c = record {
  found = λ k value is. c.self.invariant.found k value (ap (λ held. held k) (sym c.in_err-put.ensures.err) ∙ is);
  foreseen = c.self.invariant.foreseen;
}

pub invariant_of-self-2 : goal.invariant_of-self-2
invariant_of-self-2 g c =
    let members = g.P.Present.members c.self.inside.present.now in
    record {
      found = λ k value is.
          one_more members (held_by c.self.inside.found) c.copy.result (known_tree c.in_ok-copy.field-0) c.self.invariant.found
          (c.in_ok-copy.ensures ∙ c.in_ok-known.ensures ∙ ap (λ n. member_tree (members n)) (sym c.copy.ensures)) k value
          (ap (λ held. held k) (sym c.in_ok-put.ensures.ok) ∙ is);
      foreseen = c.self.invariant.foreseen;
    }
