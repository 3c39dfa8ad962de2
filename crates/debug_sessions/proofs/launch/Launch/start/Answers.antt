use Rattle.std.proofs.Common.{◌≡◌, ◌∙◌, ap, sym, true, false}
use Rattle.debug_sessions.specs.Launches.{Launch}
use Rattle.debug_sessions.proofs.WalkLemmas.{started_reason, started_launch, started_sound, still_sound}
use Rattle.debug_sessions.proofs.launch.Launch.start.Goals as goal

pub begin-requires-clause-fresh : goal.begin-requires-clause-fresh
begin-requires-clause-fresh c = c.self.invariant.fresh (ap (λ (l : Launch). l.is_started) c.self.view_is ∙ c.requires.fresh)

pub invariant_of-self : goal.invariant_of-self
invariant_of-self c =
    let fresh = c.self.invariant.fresh (ap (λ (l : Launch). l.is_started) c.self.view_is ∙ c.requires.fresh) in
    still_sound c.self.inside.arena.nodes c.self.inside.debug c.begin.new.debug c.self.inside.is_started c.self.inside.is_stopped
    c.self.invariant c.begin.ensures.trace (c.in_err-reason.ensures.refused ∙ sym fresh)

pub invariant_of-self-2 : goal.invariant_of-self-2
invariant_of-self-2 c =
    started_sound c.args.store.now.store.paths c.args.breakpoints.now c.self.inside.arena.nodes c.self.inside.debug c.begin.new.debug
    c.self.inside.stops_on_entry c.self.inside.is_started c.self.inside.is_stopped c.is_some-self-inside.result c.args.self.now c.in_ok-reason.reason
    c.self.view_is c.begin.ensures.root c.is_some-self-inside.ensures
    c.begin.ensures.trace c.in_ok-reason.ensures.reason c.in_ok-reason.ensures.place

pub returns-clause-reason : goal.returns-clause-reason
returns-clause-reason c =
    started_reason c.args.store.now.store.paths c.args.breakpoints.now c.self.inside.arena.nodes c.self.inside.debug c.begin.new.debug
    c.self.inside.stops_on_entry c.self.inside.is_started c.self.inside.is_stopped c.is_some-self-inside.result c.args.self.now c.in_ok-reason.reason
    c.self.view_is c.begin.ensures.root c.is_some-self-inside.ensures
    c.in_ok-reason.ensures.reason

pub returns-clause-launch : goal.returns-clause-launch
returns-clause-launch c =
    started_launch c.args.store.now.store.paths c.args.breakpoints.now c.self.inside.arena.nodes c.self.inside.debug c.begin.new.debug
    c.self.inside.stops_on_entry c.self.inside.is_started c.self.inside.is_stopped c.is_some-self-inside.result c.args.self.now c.in_ok-reason.reason
    c.self.view_is c.begin.ensures.root c.is_some-self-inside.ensures
    c.in_ok-reason.ensures.reason c.in_ok-reason.ensures.place
