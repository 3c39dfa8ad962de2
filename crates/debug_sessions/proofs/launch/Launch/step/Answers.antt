use Rattle.std.proofs.Common.{◌≡◌, ◌∙◌, ap, sym}
use Rattle.debug_sessions.proofs.WalkLemmas.{stepped_reason, stepped_launch, stepped_sound, still_sound}
use Rattle.debug_sessions.proofs.launch.Launch.step.Goals as goal

pub invariant_of-self : goal.invariant_of-self
invariant_of-self c =
    still_sound c.self.inside.arena.nodes c.self.inside.debug c.go.new.debug c.self.inside.is_started c.self.inside.is_stopped
    c.self.invariant c.go.ensures.trace c.in_err-reason.ensures.refused

pub invariant_of-self-2 : goal.invariant_of-self-2
invariant_of-self-2 c =
    stepped_sound c.args.store.now.store.paths c.args.breakpoints.now c.self.inside.arena.nodes c.self.inside.debug c.go.new.debug
    c.self.inside.stops_on_entry c.self.inside.is_started c.self.inside.is_stopped c.is_some-self-inside.result c.args.self.now c.in_ok-reason.reason
    c.self.view_is c.go.ensures.root c.is_some-self-inside.ensures c.args.rule
    c.self.invariant c.go.ensures.trace c.requires.stopped c.in_ok-reason.ensures.reason c.in_ok-reason.ensures.place

pub returns-clause-reason : goal.returns-clause-reason
returns-clause-reason c =
    stepped_reason c.args.store.now.store.paths c.args.breakpoints.now c.self.inside.arena.nodes c.self.inside.debug c.go.new.debug
    c.self.inside.stops_on_entry c.self.inside.is_started c.self.inside.is_stopped c.is_some-self-inside.result c.args.self.now c.in_ok-reason.reason
    c.self.view_is c.go.ensures.root c.is_some-self-inside.ensures c.args.rule
    c.in_ok-reason.ensures.reason

pub returns-clause-launch : goal.returns-clause-launch
returns-clause-launch c =
    stepped_launch c.args.store.now.store.paths c.args.breakpoints.now c.self.inside.arena.nodes c.self.inside.debug c.go.new.debug
    c.self.inside.stops_on_entry c.self.inside.is_started c.self.inside.is_stopped c.is_some-self-inside.result c.args.self.now c.in_ok-reason.reason
    c.self.view_is c.go.ensures.root c.is_some-self-inside.ensures c.args.rule
    c.in_ok-reason.ensures.reason c.in_ok-reason.ensures.place
