use Rattle.std.proofs.Common.{◌≡◌, ◌∙◌, Some, None, Option, ap, sym}
use Rattle.std.specs.Option.{option_map}
use Rattle.macro_debugger.specs.declared.stop.Stop.{Stop}
use Rattle.macro_debugger.specs.Walks.{Walk, trace_of, place_after}
use Rattle.debug_sessions.specs.Stops.{Halt, halt_of, stop_behind}
use Rattle.debug_sessions.proofs.WalkLemmas.{same_trace, next_is}
use Rattle.debug_sessions.proofs.walking.go.Goals as goal

pub next_stop-stop-requires : goal.next_stop-stop-requires
next_stop-stop-requires c = record {
  trace =
      same_trace c.args.store.now.store.paths c.args.breakpoints.now c.args.arena.now.nodes c.args.debug.now c.set_breakpoints.new.debug
      c.set_breakpoints.ensures.rest c.requires.trace;
}

pub returns-in_err-set_breakpoints-clause-trace : goal.returns-in_err-set_breakpoints-clause-trace
returns-in_err-set_breakpoints-clause-trace c =
    same_trace c.args.store.now.store.paths c.args.breakpoints.now c.args.arena.now.nodes c.args.debug.now c.set_breakpoints.new.debug
    c.set_breakpoints.ensures.rest c.requires.trace

pub returns-clause-reason : goal.returns-clause-reason
returns-clause-reason c =
    let found = next_is c.args.store.now.store.paths c.args.breakpoints.now c.args.arena.now.nodes c.args.debug.now c.set_breakpoints.new.debug
    c.set_breakpoints.ensures.rest c.in_ok-set_breakpoints.ensures.set c.args.rule c.next_stop-stop.result c.next_stop-stop.ensures.stop in
    c.told.ensures ∙ ap (λ (o : Option Stop). option_map (λ (h : Halt). h.reason) (option_map halt_of o)) found

pub returns-clause-place : goal.returns-clause-place
returns-clause-place c =
    let found = next_is c.args.store.now.store.paths c.args.breakpoints.now c.args.arena.now.nodes c.args.debug.now c.set_breakpoints.new.debug
    c.set_breakpoints.ensures.rest c.in_ok-set_breakpoints.ensures.set c.args.rule c.next_stop-stop.result c.next_stop-stop.ensures.stop in
    ap (λ (w : Walk). w.place) c.next_stop-stop.ensures.place
    ∙ ap (λ (w : Walk). place_after w.place c.next_stop-stop.result) c.set_breakpoints.ensures.rest
    ∙ ap (place_after c.args.debug.now.place) found

pub returns-clause-root : goal.returns-clause-root
returns-clause-root c =
    ap (λ (w : Walk). w.root) c.next_stop-stop.ensures.place ∙ ap (λ (w : Walk). w.root) c.set_breakpoints.ensures.rest
