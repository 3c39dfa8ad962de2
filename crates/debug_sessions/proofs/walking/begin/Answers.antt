use Rattle.std.proofs.Common.{◌≡◌, ◌∙◌, ℕ, Some, None, Option, ap, sym}
use Rattle.std.specs.Option.{option_map}
use Rattle.std.proofs.lemmas.Result.{IfOk-weaker}
use Rattle.macro_debugger.specs.declared.stop.StepRule.TheVariants.{Continue}
use Rattle.macro_debugger.specs.Walks.{trace_of}
use Rattle.debug_sessions.specs.Stops.{Halt, halt_of, stop_behind, first_halt}
use Rattle.debug_sessions.proofs.WalkLemmas.{begins_at}
use Rattle.debug_sessions.proofs.walking.begin.Goals as goal

pub returns-clause-reason : goal.returns-clause-reason
returns-clause-reason c =
    let paths = c.args.store.now.store.paths in
    let breakpoints = c.args.breakpoints.now in
    let trace = trace_of c.args.arena.now.nodes c.args.debug.now in
    IfOk-weaker c.go.result _ _
    (λ reason is.
    is
    ∙ ap (λ (p : Option ℕ). option_map (λ (h : Halt). h.reason) (option_map halt_of (stop_behind paths breakpoints Continue p trace))) c.requires.fresh
    ∙ ap (λ b. option_map (λ (h : Halt). h.reason) (first_halt paths breakpoints b trace)) (sym c.if-stops_on_entry.false))
    c.go.ensures.reason

pub returns-clause-place : goal.returns-clause-place
returns-clause-place c =
    let paths = c.args.store.now.store.paths in
    let breakpoints = c.args.breakpoints.now in
    let trace = trace_of c.args.arena.now.nodes c.args.debug.now in
    IfOk-weaker c.go.result _ _
    (λ reason is.
    is
    ∙ begins_at c.args.debug.now.place (λ p. stop_behind paths breakpoints Continue p trace) c.requires.fresh
    ∙ ap (λ b. option_map (λ (h : Halt). h.index) (first_halt paths breakpoints b trace)) (sym c.if-stops_on_entry.false))
    c.go.ensures.place
