use Rattle.std.proofs.Common.{◌≡◌, ◌<◌, ◌≤◌, ◌+◌, ◌-◌, ℕ, cond, [], List, Option, Some, None, MatchOption, map, refl, sym, ap, ◌∙◌, subst, arith}
use Rattle.trace_arena.specs.Nodes.{Arena, IsUnshared}
use Rattle.asking_core.specs.Machines.{Told, Nothing, Returned, TooDeep}
use Rattle.asking_core.specs.Actions.{told_of}
use Rattle.asking_core.specs.Runs.{ByLeave, ByEnd, deepest_depth}
use Rattle.kept_outcomes.specs.Outcomes.{CallSummary}
use Rattle.kept_outcomes.specs.Moments.{Moment, Leads, stepped, turned_away, joined}
use Rattle.kept_outcomes.proofs.Steps.{leads_no_call, comes_leave, comes_end}
use Rattle.expansion_memo.specs.declared.walk.Walk.{Walk}
use Rattle.expansion_memo.specs.declared.walk.Next.{Next}
use Rattle.expansion_memo.specs.declared.walk.Next.TheVariants as next
use Rattle.expansion_memo.specs.declared.outcome.Ended.{Ended}
use Rattle.expansion_memo.specs.declared.outcome.Ended.TheVariants as ended
use Rattle.expansion_memo.specs.declared.running.Closing.{Closing}
use Rattle.expansion_memo.specs.declared.running.Passed.{Passed}
use Rattle.expansion_memo.specs.declared.running.Passed.TheVariants as passed
use Rattle.expansion_memo.specs.Kept.{KeptOutcome, NoneHolds}
use Rattle.expansion_memo.specs.Entries.{ending_of}
use Rattle.expansion_memo.specs.Walks.{moment_at, GoesOn, Lowers}
use Rattle.expansion_memo.specs.Within.{JoinsIn, Absorbs}
use Rattle.expansion_memo.specs.Running.{HoldsSomewhere, IsRun, WentOn, Passes, Progresses, TakesUnit, GoesBack, Closes, with_outcome}
use Rattle.expansion_memo.specs.Records.{CallMakes, AreKeptIn, StepMakes, PassMakes, UnitMakes, owed}
use Rattle.expansion_memo.proofs.Making.{makes_no_call, makes_leave, makes_end, makes_covered, owed_counts}
use Rattle.expansion_memo.proofs.Passing.{call_making_begins, pass_makes_count, pass_makes_enter, call_taken, call_ran}
use Rattle.expansion_memo.proofs.RunParts.{went_then, went_make, went_step, went_same, went_unit, joins_units, passes_count, passes_end, passes_enter, progress_unit, progress_back, ok_map, ok_then, ok_any, unit_begins, unit_goes_on, call_begins, call_goes_on, call_ends, run_as, ran_other, ran_caller, ran_units, ran_levels, ran_joins, ran_went}
use Rattle.expansion_memo.proofs.running.+run.Goals as goal

pub run_call-loop-walk-init : goal.run_call-loop-walk-init
run_call-loop-walk-init g t c =
    let M = g.M.AskMachine.model in
    let W = g.W.World.model in
    let rebased = g.M.AskMachine.rebased in
    let call_of = g.M.AskMachine.call_of in
    let place = g.M.AskMachine.place in
    let item = g.M.AskMachine.item_of in
    let frames = g.M.AskMachine.frames_of in
    let value = g.M.Value.Kept.code in
    let code = g.M.Call.Kept.code in
    let number = g.M.AskMachine.number in
    let state = g.W.World.state in
    let fuel = c.args.fuel in
    let depth = c.args.depth in
    let b = c.in_ok-walk.ensures in
    let marked = g.M.AskMachine.marked in (
      call_begins M W rebased call_of place item fuel depth (call_of (code c.args.call.now)) c.in_ok-walk.walk (state c.args.world.now) c.args.arena.now.nodes c.begin.new.arena.nodes c.args.memo.now
          c.requires.depth c.requires.stand b.node b.place b.blank.0 b.blank.1,
      call_making_begins M W call_of place item marked fuel depth (call_of (code c.args.call.now)) c.in_ok-walk.walk (state c.args.world.now) c.args.arena.now.nodes c.begin.new.arena.nodes c.args.arena.now.made c.begin.new.arena.made c.args.memo.now
          g.met.M.AskMachine.emits_once_a_count b.node b.place b.blank.0 b.blank.1 b.made,
    )

pub run_call-run_unit-requires : goal.run_call-run_unit-requires
run_call-run_unit-requires g t c κs within =
    let M = g.M.AskMachine.model in
    let W = g.W.World.model in
    let rebased = g.M.AskMachine.rebased in
    let call_of = g.M.AskMachine.call_of in
    let place = g.M.AskMachine.place in
    let item = g.M.AskMachine.item_of in
    let frames = g.M.AskMachine.frames_of in
    let value = g.M.Value.Kept.code in
    let code = g.M.Call.Kept.code in
    let number = g.M.AskMachine.number in
    let state = g.W.World.state in
    let fuel = c.args.fuel in
    let depth = c.args.depth in
    let sound = c.loop-walk.invariant.0.sound in
    (omega arith, (within.0, (within.1.0, (within.1.1.0, (within.1.1.1.0, (within.1.1.1.1.0, (within.1.1.1.1.1.0, (within.1.1.1.1.1.1.0, (within.1.1.1.1.1.1.1.0, (within.1.1.1.1.1.1.1.1, (c.requires.fits, sound)))))))))))

pub run_call-returns-in-Some-clause-ran : goal.run_call-returns-in-Some-clause-ran
run_call-returns-in-Some-clause-ran g t c =
    let M = g.M.AskMachine.model in
    let W = g.W.World.model in
    let rebased = g.M.AskMachine.rebased in
    let call_of = g.M.AskMachine.call_of in
    let place = g.M.AskMachine.place in
    let item = g.M.AskMachine.item_of in
    let frames = g.M.AskMachine.frames_of in
    let value = g.M.Value.Kept.code in
    let code = g.M.Call.Kept.code in
    let number = g.M.AskMachine.number in
    let state = g.W.World.state in
    let fuel = c.args.fuel in
    let depth = c.args.depth in
    let so = c.loop-walk.invariant.0 in
    let went = c.in_ok-closed.ensures.went in
    let before = moment_at M W {K = g.row.M-Key.Denot} {V = g.row.M-Value.Denot} place item c.loop-walk.walk Nothing (state c.loop-walk.world) c.loop-walk.arena.nodes in
    let after = moment_at M W {K = g.row.M-Key.Denot} {V = g.row.M-Value.Denot} place item c.run_unit.new.walk Nothing (state c.run_unit.new.world) c.run_unit.new.arena.nodes in
    let P : Option (Closing g.row.M-Frames.Denot) → Type 0 = Closes M W rebased frames fuel depth before after in
    let comes : P (Some c.in-Some.close) = subst P c.in-Some.is c.in_ok-closed.ensures.closes in
    call_ends M W rebased call_of place item fuel depth (call_of (code c.args.call.now)) c.loop-walk.walk c.run_unit.new.walk (state c.args.world.now) (state c.loop-walk.world) (state c.run_unit.new.world) c.args.arena.now.nodes c.loop-walk.arena.nodes c.run_unit.new.arena.nodes c.args.memo.now c.loop-walk.memo c.run_unit.new.memo so went frames c.in-Some.close comes

pub run_call-returns-in-Some-clause-makes : goal.run_call-returns-in-Some-clause-makes
run_call-returns-in-Some-clause-makes g t c =
    let M = g.M.AskMachine.model in
    let W = g.W.World.model in
    let rebased = g.M.AskMachine.rebased in
    let call_of = g.M.AskMachine.call_of in
    let place = g.M.AskMachine.place in
    let item = g.M.AskMachine.item_of in
    let frames = g.M.AskMachine.frames_of in
    let value = g.M.Value.Kept.code in
    let code = g.M.Call.Kept.code in
    let number = g.M.AskMachine.number in
    let state = g.W.World.state in
    let fuel = c.args.fuel in
    let depth = c.args.depth in
    let so = c.loop-walk.invariant.0 in
    let went = c.in_ok-closed.ensures.went in
    let before = moment_at M W {K = g.row.M-Key.Denot} {V = g.row.M-Value.Denot} place item c.loop-walk.walk Nothing (state c.loop-walk.world) c.loop-walk.arena.nodes in
    let after = moment_at M W {K = g.row.M-Key.Denot} {V = g.row.M-Value.Denot} place item c.run_unit.new.walk Nothing (state c.run_unit.new.world) c.run_unit.new.arena.nodes in
    let P : Option (Closing g.row.M-Frames.Denot) → Type 0 = Closes M W rebased frames fuel depth before after in
    let comes : P (Some c.in-Some.close) = subst P c.in-Some.is c.in_ok-closed.ensures.closes in
    let U : Option (Closing g.row.M-Frames.Denot) → Type 0 = λ r. (kept : List (Option KeptOutcome)) → AreKeptIn kept c.loop-walk.memo → UnitMakes M W call_of kept fuel depth before after
    c.run_unit.new.arena.made (owed g.M.AskMachine.marked c.loop-walk.arena.made (place c.loop-walk.walk.local)) (owed g.M.AskMachine.marked c.run_unit.new.arena.made (place c.run_unit.new.walk.local)) r in
    let making : U (Some c.in-Some.close) = subst U c.in-Some.is c.in_ok-closed.ensures.makes in
    λ kept in_base. c.loop-walk.invariant.1 kept in_base c.run_unit.new.arena.made (making kept (λ i o at. so.others.still i o (in_base i o at)))

pub run_call-loop-walk-smaller : goal.run_call-loop-walk-smaller
run_call-loop-walk-smaller g t c =
    let M = g.M.AskMachine.model in
    let W = g.W.World.model in
    let rebased = g.M.AskMachine.rebased in
    let call_of = g.M.AskMachine.call_of in
    let place = g.M.AskMachine.place in
    let item = g.M.AskMachine.item_of in
    let frames = g.M.AskMachine.frames_of in
    let value = g.M.Value.Kept.code in
    let code = g.M.Call.Kept.code in
    let number = g.M.AskMachine.number in
    let state = g.W.World.state in
    let fuel = c.args.fuel in
    let depth = c.args.depth in
    let so = c.loop-walk.invariant.0 in
    let went = c.in_ok-closed.ensures.went in
    let before = moment_at M W {K = g.row.M-Key.Denot} {V = g.row.M-Value.Denot} place item c.loop-walk.walk Nothing (state c.loop-walk.world) c.loop-walk.arena.nodes in
    let after = moment_at M W {K = g.row.M-Key.Denot} {V = g.row.M-Value.Denot} place item c.run_unit.new.walk Nothing (state c.run_unit.new.world) c.run_unit.new.arena.nodes in
    let P : Option (Closing g.row.M-Frames.Denot) → Type 0 = Closes M W rebased frames fuel depth before after in
    let led : P None = subst P c.in_default.is c.in_ok-closed.ensures.closes in
    let more = led.1 in
    let le = went.sound.units in
    omega arith

pub run_call-loop-walk-preserved : goal.run_call-loop-walk-preserved
run_call-loop-walk-preserved g t c =
    let M = g.M.AskMachine.model in
    let W = g.W.World.model in
    let rebased = g.M.AskMachine.rebased in
    let call_of = g.M.AskMachine.call_of in
    let place = g.M.AskMachine.place in
    let item = g.M.AskMachine.item_of in
    let frames = g.M.AskMachine.frames_of in
    let value = g.M.Value.Kept.code in
    let code = g.M.Call.Kept.code in
    let number = g.M.AskMachine.number in
    let state = g.W.World.state in
    let fuel = c.args.fuel in
    let depth = c.args.depth in
    let so = c.loop-walk.invariant.0 in
    let went = c.in_ok-closed.ensures.went in
    let before = moment_at M W {K = g.row.M-Key.Denot} {V = g.row.M-Value.Denot} place item c.loop-walk.walk Nothing (state c.loop-walk.world) c.loop-walk.arena.nodes in
    let after = moment_at M W {K = g.row.M-Key.Denot} {V = g.row.M-Value.Denot} place item c.run_unit.new.walk Nothing (state c.run_unit.new.world) c.run_unit.new.arena.nodes in
    let P : Option (Closing g.row.M-Frames.Denot) → Type 0 = Closes M W rebased frames fuel depth before after in
    let led : P None = subst P c.in_default.is c.in_ok-closed.ensures.closes in
    let U : Option (Closing g.row.M-Frames.Denot) → Type 0 = λ r. (kept : List (Option KeptOutcome)) → AreKeptIn kept c.loop-walk.memo → UnitMakes M W call_of kept fuel depth before after
    c.run_unit.new.arena.made (owed g.M.AskMachine.marked c.loop-walk.arena.made (place c.loop-walk.walk.local)) (owed g.M.AskMachine.marked c.run_unit.new.arena.made (place c.run_unit.new.walk.local)) r in
    let making : U None = subst U c.in_default.is c.in_ok-closed.ensures.makes in (
      call_goes_on M W rebased call_of place item fuel depth (call_of (code c.args.call.now)) c.loop-walk.walk c.run_unit.new.walk (state c.args.world.now) (state c.loop-walk.world) (state c.run_unit.new.world) c.args.arena.now.nodes c.loop-walk.arena.nodes c.run_unit.new.arena.nodes c.args.memo.now c.loop-walk.memo c.run_unit.new.memo so went led.0,
      λ kept in_base total x. c.loop-walk.invariant.1 kept in_base total (making kept (λ i o at. so.others.still i o (in_base i o at)) total x),
    )

pub run_unit-loop-passed-init : goal.run_unit-loop-passed-init
run_unit-loop-passed-init g t c =
    let M = g.M.AskMachine.model in
    let W = g.W.World.model in
    let rebased = g.M.AskMachine.rebased in
    let call_of = g.M.AskMachine.call_of in
    let place = g.M.AskMachine.place in
    let item = g.M.AskMachine.item_of in
    let frames = g.M.AskMachine.frames_of in
    let value = g.M.Value.Kept.code in
    let code = g.M.Call.Kept.code in
    let number = g.M.AskMachine.number in
    let state = g.W.World.state in
    let fuel = c.args.fuel in
    let depth = c.args.depth in
    (unit_begins M W rebased call_of place item fuel depth c.args.walk.now (state c.args.world.now) c.args.arena.now.nodes c.args.memo.now c.requires.sound, λ kept in_base total x. x)

pub run_unit-run_step-requires : goal.run_unit-run_step-requires
run_unit-run_step-requires g t c κs within =
    let M = g.M.AskMachine.model in
    let W = g.W.World.model in
    let rebased = g.M.AskMachine.rebased in
    let call_of = g.M.AskMachine.call_of in
    let place = g.M.AskMachine.place in
    let item = g.M.AskMachine.item_of in
    let frames = g.M.AskMachine.frames_of in
    let value = g.M.Value.Kept.code in
    let code = g.M.Call.Kept.code in
    let number = g.M.AskMachine.number in
    let state = g.W.World.state in
    let fuel = c.args.fuel in
    let depth = c.args.depth in
    let sound = c.loop-passed.invariant.0.went.sound in
    (omega arith, (within.0, (within.1.0, (within.1.1.0, (within.1.1.1.0, (within.1.1.1.1.0, (within.1.1.1.1.1.0, (within.1.1.1.1.1.1.0, (within.1.1.1.1.1.1.1.0, (within.1.1.1.1.1.1.1.1, (c.requires.fits, sound)))))))))))

pub run_unit-loop-passed-smaller : goal.run_unit-loop-passed-smaller
run_unit-loop-passed-smaller g t c =
    let M = g.M.AskMachine.model in
    let W = g.W.World.model in
    let rebased = g.M.AskMachine.rebased in
    let call_of = g.M.AskMachine.call_of in
    let place = g.M.AskMachine.place in
    let item = g.M.AskMachine.item_of in
    let frames = g.M.AskMachine.frames_of in
    let value = g.M.Value.Kept.code in
    let code = g.M.Call.Kept.code in
    let number = g.M.AskMachine.number in
    let state = g.W.World.state in
    let fuel = c.args.fuel in
    let depth = c.args.depth in
    let so = c.loop-passed.invariant.0 in
    let e = c.in_ok-passed.ensures in
    let before = moment_at M W {K = g.row.M-Key.Denot} {V = g.row.M-Value.Denot} place item c.loop-passed.walk (told_of value c.loop-passed.given) (state c.loop-passed.world) c.loop-passed.arena.nodes in
    let P : Passed g.row.M-Value.Denot g.row.M-Frames.Denot → Type 0 = Passes M W rebased value frames fuel depth before (λ h. moment_at M W {K = g.row.M-Key.Denot} {V = g.row.M-Value.Denot} place item c.run_step.new.walk h (state c.run_step.new.world) c.run_step.new.arena.nodes) in
    let Q : Passed g.row.M-Value.Denot g.row.M-Frames.Denot → Type 0 = Progresses (number (place c.loop-passed.walk.local)) (number (place c.run_step.new.walk.local)) c.loop-passed.walk.summary.units c.run_step.new.walk.summary.units in
    subst Q c.in-On.is e.progresses

pub run_unit-loop-passed-preserved : goal.run_unit-loop-passed-preserved
run_unit-loop-passed-preserved g t c =
    let M = g.M.AskMachine.model in
    let W = g.W.World.model in
    let rebased = g.M.AskMachine.rebased in
    let call_of = g.M.AskMachine.call_of in
    let place = g.M.AskMachine.place in
    let item = g.M.AskMachine.item_of in
    let frames = g.M.AskMachine.frames_of in
    let value = g.M.Value.Kept.code in
    let code = g.M.Call.Kept.code in
    let number = g.M.AskMachine.number in
    let state = g.W.World.state in
    let fuel = c.args.fuel in
    let depth = c.args.depth in
    let so = c.loop-passed.invariant.0 in
    let e = c.in_ok-passed.ensures in
    let before = moment_at M W {K = g.row.M-Key.Denot} {V = g.row.M-Value.Denot} place item c.loop-passed.walk (told_of value c.loop-passed.given) (state c.loop-passed.world) c.loop-passed.arena.nodes in
    let P : Passed g.row.M-Value.Denot g.row.M-Frames.Denot → Type 0 = Passes M W rebased value frames fuel depth before (λ h. moment_at M W {K = g.row.M-Key.Denot} {V = g.row.M-Value.Denot} place item c.run_step.new.walk h (state c.run_step.new.world) c.run_step.new.arena.nodes) in
    let Q : Passed g.row.M-Value.Denot g.row.M-Frames.Denot → Type 0 = Progresses (number (place c.loop-passed.walk.local)) (number (place c.run_step.new.walk.local)) c.loop-passed.walk.summary.units c.run_step.new.walk.summary.units in
    let led : P (passed.On c.in-On.told) = subst P c.in-On.is e.passes in
    let U : Passed g.row.M-Value.Denot g.row.M-Frames.Denot → Type 0 = λ p. (kept : List (Option KeptOutcome)) → AreKeptIn kept c.loop-passed.memo → PassMakes M W value call_of kept fuel depth before
    (λ h. moment_at M W {K = g.row.M-Key.Denot} {V = g.row.M-Value.Denot} place item c.run_step.new.walk h (state c.run_step.new.world) c.run_step.new.arena.nodes)
    c.run_step.new.arena.made (owed g.M.AskMachine.marked c.loop-passed.arena.made (place c.loop-passed.walk.local)) (owed g.M.AskMachine.marked c.run_step.new.arena.made (place c.run_step.new.walk.local)) p in
    let making : U (passed.On c.in-On.told) = subst U c.in-On.is e.makes in (
      unit_goes_on M W rebased call_of place item fuel depth c.args.walk.now c.loop-passed.walk c.run_step.new.walk (told_of value c.loop-passed.given) (told_of value c.in-On.told)
          (state c.args.world.now) (state c.loop-passed.world) (state c.run_step.new.world) c.args.arena.now.nodes c.loop-passed.arena.nodes c.run_step.new.arena.nodes
          c.args.memo.now c.loop-passed.memo c.run_step.new.memo so e.went led,
      λ kept in_base total x. c.loop-passed.invariant.1 kept in_base total (making kept (λ i o at. so.went.others.still i o (in_base i o at)) total x),
    )

pub run_unit-returns-in-Counted-clause-closes : goal.run_unit-returns-in-Counted-clause-closes
run_unit-returns-in-Counted-clause-closes g t c =
    let M = g.M.AskMachine.model in
    let W = g.W.World.model in
    let rebased = g.M.AskMachine.rebased in
    let call_of = g.M.AskMachine.call_of in
    let place = g.M.AskMachine.place in
    let item = g.M.AskMachine.item_of in
    let frames = g.M.AskMachine.frames_of in
    let value = g.M.Value.Kept.code in
    let code = g.M.Call.Kept.code in
    let number = g.M.AskMachine.number in
    let state = g.W.World.state in
    let fuel = c.args.fuel in
    let depth = c.args.depth in
    let so = c.loop-passed.invariant.0 in
    let e = c.in_ok-passed.ensures in
    let before = moment_at M W {K = g.row.M-Key.Denot} {V = g.row.M-Value.Denot} place item c.loop-passed.walk (told_of value c.loop-passed.given) (state c.loop-passed.world) c.loop-passed.arena.nodes in
    let P : Passed g.row.M-Value.Denot g.row.M-Frames.Denot → Type 0 = Passes M W rebased value frames fuel depth before (λ h. moment_at M W {K = g.row.M-Key.Denot} {V = g.row.M-Value.Denot} place item c.run_step.new.walk h (state c.run_step.new.world) c.run_step.new.arena.nodes) in
    let Q : Passed g.row.M-Value.Denot g.row.M-Frames.Denot → Type 0 = Progresses (number (place c.loop-passed.walk.local)) (number (place c.run_step.new.walk.local)) c.loop-passed.walk.summary.units c.run_step.new.walk.summary.units in
    let led : P passed.Counted = subst P c.in-Counted.is e.passes in
    let more : Q passed.Counted = subst Q c.in-Counted.is e.progresses in
    let most = so.went.units in
    (λ z x. so.leads z (led z x), omega arith)

pub run_unit-returns-in-Counted-clause-went : goal.run_unit-returns-in-Counted-clause-went
run_unit-returns-in-Counted-clause-went g t c =
    let M = g.M.AskMachine.model in
    let W = g.W.World.model in
    let rebased = g.M.AskMachine.rebased in
    let call_of = g.M.AskMachine.call_of in
    let place = g.M.AskMachine.place in
    let item = g.M.AskMachine.item_of in
    let frames = g.M.AskMachine.frames_of in
    let value = g.M.Value.Kept.code in
    let code = g.M.Call.Kept.code in
    let number = g.M.AskMachine.number in
    let state = g.W.World.state in
    let fuel = c.args.fuel in
    let depth = c.args.depth in
    let so = c.loop-passed.invariant.0 in
    let e = c.in_ok-passed.ensures in
    let before = moment_at M W {K = g.row.M-Key.Denot} {V = g.row.M-Value.Denot} place item c.loop-passed.walk (told_of value c.loop-passed.given) (state c.loop-passed.world) c.loop-passed.arena.nodes in
    let P : Passed g.row.M-Value.Denot g.row.M-Frames.Denot → Type 0 = Passes M W rebased value frames fuel depth before (λ h. moment_at M W {K = g.row.M-Key.Denot} {V = g.row.M-Value.Denot} place item c.run_step.new.walk h (state c.run_step.new.world) c.run_step.new.arena.nodes) in
    let Q : Passed g.row.M-Value.Denot g.row.M-Frames.Denot → Type 0 = Progresses (number (place c.loop-passed.walk.local)) (number (place c.run_step.new.walk.local)) c.loop-passed.walk.summary.units c.run_step.new.walk.summary.units in
    went_then M rebased call_of item fuel depth c.args.walk.now c.loop-passed.walk c.run_step.new.walk c.args.arena.now.nodes c.loop-passed.arena.nodes c.run_step.new.arena.nodes c.args.memo.now c.loop-passed.memo c.run_step.new.memo so.went e.went

pub run_unit-returns-in-Counted-clause-makes : goal.run_unit-returns-in-Counted-clause-makes
run_unit-returns-in-Counted-clause-makes g t c =
    let M = g.M.AskMachine.model in
    let W = g.W.World.model in
    let rebased = g.M.AskMachine.rebased in
    let call_of = g.M.AskMachine.call_of in
    let place = g.M.AskMachine.place in
    let item = g.M.AskMachine.item_of in
    let frames = g.M.AskMachine.frames_of in
    let value = g.M.Value.Kept.code in
    let code = g.M.Call.Kept.code in
    let number = g.M.AskMachine.number in
    let state = g.W.World.state in
    let fuel = c.args.fuel in
    let depth = c.args.depth in
    let so = c.loop-passed.invariant.0 in
    let e = c.in_ok-passed.ensures in
    let before = moment_at M W {K = g.row.M-Key.Denot} {V = g.row.M-Value.Denot} place item c.loop-passed.walk (told_of value c.loop-passed.given) (state c.loop-passed.world) c.loop-passed.arena.nodes in
    let P : Passed g.row.M-Value.Denot g.row.M-Frames.Denot → Type 0 = Passes M W rebased value frames fuel depth before (λ h. moment_at M W {K = g.row.M-Key.Denot} {V = g.row.M-Value.Denot} place item c.run_step.new.walk h (state c.run_step.new.world) c.run_step.new.arena.nodes) in
    let Q : Passed g.row.M-Value.Denot g.row.M-Frames.Denot → Type 0 = Progresses (number (place c.loop-passed.walk.local)) (number (place c.run_step.new.walk.local)) c.loop-passed.walk.summary.units c.run_step.new.walk.summary.units in
    let U : Passed g.row.M-Value.Denot g.row.M-Frames.Denot → Type 0 = λ p. (kept : List (Option KeptOutcome)) → AreKeptIn kept c.loop-passed.memo → PassMakes M W value call_of kept fuel depth before
    (λ h. moment_at M W {K = g.row.M-Key.Denot} {V = g.row.M-Value.Denot} place item c.run_step.new.walk h (state c.run_step.new.world) c.run_step.new.arena.nodes)
    c.run_step.new.arena.made (owed g.M.AskMachine.marked c.loop-passed.arena.made (place c.loop-passed.walk.local)) (owed g.M.AskMachine.marked c.run_step.new.arena.made (place c.run_step.new.walk.local)) p in
    let making : U passed.Counted = subst U c.in-Counted.is e.makes in
    λ kept in_base total x. c.loop-passed.invariant.1 kept in_base total (making kept (λ i o at. so.went.others.still i o (in_base i o at)) total x)

pub run_unit-returns-in-Done-clause-closes : goal.run_unit-returns-in-Done-clause-closes
run_unit-returns-in-Done-clause-closes g t c =
    let M = g.M.AskMachine.model in
    let W = g.W.World.model in
    let rebased = g.M.AskMachine.rebased in
    let call_of = g.M.AskMachine.call_of in
    let place = g.M.AskMachine.place in
    let item = g.M.AskMachine.item_of in
    let frames = g.M.AskMachine.frames_of in
    let value = g.M.Value.Kept.code in
    let code = g.M.Call.Kept.code in
    let number = g.M.AskMachine.number in
    let state = g.W.World.state in
    let fuel = c.args.fuel in
    let depth = c.args.depth in
    let so = c.loop-passed.invariant.0 in
    let e = c.in_ok-passed.ensures in
    let before = moment_at M W {K = g.row.M-Key.Denot} {V = g.row.M-Value.Denot} place item c.loop-passed.walk (told_of value c.loop-passed.given) (state c.loop-passed.world) c.loop-passed.arena.nodes in
    let P : Passed g.row.M-Value.Denot g.row.M-Frames.Denot → Type 0 = Passes M W rebased value frames fuel depth before (λ h. moment_at M W {K = g.row.M-Key.Denot} {V = g.row.M-Value.Denot} place item c.run_step.new.walk h (state c.run_step.new.world) c.run_step.new.arena.nodes) in
    let Q : Passed g.row.M-Value.Denot g.row.M-Frames.Denot → Type 0 = Progresses (number (place c.loop-passed.walk.local)) (number (place c.run_step.new.walk.local)) c.loop-passed.walk.summary.units c.run_step.new.walk.summary.units in
    let comes : P (passed.Done c.in-Done.close) = subst P c.in-Done.is e.passes in
    so.leads _ comes

pub run_unit-returns-in-Done-clause-went : goal.run_unit-returns-in-Done-clause-went
run_unit-returns-in-Done-clause-went g t c =
    let M = g.M.AskMachine.model in
    let W = g.W.World.model in
    let rebased = g.M.AskMachine.rebased in
    let call_of = g.M.AskMachine.call_of in
    let place = g.M.AskMachine.place in
    let item = g.M.AskMachine.item_of in
    let frames = g.M.AskMachine.frames_of in
    let value = g.M.Value.Kept.code in
    let code = g.M.Call.Kept.code in
    let number = g.M.AskMachine.number in
    let state = g.W.World.state in
    let fuel = c.args.fuel in
    let depth = c.args.depth in
    let so = c.loop-passed.invariant.0 in
    let e = c.in_ok-passed.ensures in
    let before = moment_at M W {K = g.row.M-Key.Denot} {V = g.row.M-Value.Denot} place item c.loop-passed.walk (told_of value c.loop-passed.given) (state c.loop-passed.world) c.loop-passed.arena.nodes in
    let P : Passed g.row.M-Value.Denot g.row.M-Frames.Denot → Type 0 = Passes M W rebased value frames fuel depth before (λ h. moment_at M W {K = g.row.M-Key.Denot} {V = g.row.M-Value.Denot} place item c.run_step.new.walk h (state c.run_step.new.world) c.run_step.new.arena.nodes) in
    let Q : Passed g.row.M-Value.Denot g.row.M-Frames.Denot → Type 0 = Progresses (number (place c.loop-passed.walk.local)) (number (place c.run_step.new.walk.local)) c.loop-passed.walk.summary.units c.run_step.new.walk.summary.units in
    went_then M rebased call_of item fuel depth c.args.walk.now c.loop-passed.walk c.run_step.new.walk c.args.arena.now.nodes c.loop-passed.arena.nodes c.run_step.new.arena.nodes c.args.memo.now c.loop-passed.memo c.run_step.new.memo so.went e.went

pub run_unit-returns-in-Done-clause-makes : goal.run_unit-returns-in-Done-clause-makes
run_unit-returns-in-Done-clause-makes g t c =
    let M = g.M.AskMachine.model in
    let W = g.W.World.model in
    let rebased = g.M.AskMachine.rebased in
    let call_of = g.M.AskMachine.call_of in
    let place = g.M.AskMachine.place in
    let item = g.M.AskMachine.item_of in
    let frames = g.M.AskMachine.frames_of in
    let value = g.M.Value.Kept.code in
    let code = g.M.Call.Kept.code in
    let number = g.M.AskMachine.number in
    let state = g.W.World.state in
    let fuel = c.args.fuel in
    let depth = c.args.depth in
    let so = c.loop-passed.invariant.0 in
    let e = c.in_ok-passed.ensures in
    let before = moment_at M W {K = g.row.M-Key.Denot} {V = g.row.M-Value.Denot} place item c.loop-passed.walk (told_of value c.loop-passed.given) (state c.loop-passed.world) c.loop-passed.arena.nodes in
    let P : Passed g.row.M-Value.Denot g.row.M-Frames.Denot → Type 0 = Passes M W rebased value frames fuel depth before (λ h. moment_at M W {K = g.row.M-Key.Denot} {V = g.row.M-Value.Denot} place item c.run_step.new.walk h (state c.run_step.new.world) c.run_step.new.arena.nodes) in
    let Q : Passed g.row.M-Value.Denot g.row.M-Frames.Denot → Type 0 = Progresses (number (place c.loop-passed.walk.local)) (number (place c.run_step.new.walk.local)) c.loop-passed.walk.summary.units c.run_step.new.walk.summary.units in
    let U : Passed g.row.M-Value.Denot g.row.M-Frames.Denot → Type 0 = λ p. (kept : List (Option KeptOutcome)) → AreKeptIn kept c.loop-passed.memo → PassMakes M W value call_of kept fuel depth before
    (λ h. moment_at M W {K = g.row.M-Key.Denot} {V = g.row.M-Value.Denot} place item c.run_step.new.walk h (state c.run_step.new.world) c.run_step.new.arena.nodes)
    c.run_step.new.arena.made (owed g.M.AskMachine.marked c.loop-passed.arena.made (place c.loop-passed.walk.local)) (owed g.M.AskMachine.marked c.run_step.new.arena.made (place c.run_step.new.walk.local)) p in
    let making : U (passed.Done c.in-Done.close) = subst U c.in-Done.is e.makes in
    λ kept in_base. c.loop-passed.invariant.1 kept in_base c.run_step.new.arena.made (making kept (λ i o at. so.went.others.still i o (in_base i o at)))

pub run_step-advance-requires-clause-unshared : goal.run_step-advance-requires-clause-unshared
run_step-advance-requires-clause-unshared g t c =
    c.requires.sound.underway.unshared

pub run_step-advance-requires-clause-room : goal.run_step-advance-requires-clause-room
run_step-advance-requires-clause-room g t c =
    c.requires.sound.room

pub run_step-take_unit-requires : goal.run_step-take_unit-requires
run_step-take_unit-requires g t c =
    let M = g.M.AskMachine.model in
    let W = g.W.World.model in
    let rebased = g.M.AskMachine.rebased in
    let call_of = g.M.AskMachine.call_of in
    let place = g.M.AskMachine.place in
    let item = g.M.AskMachine.item_of in
    let frames = g.M.AskMachine.frames_of in
    let value = g.M.Value.Kept.code in
    let code = g.M.Call.Kept.code in
    let number = g.M.AskMachine.number in
    let state = g.W.World.state in
    let fuel = c.args.fuel in
    let depth = c.args.depth in
    let e = c.in_ok-next.ensures in
    let v = c.args.walk.now in
    let w = c.advance.new.walk in
    let old = c.args.arena.now.nodes in
    let new = c.advance.new.arena.nodes in
    let kept = c.args.memo.now in
    let s = state c.args.world.now in
    let r = state c.advance.new.world in
    let went0 = went_step M rebased call_of item fuel depth v w old new kept c.requires.sound e.appends e.node e.room e.units in
    let a = moment_at M W {K = g.row.M-Key.Denot} {V = g.row.M-Value.Denot} place item v (told_of value c.args.given) s old in
    let b : Told → Moment M W = λ h. moment_at M W {K = g.row.M-Key.Denot} {V = g.row.M-Value.Denot} place item w h r new in
    let N : Next g.row.M-Value.Denot g.row.M-Call.Denot → Type 0 = GoesOn M W rebased value (λ x. call_of (code x)) depth a b in
    let D : Next g.row.M-Value.Denot g.row.M-Call.Denot → Type 0 = Lowers number (place v.local) (place w.local) in
    record { units = went0.sound.units }

pub run_step-overflow_add-depth : goal.run_step-overflow_add-depth
run_step-overflow_add-depth g t c =
    let M = g.M.AskMachine.model in
    let W = g.W.World.model in
    let rebased = g.M.AskMachine.rebased in
    let call_of = g.M.AskMachine.call_of in
    let place = g.M.AskMachine.place in
    let item = g.M.AskMachine.item_of in
    let frames = g.M.AskMachine.frames_of in
    let value = g.M.Value.Kept.code in
    let code = g.M.Call.Kept.code in
    let number = g.M.AskMachine.number in
    let state = g.W.World.state in
    let fuel = c.args.fuel in
    let depth = c.args.depth in
    let e = c.in_ok-next.ensures in
    let v = c.args.walk.now in
    let w = c.advance.new.walk in
    let old = c.args.arena.now.nodes in
    let new = c.advance.new.arena.nodes in
    let kept = c.args.memo.now in
    let s = state c.args.world.now in
    let r = state c.advance.new.world in
    let went0 = went_step M rebased call_of item fuel depth v w old new kept c.requires.sound e.appends e.node e.room e.units in
    let a = moment_at M W {K = g.row.M-Key.Denot} {V = g.row.M-Value.Denot} place item v (told_of value c.args.given) s old in
    let b : Told → Moment M W = λ h. moment_at M W {K = g.row.M-Key.Denot} {V = g.row.M-Value.Denot} place item w h r new in
    let N : Next g.row.M-Value.Denot g.row.M-Call.Denot → Type 0 = GoesOn M W rebased value (λ x. call_of (code x)) depth a b in
    let D : Next g.row.M-Value.Denot g.row.M-Call.Denot → Type 0 = Lowers number (place v.local) (place w.local) in
    let room = e.room in
    omega arith

pub run_step-returns-in-Tell-clause-passes : goal.run_step-returns-in-Tell-clause-passes
run_step-returns-in-Tell-clause-passes g t c =
    let M = g.M.AskMachine.model in
    let W = g.W.World.model in
    let rebased = g.M.AskMachine.rebased in
    let call_of = g.M.AskMachine.call_of in
    let place = g.M.AskMachine.place in
    let item = g.M.AskMachine.item_of in
    let frames = g.M.AskMachine.frames_of in
    let value = g.M.Value.Kept.code in
    let code = g.M.Call.Kept.code in
    let number = g.M.AskMachine.number in
    let state = g.W.World.state in
    let fuel = c.args.fuel in
    let depth = c.args.depth in
    let e = c.in_ok-next.ensures in
    let v = c.args.walk.now in
    let w = c.advance.new.walk in
    let old = c.args.arena.now.nodes in
    let new = c.advance.new.arena.nodes in
    let kept = c.args.memo.now in
    let s = state c.args.world.now in
    let r = state c.advance.new.world in
    let went0 = went_step M rebased call_of item fuel depth v w old new kept c.requires.sound e.appends e.node e.room e.units in
    let a = moment_at M W {K = g.row.M-Key.Denot} {V = g.row.M-Value.Denot} place item v (told_of value c.args.given) s old in
    let b : Told → Moment M W = λ h. moment_at M W {K = g.row.M-Key.Denot} {V = g.row.M-Value.Denot} place item w h r new in
    let N : Next g.row.M-Value.Denot g.row.M-Call.Denot → Type 0 = GoesOn M W rebased value (λ x. call_of (code x)) depth a b in
    let D : Next g.row.M-Value.Denot g.row.M-Call.Denot → Type 0 = Lowers number (place v.local) (place w.local) in
    let led : N (next.Tell c.in-Tell.told) = subst N c.in-Tell.is e.goes in
    led fuel

pub run_step-returns-in-Tell-clause-progresses : goal.run_step-returns-in-Tell-clause-progresses
run_step-returns-in-Tell-clause-progresses g t c =
    let M = g.M.AskMachine.model in
    let W = g.W.World.model in
    let rebased = g.M.AskMachine.rebased in
    let call_of = g.M.AskMachine.call_of in
    let place = g.M.AskMachine.place in
    let item = g.M.AskMachine.item_of in
    let frames = g.M.AskMachine.frames_of in
    let value = g.M.Value.Kept.code in
    let code = g.M.Call.Kept.code in
    let number = g.M.AskMachine.number in
    let state = g.W.World.state in
    let fuel = c.args.fuel in
    let depth = c.args.depth in
    let e = c.in_ok-next.ensures in
    let v = c.args.walk.now in
    let w = c.advance.new.walk in
    let old = c.args.arena.now.nodes in
    let new = c.advance.new.arena.nodes in
    let kept = c.args.memo.now in
    let s = state c.args.world.now in
    let r = state c.advance.new.world in
    let went0 = went_step M rebased call_of item fuel depth v w old new kept c.requires.sound e.appends e.node e.room e.units in
    let a = moment_at M W {K = g.row.M-Key.Denot} {V = g.row.M-Value.Denot} place item v (told_of value c.args.given) s old in
    let b : Told → Moment M W = λ h. moment_at M W {K = g.row.M-Key.Denot} {V = g.row.M-Value.Denot} place item w h r new in
    let N : Next g.row.M-Value.Denot g.row.M-Call.Denot → Type 0 = GoesOn M W rebased value (λ x. call_of (code x)) depth a b in
    let D : Next g.row.M-Value.Denot g.row.M-Call.Denot → Type 0 = Lowers number (place v.local) (place w.local) in
    subst D c.in-Tell.is e.lowers

pub run_step-returns-in-Tell-clause-went : goal.run_step-returns-in-Tell-clause-went
run_step-returns-in-Tell-clause-went g t c =
    let M = g.M.AskMachine.model in
    let W = g.W.World.model in
    let rebased = g.M.AskMachine.rebased in
    let call_of = g.M.AskMachine.call_of in
    let place = g.M.AskMachine.place in
    let item = g.M.AskMachine.item_of in
    let frames = g.M.AskMachine.frames_of in
    let value = g.M.Value.Kept.code in
    let code = g.M.Call.Kept.code in
    let number = g.M.AskMachine.number in
    let state = g.W.World.state in
    let fuel = c.args.fuel in
    let depth = c.args.depth in
    let e = c.in_ok-next.ensures in
    let v = c.args.walk.now in
    let w = c.advance.new.walk in
    let old = c.args.arena.now.nodes in
    let new = c.advance.new.arena.nodes in
    let kept = c.args.memo.now in
    let s = state c.args.world.now in
    let r = state c.advance.new.world in
    let went0 = went_step M rebased call_of item fuel depth v w old new kept c.requires.sound e.appends e.node e.room e.units in
    let a = moment_at M W {K = g.row.M-Key.Denot} {V = g.row.M-Value.Denot} place item v (told_of value c.args.given) s old in
    let b : Told → Moment M W = λ h. moment_at M W {K = g.row.M-Key.Denot} {V = g.row.M-Value.Denot} place item w h r new in
    let N : Next g.row.M-Value.Denot g.row.M-Call.Denot → Type 0 = GoesOn M W rebased value (λ x. call_of (code x)) depth a b in
    let D : Next g.row.M-Value.Denot g.row.M-Call.Denot → Type 0 = Lowers number (place v.local) (place w.local) in
    went0

pub run_step-returns-in-Tell-clause-makes : goal.run_step-returns-in-Tell-clause-makes
run_step-returns-in-Tell-clause-makes g t c =
    let M = g.M.AskMachine.model in
    let W = g.W.World.model in
    let rebased = g.M.AskMachine.rebased in
    let call_of = g.M.AskMachine.call_of in
    let place = g.M.AskMachine.place in
    let item = g.M.AskMachine.item_of in
    let frames = g.M.AskMachine.frames_of in
    let value = g.M.Value.Kept.code in
    let code = g.M.Call.Kept.code in
    let number = g.M.AskMachine.number in
    let state = g.W.World.state in
    let fuel = c.args.fuel in
    let depth = c.args.depth in
    let e = c.in_ok-next.ensures in
    let v = c.args.walk.now in
    let w = c.advance.new.walk in
    let old = c.args.arena.now.nodes in
    let new = c.advance.new.arena.nodes in
    let kept = c.args.memo.now in
    let s = state c.args.world.now in
    let r = state c.advance.new.world in
    let went0 = went_step M rebased call_of item fuel depth v w old new kept c.requires.sound e.appends e.node e.room e.units in
    let a = moment_at M W {K = g.row.M-Key.Denot} {V = g.row.M-Value.Denot} place item v (told_of value c.args.given) s old in
    let b : Told → Moment M W = λ h. moment_at M W {K = g.row.M-Key.Denot} {V = g.row.M-Value.Denot} place item w h r new in
    let N : Next g.row.M-Value.Denot g.row.M-Call.Denot → Type 0 = GoesOn M W rebased value (λ x. call_of (code x)) depth a b in
    let D : Next g.row.M-Value.Denot g.row.M-Call.Denot → Type 0 = Lowers number (place v.local) (place w.local) in
    let marked = g.M.AskMachine.marked in
    let made = c.args.arena.now.made in
    let after = c.advance.new.arena.made in
    let before = owed marked made (place v.local) in
    let owing = owed marked after (place w.local) in
    let S : Next g.row.M-Value.Denot g.row.M-Call.Denot → Type 0 = StepMakes M W value call_of depth a b made after before owing in
    let making : S (next.Tell c.in-Tell.told) = subst S c.in-Tell.is e.makes in
    λ kept in_base. making kept fuel

pub run_step-returns-in-Counts-clause-passes : goal.run_step-returns-in-Counts-clause-passes
run_step-returns-in-Counts-clause-passes g t c =
    let M = g.M.AskMachine.model in
    let W = g.W.World.model in
    let rebased = g.M.AskMachine.rebased in
    let call_of = g.M.AskMachine.call_of in
    let place = g.M.AskMachine.place in
    let item = g.M.AskMachine.item_of in
    let frames = g.M.AskMachine.frames_of in
    let value = g.M.Value.Kept.code in
    let code = g.M.Call.Kept.code in
    let number = g.M.AskMachine.number in
    let state = g.W.World.state in
    let fuel = c.args.fuel in
    let depth = c.args.depth in
    let e = c.in_ok-next.ensures in
    let v = c.args.walk.now in
    let w = c.advance.new.walk in
    let old = c.args.arena.now.nodes in
    let new = c.advance.new.arena.nodes in
    let kept = c.args.memo.now in
    let s = state c.args.world.now in
    let r = state c.advance.new.world in
    let went0 = went_step M rebased call_of item fuel depth v w old new kept c.requires.sound e.appends e.node e.room e.units in
    let a = moment_at M W {K = g.row.M-Key.Denot} {V = g.row.M-Value.Denot} place item v (told_of value c.args.given) s old in
    let b : Told → Moment M W = λ h. moment_at M W {K = g.row.M-Key.Denot} {V = g.row.M-Value.Denot} place item w h r new in
    let N : Next g.row.M-Value.Denot g.row.M-Call.Denot → Type 0 = GoesOn M W rebased value (λ x. call_of (code x)) depth a b in
    let D : Next g.row.M-Value.Denot g.row.M-Call.Denot → Type 0 = Lowers number (place v.local) (place w.local) in
    let T : Passed g.row.M-Value.Denot g.row.M-Frames.Denot → Type 0 = TakesUnit frames (M.frames_at (place w.local)) fuel w c.take_unit.new.walk in
    let goes : N next.Counts = subst N c.in-Counts.is e.goes in
    ok_map T (Passes M W rebased value frames fuel depth a (λ h. moment_at M W {K = g.row.M-Key.Denot} {V = g.row.M-Value.Denot} place item c.take_unit.new.walk h r new)) c.take_unit.result c.take_unit.ensures
    (λ p x. passes_count M W rebased fuel depth value frames a place item w c.take_unit.new.walk r new p goes.0 goes.1 x)

pub run_step-returns-in-Counts-clause-progresses : goal.run_step-returns-in-Counts-clause-progresses
run_step-returns-in-Counts-clause-progresses g t c =
    let M = g.M.AskMachine.model in
    let W = g.W.World.model in
    let rebased = g.M.AskMachine.rebased in
    let call_of = g.M.AskMachine.call_of in
    let place = g.M.AskMachine.place in
    let item = g.M.AskMachine.item_of in
    let frames = g.M.AskMachine.frames_of in
    let value = g.M.Value.Kept.code in
    let code = g.M.Call.Kept.code in
    let number = g.M.AskMachine.number in
    let state = g.W.World.state in
    let fuel = c.args.fuel in
    let depth = c.args.depth in
    let e = c.in_ok-next.ensures in
    let v = c.args.walk.now in
    let w = c.advance.new.walk in
    let old = c.args.arena.now.nodes in
    let new = c.advance.new.arena.nodes in
    let kept = c.args.memo.now in
    let s = state c.args.world.now in
    let r = state c.advance.new.world in
    let went0 = went_step M rebased call_of item fuel depth v w old new kept c.requires.sound e.appends e.node e.room e.units in
    let a = moment_at M W {K = g.row.M-Key.Denot} {V = g.row.M-Value.Denot} place item v (told_of value c.args.given) s old in
    let b : Told → Moment M W = λ h. moment_at M W {K = g.row.M-Key.Denot} {V = g.row.M-Value.Denot} place item w h r new in
    let N : Next g.row.M-Value.Denot g.row.M-Call.Denot → Type 0 = GoesOn M W rebased value (λ x. call_of (code x)) depth a b in
    let D : Next g.row.M-Value.Denot g.row.M-Call.Denot → Type 0 = Lowers number (place v.local) (place w.local) in
    let T : Passed g.row.M-Value.Denot g.row.M-Frames.Denot → Type 0 = TakesUnit frames (M.frames_at (place w.local)) fuel w c.take_unit.new.walk in
    ok_map T (Progresses (number (place v.local)) (number (place c.take_unit.new.walk.local)) v.summary.units c.take_unit.new.walk.summary.units) c.take_unit.result c.take_unit.ensures
    (λ p x. progress_unit frames (M.frames_at (place w.local)) fuel (number (place v.local)) (number (place c.take_unit.new.walk.local)) v.summary.units w c.take_unit.new.walk p e.units x)

pub run_step-returns-in-Counts-clause-went : goal.run_step-returns-in-Counts-clause-went
run_step-returns-in-Counts-clause-went g t c =
    let M = g.M.AskMachine.model in
    let W = g.W.World.model in
    let rebased = g.M.AskMachine.rebased in
    let call_of = g.M.AskMachine.call_of in
    let place = g.M.AskMachine.place in
    let item = g.M.AskMachine.item_of in
    let frames = g.M.AskMachine.frames_of in
    let value = g.M.Value.Kept.code in
    let code = g.M.Call.Kept.code in
    let number = g.M.AskMachine.number in
    let state = g.W.World.state in
    let fuel = c.args.fuel in
    let depth = c.args.depth in
    let e = c.in_ok-next.ensures in
    let v = c.args.walk.now in
    let w = c.advance.new.walk in
    let old = c.args.arena.now.nodes in
    let new = c.advance.new.arena.nodes in
    let kept = c.args.memo.now in
    let s = state c.args.world.now in
    let r = state c.advance.new.world in
    let went0 = went_step M rebased call_of item fuel depth v w old new kept c.requires.sound e.appends e.node e.room e.units in
    let a = moment_at M W {K = g.row.M-Key.Denot} {V = g.row.M-Value.Denot} place item v (told_of value c.args.given) s old in
    let b : Told → Moment M W = λ h. moment_at M W {K = g.row.M-Key.Denot} {V = g.row.M-Value.Denot} place item w h r new in
    let N : Next g.row.M-Value.Denot g.row.M-Call.Denot → Type 0 = GoesOn M W rebased value (λ x. call_of (code x)) depth a b in
    let D : Next g.row.M-Value.Denot g.row.M-Call.Denot → Type 0 = Lowers number (place v.local) (place w.local) in
    let T : Passed g.row.M-Value.Denot g.row.M-Frames.Denot → Type 0 = TakesUnit frames (M.frames_at (place w.local)) fuel w c.take_unit.new.walk in
    ok_then T (WentOn M rebased call_of item fuel depth v c.take_unit.new.walk old new kept kept) c.take_unit.result c.take_unit.ensures
    (λ p x. went_then M rebased call_of item fuel depth v w c.take_unit.new.walk old new new kept kept kept went0
    (went_unit M rebased call_of item fuel depth frames (M.frames_at (place w.local)) w c.take_unit.new.walk new kept went0.sound p x))

pub run_step-returns-in-Counts-clause-makes : goal.run_step-returns-in-Counts-clause-makes
run_step-returns-in-Counts-clause-makes g t c =
    let M = g.M.AskMachine.model in
    let W = g.W.World.model in
    let rebased = g.M.AskMachine.rebased in
    let call_of = g.M.AskMachine.call_of in
    let place = g.M.AskMachine.place in
    let item = g.M.AskMachine.item_of in
    let frames = g.M.AskMachine.frames_of in
    let value = g.M.Value.Kept.code in
    let code = g.M.Call.Kept.code in
    let number = g.M.AskMachine.number in
    let state = g.W.World.state in
    let fuel = c.args.fuel in
    let depth = c.args.depth in
    let e = c.in_ok-next.ensures in
    let v = c.args.walk.now in
    let w = c.advance.new.walk in
    let old = c.args.arena.now.nodes in
    let new = c.advance.new.arena.nodes in
    let kept = c.args.memo.now in
    let s = state c.args.world.now in
    let r = state c.advance.new.world in
    let went0 = went_step M rebased call_of item fuel depth v w old new kept c.requires.sound e.appends e.node e.room e.units in
    let a = moment_at M W {K = g.row.M-Key.Denot} {V = g.row.M-Value.Denot} place item v (told_of value c.args.given) s old in
    let b : Told → Moment M W = λ h. moment_at M W {K = g.row.M-Key.Denot} {V = g.row.M-Value.Denot} place item w h r new in
    let N : Next g.row.M-Value.Denot g.row.M-Call.Denot → Type 0 = GoesOn M W rebased value (λ x. call_of (code x)) depth a b in
    let D : Next g.row.M-Value.Denot g.row.M-Call.Denot → Type 0 = Lowers number (place v.local) (place w.local) in
    let T : Passed g.row.M-Value.Denot g.row.M-Frames.Denot → Type 0 = TakesUnit frames (M.frames_at (place w.local)) fuel w c.take_unit.new.walk in
    let goes : N next.Counts = subst N c.in-Counts.is e.goes in
    let marked = g.M.AskMachine.marked in
    let made = c.args.arena.now.made in
    let after = c.advance.new.arena.made in
    let before = owed marked made (place v.local) in
    let owing = owed marked after (place w.local) in
    let S : Next g.row.M-Value.Denot g.row.M-Call.Denot → Type 0 = StepMakes M W value call_of depth a b made after before owing in
    let making : S next.Counts = subst S c.in-Counts.is e.makes in
    ok_map T (λ p. (kept : List (Option KeptOutcome)) → AreKeptIn kept c.args.memo.now → PassMakes M W value call_of kept fuel depth a
    (λ h. moment_at M W {K = g.row.M-Key.Denot} {V = g.row.M-Value.Denot} place item c.take_unit.new.walk h r new) after before (owed marked after (place c.take_unit.new.walk.local)) p)
    c.take_unit.result c.take_unit.ensures
    (λ p x kept in_base.
    let more : owed marked after (place c.take_unit.new.walk.local) ≤ before + 1 = (let one = owed_counts marked made (place v.local) (place c.take_unit.new.walk.local) in omega arith) in
    pass_makes_count M W call_of kept fuel depth value frames a place item w c.take_unit.new.walk r new after before (owed marked after (place c.take_unit.new.walk.local)) p
    more (omega arith) goes.0 goes.1 x)

pub run_step-returns-then-depth-walk-ge-DEEPEST-clause-passes : goal.run_step-returns-then-depth-walk-ge-DEEPEST-clause-passes
run_step-returns-then-depth-walk-ge-DEEPEST-clause-passes g t c =
    let M = g.M.AskMachine.model in
    let W = g.W.World.model in
    let rebased = g.M.AskMachine.rebased in
    let call_of = g.M.AskMachine.call_of in
    let place = g.M.AskMachine.place in
    let item = g.M.AskMachine.item_of in
    let frames = g.M.AskMachine.frames_of in
    let value = g.M.Value.Kept.code in
    let code = g.M.Call.Kept.code in
    let number = g.M.AskMachine.number in
    let state = g.W.World.state in
    let fuel = c.args.fuel in
    let depth = c.args.depth in
    let e = c.in_ok-next.ensures in
    let v = c.args.walk.now in
    let w = c.advance.new.walk in
    let old = c.args.arena.now.nodes in
    let new = c.advance.new.arena.nodes in
    let kept = c.args.memo.now in
    let s = state c.args.world.now in
    let r = state c.advance.new.world in
    let went0 = went_step M rebased call_of item fuel depth v w old new kept c.requires.sound e.appends e.node e.room e.units in
    let a = moment_at M W {K = g.row.M-Key.Denot} {V = g.row.M-Value.Denot} place item v (told_of value c.args.given) s old in
    let b : Told → Moment M W = λ h. moment_at M W {K = g.row.M-Key.Denot} {V = g.row.M-Value.Denot} place item w h r new in
    let N : Next g.row.M-Value.Denot g.row.M-Call.Denot → Type 0 = GoesOn M W rebased value (λ x. call_of (code x)) depth a b in
    let D : Next g.row.M-Value.Denot g.row.M-Call.Denot → Type 0 = Lowers number (place v.local) (place w.local) in
    let goes : N (next.Enters c.in-Enters.call) = subst N c.in-Enters.is e.goes in
    let same : w.frames ≡ v.frames = ap (λ (m : Moment M W). m.frames) goes.1 in
    let full = c.if-depth-walk-ge-DEEPEST.true in
    let led = leads_no_call M W rebased fuel depth a (call_of (code c.in-Enters.call)) goes.0 (omega arith) in
    let x : Walk g.row.M-Local.Denot g.row.M-Key.Denot g.row.M-Value.Denot = record { local = w.local; node = w.node; summary = c.find_no_room.new.self; frames = w.frames } in
    let now : moment_at M W {K = g.row.M-Key.Denot} {V = g.row.M-Value.Denot} place item x TooDeep r new ≡ turned_away (stepped a) =
    ap (λ (u : CallSummary). moment_at M W {K = g.row.M-Key.Denot} {V = g.row.M-Value.Denot} place item (record { local = w.local; node = w.node; summary = u; frames = w.frames }) TooDeep r new) c.find_no_room.ensures
    ∙ ap (λ (m : Moment M W). turned_away m) goes.1 in
    let P : Moment M W → Type 0 = Leads M W rebased fuel depth a in
    subst P (sym now) led

pub run_step-returns-then-depth-walk-ge-DEEPEST-clause-progresses : goal.run_step-returns-then-depth-walk-ge-DEEPEST-clause-progresses
run_step-returns-then-depth-walk-ge-DEEPEST-clause-progresses g t c =
    let M = g.M.AskMachine.model in
    let W = g.W.World.model in
    let rebased = g.M.AskMachine.rebased in
    let call_of = g.M.AskMachine.call_of in
    let place = g.M.AskMachine.place in
    let item = g.M.AskMachine.item_of in
    let frames = g.M.AskMachine.frames_of in
    let value = g.M.Value.Kept.code in
    let code = g.M.Call.Kept.code in
    let number = g.M.AskMachine.number in
    let state = g.W.World.state in
    let fuel = c.args.fuel in
    let depth = c.args.depth in
    let e = c.in_ok-next.ensures in
    let v = c.args.walk.now in
    let w = c.advance.new.walk in
    let old = c.args.arena.now.nodes in
    let new = c.advance.new.arena.nodes in
    let kept = c.args.memo.now in
    let s = state c.args.world.now in
    let r = state c.advance.new.world in
    let went0 = went_step M rebased call_of item fuel depth v w old new kept c.requires.sound e.appends e.node e.room e.units in
    let a = moment_at M W {K = g.row.M-Key.Denot} {V = g.row.M-Value.Denot} place item v (told_of value c.args.given) s old in
    let b : Told → Moment M W = λ h. moment_at M W {K = g.row.M-Key.Denot} {V = g.row.M-Value.Denot} place item w h r new in
    let N : Next g.row.M-Value.Denot g.row.M-Call.Denot → Type 0 = GoesOn M W rebased value (λ x. call_of (code x)) depth a b in
    let D : Next g.row.M-Value.Denot g.row.M-Call.Denot → Type 0 = Lowers number (place v.local) (place w.local) in
    subst D c.in-Enters.is e.lowers

pub run_step-returns-then-depth-walk-ge-DEEPEST-clause-went : goal.run_step-returns-then-depth-walk-ge-DEEPEST-clause-went
run_step-returns-then-depth-walk-ge-DEEPEST-clause-went g t c =
    let M = g.M.AskMachine.model in
    let W = g.W.World.model in
    let rebased = g.M.AskMachine.rebased in
    let call_of = g.M.AskMachine.call_of in
    let place = g.M.AskMachine.place in
    let item = g.M.AskMachine.item_of in
    let frames = g.M.AskMachine.frames_of in
    let value = g.M.Value.Kept.code in
    let code = g.M.Call.Kept.code in
    let number = g.M.AskMachine.number in
    let state = g.W.World.state in
    let fuel = c.args.fuel in
    let depth = c.args.depth in
    let e = c.in_ok-next.ensures in
    let v = c.args.walk.now in
    let w = c.advance.new.walk in
    let old = c.args.arena.now.nodes in
    let new = c.advance.new.arena.nodes in
    let kept = c.args.memo.now in
    let s = state c.args.world.now in
    let r = state c.advance.new.world in
    let went0 = went_step M rebased call_of item fuel depth v w old new kept c.requires.sound e.appends e.node e.room e.units in
    let a = moment_at M W {K = g.row.M-Key.Denot} {V = g.row.M-Value.Denot} place item v (told_of value c.args.given) s old in
    let b : Told → Moment M W = λ h. moment_at M W {K = g.row.M-Key.Denot} {V = g.row.M-Value.Denot} place item w h r new in
    let N : Next g.row.M-Value.Denot g.row.M-Call.Denot → Type 0 = GoesOn M W rebased value (λ x. call_of (code x)) depth a b in
    let D : Next g.row.M-Value.Denot g.row.M-Call.Denot → Type 0 = Lowers number (place v.local) (place w.local) in
    let x : Walk g.row.M-Local.Denot g.row.M-Key.Denot g.row.M-Value.Denot = record { local = w.local; node = w.node; summary = c.find_no_room.new.self; frames = w.frames } in
    let units : x.summary.units ≡ w.summary.units = ap (λ (u : CallSummary). u.units) c.find_no_room.ensures in
    let le = went0.sound.units in
    went_then M rebased call_of item fuel depth v w x old new new kept kept kept went0 (went_same M rebased call_of item fuel depth w x new kept went0.sound refl refl (omega arith) (omega arith))

pub run_step-returns-then-depth-walk-ge-DEEPEST-clause-makes : goal.run_step-returns-then-depth-walk-ge-DEEPEST-clause-makes
run_step-returns-then-depth-walk-ge-DEEPEST-clause-makes g t c =
    let M = g.M.AskMachine.model in
    let W = g.W.World.model in
    let rebased = g.M.AskMachine.rebased in
    let call_of = g.M.AskMachine.call_of in
    let place = g.M.AskMachine.place in
    let item = g.M.AskMachine.item_of in
    let frames = g.M.AskMachine.frames_of in
    let value = g.M.Value.Kept.code in
    let code = g.M.Call.Kept.code in
    let number = g.M.AskMachine.number in
    let state = g.W.World.state in
    let fuel = c.args.fuel in
    let depth = c.args.depth in
    let e = c.in_ok-next.ensures in
    let v = c.args.walk.now in
    let w = c.advance.new.walk in
    let old = c.args.arena.now.nodes in
    let new = c.advance.new.arena.nodes in
    let kept = c.args.memo.now in
    let s = state c.args.world.now in
    let r = state c.advance.new.world in
    let went0 = went_step M rebased call_of item fuel depth v w old new kept c.requires.sound e.appends e.node e.room e.units in
    let a = moment_at M W {K = g.row.M-Key.Denot} {V = g.row.M-Value.Denot} place item v (told_of value c.args.given) s old in
    let b : Told → Moment M W = λ h. moment_at M W {K = g.row.M-Key.Denot} {V = g.row.M-Value.Denot} place item w h r new in
    let N : Next g.row.M-Value.Denot g.row.M-Call.Denot → Type 0 = GoesOn M W rebased value (λ x. call_of (code x)) depth a b in
    let D : Next g.row.M-Value.Denot g.row.M-Call.Denot → Type 0 = Lowers number (place v.local) (place w.local) in
    let goes : N (next.Enters c.in-Enters.call) = subst N c.in-Enters.is e.goes in
    let same : w.frames ≡ v.frames = ap (λ (m : Moment M W). m.frames) goes.1 in
    let full = c.if-depth-walk-ge-DEEPEST.true in
    let x : Walk g.row.M-Local.Denot g.row.M-Key.Denot g.row.M-Value.Denot = record { local = w.local; node = w.node; summary = c.find_no_room.new.self; frames = w.frames } in
    let now : moment_at M W {K = g.row.M-Key.Denot} {V = g.row.M-Value.Denot} place item x TooDeep r new ≡ turned_away (stepped a) =
    ap (λ (u : CallSummary). moment_at M W {K = g.row.M-Key.Denot} {V = g.row.M-Value.Denot} place item (record { local = w.local; node = w.node; summary = u; frames = w.frames }) TooDeep r new) c.find_no_room.ensures
    ∙ ap (λ (m : Moment M W). turned_away m) goes.1 in
    let marked = g.M.AskMachine.marked in
    let made = c.args.arena.now.made in
    let after = c.advance.new.arena.made in
    let before = owed marked made (place v.local) in
    let owing = owed marked after (place w.local) in
    let S : Next g.row.M-Value.Denot g.row.M-Call.Denot → Type 0 = StepMakes M W value call_of depth a b made after before owing in
    let making : S (next.Enters c.in-Enters.call) = subst S c.in-Enters.is e.makes in
    λ kept in_base. makes_no_call M W call_of depth kept fuel a (moment_at M W {K = g.row.M-Key.Denot} {V = g.row.M-Value.Denot} place item x TooDeep r new) (call_of (code c.in-Enters.call)) before owing making.1
    goes.0 (omega arith) now

pub run_step-run_within-requires : goal.run_step-run_within-requires
run_step-run_within-requires g t c κs within =
    let M = g.M.AskMachine.model in
    let W = g.W.World.model in
    let rebased = g.M.AskMachine.rebased in
    let call_of = g.M.AskMachine.call_of in
    let place = g.M.AskMachine.place in
    let item = g.M.AskMachine.item_of in
    let frames = g.M.AskMachine.frames_of in
    let value = g.M.Value.Kept.code in
    let code = g.M.Call.Kept.code in
    let number = g.M.AskMachine.number in
    let state = g.W.World.state in
    let fuel = c.args.fuel in
    let depth = c.args.depth in
    let e = c.in_ok-next.ensures in
    let v = c.args.walk.now in
    let w = c.advance.new.walk in
    let old = c.args.arena.now.nodes in
    let new = c.advance.new.arena.nodes in
    let kept = c.args.memo.now in
    let s = state c.args.world.now in
    let r = state c.advance.new.world in
    let went0 = went_step M rebased call_of item fuel depth v w old new kept c.requires.sound e.appends e.node e.room e.units in
    let a = moment_at M W {K = g.row.M-Key.Denot} {V = g.row.M-Value.Denot} place item v (told_of value c.args.given) s old in
    let b : Told → Moment M W = λ h. moment_at M W {K = g.row.M-Key.Denot} {V = g.row.M-Value.Denot} place item w h r new in
    let N : Next g.row.M-Value.Denot g.row.M-Call.Denot → Type 0 = GoesOn M W rebased value (λ x. call_of (code x)) depth a b in
    let D : Next g.row.M-Value.Denot g.row.M-Call.Denot → Type 0 = Lowers number (place v.local) (place w.local) in
    let less = c.if-depth-walk-ge-DEEPEST.false in
    (omega arith, (within.0, (within.1.0, (within.1.1.0, (within.1.1.1.0, (within.1.1.1.1.0, (within.1.1.1.1.1.0, (within.1.1.1.1.1.1.0, (within.1.1.1.1.1.1.1.0, (within.1.1.1.1.1.1.1.1, (c.requires.fits, (went0.sound, omega arith))))))))))))

pub run_step-returns-in_ok-close-in-Enters-clause-passes : goal.run_step-returns-in_ok-close-in-Enters-clause-passes
run_step-returns-in_ok-close-in-Enters-clause-passes g t c =
    let M = g.M.AskMachine.model in
    let W = g.W.World.model in
    let rebased = g.M.AskMachine.rebased in
    let call_of = g.M.AskMachine.call_of in
    let place = g.M.AskMachine.place in
    let item = g.M.AskMachine.item_of in
    let frames = g.M.AskMachine.frames_of in
    let value = g.M.Value.Kept.code in
    let code = g.M.Call.Kept.code in
    let number = g.M.AskMachine.number in
    let state = g.W.World.state in
    let fuel = c.args.fuel in
    let depth = c.args.depth in
    let e = c.in_ok-next.ensures in
    let v = c.args.walk.now in
    let w = c.advance.new.walk in
    let old = c.args.arena.now.nodes in
    let new = c.advance.new.arena.nodes in
    let kept = c.args.memo.now in
    let s = state c.args.world.now in
    let r = state c.advance.new.world in
    let went0 = went_step M rebased call_of item fuel depth v w old new kept c.requires.sound e.appends e.node e.room e.units in
    let a = moment_at M W {K = g.row.M-Key.Denot} {V = g.row.M-Value.Denot} place item v (told_of value c.args.given) s old in
    let b : Told → Moment M W = λ h. moment_at M W {K = g.row.M-Key.Denot} {V = g.row.M-Value.Denot} place item w h r new in
    let N : Next g.row.M-Value.Denot g.row.M-Call.Denot → Type 0 = GoesOn M W rebased value (λ x. call_of (code x)) depth a b in
    let D : Next g.row.M-Value.Denot g.row.M-Call.Denot → Type 0 = Lowers number (place v.local) (place w.local) in
    let goes : N (next.Enters c.in-Enters.call) = subst N c.in-Enters.is e.goes in
    let same : w.frames ≡ v.frames = ap (λ (m : Moment M W). m.frames) goes.1 in
    let j = c.in_ok-close-in-Enters.ensures.joins in
    let z = c.run_within.new.walk in
    let last = c.run_within.new.arena.nodes in
    let close = c.in_ok-close-in-Enters.close in
    let after = moment_at M W {K = g.row.M-Key.Denot} {V = g.row.M-Value.Denot} place item z Returned (state c.run_within.new.world) last in
    let here = M.frames_at (place z.local) in
    let T : Passed g.row.M-Value.Denot g.row.M-Frames.Denot → Type 0 = GoesBack value frames here (ending_of close.ended) (map frames close.unpaid.items) in
    let less = c.if-depth-walk-ge-DEEPEST.false in
    let room : depth + a.frames < deepest_depth = omega arith in
    ok_map T (Passes M W rebased value frames fuel depth a (λ h. moment_at M W {K = g.row.M-Key.Denot} {V = g.row.M-Value.Denot} place item z h (state c.run_within.new.world) last)) c.go_back.result c.go_back.ensures
    (λ p x. passes_enter M W rebased fuel depth value frames a (call_of (code c.in-Enters.call)) goes.0 room after place item w z r (state c.run_within.new.world) new last
    (ending_of close.ended) (map frames close.unpaid.items) p goes.1 refl j x)

pub run_step-returns-in_ok-close-in-Enters-clause-progresses : goal.run_step-returns-in_ok-close-in-Enters-clause-progresses
run_step-returns-in_ok-close-in-Enters-clause-progresses g t c =
    let M = g.M.AskMachine.model in
    let W = g.W.World.model in
    let rebased = g.M.AskMachine.rebased in
    let call_of = g.M.AskMachine.call_of in
    let place = g.M.AskMachine.place in
    let item = g.M.AskMachine.item_of in
    let frames = g.M.AskMachine.frames_of in
    let value = g.M.Value.Kept.code in
    let code = g.M.Call.Kept.code in
    let number = g.M.AskMachine.number in
    let state = g.W.World.state in
    let fuel = c.args.fuel in
    let depth = c.args.depth in
    let e = c.in_ok-next.ensures in
    let v = c.args.walk.now in
    let w = c.advance.new.walk in
    let old = c.args.arena.now.nodes in
    let new = c.advance.new.arena.nodes in
    let kept = c.args.memo.now in
    let s = state c.args.world.now in
    let r = state c.advance.new.world in
    let went0 = went_step M rebased call_of item fuel depth v w old new kept c.requires.sound e.appends e.node e.room e.units in
    let a = moment_at M W {K = g.row.M-Key.Denot} {V = g.row.M-Value.Denot} place item v (told_of value c.args.given) s old in
    let b : Told → Moment M W = λ h. moment_at M W {K = g.row.M-Key.Denot} {V = g.row.M-Value.Denot} place item w h r new in
    let N : Next g.row.M-Value.Denot g.row.M-Call.Denot → Type 0 = GoesOn M W rebased value (λ x. call_of (code x)) depth a b in
    let D : Next g.row.M-Value.Denot g.row.M-Call.Denot → Type 0 = Lowers number (place v.local) (place w.local) in
    let goes : N (next.Enters c.in-Enters.call) = subst N c.in-Enters.is e.goes in
    let same : w.frames ≡ v.frames = ap (λ (m : Moment M W). m.frames) goes.1 in
    let j = c.in_ok-close-in-Enters.ensures.joins in
    let z = c.run_within.new.walk in
    let last = c.run_within.new.arena.nodes in
    let close = c.in_ok-close-in-Enters.close in
    let after = moment_at M W {K = g.row.M-Key.Denot} {V = g.row.M-Value.Denot} place item z Returned (state c.run_within.new.world) last in
    let here = M.frames_at (place z.local) in
    let T : Passed g.row.M-Value.Denot g.row.M-Frames.Denot → Type 0 = GoesBack value frames here (ending_of close.ended) (map frames close.unpaid.items) in
    let lower : D (next.Enters c.in-Enters.call) = subst D c.in-Enters.is e.lowers in
    let at : place z.local ≡ place w.local = ap (λ (m : Moment M W). m.place) j.after_is in
    let P : M.Place → Type 0 = λ q. number q < number (place v.local) in
    let lt : number (place z.local) < number (place v.local) = subst P (sym at) lower in
    ok_map T (Progresses (number (place v.local)) (number (place z.local)) v.summary.units z.summary.units) c.go_back.result c.go_back.ensures
    (λ p x. progress_back frames here value (ending_of close.ended) (map frames close.unpaid.items) p (number (place v.local)) (number (place z.local)) v.summary.units z.summary.units lt x)

pub run_step-returns-in_ok-close-in-Enters-clause-went : goal.run_step-returns-in_ok-close-in-Enters-clause-went
run_step-returns-in_ok-close-in-Enters-clause-went g t c =
    let M = g.M.AskMachine.model in
    let W = g.W.World.model in
    let rebased = g.M.AskMachine.rebased in
    let call_of = g.M.AskMachine.call_of in
    let place = g.M.AskMachine.place in
    let item = g.M.AskMachine.item_of in
    let frames = g.M.AskMachine.frames_of in
    let value = g.M.Value.Kept.code in
    let code = g.M.Call.Kept.code in
    let number = g.M.AskMachine.number in
    let state = g.W.World.state in
    let fuel = c.args.fuel in
    let depth = c.args.depth in
    let e = c.in_ok-next.ensures in
    let v = c.args.walk.now in
    let w = c.advance.new.walk in
    let old = c.args.arena.now.nodes in
    let new = c.advance.new.arena.nodes in
    let kept = c.args.memo.now in
    let s = state c.args.world.now in
    let r = state c.advance.new.world in
    let went0 = went_step M rebased call_of item fuel depth v w old new kept c.requires.sound e.appends e.node e.room e.units in
    let a = moment_at M W {K = g.row.M-Key.Denot} {V = g.row.M-Value.Denot} place item v (told_of value c.args.given) s old in
    let b : Told → Moment M W = λ h. moment_at M W {K = g.row.M-Key.Denot} {V = g.row.M-Value.Denot} place item w h r new in
    let N : Next g.row.M-Value.Denot g.row.M-Call.Denot → Type 0 = GoesOn M W rebased value (λ x. call_of (code x)) depth a b in
    let D : Next g.row.M-Value.Denot g.row.M-Call.Denot → Type 0 = Lowers number (place v.local) (place w.local) in
    let goes : N (next.Enters c.in-Enters.call) = subst N c.in-Enters.is e.goes in
    let same : w.frames ≡ v.frames = ap (λ (m : Moment M W). m.frames) goes.1 in
    let j = c.in_ok-close-in-Enters.ensures.joins in
    let z = c.run_within.new.walk in
    let last = c.run_within.new.arena.nodes in
    let close = c.in_ok-close-in-Enters.close in
    let after = moment_at M W {K = g.row.M-Key.Denot} {V = g.row.M-Value.Denot} place item z Returned (state c.run_within.new.world) last in
    let here = M.frames_at (place z.local) in
    let T : Passed g.row.M-Value.Denot g.row.M-Frames.Denot → Type 0 = GoesBack value frames here (ending_of close.ended) (map frames close.unpaid.items) in
    let all = went_then M rebased call_of item fuel depth v w z old new last kept kept c.run_within.new.memo went0 c.in_ok-close-in-Enters.ensures.went in
    ok_any (WentOn M rebased call_of item fuel depth v z old last kept c.run_within.new.memo) c.go_back.result all

pub run_step-returns-in_ok-close-in-Enters-clause-makes : goal.run_step-returns-in_ok-close-in-Enters-clause-makes
run_step-returns-in_ok-close-in-Enters-clause-makes g t c =
    let M = g.M.AskMachine.model in
    let W = g.W.World.model in
    let rebased = g.M.AskMachine.rebased in
    let call_of = g.M.AskMachine.call_of in
    let place = g.M.AskMachine.place in
    let item = g.M.AskMachine.item_of in
    let frames = g.M.AskMachine.frames_of in
    let value = g.M.Value.Kept.code in
    let code = g.M.Call.Kept.code in
    let number = g.M.AskMachine.number in
    let state = g.W.World.state in
    let fuel = c.args.fuel in
    let depth = c.args.depth in
    let e = c.in_ok-next.ensures in
    let v = c.args.walk.now in
    let w = c.advance.new.walk in
    let old = c.args.arena.now.nodes in
    let new = c.advance.new.arena.nodes in
    let kept = c.args.memo.now in
    let s = state c.args.world.now in
    let r = state c.advance.new.world in
    let went0 = went_step M rebased call_of item fuel depth v w old new kept c.requires.sound e.appends e.node e.room e.units in
    let a = moment_at M W {K = g.row.M-Key.Denot} {V = g.row.M-Value.Denot} place item v (told_of value c.args.given) s old in
    let b : Told → Moment M W = λ h. moment_at M W {K = g.row.M-Key.Denot} {V = g.row.M-Value.Denot} place item w h r new in
    let N : Next g.row.M-Value.Denot g.row.M-Call.Denot → Type 0 = GoesOn M W rebased value (λ x. call_of (code x)) depth a b in
    let D : Next g.row.M-Value.Denot g.row.M-Call.Denot → Type 0 = Lowers number (place v.local) (place w.local) in
    let goes : N (next.Enters c.in-Enters.call) = subst N c.in-Enters.is e.goes in
    let same : w.frames ≡ v.frames = ap (λ (m : Moment M W). m.frames) goes.1 in
    let j = c.in_ok-close-in-Enters.ensures.joins in
    let z = c.run_within.new.walk in
    let last = c.run_within.new.arena.nodes in
    let close = c.in_ok-close-in-Enters.close in
    let after_it = moment_at M W {K = g.row.M-Key.Denot} {V = g.row.M-Value.Denot} place item z Returned (state c.run_within.new.world) last in
    let here = M.frames_at (place z.local) in
    let T : Passed g.row.M-Value.Denot g.row.M-Frames.Denot → Type 0 = GoesBack value frames here (ending_of close.ended) (map frames close.unpaid.items) in
    let less = c.if-depth-walk-ge-DEEPEST.false in
    let room : depth + a.frames < deepest_depth = omega arith in
    let marked = g.M.AskMachine.marked in
    let made = c.args.arena.now.made in
    let after = c.advance.new.arena.made in
    let before = owed marked made (place v.local) in
    let owing = owed marked after (place w.local) in
    let S : Next g.row.M-Value.Denot g.row.M-Call.Denot → Type 0 = StepMakes M W value call_of depth a b made after before owing in
    let making : S (next.Enters c.in-Enters.call) = subst S c.in-Enters.is e.makes in
    let last_made = c.run_within.new.arena.made in
    let mark = cond (marked (place w.local)) 1 0 in
    let at : place z.local ≡ place w.local = ap (λ (m : Moment M W). m.place) j.after_is in
    let owing_is : owed marked last_made (place z.local) ≡ last_made + mark = ap (λ q. last_made + cond (marked q) 1 0) at in
    let same_made = making.0 in
    let no_more = making.1 in
    let owes : made + mark ≤ before = omega arith in
    let within = c.in_ok-close-in-Enters.ensures.makes in
    ok_map T (λ p. (kept : List (Option KeptOutcome)) → AreKeptIn kept c.args.memo.now → PassMakes M W value call_of kept fuel depth a
    (λ h. moment_at M W {K = g.row.M-Key.Denot} {V = g.row.M-Value.Denot} place item z h (state c.run_within.new.world) last) last_made before (owed marked last_made (place z.local)) p)
    c.go_back.result c.go_back.ensures
    (λ p x kept in_base.
    let From : ℕ → Type 0 = λ n. CallMakes call_of (λ tree. HoldsSomewhere W (W.after_enter r) (fuel - w.summary.units) (depth + w.frames + 1) tree kept) (call_of (code c.in-Enters.call)) (z.summary.units - w.summary.units) (last_made - n) in
    pass_makes_enter M W call_of kept fuel depth value frames a rebased (call_of (code c.in-Enters.call)) goes.0 room after_it made last_made mark before (owed marked last_made (place z.local)) owes owing_is
    place item w z r (state c.run_within.new.world) new last (ending_of close.ended) (map frames close.unpaid.items) p goes.1 refl j (subst From same_made (within kept in_base)) x)

pub run_step-returns-in-Leaves-clause-passes : goal.run_step-returns-in-Leaves-clause-passes
run_step-returns-in-Leaves-clause-passes g t c =
    let M = g.M.AskMachine.model in
    let W = g.W.World.model in
    let rebased = g.M.AskMachine.rebased in
    let call_of = g.M.AskMachine.call_of in
    let place = g.M.AskMachine.place in
    let item = g.M.AskMachine.item_of in
    let frames = g.M.AskMachine.frames_of in
    let value = g.M.Value.Kept.code in
    let code = g.M.Call.Kept.code in
    let number = g.M.AskMachine.number in
    let state = g.W.World.state in
    let fuel = c.args.fuel in
    let depth = c.args.depth in
    let e = c.in_ok-next.ensures in
    let v = c.args.walk.now in
    let w = c.advance.new.walk in
    let old = c.args.arena.now.nodes in
    let new = c.advance.new.arena.nodes in
    let kept = c.args.memo.now in
    let s = state c.args.world.now in
    let r = state c.advance.new.world in
    let went0 = went_step M rebased call_of item fuel depth v w old new kept c.requires.sound e.appends e.node e.room e.units in
    let a = moment_at M W {K = g.row.M-Key.Denot} {V = g.row.M-Value.Denot} place item v (told_of value c.args.given) s old in
    let b : Told → Moment M W = λ h. moment_at M W {K = g.row.M-Key.Denot} {V = g.row.M-Value.Denot} place item w h r new in
    let N : Next g.row.M-Value.Denot g.row.M-Call.Denot → Type 0 = GoesOn M W rebased value (λ x. call_of (code x)) depth a b in
    let D : Next g.row.M-Value.Denot g.row.M-Call.Denot → Type 0 = Lowers number (place v.local) (place w.local) in
    let goes : N next.Leaves = subst N c.in-Leaves.is e.goes in
    let none : map frames c.new.result.items ≡ [] = ap (map frames) c.new.ensures.items in
    passes_end M W rebased fuel depth value frames a (b Nothing) (record { ended = ended.Returned; unpaid = c.new.result }) ByLeave goes.1 refl none (comes_leave M W rebased fuel depth a goes.0)

pub run_step-returns-in-Leaves-clause-went : goal.run_step-returns-in-Leaves-clause-went
run_step-returns-in-Leaves-clause-went g t c =
    let M = g.M.AskMachine.model in
    let W = g.W.World.model in
    let rebased = g.M.AskMachine.rebased in
    let call_of = g.M.AskMachine.call_of in
    let place = g.M.AskMachine.place in
    let item = g.M.AskMachine.item_of in
    let frames = g.M.AskMachine.frames_of in
    let value = g.M.Value.Kept.code in
    let code = g.M.Call.Kept.code in
    let number = g.M.AskMachine.number in
    let state = g.W.World.state in
    let fuel = c.args.fuel in
    let depth = c.args.depth in
    let e = c.in_ok-next.ensures in
    let v = c.args.walk.now in
    let w = c.advance.new.walk in
    let old = c.args.arena.now.nodes in
    let new = c.advance.new.arena.nodes in
    let kept = c.args.memo.now in
    let s = state c.args.world.now in
    let r = state c.advance.new.world in
    let went0 = went_step M rebased call_of item fuel depth v w old new kept c.requires.sound e.appends e.node e.room e.units in
    let a = moment_at M W {K = g.row.M-Key.Denot} {V = g.row.M-Value.Denot} place item v (told_of value c.args.given) s old in
    let b : Told → Moment M W = λ h. moment_at M W {K = g.row.M-Key.Denot} {V = g.row.M-Value.Denot} place item w h r new in
    let N : Next g.row.M-Value.Denot g.row.M-Call.Denot → Type 0 = GoesOn M W rebased value (λ x. call_of (code x)) depth a b in
    let D : Next g.row.M-Value.Denot g.row.M-Call.Denot → Type 0 = Lowers number (place v.local) (place w.local) in
    went0

pub run_step-returns-in-Leaves-clause-makes : goal.run_step-returns-in-Leaves-clause-makes
run_step-returns-in-Leaves-clause-makes g t c =
    let M = g.M.AskMachine.model in
    let W = g.W.World.model in
    let rebased = g.M.AskMachine.rebased in
    let call_of = g.M.AskMachine.call_of in
    let place = g.M.AskMachine.place in
    let item = g.M.AskMachine.item_of in
    let frames = g.M.AskMachine.frames_of in
    let value = g.M.Value.Kept.code in
    let code = g.M.Call.Kept.code in
    let number = g.M.AskMachine.number in
    let state = g.W.World.state in
    let fuel = c.args.fuel in
    let depth = c.args.depth in
    let e = c.in_ok-next.ensures in
    let v = c.args.walk.now in
    let w = c.advance.new.walk in
    let old = c.args.arena.now.nodes in
    let new = c.advance.new.arena.nodes in
    let kept = c.args.memo.now in
    let s = state c.args.world.now in
    let r = state c.advance.new.world in
    let went0 = went_step M rebased call_of item fuel depth v w old new kept c.requires.sound e.appends e.node e.room e.units in
    let a = moment_at M W {K = g.row.M-Key.Denot} {V = g.row.M-Value.Denot} place item v (told_of value c.args.given) s old in
    let b : Told → Moment M W = λ h. moment_at M W {K = g.row.M-Key.Denot} {V = g.row.M-Value.Denot} place item w h r new in
    let N : Next g.row.M-Value.Denot g.row.M-Call.Denot → Type 0 = GoesOn M W rebased value (λ x. call_of (code x)) depth a b in
    let D : Next g.row.M-Value.Denot g.row.M-Call.Denot → Type 0 = Lowers number (place v.local) (place w.local) in
    let goes : N next.Leaves = subst N c.in-Leaves.is e.goes in
    let marked = g.M.AskMachine.marked in
    let made = c.args.arena.now.made in
    let after = c.advance.new.arena.made in
    let before = owed marked made (place v.local) in
    let owing = owed marked after (place w.local) in
    let S : Next g.row.M-Value.Denot g.row.M-Call.Denot → Type 0 = StepMakes M W value call_of depth a b made after before owing in
    let making : S next.Leaves = subst S c.in-Leaves.is e.makes in
    λ kept in_base. makes_leave M W call_of depth kept fuel a goes.0 (after - before) (omega arith)

pub run_step-returns-in-Ends-clause-passes : goal.run_step-returns-in-Ends-clause-passes
run_step-returns-in-Ends-clause-passes g t c =
    let M = g.M.AskMachine.model in
    let W = g.W.World.model in
    let rebased = g.M.AskMachine.rebased in
    let call_of = g.M.AskMachine.call_of in
    let place = g.M.AskMachine.place in
    let item = g.M.AskMachine.item_of in
    let frames = g.M.AskMachine.frames_of in
    let value = g.M.Value.Kept.code in
    let code = g.M.Call.Kept.code in
    let number = g.M.AskMachine.number in
    let state = g.W.World.state in
    let fuel = c.args.fuel in
    let depth = c.args.depth in
    let e = c.in_ok-next.ensures in
    let v = c.args.walk.now in
    let w = c.advance.new.walk in
    let old = c.args.arena.now.nodes in
    let new = c.advance.new.arena.nodes in
    let kept = c.args.memo.now in
    let s = state c.args.world.now in
    let r = state c.advance.new.world in
    let went0 = went_step M rebased call_of item fuel depth v w old new kept c.requires.sound e.appends e.node e.room e.units in
    let a = moment_at M W {K = g.row.M-Key.Denot} {V = g.row.M-Value.Denot} place item v (told_of value c.args.given) s old in
    let b : Told → Moment M W = λ h. moment_at M W {K = g.row.M-Key.Denot} {V = g.row.M-Value.Denot} place item w h r new in
    let N : Next g.row.M-Value.Denot g.row.M-Call.Denot → Type 0 = GoesOn M W rebased value (λ x. call_of (code x)) depth a b in
    let D : Next g.row.M-Value.Denot g.row.M-Call.Denot → Type 0 = Lowers number (place v.local) (place w.local) in
    let goes : N next.Ends = subst N c.in-Ends.is e.goes in
    let none : map frames c.new-in-Ends.result.items ≡ [] = ap (map frames) c.new-in-Ends.ensures.items in
    passes_end M W rebased fuel depth value frames a (b Nothing) (record { ended = ended.End; unpaid = c.new-in-Ends.result }) ByEnd goes.1 refl none (comes_end M W rebased fuel depth a goes.0)

pub run_step-returns-in-Ends-clause-went : goal.run_step-returns-in-Ends-clause-went
run_step-returns-in-Ends-clause-went g t c =
    let M = g.M.AskMachine.model in
    let W = g.W.World.model in
    let rebased = g.M.AskMachine.rebased in
    let call_of = g.M.AskMachine.call_of in
    let place = g.M.AskMachine.place in
    let item = g.M.AskMachine.item_of in
    let frames = g.M.AskMachine.frames_of in
    let value = g.M.Value.Kept.code in
    let code = g.M.Call.Kept.code in
    let number = g.M.AskMachine.number in
    let state = g.W.World.state in
    let fuel = c.args.fuel in
    let depth = c.args.depth in
    let e = c.in_ok-next.ensures in
    let v = c.args.walk.now in
    let w = c.advance.new.walk in
    let old = c.args.arena.now.nodes in
    let new = c.advance.new.arena.nodes in
    let kept = c.args.memo.now in
    let s = state c.args.world.now in
    let r = state c.advance.new.world in
    let went0 = went_step M rebased call_of item fuel depth v w old new kept c.requires.sound e.appends e.node e.room e.units in
    let a = moment_at M W {K = g.row.M-Key.Denot} {V = g.row.M-Value.Denot} place item v (told_of value c.args.given) s old in
    let b : Told → Moment M W = λ h. moment_at M W {K = g.row.M-Key.Denot} {V = g.row.M-Value.Denot} place item w h r new in
    let N : Next g.row.M-Value.Denot g.row.M-Call.Denot → Type 0 = GoesOn M W rebased value (λ x. call_of (code x)) depth a b in
    let D : Next g.row.M-Value.Denot g.row.M-Call.Denot → Type 0 = Lowers number (place v.local) (place w.local) in
    went0

pub run_step-returns-in-Ends-clause-makes : goal.run_step-returns-in-Ends-clause-makes
run_step-returns-in-Ends-clause-makes g t c =
    let M = g.M.AskMachine.model in
    let W = g.W.World.model in
    let rebased = g.M.AskMachine.rebased in
    let call_of = g.M.AskMachine.call_of in
    let place = g.M.AskMachine.place in
    let item = g.M.AskMachine.item_of in
    let frames = g.M.AskMachine.frames_of in
    let value = g.M.Value.Kept.code in
    let code = g.M.Call.Kept.code in
    let number = g.M.AskMachine.number in
    let state = g.W.World.state in
    let fuel = c.args.fuel in
    let depth = c.args.depth in
    let e = c.in_ok-next.ensures in
    let v = c.args.walk.now in
    let w = c.advance.new.walk in
    let old = c.args.arena.now.nodes in
    let new = c.advance.new.arena.nodes in
    let kept = c.args.memo.now in
    let s = state c.args.world.now in
    let r = state c.advance.new.world in
    let went0 = went_step M rebased call_of item fuel depth v w old new kept c.requires.sound e.appends e.node e.room e.units in
    let a = moment_at M W {K = g.row.M-Key.Denot} {V = g.row.M-Value.Denot} place item v (told_of value c.args.given) s old in
    let b : Told → Moment M W = λ h. moment_at M W {K = g.row.M-Key.Denot} {V = g.row.M-Value.Denot} place item w h r new in
    let N : Next g.row.M-Value.Denot g.row.M-Call.Denot → Type 0 = GoesOn M W rebased value (λ x. call_of (code x)) depth a b in
    let D : Next g.row.M-Value.Denot g.row.M-Call.Denot → Type 0 = Lowers number (place v.local) (place w.local) in
    let goes : N next.Ends = subst N c.in-Ends.is e.goes in
    let marked = g.M.AskMachine.marked in
    let made = c.args.arena.now.made in
    let after = c.advance.new.arena.made in
    let before = owed marked made (place v.local) in
    let owing = owed marked after (place w.local) in
    let S : Next g.row.M-Value.Denot g.row.M-Call.Denot → Type 0 = StepMakes M W value call_of depth a b made after before owing in
    let making : S next.Ends = subst S c.in-Ends.is e.makes in
    λ kept in_base. makes_end M W call_of depth kept fuel a goes.0 (after - before) (omega arith)

pub run_within-reuse_within-requires-clause-fits : goal.run_within-reuse_within-requires-clause-fits
run_within-reuse_within-requires-clause-fits g t c =
    c.requires.fits

pub run_within-reuse_within-requires-clause-stand : goal.run_within-reuse_within-requires-clause-stand
run_within-reuse_within-requires-clause-stand g t c =
    c.requires.sound.stand

pub run_within-reuse_within-requires-clause-unshared : goal.run_within-reuse_within-requires-clause-unshared
run_within-reuse_within-requires-clause-unshared g t c =
    c.requires.sound.underway.unshared

pub run_within-reuse_within-requires-clause-apart : goal.run_within-reuse_within-requires-clause-apart
run_within-reuse_within-requires-clause-apart g t c =
    c.requires.sound.underway.apart

pub run_within-reuse_within-requires-clause-room : goal.run_within-reuse_within-requires-clause-room
run_within-reuse_within-requires-clause-room g t c =
    c.requires.room

pub run_within-reuse_within-requires-clause-units : goal.run_within-reuse_within-requires-clause-units
run_within-reuse_within-requires-clause-units g t c =
    c.requires.sound.units

pub run_within-returns-in-Some-clause-joins : goal.run_within-returns-in-Some-clause-joins
run_within-returns-in-Some-clause-joins g t c =
    let M = g.M.AskMachine.model in
    let W = g.W.World.model in
    let rebased = g.M.AskMachine.rebased in
    let call_of = g.M.AskMachine.call_of in
    let place = g.M.AskMachine.place in
    let item = g.M.AskMachine.item_of in
    let frames = g.M.AskMachine.frames_of in
    let value = g.M.Value.Kept.code in
    let code = g.M.Call.Kept.code in
    let number = g.M.AskMachine.number in
    let state = g.W.World.state in
    let fuel = c.args.fuel in
    let depth = c.args.depth in
    let v = c.args.walk.now in
    let old = c.args.arena.now.nodes in
    let kept = c.args.memo.now in
    let s = state c.args.world.now in
    let e = c.in_ok-taken.ensures in
    let x = c.reuse_within.new.walk in
    let before = moment_at M W {K = g.row.M-Key.Denot} {V = g.row.M-Value.Denot} place item v Nothing s old in
    let after = moment_at M W {K = g.row.M-Key.Denot} {V = g.row.M-Value.Denot} place item x Returned (state c.reuse_within.new.world) c.reuse_within.new.arena.nodes in
    let inner = depth + v.frames + 1 in
    let F : Option Ended → Type 0 = λ o. MatchOption o (NoneHolds W (W.after_enter s) (fuel - v.summary.units) inner (code c.args.call) kept)
    (λ i. JoinsIn M W rebased fuel depth (call_of (code c.args.call)) before after (ending_of i) []) in
    let j : F (Some c.in-Some.ended) = subst F c.in-Some.is e.joins in
    let none : map frames c.new.result.items ≡ [] = ap (map frames) c.new.ensures.items in
    let P : List M.Frames → Type 0 = JoinsIn M W rebased fuel depth (call_of (code c.args.call)) before after (ending_of c.in-Some.ended) in
    subst P (sym none) j

pub run_within-returns-in-Some-clause-went : goal.run_within-returns-in-Some-clause-went
run_within-returns-in-Some-clause-went g t c =
    let M = g.M.AskMachine.model in
    let W = g.W.World.model in
    let rebased = g.M.AskMachine.rebased in
    let call_of = g.M.AskMachine.call_of in
    let place = g.M.AskMachine.place in
    let item = g.M.AskMachine.item_of in
    let frames = g.M.AskMachine.frames_of in
    let value = g.M.Value.Kept.code in
    let code = g.M.Call.Kept.code in
    let number = g.M.AskMachine.number in
    let state = g.W.World.state in
    let fuel = c.args.fuel in
    let depth = c.args.depth in
    let v = c.args.walk.now in
    let old = c.args.arena.now.nodes in
    let kept = c.args.memo.now in
    let s = state c.args.world.now in
    let e = c.in_ok-taken.ensures in
    let x = c.reuse_within.new.walk in
    let before = moment_at M W {K = g.row.M-Key.Denot} {V = g.row.M-Value.Denot} place item v Nothing s old in
    let after = moment_at M W {K = g.row.M-Key.Denot} {V = g.row.M-Value.Denot} place item x Returned (state c.reuse_within.new.world) c.reuse_within.new.arena.nodes in
    let inner = depth + v.frames + 1 in
    let F : Option Ended → Type 0 = λ o. MatchOption o (NoneHolds W (W.after_enter s) (fuel - v.summary.units) inner (code c.args.call) kept)
    (λ i. JoinsIn M W rebased fuel depth (call_of (code c.args.call)) before after (ending_of i) []) in
    let j : F (Some c.in-Some.ended) = subst F c.in-Some.is e.joins in
    let units = joins_units M W rebased fuel depth (call_of (code c.args.call)) before after (ending_of c.in-Some.ended) [] j c.requires.sound.units in
    let room = c.requires.room in
    let same = e.kept.2 in
    went_make M rebased call_of item fuel depth v x old c.reuse_within.new.arena.nodes kept kept units.0 units.1 e.kept.0 (omega arith)
    (record { unshared = e.unshared; apart = c.requires.sound.underway.apart }) e.stand e.others

pub run_within-returns-in-Some-clause-makes : goal.run_within-returns-in-Some-clause-makes
run_within-returns-in-Some-clause-makes g t c =
    let M = g.M.AskMachine.model in
    let W = g.W.World.model in
    let rebased = g.M.AskMachine.rebased in
    let call_of = g.M.AskMachine.call_of in
    let place = g.M.AskMachine.place in
    let item = g.M.AskMachine.item_of in
    let frames = g.M.AskMachine.frames_of in
    let value = g.M.Value.Kept.code in
    let code = g.M.Call.Kept.code in
    let number = g.M.AskMachine.number in
    let state = g.W.World.state in
    let fuel = c.args.fuel in
    let depth = c.args.depth in
    let v = c.args.walk.now in
    let old = c.args.arena.now.nodes in
    let kept = c.args.memo.now in
    let s = state c.args.world.now in
    let e = c.in_ok-taken.ensures in
    let x = c.reuse_within.new.walk in
    let before = moment_at M W {K = g.row.M-Key.Denot} {V = g.row.M-Value.Denot} place item v Nothing s old in
    let after = moment_at M W {K = g.row.M-Key.Denot} {V = g.row.M-Value.Denot} place item x Returned (state c.reuse_within.new.world) c.reuse_within.new.arena.nodes in
    let inner = depth + v.frames + 1 in
    λ kept in_base. call_taken call_of (λ tree. HoldsSomewhere W (W.after_enter s) (fuel - v.summary.units) inner tree kept) (call_of (code c.args.call)) (x.summary.units - v.summary.units)
    c.args.arena.now.made c.reuse_within.new.arena.made e.made

pub run_within-overflow_sub-left : goal.run_within-overflow_sub-left
run_within-overflow_sub-left g t c =
    let M = g.M.AskMachine.model in
    let W = g.W.World.model in
    let rebased = g.M.AskMachine.rebased in
    let call_of = g.M.AskMachine.call_of in
    let place = g.M.AskMachine.place in
    let item = g.M.AskMachine.item_of in
    let frames = g.M.AskMachine.frames_of in
    let value = g.M.Value.Kept.code in
    let code = g.M.Call.Kept.code in
    let number = g.M.AskMachine.number in
    let state = g.W.World.state in
    let fuel = c.args.fuel in
    let depth = c.args.depth in
    let v = c.args.walk.now in
    let old = c.args.arena.now.nodes in
    let kept = c.args.memo.now in
    let s = state c.args.world.now in
    let e = c.in_ok-taken.ensures in
    let none = e.none c.in_default.is in
    let x = c.reuse_within.new.walk in
    let units : c.units.result ≡ v.summary.units = c.units.ensures ∙ ap (λ (y : Walk g.row.M-Local.Denot g.row.M-Key.Denot g.row.M-Value.Denot). y.summary.units) none.1 in
    let open_frames : x.frames ≡ v.frames = ap (λ (y : Walk g.row.M-Local.Denot g.row.M-Key.Denot g.row.M-Value.Denot). y.frames) none.1 in
    let le = c.requires.sound.units in
    let room = c.requires.room in
    omega arith

pub run_within-overflow_add-inner : goal.run_within-overflow_add-inner
run_within-overflow_add-inner g t c =
    let M = g.M.AskMachine.model in
    let W = g.W.World.model in
    let rebased = g.M.AskMachine.rebased in
    let call_of = g.M.AskMachine.call_of in
    let place = g.M.AskMachine.place in
    let item = g.M.AskMachine.item_of in
    let frames = g.M.AskMachine.frames_of in
    let value = g.M.Value.Kept.code in
    let code = g.M.Call.Kept.code in
    let number = g.M.AskMachine.number in
    let state = g.W.World.state in
    let fuel = c.args.fuel in
    let depth = c.args.depth in
    let v = c.args.walk.now in
    let old = c.args.arena.now.nodes in
    let kept = c.args.memo.now in
    let s = state c.args.world.now in
    let e = c.in_ok-taken.ensures in
    let none = e.none c.in_default.is in
    let x = c.reuse_within.new.walk in
    let units : c.units.result ≡ v.summary.units = c.units.ensures ∙ ap (λ (y : Walk g.row.M-Local.Denot g.row.M-Key.Denot g.row.M-Value.Denot). y.summary.units) none.1 in
    let open_frames : x.frames ≡ v.frames = ap (λ (y : Walk g.row.M-Local.Denot g.row.M-Key.Denot g.row.M-Value.Denot). y.frames) none.1 in
    let le = c.requires.sound.units in
    let room = c.requires.room in
    omega arith

pub run_within-overflow_add-inner-2 : goal.run_within-overflow_add-inner-2
run_within-overflow_add-inner-2 g t c =
    let M = g.M.AskMachine.model in
    let W = g.W.World.model in
    let rebased = g.M.AskMachine.rebased in
    let call_of = g.M.AskMachine.call_of in
    let place = g.M.AskMachine.place in
    let item = g.M.AskMachine.item_of in
    let frames = g.M.AskMachine.frames_of in
    let value = g.M.Value.Kept.code in
    let code = g.M.Call.Kept.code in
    let number = g.M.AskMachine.number in
    let state = g.W.World.state in
    let fuel = c.args.fuel in
    let depth = c.args.depth in
    let v = c.args.walk.now in
    let old = c.args.arena.now.nodes in
    let kept = c.args.memo.now in
    let s = state c.args.world.now in
    let e = c.in_ok-taken.ensures in
    let none = e.none c.in_default.is in
    let x = c.reuse_within.new.walk in
    let units : c.units.result ≡ v.summary.units = c.units.ensures ∙ ap (λ (y : Walk g.row.M-Local.Denot g.row.M-Key.Denot g.row.M-Value.Denot). y.summary.units) none.1 in
    let open_frames : x.frames ≡ v.frames = ap (λ (y : Walk g.row.M-Local.Denot g.row.M-Key.Denot g.row.M-Value.Denot). y.frames) none.1 in
    let le = c.requires.sound.units in
    let room = c.requires.room in
    omega arith

pub run_within-run_call-requires : goal.run_within-run_call-requires
run_within-run_call-requires g t c κs within =
    let M = g.M.AskMachine.model in
    let W = g.W.World.model in
    let rebased = g.M.AskMachine.rebased in
    let call_of = g.M.AskMachine.call_of in
    let place = g.M.AskMachine.place in
    let item = g.M.AskMachine.item_of in
    let frames = g.M.AskMachine.frames_of in
    let value = g.M.Value.Kept.code in
    let code = g.M.Call.Kept.code in
    let number = g.M.AskMachine.number in
    let state = g.W.World.state in
    let fuel = c.args.fuel in
    let depth = c.args.depth in
    let v = c.args.walk.now in
    let old = c.args.arena.now.nodes in
    let kept = c.args.memo.now in
    let s = state c.args.world.now in
    let e = c.in_ok-taken.ensures in
    let none = e.none c.in_default.is in
    let x = c.reuse_within.new.walk in
    let units : c.units.result ≡ v.summary.units = c.units.ensures ∙ ap (λ (y : Walk g.row.M-Local.Denot g.row.M-Key.Denot g.row.M-Value.Denot). y.summary.units) none.1 in
    let open_frames : x.frames ≡ v.frames = ap (λ (y : Walk g.row.M-Local.Denot g.row.M-Key.Denot g.row.M-Value.Denot). y.frames) none.1 in
    let le = c.requires.sound.units in
    let room = c.requires.room in
    (omega arith, (within.0, (within.1.0, (within.1.1.0, (within.1.1.1.0, (within.1.1.1.1.0, (within.1.1.1.1.1.0, (within.1.1.1.1.1.1.0, (within.1.1.1.1.1.1.1.0, (within.1.1.1.1.1.1.1.1, (omega arith, (c.requires.fits, e.stand))))))))))))

pub run_within-absorb-requires-clause-unshared : goal.run_within-absorb-requires-clause-unshared
run_within-absorb-requires-clause-unshared g t c =
    let M = g.M.AskMachine.model in
    let W = g.W.World.model in
    let rebased = g.M.AskMachine.rebased in
    let call_of = g.M.AskMachine.call_of in
    let place = g.M.AskMachine.place in
    let item = g.M.AskMachine.item_of in
    let frames = g.M.AskMachine.frames_of in
    let value = g.M.Value.Kept.code in
    let code = g.M.Call.Kept.code in
    let number = g.M.AskMachine.number in
    let state = g.W.World.state in
    let fuel = c.args.fuel in
    let depth = c.args.depth in
    let v = c.args.walk.now in
    let old = c.args.arena.now.nodes in
    let kept = c.args.memo.now in
    let s = state c.args.world.now in
    let e = c.in_ok-taken.ensures in
    let none = e.none c.in_default.is in
    let x = c.reuse_within.new.walk in
    let units : c.units.result ≡ v.summary.units = c.units.ensures ∙ ap (λ (y : Walk g.row.M-Local.Denot g.row.M-Key.Denot g.row.M-Value.Denot). y.summary.units) none.1 in
    let open_frames : x.frames ≡ v.frames = ap (λ (y : Walk g.row.M-Local.Denot g.row.M-Key.Denot g.row.M-Value.Denot). y.frames) none.1 in
    let le = c.requires.sound.units in
    let room = c.requires.room in
    let call = code c.args.call in
    let ran = c.in_ok-ran.ran in
    let mid = c.run_call.new.arena.nodes in
    let l = c.run_call.new.memo in
    let r = state c.run_call.new.world in
    let early = c.reuse_within.new.arena.nodes in
    let start = c.enter.ensures ∙ ap W.after_enter none.0 in
    let is_run : IsRun M W rebased call_of {K = g.row.M-Key.Denot} {V = g.row.M-Value.Denot} place item frames (fuel - v.summary.units) (depth + v.frames + 1) (call_of call) (W.after_enter s) r old mid kept l ran =
    run_as M W rebased call_of place item frames (fuel - v.summary.units) (fuel - c.units.result) (depth + v.frames + 1) (depth + x.frames + 1) (call_of call) (W.after_enter s) (state c.enter.new.self) r old early mid kept l ran
    (omega arith) (omega arith) start (ap (λ (n : Arena _). n.nodes) none.2) c.in_ok-ran.ensures.ran in
    let U = (ran_caller M W rebased call_of place item frames g.M.AskMachine.moving g.M.AskMachine.writable g.M.AskMachine.quiet g.met.M.AskMachine.modest c.requires.fits fuel depth v v call s r r old mid mid kept l l ran c.requires.sound c.requires.room is_run).unshared in
    let P : Walk g.row.M-Local.Denot g.row.M-Key.Denot g.row.M-Value.Denot → Type 0 = λ y. IsUnshared mid y.node.0 in
    subst P (sym none.1) U

pub run_within-absorb-requires-clause-child : goal.run_within-absorb-requires-clause-child
run_within-absorb-requires-clause-child g t c =
    let M = g.M.AskMachine.model in
    let W = g.W.World.model in
    let rebased = g.M.AskMachine.rebased in
    let call_of = g.M.AskMachine.call_of in
    let place = g.M.AskMachine.place in
    let item = g.M.AskMachine.item_of in
    let frames = g.M.AskMachine.frames_of in
    let value = g.M.Value.Kept.code in
    let code = g.M.Call.Kept.code in
    let number = g.M.AskMachine.number in
    let state = g.W.World.state in
    let fuel = c.args.fuel in
    let depth = c.args.depth in
    let v = c.args.walk.now in
    let old = c.args.arena.now.nodes in
    let kept = c.args.memo.now in
    let s = state c.args.world.now in
    let e = c.in_ok-taken.ensures in
    let none = e.none c.in_default.is in
    let x = c.reuse_within.new.walk in
    let units : c.units.result ≡ v.summary.units = c.units.ensures ∙ ap (λ (y : Walk g.row.M-Local.Denot g.row.M-Key.Denot g.row.M-Value.Denot). y.summary.units) none.1 in
    let open_frames : x.frames ≡ v.frames = ap (λ (y : Walk g.row.M-Local.Denot g.row.M-Key.Denot g.row.M-Value.Denot). y.frames) none.1 in
    let le = c.requires.sound.units in
    let room = c.requires.room in
    let call = code c.args.call in
    let ran = c.in_ok-ran.ran in
    let mid = c.run_call.new.arena.nodes in
    let l = c.run_call.new.memo in
    let r = state c.run_call.new.world in
    let early = c.reuse_within.new.arena.nodes in
    let start = c.enter.ensures ∙ ap W.after_enter none.0 in
    let is_run : IsRun M W rebased call_of {K = g.row.M-Key.Denot} {V = g.row.M-Value.Denot} place item frames (fuel - v.summary.units) (depth + v.frames + 1) (call_of call) (W.after_enter s) r old mid kept l ran =
    run_as M W rebased call_of place item frames (fuel - v.summary.units) (fuel - c.units.result) (depth + v.frames + 1) (depth + x.frames + 1) (call_of call) (W.after_enter s) (state c.enter.new.self) r old early mid kept l ran
    (omega arith) (omega arith) start (ap (λ (n : Arena _). n.nodes) none.2) c.in_ok-ran.ensures.ran in
    is_run.underway.unshared

pub run_within-absorb-requires-clause-other : goal.run_within-absorb-requires-clause-other
run_within-absorb-requires-clause-other g t c =
    let M = g.M.AskMachine.model in
    let W = g.W.World.model in
    let rebased = g.M.AskMachine.rebased in
    let call_of = g.M.AskMachine.call_of in
    let place = g.M.AskMachine.place in
    let item = g.M.AskMachine.item_of in
    let frames = g.M.AskMachine.frames_of in
    let value = g.M.Value.Kept.code in
    let code = g.M.Call.Kept.code in
    let number = g.M.AskMachine.number in
    let state = g.W.World.state in
    let fuel = c.args.fuel in
    let depth = c.args.depth in
    let v = c.args.walk.now in
    let old = c.args.arena.now.nodes in
    let kept = c.args.memo.now in
    let s = state c.args.world.now in
    let e = c.in_ok-taken.ensures in
    let none = e.none c.in_default.is in
    let x = c.reuse_within.new.walk in
    let units : c.units.result ≡ v.summary.units = c.units.ensures ∙ ap (λ (y : Walk g.row.M-Local.Denot g.row.M-Key.Denot g.row.M-Value.Denot). y.summary.units) none.1 in
    let open_frames : x.frames ≡ v.frames = ap (λ (y : Walk g.row.M-Local.Denot g.row.M-Key.Denot g.row.M-Value.Denot). y.frames) none.1 in
    let le = c.requires.sound.units in
    let room = c.requires.room in
    let call = code c.args.call in
    let ran = c.in_ok-ran.ran in
    let mid = c.run_call.new.arena.nodes in
    let l = c.run_call.new.memo in
    let r = state c.run_call.new.world in
    let early = c.reuse_within.new.arena.nodes in
    let start = c.enter.ensures ∙ ap W.after_enter none.0 in
    let is_run : IsRun M W rebased call_of {K = g.row.M-Key.Denot} {V = g.row.M-Value.Denot} place item frames (fuel - v.summary.units) (depth + v.frames + 1) (call_of call) (W.after_enter s) r old mid kept l ran =
    run_as M W rebased call_of place item frames (fuel - v.summary.units) (fuel - c.units.result) (depth + v.frames + 1) (depth + x.frames + 1) (call_of call) (W.after_enter s) (state c.enter.new.self) r old early mid kept l ran
    (omega arith) (omega arith) start (ap (λ (n : Arena _). n.nodes) none.2) c.in_ok-ran.ensures.ran in
    λ q. ran_other M W rebased call_of place item frames g.M.AskMachine.moving g.M.AskMachine.writable g.M.AskMachine.quiet g.met.M.AskMachine.modest c.requires.fits fuel depth v v call s r r old mid mid kept l l ran c.requires.sound c.requires.room is_run (q ∙ ap (λ (y : Walk g.row.M-Local.Denot g.row.M-Key.Denot g.row.M-Value.Denot). y.node.0) none.1)

pub run_within-absorb-requires-clause-units : goal.run_within-absorb-requires-clause-units
run_within-absorb-requires-clause-units g t c =
    let M = g.M.AskMachine.model in
    let W = g.W.World.model in
    let rebased = g.M.AskMachine.rebased in
    let call_of = g.M.AskMachine.call_of in
    let place = g.M.AskMachine.place in
    let item = g.M.AskMachine.item_of in
    let frames = g.M.AskMachine.frames_of in
    let value = g.M.Value.Kept.code in
    let code = g.M.Call.Kept.code in
    let number = g.M.AskMachine.number in
    let state = g.W.World.state in
    let fuel = c.args.fuel in
    let depth = c.args.depth in
    let v = c.args.walk.now in
    let old = c.args.arena.now.nodes in
    let kept = c.args.memo.now in
    let s = state c.args.world.now in
    let e = c.in_ok-taken.ensures in
    let none = e.none c.in_default.is in
    let x = c.reuse_within.new.walk in
    let units : c.units.result ≡ v.summary.units = c.units.ensures ∙ ap (λ (y : Walk g.row.M-Local.Denot g.row.M-Key.Denot g.row.M-Value.Denot). y.summary.units) none.1 in
    let open_frames : x.frames ≡ v.frames = ap (λ (y : Walk g.row.M-Local.Denot g.row.M-Key.Denot g.row.M-Value.Denot). y.frames) none.1 in
    let le = c.requires.sound.units in
    let room = c.requires.room in
    let call = code c.args.call in
    let ran = c.in_ok-ran.ran in
    let mid = c.run_call.new.arena.nodes in
    let l = c.run_call.new.memo in
    let r = state c.run_call.new.world in
    let early = c.reuse_within.new.arena.nodes in
    let start = c.enter.ensures ∙ ap W.after_enter none.0 in
    let is_run : IsRun M W rebased call_of {K = g.row.M-Key.Denot} {V = g.row.M-Value.Denot} place item frames (fuel - v.summary.units) (depth + v.frames + 1) (call_of call) (W.after_enter s) r old mid kept l ran =
    run_as M W rebased call_of place item frames (fuel - v.summary.units) (fuel - c.units.result) (depth + v.frames + 1) (depth + x.frames + 1) (call_of call) (W.after_enter s) (state c.enter.new.self) r old early mid kept l ran
    (omega arith) (omega arith) start (ap (λ (n : Arena _). n.nodes) none.2) c.in_ok-ran.ensures.ran in
    let covered = ran_units M W rebased call_of place item frames g.M.AskMachine.moving g.M.AskMachine.writable g.M.AskMachine.quiet g.met.M.AskMachine.modest c.requires.fits fuel depth v v call s r r old mid mid kept l l ran c.requires.sound c.requires.room is_run in
    let fits = c.ranges.fuel.fits in
    let had : x.summary.units ≡ v.summary.units = ap (λ (y : Walk g.row.M-Local.Denot g.row.M-Key.Denot g.row.M-Value.Denot). y.summary.units) none.1 in
    omega arith

pub run_within-absorb-requires-clause-levels : goal.run_within-absorb-requires-clause-levels
run_within-absorb-requires-clause-levels g t c =
    let M = g.M.AskMachine.model in
    let W = g.W.World.model in
    let rebased = g.M.AskMachine.rebased in
    let call_of = g.M.AskMachine.call_of in
    let place = g.M.AskMachine.place in
    let item = g.M.AskMachine.item_of in
    let frames = g.M.AskMachine.frames_of in
    let value = g.M.Value.Kept.code in
    let code = g.M.Call.Kept.code in
    let number = g.M.AskMachine.number in
    let state = g.W.World.state in
    let fuel = c.args.fuel in
    let depth = c.args.depth in
    let v = c.args.walk.now in
    let old = c.args.arena.now.nodes in
    let kept = c.args.memo.now in
    let s = state c.args.world.now in
    let e = c.in_ok-taken.ensures in
    let none = e.none c.in_default.is in
    let x = c.reuse_within.new.walk in
    let units : c.units.result ≡ v.summary.units = c.units.ensures ∙ ap (λ (y : Walk g.row.M-Local.Denot g.row.M-Key.Denot g.row.M-Value.Denot). y.summary.units) none.1 in
    let open_frames : x.frames ≡ v.frames = ap (λ (y : Walk g.row.M-Local.Denot g.row.M-Key.Denot g.row.M-Value.Denot). y.frames) none.1 in
    let le = c.requires.sound.units in
    let room = c.requires.room in
    let call = code c.args.call in
    let ran = c.in_ok-ran.ran in
    let mid = c.run_call.new.arena.nodes in
    let l = c.run_call.new.memo in
    let r = state c.run_call.new.world in
    let early = c.reuse_within.new.arena.nodes in
    let start = c.enter.ensures ∙ ap W.after_enter none.0 in
    let is_run : IsRun M W rebased call_of {K = g.row.M-Key.Denot} {V = g.row.M-Value.Denot} place item frames (fuel - v.summary.units) (depth + v.frames + 1) (call_of call) (W.after_enter s) r old mid kept l ran =
    run_as M W rebased call_of place item frames (fuel - v.summary.units) (fuel - c.units.result) (depth + v.frames + 1) (depth + x.frames + 1) (call_of call) (W.after_enter s) (state c.enter.new.self) r old early mid kept l ran
    (omega arith) (omega arith) start (ap (λ (n : Arena _). n.nodes) none.2) c.in_ok-ran.ensures.ran in
    let deep = ran_levels M W rebased call_of place item frames g.M.AskMachine.moving g.M.AskMachine.writable g.M.AskMachine.quiet g.met.M.AskMachine.modest c.requires.fits fuel depth v v call s r r old mid mid kept l l ran c.requires.sound c.requires.room is_run in
    omega arith

pub run_within-returns-clause-joins : goal.run_within-returns-clause-joins
run_within-returns-clause-joins g t c =
    let M = g.M.AskMachine.model in
    let W = g.W.World.model in
    let rebased = g.M.AskMachine.rebased in
    let call_of = g.M.AskMachine.call_of in
    let place = g.M.AskMachine.place in
    let item = g.M.AskMachine.item_of in
    let frames = g.M.AskMachine.frames_of in
    let value = g.M.Value.Kept.code in
    let code = g.M.Call.Kept.code in
    let number = g.M.AskMachine.number in
    let state = g.W.World.state in
    let fuel = c.args.fuel in
    let depth = c.args.depth in
    let v = c.args.walk.now in
    let old = c.args.arena.now.nodes in
    let kept = c.args.memo.now in
    let s = state c.args.world.now in
    let e = c.in_ok-taken.ensures in
    let none = e.none c.in_default.is in
    let x = c.reuse_within.new.walk in
    let units : c.units.result ≡ v.summary.units = c.units.ensures ∙ ap (λ (y : Walk g.row.M-Local.Denot g.row.M-Key.Denot g.row.M-Value.Denot). y.summary.units) none.1 in
    let open_frames : x.frames ≡ v.frames = ap (λ (y : Walk g.row.M-Local.Denot g.row.M-Key.Denot g.row.M-Value.Denot). y.frames) none.1 in
    let le = c.requires.sound.units in
    let room = c.requires.room in
    let call = code c.args.call in
    let ran = c.in_ok-ran.ran in
    let mid = c.run_call.new.arena.nodes in
    let l = c.run_call.new.memo in
    let r = state c.run_call.new.world in
    let early = c.reuse_within.new.arena.nodes in
    let start = c.enter.ensures ∙ ap W.after_enter none.0 in
    let is_run : IsRun M W rebased call_of {K = g.row.M-Key.Denot} {V = g.row.M-Value.Denot} place item frames (fuel - v.summary.units) (depth + v.frames + 1) (call_of call) (W.after_enter s) r old mid kept l ran =
    run_as M W rebased call_of place item frames (fuel - v.summary.units) (fuel - c.units.result) (depth + v.frames + 1) (depth + x.frames + 1) (call_of call) (W.after_enter s) (state c.enter.new.self) r old early mid kept l ran
    (omega arith) (omega arith) start (ap (λ (n : Arena _). n.nodes) none.2) c.in_ok-ran.ensures.ran in
    let w = c.absorb.new.walk in
    let new = c.absorb.new.arena.nodes in
    let u = state c.leave.new.self in
    let k = c.in_ok-absorb.ensures in
    let A : Walk g.row.M-Local.Denot g.row.M-Key.Denot g.row.M-Value.Denot → Type 0 = λ y. Absorbs mid new y.node.0 ran.walk.node.0 in
    let absorbs : Absorbs mid new v.node.0 ran.walk.node.0 = subst A none.1 k.absorbed in
    let B : Walk g.row.M-Local.Denot g.row.M-Key.Denot g.row.M-Value.Denot → Type 0 = λ y. w.summary ≡ joined rebased y.frames y.summary ran.walk.summary in
    let summary : w.summary ≡ joined rebased v.frames v.summary ran.walk.summary = subst B none.1 k.joined in
    let node : w.node ≡ v.node = k.kept.0 ∙ ap (λ (y : Walk g.row.M-Local.Denot g.row.M-Key.Denot g.row.M-Value.Denot). y.node) none.1 in
    let local : w.local ≡ v.local = k.kept.1 ∙ ap (λ (y : Walk g.row.M-Local.Denot g.row.M-Key.Denot g.row.M-Value.Denot). y.local) none.1 in
    let inside : w.frames ≡ v.frames = k.kept.2 ∙ open_frames in
    ran_joins M W rebased call_of place item frames g.M.AskMachine.moving g.M.AskMachine.writable g.M.AskMachine.quiet g.met.M.AskMachine.modest c.requires.fits fuel depth v w call s r u old mid new kept l c.keep_outcome.new.memo ran c.requires.sound c.requires.room is_run absorbs summary node local inside c.leave.ensures

pub run_within-returns-clause-went : goal.run_within-returns-clause-went
run_within-returns-clause-went g t c =
    let M = g.M.AskMachine.model in
    let W = g.W.World.model in
    let rebased = g.M.AskMachine.rebased in
    let call_of = g.M.AskMachine.call_of in
    let place = g.M.AskMachine.place in
    let item = g.M.AskMachine.item_of in
    let frames = g.M.AskMachine.frames_of in
    let value = g.M.Value.Kept.code in
    let code = g.M.Call.Kept.code in
    let number = g.M.AskMachine.number in
    let state = g.W.World.state in
    let fuel = c.args.fuel in
    let depth = c.args.depth in
    let v = c.args.walk.now in
    let old = c.args.arena.now.nodes in
    let kept = c.args.memo.now in
    let s = state c.args.world.now in
    let e = c.in_ok-taken.ensures in
    let none = e.none c.in_default.is in
    let x = c.reuse_within.new.walk in
    let units : c.units.result ≡ v.summary.units = c.units.ensures ∙ ap (λ (y : Walk g.row.M-Local.Denot g.row.M-Key.Denot g.row.M-Value.Denot). y.summary.units) none.1 in
    let open_frames : x.frames ≡ v.frames = ap (λ (y : Walk g.row.M-Local.Denot g.row.M-Key.Denot g.row.M-Value.Denot). y.frames) none.1 in
    let le = c.requires.sound.units in
    let room = c.requires.room in
    let call = code c.args.call in
    let ran = c.in_ok-ran.ran in
    let mid = c.run_call.new.arena.nodes in
    let l = c.run_call.new.memo in
    let r = state c.run_call.new.world in
    let early = c.reuse_within.new.arena.nodes in
    let start = c.enter.ensures ∙ ap W.after_enter none.0 in
    let is_run : IsRun M W rebased call_of {K = g.row.M-Key.Denot} {V = g.row.M-Value.Denot} place item frames (fuel - v.summary.units) (depth + v.frames + 1) (call_of call) (W.after_enter s) r old mid kept l ran =
    run_as M W rebased call_of place item frames (fuel - v.summary.units) (fuel - c.units.result) (depth + v.frames + 1) (depth + x.frames + 1) (call_of call) (W.after_enter s) (state c.enter.new.self) r old early mid kept l ran
    (omega arith) (omega arith) start (ap (λ (n : Arena _). n.nodes) none.2) c.in_ok-ran.ensures.ran in
    let w = c.absorb.new.walk in
    let new = c.absorb.new.arena.nodes in
    let u = state c.leave.new.self in
    let k = c.in_ok-absorb.ensures in
    let A : Walk g.row.M-Local.Denot g.row.M-Key.Denot g.row.M-Value.Denot → Type 0 = λ y. Absorbs mid new y.node.0 ran.walk.node.0 in
    let absorbs : Absorbs mid new v.node.0 ran.walk.node.0 = subst A none.1 k.absorbed in
    let B : Walk g.row.M-Local.Denot g.row.M-Key.Denot g.row.M-Value.Denot → Type 0 = λ y. w.summary ≡ joined rebased y.frames y.summary ran.walk.summary in
    let summary : w.summary ≡ joined rebased v.frames v.summary ran.walk.summary = subst B none.1 k.joined in
    let node : w.node ≡ v.node = k.kept.0 ∙ ap (λ (y : Walk g.row.M-Local.Denot g.row.M-Key.Denot g.row.M-Value.Denot). y.node) none.1 in
    let local : w.local ≡ v.local = k.kept.1 ∙ ap (λ (y : Walk g.row.M-Local.Denot g.row.M-Key.Denot g.row.M-Value.Denot). y.local) none.1 in
    let inside : w.frames ≡ v.frames = k.kept.2 ∙ open_frames in
    let same : c.keep_outcome.new.memo ≡ with_outcome l (record { call = call; depth = depth + v.frames + 1; node = ran.walk.node.0; ended = ending_of ran.close.ended; summary = ran.walk.summary }) =
    c.in_ok-keep_outcome.ensures ∙ ap (λ d. with_outcome l (record { call = call; depth = d + 1; node = ran.walk.node.0; ended = ending_of ran.close.ended; summary = ran.walk.summary })) (let z : depth + x.frames ≡ depth + v.frames = ap (λ n. depth + n) open_frames in z) in
    ran_went M W rebased call_of place item frames g.M.AskMachine.moving g.M.AskMachine.writable g.M.AskMachine.quiet g.met.M.AskMachine.modest c.requires.fits fuel depth v w call s r u old mid new kept l c.keep_outcome.new.memo ran c.requires.sound c.requires.room is_run absorbs summary node local inside c.leave.ensures same

pub run_within-returns-clause-makes : goal.run_within-returns-clause-makes
run_within-returns-clause-makes g t c =
    let M = g.M.AskMachine.model in
    let W = g.W.World.model in
    let rebased = g.M.AskMachine.rebased in
    let call_of = g.M.AskMachine.call_of in
    let place = g.M.AskMachine.place in
    let item = g.M.AskMachine.item_of in
    let frames = g.M.AskMachine.frames_of in
    let value = g.M.Value.Kept.code in
    let code = g.M.Call.Kept.code in
    let number = g.M.AskMachine.number in
    let state = g.W.World.state in
    let fuel = c.args.fuel in
    let depth = c.args.depth in
    let v = c.args.walk.now in
    let old = c.args.arena.now.nodes in
    let kept = c.args.memo.now in
    let s = state c.args.world.now in
    let e = c.in_ok-taken.ensures in
    let none = e.none c.in_default.is in
    let x = c.reuse_within.new.walk in
    let units : c.units.result ≡ v.summary.units = c.units.ensures ∙ ap (λ (y : Walk g.row.M-Local.Denot g.row.M-Key.Denot g.row.M-Value.Denot). y.summary.units) none.1 in
    let open_frames : x.frames ≡ v.frames = ap (λ (y : Walk g.row.M-Local.Denot g.row.M-Key.Denot g.row.M-Value.Denot). y.frames) none.1 in
    let le = c.requires.sound.units in
    let room = c.requires.room in
    let call = code c.args.call in
    let ran = c.in_ok-ran.ran in
    let mid = c.run_call.new.arena.nodes in
    let l = c.run_call.new.memo in
    let r = state c.run_call.new.world in
    let early = c.reuse_within.new.arena.nodes in
    let start = c.enter.ensures ∙ ap W.after_enter none.0 in
    let is_run : IsRun M W rebased call_of {K = g.row.M-Key.Denot} {V = g.row.M-Value.Denot} place item frames (fuel - v.summary.units) (depth + v.frames + 1) (call_of call) (W.after_enter s) r old mid kept l ran =
    run_as M W rebased call_of place item frames (fuel - v.summary.units) (fuel - c.units.result) (depth + v.frames + 1) (depth + x.frames + 1) (call_of call) (W.after_enter s) (state c.enter.new.self) r old early mid kept l ran
    (omega arith) (omega arith) start (ap (λ (n : Arena _). n.nodes) none.2) c.in_ok-ran.ensures.ran in
    let w = c.absorb.new.walk in
    let new = c.absorb.new.arena.nodes in
    let u = state c.leave.new.self in
    let k = c.in_ok-absorb.ensures in
    let A : Walk g.row.M-Local.Denot g.row.M-Key.Denot g.row.M-Value.Denot → Type 0 = λ y. Absorbs mid new y.node.0 ran.walk.node.0 in
    let absorbs : Absorbs mid new v.node.0 ran.walk.node.0 = subst A none.1 k.absorbed in
    let B : Walk g.row.M-Local.Denot g.row.M-Key.Denot g.row.M-Value.Denot → Type 0 = λ y. w.summary ≡ joined rebased y.frames y.summary ran.walk.summary in
    let summary : w.summary ≡ joined rebased v.frames v.summary ran.walk.summary = subst B none.1 k.joined in
    let node : w.node ≡ v.node = k.kept.0 ∙ ap (λ (y : Walk g.row.M-Local.Denot g.row.M-Key.Denot g.row.M-Value.Denot). y.node) none.1 in
    let local : w.local ≡ v.local = k.kept.1 ∙ ap (λ (y : Walk g.row.M-Local.Denot g.row.M-Key.Denot g.row.M-Value.Denot). y.local) none.1 in
    let inside : w.frames ≡ v.frames = k.kept.2 ∙ open_frames in
    let before = moment_at M W {K = g.row.M-Key.Denot} {V = g.row.M-Value.Denot} place item v Nothing s old in
    let after = moment_at M W {K = g.row.M-Key.Denot} {V = g.row.M-Value.Denot} place item x Returned (state c.reuse_within.new.world) c.reuse_within.new.arena.nodes in
    let inner = depth + v.frames + 1 in
    let F : Option Ended → Type 0 = λ o. MatchOption o (NoneHolds W (W.after_enter s) (fuel - v.summary.units) inner call kept)
    (λ i. JoinsIn M W rebased fuel depth (call_of call) before after (ending_of i) []) in
    let nobody : F None = subst F c.in_default.is e.joins in
    let units_more : w.summary.units ≡ v.summary.units + ran.walk.summary.units = ap (λ (z : CallSummary). z.units) summary in
    let same = e.made in
    let absorbed_made = k.made in
    λ some in_base.
    let covered = makes_covered M W call_of (depth + x.frames + 1) some (fuel - c.units.result) rebased (call_of call) (state c.enter.new.self) _ c.in_ok-ran.ensures.ran.comes
    (c.run_call.new.arena.made - c.reuse_within.new.arena.made) (c.in_ok-ran.ensures.makes some in_base) in
    call_ran W (W.after_enter s) (fuel - v.summary.units) inner call_of some kept call (w.summary.units - v.summary.units) (c.absorb.new.arena.made - c.args.arena.now.made) in_base nobody (omega arith)
