use Rattle.std.proofs.Common.{◌≡◌, ℕ, ◌+◌, ◌-◌, Option, Some, None, MatchOption, IfSome, List, refl, sym, ap, ◌∙◌, subst, arith}
use Rattle.kept_values.specs.Trees.{Tree}
use Rattle.trace_arena.specs.Nodes.{Arena, node_at}
use Rattle.trace_arena.specs.Changes.{Recounts}
use Rattle.expansion_memo.specs.declared.outcome.Outcome.{Outcome}
use Rattle.expansion_memo.specs.Kept.{KeptOutcome, kept_at, AllStand, NoneHolds}
use Rattle.expansion_memo.specs.Entries.{ending_of}
use Rattle.expansion_memo.specs.Reuse.{ComesTo}
use Rattle.expansion_memo.specs.Running.{IsRun, HoldsSomewhere, with_outcome}
use Rattle.kept_outcomes.specs.Moments.{begun}
use Rattle.expansion_memo.specs.Records.{Makes}
use Rattle.expansion_memo.proofs.Making.{makes_nothing}
use Rattle.expansion_memo.proofs.RunParts.{free_handed, recount_handed, run_kept, run_held, run_as, still_with}
use Rattle.expansion_memo.proofs.memo.Memo.expand.Goals as goal

pub returns-in-Some-clause-handed : goal.returns-in-Some-clause-handed
returns-in-Some-clause-handed g c =
    let M = g.M.AskMachine.model in
    let W = g.W.World.model in
    let rebased = g.M.AskMachine.rebased in
    let call_of = g.M.AskMachine.call_of in
    let place = g.M.AskMachine.place in
    let item = g.M.AskMachine.item_of in
    let frames = g.M.AskMachine.frames_of in
    let fuel = c.args.fuel in
    let depth = c.args.depth in
    let call = g.M.Call.Kept.code c.args.call.now in
    let s = g.W.World.state c.args.world.now in
    let old = c.args.arena.now.nodes in
    let kept = c.args.self.now in
    let e = c.in_ok-taken.ensures in
    let F : Option (Outcome g.row.M-Frames.Denot) → Type 0 = λ r. MatchOption r (NoneHolds W s fuel depth call kept)
    (λ o. ComesTo M W rebased item frames fuel depth (call_of call) s (g.W.World.state c.reuse.new.world) c.reuse.new.arena.nodes o) in
    let R : Option (Outcome g.row.M-Frames.Denot) → Type 0 = λ r. IfSome r (λ o. Recounts old c.reuse.new.arena.nodes o.node.0 ((node_at old o.node.0).owners + 1)) in
    let r : R (Some c.in-Some.outcome) = subst R c.in-Some.is e.owned in
    recount_handed old c.reuse.new.arena.nodes c.in-Some.outcome.node.0 c.arena_is_whole.ensures.whole r

pub returns-clause-comes : goal.returns-clause-comes
returns-clause-comes g c =
    let M = g.M.AskMachine.model in
    let W = g.W.World.model in
    let rebased = g.M.AskMachine.rebased in
    let call_of = g.M.AskMachine.call_of in
    let place = g.M.AskMachine.place in
    let item = g.M.AskMachine.item_of in
    let frames = g.M.AskMachine.frames_of in
    let fuel = c.args.fuel in
    let depth = c.args.depth in
    let call = g.M.Call.Kept.code c.args.call.now in
    let s = g.W.World.state c.args.world.now in
    let old = c.args.arena.now.nodes in
    let kept = c.args.self.now in
    let e = c.in_ok-taken.ensures in
    let F : Option (Outcome g.row.M-Frames.Denot) → Type 0 = λ r. MatchOption r (NoneHolds W s fuel depth call kept)
    (λ o. ComesTo M W rebased item frames fuel depth (call_of call) s (g.W.World.state c.reuse.new.world) c.reuse.new.arena.nodes o) in
    let none = e.none c.in_default.is in
    let ran = c.in_ok-ran.ran in
    let new = c.run_call.new.arena.nodes in
    let l = c.run_call.new.memo in
    let t = g.W.World.state c.run_call.new.world in
    let is_run : IsRun M W rebased call_of {K = g.row.M-Key.Denot} {V = g.row.M-Value.Denot} place item frames fuel depth (call_of call) s t old new kept l ran =
    run_as M W rebased call_of place item frames fuel fuel depth depth (call_of call) s (g.W.World.state c.reuse.new.world) t old c.reuse.new.arena.nodes new kept l ran
    refl refl none.0 (ap (λ (n : Arena _). n.nodes) none.1) c.in_ok-ran.ensures.ran in
    record { summary = ran.walk.summary; comes = is_run.comes; cost_is = sym c.units-cost.ensures }

pub returns-clause-records : goal.returns-clause-records
returns-clause-records g c =
    let M = g.M.AskMachine.model in
    let W = g.W.World.model in
    let rebased = g.M.AskMachine.rebased in
    let call_of = g.M.AskMachine.call_of in
    let place = g.M.AskMachine.place in
    let item = g.M.AskMachine.item_of in
    let frames = g.M.AskMachine.frames_of in
    let fuel = c.args.fuel in
    let depth = c.args.depth in
    let call = g.M.Call.Kept.code c.args.call.now in
    let s = g.W.World.state c.args.world.now in
    let old = c.args.arena.now.nodes in
    let kept = c.args.self.now in
    let e = c.in_ok-taken.ensures in
    let F : Option (Outcome g.row.M-Frames.Denot) → Type 0 = λ r. MatchOption r (NoneHolds W s fuel depth call kept)
    (λ o. ComesTo M W rebased item frames fuel depth (call_of call) s (g.W.World.state c.reuse.new.world) c.reuse.new.arena.nodes o) in
    let none = e.none c.in_default.is in
    let ran = c.in_ok-ran.ran in
    let new = c.run_call.new.arena.nodes in
    let l = c.run_call.new.memo in
    let t = g.W.World.state c.run_call.new.world in
    let is_run : IsRun M W rebased call_of {K = g.row.M-Key.Denot} {V = g.row.M-Value.Denot} place item frames fuel depth (call_of call) s t old new kept l ran =
    run_as M W rebased call_of place item frames fuel fuel depth depth (call_of call) s (g.W.World.state c.reuse.new.world) t old c.reuse.new.arena.nodes new kept l ran
    refl refl none.0 (ap (λ (n : Arena _). n.nodes) none.1) c.in_ok-ran.ensures.ran in
    let start : g.W.World.state c.reuse.new.world ≡ s = none.0 in
    let same : c.reuse.new.arena.made ≡ c.args.arena.now.made = ap (λ (n : Arena _). n.made) none.1 in
    let P : W.State → ℕ → Type 0 = λ x n. Makes M W call_of kept fuel depth (begun M W (call_of call) x) (c.run_call.new.arena.made - n) in
    subst (λ x. P x c.args.arena.now.made) start (subst (λ n. P (g.W.World.state c.reuse.new.world) n) same (c.in_ok-ran.ensures.makes kept (λ i o at. at)))

pub returns-clause-handed : goal.returns-clause-handed
returns-clause-handed g c =
    let M = g.M.AskMachine.model in
    let W = g.W.World.model in
    let rebased = g.M.AskMachine.rebased in
    let call_of = g.M.AskMachine.call_of in
    let place = g.M.AskMachine.place in
    let item = g.M.AskMachine.item_of in
    let frames = g.M.AskMachine.frames_of in
    let fuel = c.args.fuel in
    let depth = c.args.depth in
    let call = g.M.Call.Kept.code c.args.call.now in
    let s = g.W.World.state c.args.world.now in
    let old = c.args.arena.now.nodes in
    let kept = c.args.self.now in
    let e = c.in_ok-taken.ensures in
    let F : Option (Outcome g.row.M-Frames.Denot) → Type 0 = λ r. MatchOption r (NoneHolds W s fuel depth call kept)
    (λ o. ComesTo M W rebased item frames fuel depth (call_of call) s (g.W.World.state c.reuse.new.world) c.reuse.new.arena.nodes o) in
    let none = e.none c.in_default.is in
    let ran = c.in_ok-ran.ran in
    let new = c.run_call.new.arena.nodes in
    let l = c.run_call.new.memo in
    let t = g.W.World.state c.run_call.new.world in
    let is_run : IsRun M W rebased call_of {K = g.row.M-Key.Denot} {V = g.row.M-Value.Denot} place item frames fuel depth (call_of call) s t old new kept l ran =
    run_as M W rebased call_of place item frames fuel fuel depth depth (call_of call) s (g.W.World.state c.reuse.new.world) t old c.reuse.new.arena.nodes new kept l ran
    refl refl none.0 (ap (λ (n : Arena _). n.nodes) none.1) c.in_ok-ran.ensures.ran in
    free_handed old new ran.walk.node.0 kept l is_run.was_free is_run.underway is_run.others

pub returns-clause-stand : goal.returns-clause-stand
returns-clause-stand g c =
    let M = g.M.AskMachine.model in
    let W = g.W.World.model in
    let rebased = g.M.AskMachine.rebased in
    let call_of = g.M.AskMachine.call_of in
    let place = g.M.AskMachine.place in
    let item = g.M.AskMachine.item_of in
    let frames = g.M.AskMachine.frames_of in
    let fuel = c.args.fuel in
    let depth = c.args.depth in
    let call = g.M.Call.Kept.code c.args.call.now in
    let s = g.W.World.state c.args.world.now in
    let old = c.args.arena.now.nodes in
    let kept = c.args.self.now in
    let e = c.in_ok-taken.ensures in
    let F : Option (Outcome g.row.M-Frames.Denot) → Type 0 = λ r. MatchOption r (NoneHolds W s fuel depth call kept)
    (λ o. ComesTo M W rebased item frames fuel depth (call_of call) s (g.W.World.state c.reuse.new.world) c.reuse.new.arena.nodes o) in
    let none = e.none c.in_default.is in
    let ran = c.in_ok-ran.ran in
    let new = c.run_call.new.arena.nodes in
    let l = c.run_call.new.memo in
    let t = g.W.World.state c.run_call.new.world in
    let is_run : IsRun M W rebased call_of {K = g.row.M-Key.Denot} {V = g.row.M-Value.Denot} place item frames fuel depth (call_of call) s t old new kept l ran =
    run_as M W rebased call_of place item frames fuel fuel depth depth (call_of call) s (g.W.World.state c.reuse.new.world) t old c.reuse.new.arena.nodes new kept l ran
    refl refl none.0 (ap (λ (n : Arena _). n.nodes) none.1) c.in_ok-ran.ensures.ran in
    let k : Tree → KeptOutcome = λ x. record { call = x; depth = depth; node = ran.walk.node.0; ended = ending_of ran.close.ended; summary = ran.walk.summary } in
    let same : c.keep_outcome.new.memo ≡ with_outcome l (k call) = c.in_ok-keep_outcome.ensures ∙ ap (λ x. with_outcome l (k x)) c.in_ok-copy.ensures in
    let S : List (Option KeptOutcome) → Type 0 = AllStand M rebased call_of item new in
    subst S (sym same)
    (run_kept M W rebased call_of place item frames g.M.AskMachine.moving g.M.AskMachine.writable g.M.AskMachine.quiet g.met.M.AskMachine.modest c.requires.fits
    fuel depth call s t old new kept l ran is_run)

pub returns-clause-unstepped : goal.returns-clause-unstepped
returns-clause-unstepped g c =
    let M = g.M.AskMachine.model in
    let W = g.W.World.model in
    let rebased = g.M.AskMachine.rebased in
    let call_of = g.M.AskMachine.call_of in
    let place = g.M.AskMachine.place in
    let item = g.M.AskMachine.item_of in
    let frames = g.M.AskMachine.frames_of in
    let fuel = c.args.fuel in
    let depth = c.args.depth in
    let call = g.M.Call.Kept.code c.args.call.now in
    let s = g.W.World.state c.args.world.now in
    let old = c.args.arena.now.nodes in
    let kept = c.args.self.now in
    let e = c.in_ok-taken.ensures in
    let F : Option (Outcome g.row.M-Frames.Denot) → Type 0 = λ r. MatchOption r (NoneHolds W s fuel depth call kept)
    (λ o. ComesTo M W rebased item frames fuel depth (call_of call) s (g.W.World.state c.reuse.new.world) c.reuse.new.arena.nodes o) in
    let nobody : F None = subst F c.in_default.is e.found in
    λ i h. absurd (nobody i h)

pub returns-in-Some-clause-kept : goal.returns-in-Some-clause-kept
returns-in-Some-clause-kept g c =
    let M = g.M.AskMachine.model in
    let W = g.W.World.model in
    let rebased = g.M.AskMachine.rebased in
    let call_of = g.M.AskMachine.call_of in
    let place = g.M.AskMachine.place in
    let item = g.M.AskMachine.item_of in
    let frames = g.M.AskMachine.frames_of in
    let fuel = c.args.fuel in
    let depth = c.args.depth in
    let call = g.M.Call.Kept.code c.args.call.now in
    let s = g.W.World.state c.args.world.now in
    let old = c.args.arena.now.nodes in
    let kept = c.args.self.now in
    let e = c.in_ok-taken.ensures in
    let F : Option (Outcome g.row.M-Frames.Denot) → Type 0 = λ r. MatchOption r (NoneHolds W s fuel depth call kept)
    (λ o. ComesTo M W rebased item frames fuel depth (call_of call) s (g.W.World.state c.reuse.new.world) c.reuse.new.arena.nodes o) in
    let H : Option (Outcome g.row.M-Frames.Denot) → Type 0 = λ r. IfSome r (λ o. HoldsSomewhere W s fuel depth call kept) in
    let h : H (Some c.in-Some.outcome) = subst H c.in-Some.is e.held in
    λ may. h

pub returns-in-Some-clause-records : goal.returns-in-Some-clause-records
returns-in-Some-clause-records g c =
    let M = g.M.AskMachine.model in
    let W = g.W.World.model in
    let rebased = g.M.AskMachine.rebased in
    let call_of = g.M.AskMachine.call_of in
    let place = g.M.AskMachine.place in
    let item = g.M.AskMachine.item_of in
    let frames = g.M.AskMachine.frames_of in
    let fuel = c.args.fuel in
    let depth = c.args.depth in
    let call = g.M.Call.Kept.code c.args.call.now in
    let s = g.W.World.state c.args.world.now in
    let old = c.args.arena.now.nodes in
    let kept = c.args.self.now in
    let e = c.in_ok-taken.ensures in
    let F : Option (Outcome g.row.M-Frames.Denot) → Type 0 = λ r. MatchOption r (NoneHolds W s fuel depth call kept)
    (λ o. ComesTo M W rebased item frames fuel depth (call_of call) s (g.W.World.state c.reuse.new.world) c.reuse.new.arena.nodes o) in
    let found : F (Some c.in-Some.outcome) = subst F c.in-Some.is e.found in
    let same = e.made in
    makes_nothing M W call_of depth kept fuel rebased (begun M W (call_of call) s) _ found.comes (c.reuse.new.arena.made - c.args.arena.now.made) (omega arith)

pub returns-clause-still_kept : goal.returns-clause-still_kept
returns-clause-still_kept g c =
    let M = g.M.AskMachine.model in
    let W = g.W.World.model in
    let rebased = g.M.AskMachine.rebased in
    let call_of = g.M.AskMachine.call_of in
    let place = g.M.AskMachine.place in
    let item = g.M.AskMachine.item_of in
    let frames = g.M.AskMachine.frames_of in
    let fuel = c.args.fuel in
    let depth = c.args.depth in
    let call = g.M.Call.Kept.code c.args.call.now in
    let s = g.W.World.state c.args.world.now in
    let old = c.args.arena.now.nodes in
    let kept = c.args.self.now in
    let e = c.in_ok-taken.ensures in
    let F : Option (Outcome g.row.M-Frames.Denot) → Type 0 = λ r. MatchOption r (NoneHolds W s fuel depth call kept)
    (λ o. ComesTo M W rebased item frames fuel depth (call_of call) s (g.W.World.state c.reuse.new.world) c.reuse.new.arena.nodes o) in
    let none = e.none c.in_default.is in
    let ran = c.in_ok-ran.ran in
    let new = c.run_call.new.arena.nodes in
    let l = c.run_call.new.memo in
    let t = g.W.World.state c.run_call.new.world in
    let is_run : IsRun M W rebased call_of {K = g.row.M-Key.Denot} {V = g.row.M-Value.Denot} place item frames fuel depth (call_of call) s t old new kept l ran =
    run_as M W rebased call_of place item frames fuel fuel depth depth (call_of call) s (g.W.World.state c.reuse.new.world) t old c.reuse.new.arena.nodes new kept l ran
    refl refl none.0 (ap (λ (n : Arena _). n.nodes) none.1) c.in_ok-ran.ensures.ran in
    let k : Tree → KeptOutcome = λ x. record { call = x; depth = depth; node = ran.walk.node.0; ended = ending_of ran.close.ended; summary = ran.walk.summary } in
    let same : c.keep_outcome.new.memo ≡ with_outcome l (k call) = c.in_ok-keep_outcome.ensures ∙ ap (λ x. with_outcome l (k x)) c.in_ok-copy.ensures in
    λ i o at.
    let S : List (Option KeptOutcome) → Type 0 = λ ks. kept_at ks i ≡ Some o in
    subst S (sym same) (still_with l (k call) i o (is_run.others.still i o at))

pub returns-clause-kept : goal.returns-clause-kept
returns-clause-kept g c =
    let M = g.M.AskMachine.model in
    let W = g.W.World.model in
    let rebased = g.M.AskMachine.rebased in
    let call_of = g.M.AskMachine.call_of in
    let place = g.M.AskMachine.place in
    let item = g.M.AskMachine.item_of in
    let frames = g.M.AskMachine.frames_of in
    let fuel = c.args.fuel in
    let depth = c.args.depth in
    let call = g.M.Call.Kept.code c.args.call.now in
    let s = g.W.World.state c.args.world.now in
    let old = c.args.arena.now.nodes in
    let kept = c.args.self.now in
    let e = c.in_ok-taken.ensures in
    let F : Option (Outcome g.row.M-Frames.Denot) → Type 0 = λ r. MatchOption r (NoneHolds W s fuel depth call kept)
    (λ o. ComesTo M W rebased item frames fuel depth (call_of call) s (g.W.World.state c.reuse.new.world) c.reuse.new.arena.nodes o) in
    let none = e.none c.in_default.is in
    let ran = c.in_ok-ran.ran in
    let new = c.run_call.new.arena.nodes in
    let l = c.run_call.new.memo in
    let t = g.W.World.state c.run_call.new.world in
    let is_run : IsRun M W rebased call_of {K = g.row.M-Key.Denot} {V = g.row.M-Value.Denot} place item frames fuel depth (call_of call) s t old new kept l ran =
    run_as M W rebased call_of place item frames fuel fuel depth depth (call_of call) s (g.W.World.state c.reuse.new.world) t old c.reuse.new.arena.nodes new kept l ran
    refl refl none.0 (ap (λ (n : Arena _). n.nodes) none.1) c.in_ok-ran.ensures.ran in
    let k : Tree → KeptOutcome = λ x. record { call = x; depth = depth; node = ran.walk.node.0; ended = ending_of ran.close.ended; summary = ran.walk.summary } in
    let same : c.keep_outcome.new.memo ≡ with_outcome l (k call) = c.in_ok-keep_outcome.ensures ∙ ap (λ x. with_outcome l (k x)) c.in_ok-copy.ensures in
    λ may.
    let S : List (Option KeptOutcome) → Type 0 = HoldsSomewhere W s fuel depth call in
    subst S (sym same)
    (run_held M W rebased call_of place item frames g.M.AskMachine.moving g.M.AskMachine.writable g.M.AskMachine.quiet g.met.M.AskMachine.modest c.requires.fits
    fuel depth call s t old new kept l ran c.requires.depth is_run may)
