use Rattle.std.proofs.Common.{◌≡◌, ◌≢◌, ℕ, ◌+◌, ◌-◌, [], Option, Some, None, MatchOption, map, refl, sym, ap, ◌∙◌, subst, arith}
use Rattle.trace_arena.specs.Nodes.{Arena, IsLive, IsUnshared}
use Rattle.asking_core.specs.Worlds.{moved}
use Rattle.asking_core.specs.Machines.{Nothing, Returned}
use Rattle.kept_outcomes.specs.Moments.{Finish, begun, come_back}
use Rattle.kept_outcomes.proofs.Stands.{levels_le}
use Rattle.expansion_memo.specs.Kept.{KeptOutcome, HoldsOf, HoldsThere, NoneHolds, Stands, AllStand, points_by}
use Rattle.expansion_memo.specs.Entries.{kept_by}
use Rattle.expansion_memo.specs.Walks.{moment_at}
use Rattle.expansion_memo.proofs.Walking.{same_moment}
use Rattle.expansion_memo.proofs.Reused.{taken, stand_linked, linked_points, linked_last}
use Rattle.expansion_memo.proofs.within.reuse_within.Goals as goal

pub returns-in_default-clause-joins : goal.returns-in_default-clause-joins
returns-in_default-clause-joins g c =
    let W = g.W.World.model in
    let s = g.W.World.state c.args.world.now in
    let call = g.M.Call.Kept.code c.args.call.now in
    let walk = c.args.walk.now in
    let inner = c.args.depth + walk.frames + 1 in
    let F : Option ℕ → W.State → ℕ → Type 0 = λ r t n. MatchOption r (NoneHolds W t n inner call c.args.memo.now) (HoldsThere W t n inner call c.args.memo.now) in
    let left : c.args.fuel - c.units.result ≡ c.args.fuel - walk.summary.units = ap (λ n. c.args.fuel - n) c.units.ensures in
    subst (F None (W.after_enter s)) left
    (subst (λ t. F None t (c.args.fuel - c.units.result)) c.enter.ensures
    (subst (λ r. F r (g.W.World.state c.enter.new.self) (c.args.fuel - c.units.result)) c.in_default.is c.in_ok-place.ensures.found))

pub returns-in_default-clause-none : goal.returns-in_default-clause-none
returns-in_default-clause-none g c = λ _.
    let W = g.W.World.model in
    (c.leave.ensures ∙ ap W.after_leave (c.in_ok-place.ensures.kept ∙ c.enter.ensures) ∙ c.requires.fits.leave_enter (g.W.World.state c.args.world.now), refl, refl)

pub unreachable-requires : goal.unreachable-requires
unreachable-requires g c =
    let W = g.W.World.model in
    let s = g.W.World.state c.args.world.now in
    let call = g.M.Call.Kept.code c.args.call.now in
    let walk = c.args.walk.now in
    let inner = c.args.depth + walk.frames + 1 in
    let F : Option ℕ → W.State → ℕ → Type 0 = λ r t n. MatchOption r (NoneHolds W t n inner call c.args.memo.now) (HoldsThere W t n inner call c.args.memo.now) in
    let left : c.args.fuel - c.units.result ≡ c.args.fuel - walk.summary.units = ap (λ n. c.args.fuel - n) c.units.ensures in
    let there : F (Some c.in-Some.place) (W.after_enter s) (c.args.fuel - walk.summary.units) =
    subst (F (Some c.in-Some.place) (W.after_enter s)) left
    (subst (λ t. F (Some c.in-Some.place) t (c.args.fuel - c.units.result)) c.enter.ensures
    (subst (λ r. F r (g.W.World.state c.enter.new.self) (c.args.fuel - c.units.result)) c.in-Some.is c.in_ok-place.ensures.found)) in
    let e : ◌≡◌ {A = Option KeptOutcome} None (Some there.outcome) = c.in_default-entry.ensures ∙ there.at in
    cc

pub unreachable-unreachable : goal.unreachable-unreachable
unreachable-unreachable g c = c.unreachable.result

pub link-requires-clause-live : goal.link-requires-clause-live
link-requires-clause-live g c =
    let W = g.W.World.model in
    let s = g.W.World.state c.args.world.now in
    let call = g.M.Call.Kept.code c.args.call.now in
    let walk = c.args.walk.now in
    let inner = c.args.depth + walk.frames + 1 in
    let F : Option ℕ → W.State → ℕ → Type 0 = λ r t n. MatchOption r (NoneHolds W t n inner call c.args.memo.now) (HoldsThere W t n inner call c.args.memo.now) in
    let left : c.args.fuel - c.units.result ≡ c.args.fuel - walk.summary.units = ap (λ n. c.args.fuel - n) c.units.ensures in
    let there : F (Some c.in-Some.place) (W.after_enter s) (c.args.fuel - walk.summary.units) =
    subst (F (Some c.in-Some.place) (W.after_enter s)) left
    (subst (λ t. F (Some c.in-Some.place) t (c.args.fuel - c.units.result)) c.enter.ensures
    (subst (λ r. F r (g.W.World.state c.enter.new.self) (c.args.fuel - c.units.result)) c.in-Some.is c.in_ok-place.ensures.found)) in
    let k : KeptOutcome = kept_by g.M.Call.Kept.code c.in-Some-entry.entry.now in
    let here : ◌≡◌ {A = Option KeptOutcome} (Some k) (Some there.outcome) = c.in-Some-entry.ensures ∙ there.at in
    let same : k ≡ there.outcome = cc in
    let L : KeptOutcome → Type 0 = λ o. IsLive c.args.arena.now.nodes o.node in
    subst L (sym same) (c.requires.stand c.in-Some.place there.outcome there.at).live

pub link-requires-clause-other : goal.link-requires-clause-other
link-requires-clause-other g c =
    let W = g.W.World.model in
    let s = g.W.World.state c.args.world.now in
    let call = g.M.Call.Kept.code c.args.call.now in
    let walk = c.args.walk.now in
    let inner = c.args.depth + walk.frames + 1 in
    let F : Option ℕ → W.State → ℕ → Type 0 = λ r t n. MatchOption r (NoneHolds W t n inner call c.args.memo.now) (HoldsThere W t n inner call c.args.memo.now) in
    let left : c.args.fuel - c.units.result ≡ c.args.fuel - walk.summary.units = ap (λ n. c.args.fuel - n) c.units.ensures in
    let there : F (Some c.in-Some.place) (W.after_enter s) (c.args.fuel - walk.summary.units) =
    subst (F (Some c.in-Some.place) (W.after_enter s)) left
    (subst (λ t. F (Some c.in-Some.place) t (c.args.fuel - c.units.result)) c.enter.ensures
    (subst (λ r. F r (g.W.World.state c.enter.new.self) (c.args.fuel - c.units.result)) c.in-Some.is c.in_ok-place.ensures.found)) in
    let k : KeptOutcome = kept_by g.M.Call.Kept.code c.in-Some-entry.entry.now in
    let here : ◌≡◌ {A = Option KeptOutcome} (Some k) (Some there.outcome) = c.in-Some-entry.ensures ∙ there.at in
    let same : k ≡ there.outcome = cc in
    let D : KeptOutcome → Type 0 = λ o. o.node ≢ walk.node.0 in
    subst D (sym same) (c.requires.apart c.in-Some.place there.outcome there.at)

pub join-requires-clause-units : goal.join-requires-clause-units
join-requires-clause-units g c =
    let W = g.W.World.model in
    let s = g.W.World.state c.args.world.now in
    let call = g.M.Call.Kept.code c.args.call.now in
    let walk = c.args.walk.now in
    let inner = c.args.depth + walk.frames + 1 in
    let F : Option ℕ → W.State → ℕ → Type 0 = λ r t n. MatchOption r (NoneHolds W t n inner call c.args.memo.now) (HoldsThere W t n inner call c.args.memo.now) in
    let left : c.args.fuel - c.units.result ≡ c.args.fuel - walk.summary.units = ap (λ n. c.args.fuel - n) c.units.ensures in
    let there : F (Some c.in-Some.place) (W.after_enter s) (c.args.fuel - walk.summary.units) =
    subst (F (Some c.in-Some.place) (W.after_enter s)) left
    (subst (λ t. F (Some c.in-Some.place) t (c.args.fuel - c.units.result)) c.enter.ensures
    (subst (λ r. F r (g.W.World.state c.enter.new.self) (c.args.fuel - c.units.result)) c.in-Some.is c.in_ok-place.ensures.found)) in
    let k : KeptOutcome = kept_by g.M.Call.Kept.code c.in-Some-entry.entry.now in
    let here : ◌≡◌ {A = Option KeptOutcome} (Some k) (Some there.outcome) = c.in-Some-entry.ensures ∙ there.at in
    let same : k ≡ there.outcome = cc in
    let M = g.M.AskMachine.model in
    let item = g.M.AskMachine.item_of in
    let old = c.args.arena.now.nodes in
    let Stood : KeptOutcome → Type 0 = Stands M g.M.AskMachine.rebased g.M.AskMachine.call_of item old in
    let Held : KeptOutcome → Type 0 = HoldsOf W (W.after_enter s) (c.args.fuel - walk.summary.units) inner call in
    let stands : Stood k = subst Stood (sym same) (c.requires.stand c.in-Some.place there.outcome there.at) in
    let holds : Held k = subst Held (sym same) there.holds in
    let covered = holds.holds.covered in
    let fits = c.ranges.fuel.fits in
    let units = c.requires.units in
    omega arith

pub join-requires-clause-levels : goal.join-requires-clause-levels
join-requires-clause-levels g c =
    let W = g.W.World.model in
    let s = g.W.World.state c.args.world.now in
    let call = g.M.Call.Kept.code c.args.call.now in
    let walk = c.args.walk.now in
    let inner = c.args.depth + walk.frames + 1 in
    let F : Option ℕ → W.State → ℕ → Type 0 = λ r t n. MatchOption r (NoneHolds W t n inner call c.args.memo.now) (HoldsThere W t n inner call c.args.memo.now) in
    let left : c.args.fuel - c.units.result ≡ c.args.fuel - walk.summary.units = ap (λ n. c.args.fuel - n) c.units.ensures in
    let there : F (Some c.in-Some.place) (W.after_enter s) (c.args.fuel - walk.summary.units) =
    subst (F (Some c.in-Some.place) (W.after_enter s)) left
    (subst (λ t. F (Some c.in-Some.place) t (c.args.fuel - c.units.result)) c.enter.ensures
    (subst (λ r. F r (g.W.World.state c.enter.new.self) (c.args.fuel - c.units.result)) c.in-Some.is c.in_ok-place.ensures.found)) in
    let k : KeptOutcome = kept_by g.M.Call.Kept.code c.in-Some-entry.entry.now in
    let here : ◌≡◌ {A = Option KeptOutcome} (Some k) (Some there.outcome) = c.in-Some-entry.ensures ∙ there.at in
    let same : k ≡ there.outcome = cc in
    let M = g.M.AskMachine.model in
    let item = g.M.AskMachine.item_of in
    let old = c.args.arena.now.nodes in
    let Stood : KeptOutcome → Type 0 = Stands M g.M.AskMachine.rebased g.M.AskMachine.call_of item old in
    let Held : KeptOutcome → Type 0 = HoldsOf W (W.after_enter s) (c.args.fuel - walk.summary.units) inner call in
    let stands : Stood k = subst Stood (sym same) (c.requires.stand c.in-Some.place there.outcome there.at) in
    let holds : Held k = subst Held (sym same) there.holds in
    let comes = taken M g.M.AskMachine.rebased g.M.AskMachine.call_of item W g.M.AskMachine.moving g.M.AskMachine.writable g.M.AskMachine.quiet
    g.met.M.AskMachine.modest c.requires.fits old k stands (W.after_enter s) (c.args.fuel - walk.summary.units) inner call holds in
    let child : Finish M W = record {
      ended = k.ended;
      state = moved W (W.after_enter s) k.summary.puts k.summary.calls;
      points = points_by item old k.node;
      summary = k.summary;
      wanting = [];
    } in
    let room = c.requires.room in
    let deep = levels_le M W g.M.AskMachine.rebased (c.args.fuel - walk.summary.units) inner (begun M W (g.M.AskMachine.call_of call) (W.after_enter s)) child comes (omega arith) (omega arith) in
    omega arith

pub returns-in_err-link-clause-stand : goal.returns-in_err-link-clause-stand
returns-in_err-link-clause-stand g c =
    let S : Arena _ → Type 0 = λ a. AllStand g.M.AskMachine.model g.M.AskMachine.rebased g.M.AskMachine.call_of g.M.AskMachine.item_of a.nodes c.args.memo.now in
    subst S (sym c.in_err-link.ensures.refused) c.requires.stand

pub returns-in_err-link-clause-unshared : goal.returns-in_err-link-clause-unshared
returns-in_err-link-clause-unshared g c =
    let S : Arena _ → Type 0 = λ a. IsUnshared a.nodes c.args.walk.now.node.0 in
    subst S (sym c.in_err-link.ensures.refused) c.requires.unshared

pub returns-in_err-join-clause-stand : goal.returns-in_err-join-clause-stand
returns-in_err-join-clause-stand g c =
    stand_linked g.M.AskMachine.model g.M.AskMachine.rebased g.M.AskMachine.call_of g.M.AskMachine.item_of c.args.arena.now.nodes c.link.new.self.nodes
    c.args.walk.now.node.0 c.in-Some-entry.entry.now.node.0 c.args.memo.now c.requires.apart c.in_ok-link.ensures.linked c.requires.stand

pub returns-in_err-join-clause-unshared : goal.returns-in_err-join-clause-unshared
returns-in_err-join-clause-unshared g c = c.in_ok-link.ensures.linked.unshared

pub returns-clause-stand : goal.returns-clause-stand
returns-clause-stand g c =
    stand_linked g.M.AskMachine.model g.M.AskMachine.rebased g.M.AskMachine.call_of g.M.AskMachine.item_of c.args.arena.now.nodes c.link.new.self.nodes
    c.args.walk.now.node.0 c.in-Some-entry.entry.now.node.0 c.args.memo.now c.requires.apart c.in_ok-link.ensures.linked c.requires.stand

pub returns-clause-unshared : goal.returns-clause-unshared
returns-clause-unshared g c = c.in_ok-link.ensures.linked.unshared

pub returns-clause-joins : goal.returns-clause-joins
returns-clause-joins g c =
    let W = g.W.World.model in
    let s = g.W.World.state c.args.world.now in
    let call = g.M.Call.Kept.code c.args.call.now in
    let walk = c.args.walk.now in
    let inner = c.args.depth + walk.frames + 1 in
    let F : Option ℕ → W.State → ℕ → Type 0 = λ r t n. MatchOption r (NoneHolds W t n inner call c.args.memo.now) (HoldsThere W t n inner call c.args.memo.now) in
    let left : c.args.fuel - c.units.result ≡ c.args.fuel - walk.summary.units = ap (λ n. c.args.fuel - n) c.units.ensures in
    let there : F (Some c.in-Some.place) (W.after_enter s) (c.args.fuel - walk.summary.units) =
    subst (F (Some c.in-Some.place) (W.after_enter s)) left
    (subst (λ t. F (Some c.in-Some.place) t (c.args.fuel - c.units.result)) c.enter.ensures
    (subst (λ r. F r (g.W.World.state c.enter.new.self) (c.args.fuel - c.units.result)) c.in-Some.is c.in_ok-place.ensures.found)) in
    let k : KeptOutcome = kept_by g.M.Call.Kept.code c.in-Some-entry.entry.now in
    let here : ◌≡◌ {A = Option KeptOutcome} (Some k) (Some there.outcome) = c.in-Some-entry.ensures ∙ there.at in
    let same : k ≡ there.outcome = cc in
    let M = g.M.AskMachine.model in
    let item = g.M.AskMachine.item_of in
    let old = c.args.arena.now.nodes in
    let Stood : KeptOutcome → Type 0 = Stands M g.M.AskMachine.rebased g.M.AskMachine.call_of item old in
    let Held : KeptOutcome → Type 0 = HoldsOf W (W.after_enter s) (c.args.fuel - walk.summary.units) inner call in
    let stands : Stood k = subst Stood (sym same) (c.requires.stand c.in-Some.place there.outcome there.at) in
    let holds : Held k = subst Held (sym same) there.holds in
    let comes = taken M g.M.AskMachine.rebased g.M.AskMachine.call_of item W g.M.AskMachine.moving g.M.AskMachine.writable g.M.AskMachine.quiet
    g.met.M.AskMachine.modest c.requires.fits old k stands (W.after_enter s) (c.args.fuel - walk.summary.units) inner call holds in
    let child : Finish M W = record {
      ended = k.ended;
      state = moved W (W.after_enter s) k.summary.puts k.summary.calls;
      points = points_by item old k.node;
      summary = k.summary;
      wanting = [];
    } in
    let new = c.link.new.self.nodes in
    let before = moment_at M W g.M.AskMachine.place item walk Nothing s old in
    let after = moment_at M W {K = g.row.M-Key.Denot} {V = g.row.M-Value.Denot} g.M.AskMachine.place item
    (record { local = walk.local; node = walk.node; summary = c.join.new.self; frames = walk.frames }) Returned (g.W.World.state c.leave-2.new.self) new in
    let inside : g.W.World.state c.find.new.world ≡ W.after_enter s = c.in_ok-place.ensures.kept ∙ c.enter.ensures in
    let state : after.state ≡ W.after_leave child.state =
    c.leave-2.ensures ∙ ap W.after_leave (c.in_ok-replay.ensures ∙ ap (λ t. moved W t k.summary.puts k.summary.calls) inside) in
    record {
      child = child;
      comes = comes;
      after_is = same_moment M W after (come_back g.M.AskMachine.rebased before child) refl refl state
          (linked_points item old new walk.node.0 k.node c.in_ok-link.ensures.linked)
          (ap (map item) (linked_last old new walk.node.0 k.node c.in_ok-link.ensures.linked))
          c.in_ok-join.ensures refl;
      ended_is = refl;
      wanting_is = refl;
    }
