use Rattle.std.proofs.Common.{◌≡◌, ℕ, [], Option, Some, None, MatchOption, map, refl, sym, ap, ◌∙◌, subst}
use Rattle.trace_arena.specs.Nodes.{Arena, IsLive}
use Rattle.expansion_memo.specs.Kept.{KeptOutcome, HoldsOf, HoldsThere, NoneHolds, Stands, AllStand, point_by, points_by}
use Rattle.asking_core.specs.Worlds.{moved}
use Rattle.kept_outcomes.specs.Moments.{begun}
use Rattle.expansion_memo.specs.Entries.{kept_by}
use Rattle.expansion_memo.proofs.Reused.{taken, come_to, stand_recount}
use Rattle.expansion_memo.proofs.memo.Memo.reuse.Goals as goal

pub returns-in_default-clause-found : goal.returns-in_default-clause-found
returns-in_default-clause-found g c =
    let W = g.W.World.model in
    let s = g.W.World.state c.args.world.now in
    let call = g.M.Call.Kept.code c.args.call.now in
    let F : Option ℕ → Type 0 = λ r.
    MatchOption r (NoneHolds W s c.args.fuel c.args.depth call c.args.self.now) (HoldsThere W s c.args.fuel c.args.depth call c.args.self.now) in
    subst F c.in_default.is c.in_ok-place.ensures.found

pub returns-in_default-clause-none : goal.returns-in_default-clause-none
returns-in_default-clause-none g c = λ _. (c.in_ok-place.ensures.kept, refl)

pub unreachable-requires : goal.unreachable-requires
unreachable-requires g c =
    let W = g.W.World.model in
    let s = g.W.World.state c.args.world.now in
    let call = g.M.Call.Kept.code c.args.call.now in
    let F : Option ℕ → Type 0 = λ r.
    MatchOption r (NoneHolds W s c.args.fuel c.args.depth call c.args.self.now) (HoldsThere W s c.args.fuel c.args.depth call c.args.self.now) in
    let there : F (Some c.in-Some.place) = subst F c.in-Some.is c.in_ok-place.ensures.found in
    let at = there.at in
    let e : ◌≡◌ {A = Option KeptOutcome} None (Some there.outcome) = c.in_default-entry.ensures ∙ at in
    cc

pub unreachable-unreachable : goal.unreachable-unreachable
unreachable-unreachable g c = c.unreachable.result

pub retain-requires : goal.retain-requires
retain-requires g c =
    let W = g.W.World.model in
    let s = g.W.World.state c.args.world.now in
    let call = g.M.Call.Kept.code c.args.call.now in
    let F : Option ℕ → Type 0 = λ r.
    MatchOption r (NoneHolds W s c.args.fuel c.args.depth call c.args.self.now) (HoldsThere W s c.args.fuel c.args.depth call c.args.self.now) in
    let there : F (Some c.in-Some.place) = subst F c.in-Some.is c.in_ok-place.ensures.found in
    let k : KeptOutcome = kept_by g.M.Call.Kept.code c.in-Some-entry.entry.now in
    let here : ◌≡◌ {A = Option KeptOutcome} (Some k) (Some there.outcome) = c.in-Some-entry.ensures ∙ there.at in
    let same : k ≡ there.outcome = cc in
    let L : KeptOutcome → Type 0 = λ o. IsLive c.args.arena.now.nodes o.node in
    record { live = subst L (sym same) (c.requires.stand c.in-Some.place there.outcome there.at).live }

pub returns-then-not-retain-clause-stand : goal.returns-then-not-retain-clause-stand
returns-then-not-retain-clause-stand g c =
    let S : Arena _ → Type 0 = λ a. AllStand g.M.AskMachine.model g.M.AskMachine.rebased g.M.AskMachine.call_of g.M.AskMachine.item_of a.nodes c.args.self.now in
    subst S (sym c.if-not-retain.ensures.refused) c.requires.stand

pub returns-in_err-replay-clause-stand : goal.returns-in_err-replay-clause-stand
returns-in_err-replay-clause-stand g c =
    stand_recount g.M.AskMachine.model g.M.AskMachine.rebased g.M.AskMachine.call_of g.M.AskMachine.item_of
    c.args.arena.now.nodes c.retain.new.self.nodes c.in-Some-entry.entry.now.node.0 c.if-not-retain.ensures.retained c.args.self.now c.requires.stand

pub returns-clause-found : goal.returns-clause-found
returns-clause-found g c =
    let M = g.M.AskMachine.model in
    let W = g.W.World.model in
    let s = g.W.World.state c.args.world.now in
    let call = g.M.Call.Kept.code c.args.call.now in
    let item = g.M.AskMachine.item_of in
    let old = c.args.arena.now.nodes in
    let new = c.retain.new.self.nodes in
    let F : Option ℕ → Type 0 = λ r.
    MatchOption r (NoneHolds W s c.args.fuel c.args.depth call c.args.self.now) (HoldsThere W s c.args.fuel c.args.depth call c.args.self.now) in
    let there : F (Some c.in-Some.place) = subst F c.in-Some.is c.in_ok-place.ensures.found in
    let k : KeptOutcome = kept_by g.M.Call.Kept.code c.in-Some-entry.entry.now in
    let here : ◌≡◌ {A = Option KeptOutcome} (Some k) (Some there.outcome) = c.in-Some-entry.ensures ∙ there.at in
    let same : k ≡ there.outcome = cc in
    let Stood : KeptOutcome → Type 0 = Stands M g.M.AskMachine.rebased g.M.AskMachine.call_of item old in
    let Held : KeptOutcome → Type 0 = HoldsOf W s c.args.fuel c.args.depth call in
    let stands : Stood k = subst Stood (sym same) (c.requires.stand c.in-Some.place there.outcome there.at) in
    let holds : Held k = subst Held (sym same) there.holds in
    let comes = taken M g.M.AskMachine.rebased g.M.AskMachine.call_of item W g.M.AskMachine.moving g.M.AskMachine.writable g.M.AskMachine.quiet
    g.met.M.AskMachine.modest c.requires.fits old k stands s c.args.fuel c.args.depth call holds in
    let state : g.W.World.state c.replay.new.world ≡ moved W s k.summary.puts k.summary.calls =
    c.in_ok-replay.ensures ∙ ap (λ t. moved W t k.summary.puts k.summary.calls) c.in_ok-place.ensures.kept in
    let points : points_by item new k.node ≡ points_by item old k.node = ap (map (point_by item)) (c.if-not-retain.ensures.retained.keeps k.node).points in
    let wanting : map g.M.AskMachine.frames_of c.new.result.items ≡ [] = ap (map g.M.AskMachine.frames_of) c.new.ensures.items in
    record {
      summary = k.summary;
      comes = come_to M W g.M.AskMachine.rebased c.args.fuel c.args.depth (begun M W (g.M.AskMachine.call_of call) s) _ _ _ _ _ _ k.ended k.summary state points wanting comes;
      cost_is = sym c.units.ensures;
    }

pub returns-clause-owned : goal.returns-clause-owned
returns-clause-owned g c = c.if-not-retain.ensures.retained

pub returns-clause-stand : goal.returns-clause-stand
returns-clause-stand g c =
    stand_recount g.M.AskMachine.model g.M.AskMachine.rebased g.M.AskMachine.call_of g.M.AskMachine.item_of
    c.args.arena.now.nodes c.retain.new.self.nodes c.in-Some-entry.entry.now.node.0 c.if-not-retain.ensures.retained c.args.self.now c.requires.stand

pub returns-clause-held : goal.returns-clause-held
returns-clause-held g c =
    let W = g.W.World.model in
    let s = g.W.World.state c.args.world.now in
    let call = g.M.Call.Kept.code c.args.call.now in
    let F : Option ℕ → Type 0 = λ r.
    MatchOption r (NoneHolds W s c.args.fuel c.args.depth call c.args.self.now) (HoldsThere W s c.args.fuel c.args.depth call c.args.self.now) in
    let there : F (Some c.in-Some.place) = subst F c.in-Some.is c.in_ok-place.ensures.found in
    record { at = c.in-Some.place; there = there }
