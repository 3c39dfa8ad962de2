use Rattle.std.proofs.Common.{ℕ, ◌<◌, Option, Some, option_map, length, refl, sym, ◌∙◌, subst, arith}
use Rattle.kept_values.specs.Trees.{Tree}
use Rattle.expansion_memo.specs.Kept.{HoldsThere}
use Rattle.expansion_memo.specs.Entries.{kept_by, kept_of}
use Rattle.expansion_memo.specs.Finding.{HoldsIn}
use Rattle.expansion_memo.proofs.Searching.{left, Searched, search_start, search_place, search_next, search_smaller, search_end}
use Rattle.expansion_memo.proofs.KeptLists.{kept_read, there_inside, there_of, in_of}
use Rattle.expansion_memo.proofs.find.find_under.Goals as goal

pub loop-next-init : goal.loop-next-init
loop-next-init g c =
    let W = g.W.World.model in
    let s = g.W.World.state c.args.world.now in
    let code = g.C.Kept.code in
    let call : Tree = code c.args.call.now in
    let inside = there_inside code c.args.entries.now c.args.answers.now W s c.args.fuel c.args.depth call c.requires.long in
    let P : ℕ → Type 0 = HoldsThere W s c.args.fuel c.args.depth call (kept_of code c.args.entries.now) in
    record { kept = refl; searched = search_start c.args.answers.now c.args.number P inside c.last-next.result c.last-next.ensures }

pub offset_bounds-entries-place : goal.offset_bounds-entries-place
offset_bounds-entries-place g c =
    let W = g.W.World.model in
    let s = g.W.World.state c.args.world.now in
    let code = g.C.Kept.code in
    let call : Tree = code c.args.call.now in
    let inside = there_inside code c.args.entries.now c.args.answers.now W s c.args.fuel c.args.depth call c.requires.long in
    let P : ℕ → Type 0 = HoldsThere W s c.args.fuel c.args.depth call (kept_of code c.args.entries.now) in
    let Q : Option ℕ → Type 0 = Searched c.args.answers.now c.args.number P in
    let lt = (search_place c.args.answers.now c.args.number P inside c.in-Some.place (subst Q c.in-Some.is c.loop-next.invariant.searched)).0 in
    let long = c.requires.long in
    omega arith

pub bounds-entries-place : goal.bounds-entries-place
bounds-entries-place g c =
    let W = g.W.World.model in
    let s = g.W.World.state c.args.world.now in
    let code = g.C.Kept.code in
    let call : Tree = code c.args.call.now in
    let inside = there_inside code c.args.entries.now c.args.answers.now W s c.args.fuel c.args.depth call c.requires.long in
    let P : ℕ → Type 0 = HoldsThere W s c.args.fuel c.args.depth call (kept_of code c.args.entries.now) in
    let Q : Option ℕ → Type 0 = Searched c.args.answers.now c.args.number P in
    let lt = (search_place c.args.answers.now c.args.number P inside c.in-Some.place (subst Q c.in-Some.is c.loop-next.invariant.searched)).0 in
    let long = c.requires.long in
    omega arith

pub returns-then-branch-clause-found : goal.returns-then-branch-clause-found
returns-then-branch-clause-found g c =
    let W = g.W.World.model in
    let s = g.W.World.state c.args.world.now in
    let code = g.C.Kept.code in
    let call : Tree = code c.args.call.now in
    let kept = kept_of code c.args.entries.now in
    let inside = there_inside code c.args.entries.now c.args.answers.now W s c.args.fuel c.args.depth call c.requires.long in
    let P : ℕ → Type 0 = HoldsThere W s c.args.fuel c.args.depth call kept in
    let Q : Option ℕ → Type 0 = Searched c.args.answers.now c.args.number P in
    let lt = (search_place c.args.answers.now c.args.number P inside c.in-Some.place (subst Q c.in-Some.is c.loop-next.invariant.searched)).0 in
    let long = c.requires.long in
    let here : c.in-Some.place < length c.args.entries.now = omega arith in
    let e = c.index-entries-place.result in
    let H : W.State → Type 0 = λ t. HoldsIn W t c.args.fuel c.args.depth call (option_map (kept_by code) e) in
    there_of W s c.args.fuel c.args.depth call kept c.in-Some.place (option_map (kept_by code) e)
    (kept_read code c.args.entries.now c.in-Some.place e here c.index-entries-place.is)
    (subst H c.loop-next.invariant.kept (c.in_ok-holds_there.ensures.answer.0 c.if-branch.true))

pub before-next-requires : goal.before-next-requires
before-next-requires g c =
    let W = g.W.World.model in
    let s = g.W.World.state c.args.world.now in
    let code = g.C.Kept.code in
    let call : Tree = code c.args.call.now in
    let inside = there_inside code c.args.entries.now c.args.answers.now W s c.args.fuel c.args.depth call c.requires.long in
    let P : ℕ → Type 0 = HoldsThere W s c.args.fuel c.args.depth call (kept_of code c.args.entries.now) in
    let Q : Option ℕ → Type 0 = Searched c.args.answers.now c.args.number P in
    record { inside = (search_place c.args.answers.now c.args.number P inside c.in-Some.place (subst Q c.in-Some.is c.loop-next.invariant.searched)).0 }

pub loop-next-smaller : goal.loop-next-smaller
loop-next-smaller g c =
    let W = g.W.World.model in
    let s = g.W.World.state c.args.world.now in
    let code = g.C.Kept.code in
    let call : Tree = code c.args.call.now in
    let inside = there_inside code c.args.entries.now c.args.answers.now W s c.args.fuel c.args.depth call c.requires.long in
    let P : ℕ → Type 0 = HoldsThere W s c.args.fuel c.args.depth call (kept_of code c.args.entries.now) in
    let L : Option ℕ → Type 0 = λ o. left c.before-next.result < left o in
    subst L (sym c.in-Some.is) (search_smaller c.args.answers.now c.args.number P inside _ c.in-Some.place c.before-next.result c.before-next.ensures)

pub loop-next-preserved : goal.loop-next-preserved
loop-next-preserved g c =
    let W = g.W.World.model in
    let s = g.W.World.state c.args.world.now in
    let code = g.C.Kept.code in
    let call : Tree = code c.args.call.now in
    let kept = kept_of code c.args.entries.now in
    let inside = there_inside code c.args.entries.now c.args.answers.now W s c.args.fuel c.args.depth call c.requires.long in
    let P : ℕ → Type 0 = HoldsThere W s c.args.fuel c.args.depth call kept in
    let Q : Option ℕ → Type 0 = Searched c.args.answers.now c.args.number P in
    let now : Q (Some c.in-Some.place) = subst Q c.in-Some.is c.loop-next.invariant.searched in
    let lt = (search_place c.args.answers.now c.args.number P inside c.in-Some.place now).0 in
    let long = c.requires.long in
    let here : c.in-Some.place < length c.args.entries.now = omega arith in
    let e = c.index-entries-place.result in
    let H : W.State → Type 0 = λ t. HoldsIn W t c.args.fuel c.args.depth call (option_map (kept_by code) e) in
    let fails : P c.in-Some.place → ⊥ = λ p.
    let held = in_of W s c.args.fuel c.args.depth call kept c.in-Some.place (option_map (kept_by code) e)
    (kept_read code c.args.entries.now c.in-Some.place e here c.index-entries-place.is) p in
    let yes = c.in_ok-holds_there.ensures.answer.1 (subst H (sym c.loop-next.invariant.kept) held) in
    let not = c.if-branch.false in
    cc
    in
    record {
      kept = c.in_ok-holds_there.ensures.kept ∙ c.loop-next.invariant.kept;
      searched = search_next c.args.answers.now c.args.number P inside c.in-Some.place c.before-next.result now fails c.before-next.ensures;
    }

pub returns-clause-found : goal.returns-clause-found
returns-clause-found g c =
    let W = g.W.World.model in
    let s = g.W.World.state c.args.world.now in
    let code = g.C.Kept.code in
    let call : Tree = code c.args.call.now in
    let inside = there_inside code c.args.entries.now c.args.answers.now W s c.args.fuel c.args.depth call c.requires.long in
    let P : ℕ → Type 0 = HoldsThere W s c.args.fuel c.args.depth call (kept_of code c.args.entries.now) in
    let Q : Option ℕ → Type 0 = Searched c.args.answers.now c.args.number P in
    search_end c.args.answers.now c.args.number P inside (subst Q c.in_default.is c.loop-next.invariant.searched)
