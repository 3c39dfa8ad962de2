use Rattle.std.proofs.Common.{◌≡◌, ℕ, ◌<◌, List, Option, Some, None, option_map, length, refl, sym, ap, ◌∙◌, subst, MatchOption}
use Rattle.std.proofs.lemmas.List.{length-map}
use Rattle.kept_values.specs.Trees.{Tree}
use Rattle.expansion_memo.specs.Kept.{KeptOutcome, HoldsThere}
use Rattle.expansion_memo.specs.Entries.{kept_by, kept_of}
use Rattle.expansion_memo.specs.Finding.{here_number, NoneUnder}
use Rattle.expansion_memo.proofs.Searching.{left, Searched, search_start, search_place, search_next, search_smaller, search_end}
use Rattle.expansion_memo.proofs.KeptLists.{HoldsFirst, none_first, none_at_all}
use Rattle.expansion_memo.proofs.table.Table.find.Goals as goal

pub loop-next-init : goal.loop-next-init
loop-next-init g c =
    let W = g.W.World.model in
    let s = g.W.World.state c.args.world.now in
    let code = g.C.Kept.code in
    let call : Tree = code c.args.call.now in
    let numbers = c.self.inside.firsts.numbers in
    let P : ℕ → Type 0 = HoldsFirst W s c.args.fuel c.args.depth call (kept_of code c.self.inside.entries.items) numbers c.self.inside.firsts.keys in
    record { kept = refl; searched = search_start numbers c.number-start.result P (λ j p. p.inside) c.last-next.result c.last-next.ensures }

pub key-requires : goal.key-requires
key-requires g c =
    let W = g.W.World.model in
    let s = g.W.World.state c.args.world.now in
    let code = g.C.Kept.code in
    let call : Tree = code c.args.call.now in
    let numbers = c.self.inside.firsts.numbers in
    let P : ℕ → Type 0 = HoldsFirst W s c.args.fuel c.args.depth call (kept_of code c.self.inside.entries.items) numbers c.self.inside.firsts.keys in
    let Q : Option ℕ → Type 0 = Searched numbers c.number-start.result P in
    record { inside = (search_place numbers c.number-start.result P (λ j p. p.inside) c.in-Some.first (subst Q c.in-Some.is c.loop-next.invariant.searched)).0 }

pub find_under-requires-clause-long : goal.find_under-requires-clause-long
find_under-requires-clause-long g c =
    c.self.invariant.long
    ∙ length-map c.self.inside.entries.items (option_map (kept_by g.C.Kept.code))
    ∙ sym (ap length c.as_slice-entries.ensures.value)

pub returns-in-Some-found-clause-found : goal.returns-in-Some-found-clause-found
returns-in-Some-found-clause-found g c =
    let W = g.W.World.model in
    let s = g.W.World.state c.args.world.now in
    let code = g.C.Kept.code in
    let call : Tree = code c.args.call.now in
    let state : g.W.World.state c.here_number.new.world ≡ s = c.in_ok-number.ensures.kept ∙ c.loop-next.invariant.kept in
    let kept : kept_of code c.as_slice-entries.result.now ≡ c.args.self.now = ap (kept_of code) c.as_slice-entries.ensures.value ∙ c.self.view_is in
    let M : Option ℕ → W.State → List (Option KeptOutcome) → Type 0 = λ o t ks.
    MatchOption o (NoneUnder W t c.args.fuel c.args.depth call ks c.self.inside.answers c.in_ok-number.number) (HoldsThere W t c.args.fuel c.args.depth call ks) in
    let found : M c.in_ok-found.found (g.W.World.state c.here_number.new.world) (kept_of code c.as_slice-entries.result.now) = c.in_ok-found.ensures.found in
    subst (M (Some c.in-Some-found.place) s) kept
    (subst (λ t. M (Some c.in-Some-found.place) t (kept_of code c.as_slice-entries.result.now)) state
    (subst (λ o. M o (g.W.World.state c.here_number.new.world) (kept_of code c.as_slice-entries.result.now)) c.in-Some-found.is found))

pub before-next-requires : goal.before-next-requires
before-next-requires g c =
    let W = g.W.World.model in
    let s = g.W.World.state c.args.world.now in
    let code = g.C.Kept.code in
    let call : Tree = code c.args.call.now in
    let numbers = c.self.inside.firsts.numbers in
    let P : ℕ → Type 0 = HoldsFirst W s c.args.fuel c.args.depth call (kept_of code c.self.inside.entries.items) numbers c.self.inside.firsts.keys in
    let Q : Option ℕ → Type 0 = Searched numbers c.number-start.result P in
    record { inside = (search_place numbers c.number-start.result P (λ j p. p.inside) c.in-Some.first (subst Q c.in-Some.is c.loop-next.invariant.searched)).0 }

pub loop-next-smaller : goal.loop-next-smaller
loop-next-smaller g c =
    let W = g.W.World.model in
    let s = g.W.World.state c.args.world.now in
    let code = g.C.Kept.code in
    let call : Tree = code c.args.call.now in
    let numbers = c.self.inside.firsts.numbers in
    let P : ℕ → Type 0 = HoldsFirst W s c.args.fuel c.args.depth call (kept_of code c.self.inside.entries.items) numbers c.self.inside.firsts.keys in
    let L : Option ℕ → Type 0 = λ o. left c.before-next.result < left o in
    subst L (sym c.in-Some.is) (search_smaller numbers c.number-start.result P (λ j p. p.inside) _ c.in-Some.first c.before-next.result c.before-next.ensures)

pub loop-next-preserved : goal.loop-next-preserved
loop-next-preserved g c =
    let W = g.W.World.model in
    let s = g.W.World.state c.args.world.now in
    let code = g.C.Kept.code in
    let call : Tree = code c.args.call.now in
    let value = g.V.Kept.number_of in
    let numbers = c.self.inside.firsts.numbers in
    let keys = c.self.inside.firsts.keys in
    let entries = c.self.inside.entries.items in
    let kept = kept_of code entries in
    let start : ℕ = c.number-start.result in
    let P : ℕ → Type 0 = HoldsFirst W s c.args.fuel c.args.depth call kept numbers keys in
    let Q : Option ℕ → Type 0 = Searched numbers start P in
    let now : Q (Some c.in-Some.first) = subst Q c.in-Some.is c.loop-next.invariant.searched in
    let key : Option Tree = option_map g.K.Kept.code c.key.result.now in
    let n : ℕ = c.in_ok-number.number in
    let is : n ≡ here_number W s (g.C.Kept.number_of call) value key =
    c.in_ok-number.ensures.number
    ∙ ap (λ t. here_number W t start value key) c.loop-next.invariant.kept
    ∙ ap (λ m. here_number W s m value key) c.number-start.ensures in
    let state : g.W.World.state c.here_number.new.world ≡ s = c.in_ok-number.ensures.kept ∙ c.loop-next.invariant.kept in
    let slice = kept_of code c.as_slice-entries.result.now in
    let all : slice ≡ kept = ap (kept_of code) c.as_slice-entries.ensures.value in
    let M : Option ℕ → W.State → List (Option KeptOutcome) → Type 0 = λ o t ks.
    MatchOption o (NoneUnder W t c.args.fuel c.args.depth call ks c.self.inside.answers n) (HoldsThere W t c.args.fuel c.args.depth call ks) in
    let found : M c.in_ok-found.found (g.W.World.state c.here_number.new.world) slice = c.in_ok-found.ensures.found in
    let none : M None s kept =
    subst (M None s) all
    (subst (λ t. M None t slice) state
    (subst (λ o. M o (g.W.World.state c.here_number.new.world) slice) c.in_default-found.is found)) in
    let fails = none_first W s c.args.fuel c.args.depth call kept g.C.Kept.number_of value c.self.inside.answers numbers keys c.self.invariant
    c.in-Some.first key n (sym c.key.ensures) is none in
    record {
      kept = c.in_ok-found.ensures.kept ∙ state;
      searched = search_next numbers start P (λ j p. p.inside) c.in-Some.first c.before-next.result now fails c.before-next.ensures;
    }

pub returns-clause-found : goal.returns-clause-found
returns-clause-found g c =
    let W = g.W.World.model in
    let s = g.W.World.state c.args.world.now in
    let code = g.C.Kept.code in
    let call : Tree = code c.args.call.now in
    let numbers = c.self.inside.firsts.numbers in
    let keys = c.self.inside.firsts.keys in
    let kept = kept_of code c.self.inside.entries.items in
    let P : ℕ → Type 0 = HoldsFirst W s c.args.fuel c.args.depth call kept numbers keys in
    let Q : Option ℕ → Type 0 = Searched numbers c.number-start.result P in
    let none = none_at_all W s c.args.fuel c.args.depth call kept g.C.Kept.number_of g.V.Kept.number_of c.self.inside.answers numbers keys c.self.invariant
    (λ f at h. search_end numbers c.number-start.result P (λ j p. p.inside) (subst Q c.in_default.is c.loop-next.invariant.searched) f (at ∙ sym c.number-start.ensures) h) in
    let N : List (Option KeptOutcome) → Type 0 = λ ks. (i : ℕ) → HoldsThere W s c.args.fuel c.args.depth call ks i → ⊥ in
    subst N c.self.view_is none
