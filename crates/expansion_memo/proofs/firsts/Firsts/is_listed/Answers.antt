use Rattle.std.proofs.Common.{◌≡◌, ℕ, ◌<◌, List, Option, Some, None, length, get_or, sym, ap, ◌∙◌, subst, arith}
use Rattle.expansion_memo.specs.Firsts.{FirstKeys}
use Rattle.expansion_memo.proofs.Searching.{left, Searched, search_place, search_next, search_smaller}
use Rattle.expansion_memo.proofs.KeptLists.{key_read}
use Rattle.expansion_memo.proofs.firsts.Firsts.is_listed.Goals as goal

abbrev Nowhere : ℕ → Type 0
Nowhere j = ⊥

nowhere : (numbers : List ℕ) (j : ℕ) → Nowhere j → j < length numbers
nowhere numbers j p = absurd p

pub index-requires : goal.index-requires
index-requires g c =
    let Q : Option ℕ → Type 0 = Searched c.args.self.now.numbers c.args.number Nowhere in
    let lt = (search_place c.args.self.now.numbers c.args.number Nowhere (nowhere c.args.self.now.numbers) c.in-Some.place (subst Q c.in-Some.is c.loop-next.invariant)).0 in
    let numbers : length c.self.inside.numbers ≡ length c.args.self.now.numbers = ap (λ (x : FirstKeys). length x.numbers) c.self.view_is in
    let long : length c.self.inside.numbers ≡ length c.self.inside.keys.items = c.self.invariant in
    omega (arith, c.self.inside.keys.ok.0)

pub returns-then-is_first : goal.returns-then-is_first
returns-then-is_first g c = λ yes.
    let Q : Option ℕ → Type 0 = Searched c.args.self.now.numbers c.args.number Nowhere in
    let there = search_place c.args.self.now.numbers c.args.number Nowhere (nowhere c.args.self.now.numbers) c.in-Some.place (subst Q c.in-Some.is c.loop-next.invariant) in
    let lt = there.0 in
    let numbers : length c.self.inside.numbers ≡ length c.args.self.now.numbers = ap (λ (x : FirstKeys). length x.numbers) c.self.view_is in
    let long : length c.self.inside.numbers ≡ length c.self.inside.keys.items = c.self.invariant in
    let here : c.in-Some.place < length c.self.inside.keys.items = omega arith in
    record {
      place = c.in-Some.place;
      inside = there.0;
      number_is = there.1;
      key_is = sym (ap (λ (x : FirstKeys). get_or x.keys c.in-Some.place None) c.self.view_is)
          ∙ key_read g.K.Kept.code c.self.inside.keys.items c.in-Some.place c.index.result.now here c.index.ensures
          ∙ c.is_first.ensures c.if-is_first.true;
    }

pub before-next-requires : goal.before-next-requires
before-next-requires g c =
    let Q : Option ℕ → Type 0 = Searched c.args.self.now.numbers c.args.number Nowhere in
    let lt = (search_place c.args.self.now.numbers c.args.number Nowhere (nowhere c.args.self.now.numbers) c.in-Some.place (subst Q c.in-Some.is c.loop-next.invariant)).0 in
    let numbers : length c.self.inside.numbers ≡ length c.args.self.now.numbers = ap (λ (x : FirstKeys). length x.numbers) c.self.view_is in
    record { inside = omega arith }

pub loop-next-smaller : goal.loop-next-smaller
loop-next-smaller g c =
    let L : Option ℕ → Type 0 = λ o. left c.before-next.result < left o in
    subst L (sym c.in-Some.is)
    (search_smaller c.self.inside.numbers c.args.number Nowhere (nowhere c.self.inside.numbers) _ c.in-Some.place c.before-next.result c.before-next.ensures)

pub loop-next-preserved : goal.loop-next-preserved
loop-next-preserved g c =
    let Q : List ℕ → Option ℕ → Type 0 = λ ns. Searched ns c.args.number Nowhere in
    let numbers : c.args.self.now.numbers ≡ c.self.inside.numbers = sym (ap (λ (x : FirstKeys). x.numbers) c.self.view_is) in
    let now : Q c.args.self.now.numbers (Some c.in-Some.place) = subst (Q c.args.self.now.numbers) c.in-Some.is c.loop-next.invariant in
    let here : Q c.self.inside.numbers (Some c.in-Some.place) = subst (λ ns. Q ns (Some c.in-Some.place)) numbers now in
    subst (λ ns. Q ns c.before-next.result) (sym numbers)
    (search_next c.self.inside.numbers c.args.number Nowhere (nowhere c.self.inside.numbers) c.in-Some.place c.before-next.result here (λ p. p) c.before-next.ensures)
