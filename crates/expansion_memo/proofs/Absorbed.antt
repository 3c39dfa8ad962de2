-- A node that is linked by a live one lives on where its maker gives it up.
use Rattle.std.proofs.Common.{◌≡◌, ◌≢◌, ℕ, ◌+◌, ◌-◌, ◌<◌, ◌==◌, Bool, true, false, cond, List, [], ◌∷◌, ◌++◌, map, length, refl, sym, ap, subst, ◌∙◌, inl, inr, eqb-true, eq-eqb, arith}
use Rattle.std.proofs.lemmas.Bool.{cases_eq}
use Rattle.trace_arena.specs.declared.node.Link.{Link}
use Rattle.trace_arena.specs.Nodes.{Node, node_at, leads, outside, IsLive, IsUnshared, IsLinked, IsReached, IsReached.from_outside, IsReached.by_link}
use Rattle.trace_arena.specs.Points.{points, last_before}
use Rattle.trace_arena.specs.Changes.{Links, Releases, less_one}
use Rattle.expansion_memo.specs.Within.{Absorbs}

one_or : (b : Bool) (n : ℕ) → 0 < n → 0 < cond b 1 0 + n
one_or true n lt = omega arith
one_or false n lt = omega arith

led_step : (b : Bool) → b ≡ true → (n : ℕ) → 0 < cond b 1 0 + n
led_step true is n = omega arith
led_step false is n = cc

-- the last link leads to its child
led : (c : ℕ) (ls : List Link) (ys : List ℕ) → map (λ l. l.child.0) ls ≡ ys ++ c ∷ [] → 0 < leads c ls
led c [] [] is = cc
led c [] (y ∷ ys) is = cc
led c (l ∷ ls) [] is =
    let e : l.child.0 ≡ c = cc in
    led_step (l.child.0 == c) (eq-eqb l.child.0 c e) (leads c ls)
led c (l ∷ ls) (y ∷ ys) is =
    let e : map (λ (x : Link). x.child.0) ls ≡ ys ++ c ∷ [] = cc in
    one_or (l.child.0 == c) (leads c ls) (led c ls ys e)

less_other : (count : ℕ → ℕ) (c y : ℕ) (b : Bool) → (y == c) ≡ b → (y ≡ c → ⊥) → cond b (count y - 1) (count y) ≡ count y
less_other count c y true is ne = absurd (ne (eqb-true y c is))
less_other count c y false is ne = refl

module _ {I : Type 0} (nodes : List (Node I)) (x c : ℕ) (other : c ≢ x) (owned : 0 < outside nodes x) (linked : IsLinked nodes x c) where
  kept_owner : (y : ℕ) → (y ≡ c → ⊥) → less_one (outside nodes) c y ≡ outside nodes y
  kept_owner y ne = less_other (outside nodes) c y (y == c) refl ne

  still_owned : (y : ℕ) → 0 < outside nodes y → IsReached nodes (less_one (outside nodes) c) y
  still_owned y some = elim (cases_eq y c) [
    | inl e ↦ (
        let mine : 0 < less_one (outside nodes) c x = (let k = kept_owner x (λ z. other (sym z)) in omega arith) in
        let R : ℕ → Type 0 = IsReached nodes (less_one (outside nodes) c) in
        subst R (sym e) (by_link x c (from_outside x mine) linked)
        )
    | inr ne ↦ from_outside y (let k = kept_owner y ne in omega arith)
  ]

  pub still_reached : (y : ℕ) → IsReached nodes (outside nodes) y → IsReached nodes (less_one (outside nodes) c) y
  still_reached _ (from_outside y some) = still_owned y some
  still_reached _ (by_link z y reached led_to) = by_link z y (still_reached z reached) led_to

module _ {I : Type 0} (old mid new : List (Node I)) (x c : ℕ) (other : c ≢ x) (unshared : IsUnshared old c) (l : Links old mid x c) where
  -- its maker owns it still
  pub child_owned : 0 < outside mid c
  child_owned =
      let a = unshared.maker in
      let b = unshared.no_parent in
      let o = l.owners in
      let p = l.parents in
      omega arith

  parent_owned : 0 < outside mid x
  parent_owned = let a = l.unshared.maker in let b = l.unshared.no_parent in omega arith

  parent_links : IsLinked mid x c
  parent_links = led c (node_at mid x).links (map (λ k. k.child.0) (node_at old x).links) l.linked

  module _ (law : (y : ℕ) → IsLive mid y → IsReached mid (outside mid) y) (r : Releases mid new c) where
    still_live : (y : ℕ) → IsLive mid y → IsLive new y
    still_live y live = r.reached y (still_reached mid x c other parent_owned parent_links y (law y live))

    live_mid : (y : ℕ) → y ≢ x → IsLive old y → IsLive mid y × (points mid y ≡ points old y)
    live_mid y ne live = elim (cases_eq y c) [
      | inl e ↦ (
          let owners : (node_at mid y).owners ≡ (node_at mid c).owners = ap (λ z. (node_at mid z).owners) e in
          let more = l.owners in
          (omega arith, ap (points mid) e ∙ l.stands.points ∙ ap (points old) (sym e))
          )
      | inr differ ↦ (let same = (l.others y ne differ).owners in (omega arith, (l.others y ne differ).keeps.points))
    ]

    parent_live : IsLive mid x
    parent_live = let a = l.unshared.maker in omega arith

    owners_same : (y : ℕ) → y ≢ x → y ≢ c → IsLive old y → outside new y ≡ outside old y
    owners_same y ne differ live =
        let same = l.others y ne differ in
        let more = same.owners in
        let links = same.parents in
        r.outer y ∙ less_other (outside mid) c y (y == c) refl differ ∙ (let e : outside mid y ≡ outside old y = omega arith in e)

    underway_same : (y : ℕ) → y ≢ x → y ≢ c → IsUnshared old y → IsUnshared new y × ((node_at new y).items ≡ (node_at old y).items)
    underway_same y ne differ unshared =
        let same = l.others y ne differ in
        let mine : IsUnshared mid y = record { maker = same.owners ∙ unshared.maker; no_parent = same.parents ∙ unshared.no_parent } in
        let now = r.unshared y differ mine in
        let live : IsLive new y = (let m = now.maker in omega arith) in
        (now, (r.keeps y live).items ∙ same.keeps.items)

    pub absorbed : Absorbs old new x c
    absorbed =
        let kept = r.keeps x (still_live x parent_live) in
        record {
          unshared = r.unshared x (λ e. other (sym e)) l.unshared;
          behind = kept.points ∙ l.points;
          last = ap (λ items. last_before (length items) items) (kept.items ∙ l.items);
          lasts = λ y ne live.
              let m = live_mid y ne live in
              let now = still_live y m.0 in
              (now, (r.keeps y now).points ∙ m.1);
          owners = owners_same;
          underway = underway_same;
        }
