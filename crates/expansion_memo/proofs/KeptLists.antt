-- What is kept at a place, and how it is found.
use Rattle.std.proofs.Common.{◌≡◌, ℕ, Bool, true, false, cond, nat_lt, zero, suc, ◌<◌, List, [], ◌∷◌, ◌++◌, Option, Some, None, option_map, length, get_or, map, refl, sym, ap, ◌∙◌, subst, ◌⊎◌, inl, inr, length-append, arith}
use Rattle.std.proofs.lemmas.List.{length-map}
use Rattle.std.proofs.lemmas.Bool.{ltb-true}
use Rattle.std.proofs.Math.Seq.{get_or-append_seam}
use Rattle.std.proofs.lemmas.List.{get_or_append_left}
use Rattle.kept_values.specs.Trees.{Tree, Pair, mixed}
use Rattle.asking_core.specs.Worlds.{WorldModel, Holds}
use Rattle.trace_arena.specs.Nodes.{Node, node_at, IsLive}
use Rattle.trace_arena.specs.Points.{points}
use Rattle.asking_core.specs.Machines.{MachineModel}
use Rattle.kept_outcomes.specs.Outcomes.{IsOutcome}
use Rattle.expansion_memo.specs.declared.entry.Entry.{Entry}
use Rattle.expansion_memo.specs.Kept.{KeptOutcome, kept_at, while_live, point_by, AllStand, first_key, found_number, IsListed, HoldsOf, HoldsThere}
use Rattle.expansion_memo.specs.Firsts.{FirstKeys, StaysListed, keys_of}
use Rattle.expansion_memo.specs.Entries.{IsFindable, kept_by, kept_of}
use Rattle.expansion_memo.specs.Finding.{here_number, HoldsIn}

pub kept_inside : (kept : List (Option KeptOutcome)) (i : ℕ) (o : KeptOutcome) → kept_at kept i ≡ Some o → i < length kept
kept_inside [] i o is = cc
kept_inside (x ∷ kept) zero o is = omega arith
kept_inside (x ∷ kept) (suc i) o is = let lt = kept_inside kept i o is in omega arith

pub kept_more : (kept more : List (Option KeptOutcome)) (i : ℕ) (o : KeptOutcome) → kept_at kept i ≡ Some o → kept_at (kept ++ more) i ≡ Some o
kept_more [] more i o is = cc
kept_more (x ∷ kept) more zero o is = is
kept_more (x ∷ kept) more (suc i) o is = kept_more kept more i o is

-- what is kept once one more is
pub kept_push : (kept : List (Option KeptOutcome)) (o p : KeptOutcome) (i : ℕ) → kept_at (kept ++ Some o ∷ []) i ≡ Some p →
    (kept_at kept i ≡ Some p) ⊎ ((i ≡ length kept) × (o ≡ p))
kept_push [] o p zero is = let e : o ≡ p = cc in inr (refl, e)
kept_push [] o p (suc i) is = cc
kept_push (x ∷ kept) o p zero is = inl is
kept_push (x ∷ kept) o p (suc i) is = elim (kept_push kept o p i is) [ inl e ↦ inl e | inr e ↦ inr (ap suc e.0, e.1) ]

module _ (call value : Tree → ℕ) (kept : List (Option KeptOutcome)) (answers : List ℕ) where
  pub findable_stays : (old new : FirstKeys) → IsFindable call value kept answers old.numbers old.keys → StaysListed old new →
      IsFindable call value kept answers new.numbers new.keys
  findable_stays old new f stays = record {
    long = f.long;
    answer_is = f.answer_is;
    listed = λ i o is. stays (call o.call) (first_key o.summary.read) (f.listed i o is);
  }

  module _ (numbers : List ℕ) (keys : List (Option Tree)) (o : KeptOutcome) (n : ℕ) (f : IsFindable call value kept answers numbers keys)
      (is : n ≡ found_number (call o.call) value o.summary.read) (listed : IsListed numbers keys (call o.call) (first_key o.summary.read)) where
    answer_more : (i : ℕ) (p : KeptOutcome) → kept_at (kept ++ Some o ∷ []) i ≡ Some p →
        get_or (answers ++ n ∷ []) i 0 ≡ found_number (call p.call) value p.summary.read
    answer_more i p at =
        elim (kept_push kept o p i at) [
          | inl e ↦ (
              let lt = kept_inside kept i p e in
              let inside : i < length answers = let l = f.long in omega arith in
              get_or_append_left answers (n ∷ []) 0 i inside ∙ f.answer_is i p e
              )
          | inr e ↦ (
              let place : i ≡ length answers = let l = f.long in let k = e.0 in omega arith in
              ap (λ j. get_or (answers ++ n ∷ []) j 0) place
              ∙ get_or-append_seam answers n [] 0
              ∙ is
              ∙ ap (λ (x : KeptOutcome). found_number (call x.call) value x.summary.read) e.1
              )
        ]

    listed_more : (i : ℕ) (p : KeptOutcome) → kept_at (kept ++ Some o ∷ []) i ≡ Some p → IsListed numbers keys (call p.call) (first_key p.summary.read)
    listed_more i p at =
        let Q : KeptOutcome → Type 0 = λ x. IsListed numbers keys (call x.call) (first_key x.summary.read) in
        elim (kept_push kept o p i at) [ inl e ↦ f.listed i p e | inr e ↦ subst Q e.1 listed ]

    pub findable_push : IsFindable call value (kept ++ Some o ∷ []) (answers ++ n ∷ []) numbers keys
    findable_push = record {
      long = (let l = f.long in omega (arith, length-append answers (n ∷ []), length-append kept (Some o ∷ [])));
      answer_is = answer_more;
      listed = listed_more;
    }

-- an outcome that holds is found under the number of the answer that is given here
pub here_is : (W : WorldModel) (s : W.State) (start : ℕ) (value : Tree → ℕ) (key : Option Tree) (read : List Pair) →
    key ≡ first_key read → Holds W s read → found_number start value read ≡ here_number W s start value key
here_is W s start value key [] is holds = ap (here_number W s start value) (sym is)
here_is W s start value key (p ∷ ps) is holds = ap (λ v. mixed start (value v)) (sym holds.0) ∙ ap (here_number W s start value) (sym is)

module _ {C K V : Type 0} (code : C → Tree) where
  -- what is kept at a place is its entry
  pub kept_read : (entries : List (Option (Entry C K V))) (i : ℕ) (e : Option (Entry C K V)) → i < length entries → e ≡ get_or entries i e →
      kept_at (kept_of code entries) i ≡ option_map (kept_by code) e
  kept_read [] i e lt at = absurd (omega arith)
  kept_read (x ∷ entries) zero e lt at = ap (option_map (kept_by code)) (sym at)
  kept_read (x ∷ entries) (suc i) e lt at = kept_read entries i e (omega arith) at

  pub there_inside : (entries : List (Option (Entry C K V))) (numbers : List ℕ) (W : WorldModel) (s : W.State) (fuel depth : ℕ) (call : Tree) →
      length numbers ≡ length entries → (j : ℕ) → HoldsThere W s fuel depth call (kept_of code entries) j → j < length numbers
  there_inside entries numbers W s fuel depth call long j h =
      let lt = kept_inside (kept_of code entries) j h.outcome h.at in
      omega (arith, length-map entries (option_map (kept_by code)))

pub key_read : {K : Type 0} (code : K → Tree) (keys : List (Option K)) (i : ℕ) (k : Option K) → i < length keys → k ≡ get_or keys i k →
    get_or (keys_of code keys) i None ≡ option_map code k
key_read code [] i k lt at = absurd (omega arith)
key_read code (x ∷ keys) zero k lt at = ap (option_map code) (sym at)
key_read code (x ∷ keys) (suc i) k lt at = key_read code keys i k (omega arith) at

module _ (W : WorldModel) (s : W.State) (fuel depth : ℕ) (call : Tree) (kept : List (Option KeptOutcome)) (i : ℕ) where
  pub there_of : (o : Option KeptOutcome) → kept_at kept i ≡ o → HoldsIn W s fuel depth call o → HoldsThere W s fuel depth call kept i
  there_of None is h = absurd h
  there_of (Some o) is h = record { outcome = o; at = is; holds = h }

  pub in_of : (o : Option KeptOutcome) → kept_at kept i ≡ o → HoldsThere W s fuel depth call kept i → HoldsIn W s fuel depth call o
  in_of None is h = let e : Some h.outcome ≡ None = sym h.at ∙ is in cc
  in_of (Some o) is h =
      let e : Some h.outcome ≡ Some o = sym h.at ∙ is in
      let same : h.outcome ≡ o = cc in
      subst (HoldsOf W s fuel depth call) same h.holds

-- one that holds, and whose first key is the one listed here
pub record HoldsFirst (W : WorldModel) (s : W.State) (fuel depth : ℕ) (call : Tree) (kept : List (Option KeptOutcome)) (numbers : List ℕ) (keys : List (Option Tree)) (g : ℕ) : Type 0 where
  pub inside : g < length numbers
  pub place : ℕ
  pub there : HoldsThere W s fuel depth call kept place
  pub key_is : get_or keys g None ≡ first_key there.outcome.summary.read

module _ (W : WorldModel) (s : W.State) (fuel depth : ℕ) (call : Tree) (kept : List (Option KeptOutcome)) (number value : Tree → ℕ) (answers numbers : List ℕ) (keys : List (Option Tree))
    (f : IsFindable number value kept answers numbers keys) where
  -- where none holds under the number of the answer that is given here, none holds whose first key is this one
  pub none_first : (g : ℕ) (key : Option Tree) (n : ℕ) → get_or keys g None ≡ key → n ≡ here_number W s (number call) value key →
      ((i : ℕ) → get_or answers i 0 ≡ n → HoldsThere W s fuel depth call kept i → ⊥) →
      HoldsFirst W s fuel depth call kept numbers keys g → ⊥
  none_first g key n at is none h =
      let o = h.there.outcome in
      none h.place
      (f.answer_is h.place o h.there.at
      ∙ ap (λ c. found_number (number c) value o.summary.read) h.there.holds.same
      ∙ here_is W s (number call) value key o.summary.read (sym at ∙ h.key_is) h.there.holds.holds.answers
      ∙ sym is)
      h.there

  -- where none holds whose first key is listed, none holds
  pub none_at_all : ((g : ℕ) → get_or numbers g 0 ≡ number call → HoldsFirst W s fuel depth call kept numbers keys g → ⊥) →
      (i : ℕ) → HoldsThere W s fuel depth call kept i → ⊥
  none_at_all none i h =
      let l = f.listed i h.outcome h.at in
      none l.place (l.number_is ∙ ap number h.holds.same) (record { inside = l.inside; place = i; there = h; key_is = l.key_is })

-- what is left once the dead are given up
module _ {I : Type 0} (nodes : List (Node I)) where
  live_step : (o p : KeptOutcome) (b : Bool) → nat_lt 0 (node_at nodes o.node).owners ≡ b → cond b (Some o) None ≡ Some p →
      (Some o ≡ Some p) × (nat_lt 0 (node_at nodes p.node).owners ≡ true)
  live_step o p true is at = let e : o ≡ p = cc in (at, ap (λ (x : KeptOutcome). nat_lt 0 (node_at nodes x.node).owners) (sym e) ∙ is)
  live_step o p false is at = cc

  pub live_at : (kept : List (Option KeptOutcome)) (i : ℕ) (p : KeptOutcome) → kept_at (map (while_live nodes) kept) i ≡ Some p →
      (kept_at kept i ≡ Some p) × (nat_lt 0 (node_at nodes p.node).owners ≡ true)
  live_at [] i p is = cc
  live_at (None ∷ kept) zero p is = cc
  live_at (Some o ∷ kept) zero p is = live_step o p (nat_lt 0 (node_at nodes o.node).owners) refl is
  live_at (x ∷ kept) (suc i) p is = live_at kept i p is

  pub findable_live : (call value : Tree → ℕ) (kept : List (Option KeptOutcome)) (answers numbers : List ℕ) (keys : List (Option Tree)) →
      IsFindable call value kept answers numbers keys → IsFindable call value (map (while_live nodes) kept) answers numbers keys
  findable_live call value kept answers numbers keys f = record {
    long = f.long ∙ sym (length-map kept (while_live nodes));
    answer_is = λ i o is. f.answer_is i o (live_at kept i o is).0;
    listed = λ i o is. f.listed i o (live_at kept i o is).0;
  }

-- and all that is left stands
pub live_stand : (M : MachineModel) (rebased : Tree → Tree → ℕ → Tree) (call_of : Tree → M.Call) {I : Type 0} (item_of : I → M.Item) (old new : List (Node I)) (kept : List (Option KeptOutcome)) →
    ((y : ℕ) → IsLive new y → points new y ≡ points old y) → AllStand M rebased call_of item_of old kept → AllStand M rebased call_of item_of new (map (while_live new) kept)
live_stand M rebased call_of item_of old new kept same stand i o is =
    let l = live_at new kept i o is in
    let s = stand i o l.0 in
    let alive : IsLive new o.node = ltb-true 0 (node_at new o.node).owners l.1 in
    record {
      live = alive;
      outcome = subst (λ ps. IsOutcome M rebased (call_of o.call) o.depth (map (point_by item_of) ps) o.ended o.summary) (sym (same o.node alive)) s.outcome;
    }
