-- Footprints joined in another order say the same, pair by pair.
use Rattle.std.proofs.Common.{◌≡◌, ℕ, Bool, true, false, cond, List, [], ◌∷◌, ◌++◌, Option, Some, None, is_some, refl, sym, ap, ◌∙◌}
use Rattle.std.specs.Option.{option_or}
use Rattle.kept_values.specs.Trees.{Tree, Pair, same_tree, look_up}
use Rattle.kept_values.proofs.TreeLaws.{same_tree-one}
use Rattle.asking_core.specs.Footprints.{carried, noted, merged, unless_there}
use Rattle.asking_core.proofs.FootprintSteps.{noted_there, noted_new}
use Rattle.asking_core.proofs.MergeLaws.{look_up-merged, merged-append}

some_or : (o p : Option Tree) → is_some p ≡ true → is_some (option_or o p) ≡ true
some_or None p there = there
some_or (Some v) p there = refl

is_some-merged : (a ps : List Pair) (k : Tree) → is_some (look_up ps k) ≡ true → is_some (look_up (merged a ps) k) ≡ true
is_some-merged a ps k there = ap is_some (look_up-merged a ps k) ∙ some_or (look_up a k) (look_up ps k) there

merged-noted : (a ps : List Pair) (q : Pair) (b : Bool) → is_some (look_up ps q.key) ≡ b → merged a (noted ps q) ≡ noted (merged a ps) q
merged-noted a ps q true is = ap (merged a) (noted_there ps q is) ∙ sym (noted_there (merged a ps) q (is_some-merged a ps q.key is))
merged-noted a ps q false is = ap (merged a) (noted_new ps q is) ∙ merged-append a ps (q ∷ [])

-- a footprint joined with one that was joined
pub merged-merged : (a ps qs : List Pair) → merged a (merged ps qs) ≡ merged (merged a ps) qs
merged-merged a ps [] = refl
merged-merged a ps (q ∷ qs) =
    merged-merged a (noted ps q) qs ∙ ap (λ x. merged x qs) (merged-noted a ps q (is_some (look_up ps q.key)) refl)

-- one pair that is noted, before the others are
pub merged-unless : (a : List Pair) (o : Option Tree) (p : Pair) (rest : List Pair) → merged (merged a (unless_there o p [])) rest ≡ merged a (unless_there o p rest)
merged-unless a None p rest = refl
merged-unless a (Some v) p rest = refl

module _ (rebased : Tree → Tree → ℕ → Tree) (puts : List Pair) (n : ℕ) where
  abbrev back : Pair → Pair
  back q = record { key = q.key; value = rebased q.key q.value n }

  carried_step : (o : Option Tree) (p : Pair) (a b : List Pair) → unless_there o p (a ++ b) ≡ unless_there o p a ++ b
  carried_step None p a b = refl
  carried_step (Some v) p a b = refl

  carried-append : (a b : List Pair) → carried rebased puts n (a ++ b) ≡ carried rebased puts n a ++ carried rebased puts n b
  carried-append [] b = refl
  carried-append (q ∷ a) b =
      ap (unless_there (look_up puts q.key) (back q)) (carried-append a b)
      ∙ carried_step (look_up puts q.key) (back q) (carried rebased puts n a) (carried rebased puts n b)

  -- a key that was not put is carried
  there_step : (q : Pair) (k : Tree) (qs : List Pair) (o : Option Tree) (b : Bool) → look_up puts q.key ≡ o → look_up puts k ≡ None → same_tree q.key k ≡ b →
      (is_some (look_up qs k) ≡ true → is_some (look_up (carried rebased puts n qs) k) ≡ true) →
      is_some (cond b (Some q.value) (look_up qs k)) ≡ true →
      is_some (look_up (unless_there o (back q) (carried rebased puts n qs)) k) ≡ true
  there_step q k qs (Some v) true put unset same later there =
      let e : look_up puts q.key ≡ look_up puts k = ap (look_up puts) (same_tree-one q.key k same) in
      let wrong : Some v ≡ None = sym put ∙ e ∙ unset in
      cc
  there_step q k qs None true put unset same later there = ap (λ b. is_some (cond b (Some (rebased q.key q.value n)) (look_up (carried rebased puts n qs) k))) same
  there_step q k qs (Some v) false put unset same later there = later there
  there_step q k qs None false put unset same later there =
      ap (λ b. is_some (cond b (Some (rebased q.key q.value n)) (look_up (carried rebased puts n qs) k))) same ∙ later there

  carried-there : (qs : List Pair) (k : Tree) → look_up puts k ≡ None → is_some (look_up qs k) ≡ true → is_some (look_up (carried rebased puts n qs) k) ≡ true
  carried-there [] k unset there = there
  carried-there (q ∷ qs) k unset there = there_step q k qs (look_up puts q.key) (same_tree q.key k) refl unset refl (carried-there qs k unset) there

  -- a pair whose key the list has already adds nothing where it is carried behind it
  again : (a qs : List Pair) (q : Pair) (o : Option Tree) (rest : List Pair) → look_up puts q.key ≡ o → is_some (look_up qs q.key) ≡ true →
      merged (merged a (carried rebased puts n qs)) rest ≡ merged (merged a (carried rebased puts n qs)) (unless_there o (back q) rest)
  again a qs q (Some v) rest put there = refl
  again a qs q None rest put there =
      let held = is_some-merged a (carried rebased puts n qs) q.key (carried-there qs q.key put there) in
      sym (ap (λ x. merged x rest) (noted_there (merged a (carried rebased puts n qs)) (back q) held))

  carried-noted : (a ps : List Pair) (q : Pair) (rest : List Pair) (b : Bool) → is_some (look_up ps q.key) ≡ b →
      merged (merged a (carried rebased puts n (noted ps q))) rest
      ≡ merged (merged a (carried rebased puts n ps)) (unless_there (look_up puts q.key) (back q) rest)
  carried-noted a ps q rest true is =
      ap (λ x. merged (merged a (carried rebased puts n x)) rest) (noted_there ps q is)
      ∙ again a ps q (look_up puts q.key) rest refl is
  carried-noted a ps q rest false is =
      ap (λ x. merged (merged a (carried rebased puts n x)) rest) (noted_new ps q is)
      ∙ ap (λ x. merged (merged a x) rest) (carried-append ps (q ∷ []))
      ∙ ap (λ x. merged x rest) (merged-append a (carried rebased puts n ps) (carried rebased puts n (q ∷ [])))
      ∙ merged-unless (merged a (carried rebased puts n ps)) (look_up puts q.key) (back q) rest

  pub carried-merged : (a ps qs : List Pair) →
      merged a (carried rebased puts n (merged ps qs)) ≡ merged (merged a (carried rebased puts n ps)) (carried rebased puts n qs)
  carried-merged a ps [] = refl
  carried-merged a ps (q ∷ qs) =
      carried-merged a (noted ps q) qs ∙ carried-noted a ps q (carried rebased puts n qs) (is_some (look_up ps q.key)) refl

-- what a nested call read is told alike by puts of the same keys
alike_step : (o p : Option Tree) (q : Pair) (a b : List Pair) → is_some o ≡ is_some p → a ≡ b → unless_there o q a ≡ unless_there p q b
alike_step None None q a b same rest = ap (λ x. q ∷ x) rest
alike_step (Some v) (Some w) q a b same rest = rest
alike_step None (Some w) q a b same rest = cc
alike_step (Some v) None q a b same rest = cc

pub carried-alike : (rebased : Tree → Tree → ℕ → Tree) (puts others : List Pair) (n : ℕ) (qs : List Pair) →
    ((k : Tree) → is_some (look_up puts k) ≡ is_some (look_up others k)) → carried rebased puts n qs ≡ carried rebased others n qs
carried-alike rebased puts others n [] same = refl
carried-alike rebased puts others n (q ∷ qs) same =
    alike_step (look_up puts q.key) (look_up others q.key) (record { key = q.key; value = rebased q.key q.value n })
    (carried rebased puts n qs) (carried rebased others n qs) (same q.key) (carried-alike rebased puts others n qs same)
