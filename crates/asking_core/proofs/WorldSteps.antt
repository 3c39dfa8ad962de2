-- A world that fits, after puts and counted calls.
use Rattle.std.proofs.Common.{◌≡◌, ℕ, ◌+◌, Bool, true, false, cond, List, [], ◌∷◌, ◌++◌, Some, None, unwrap_or, refl, sym, ap, ◌∙◌}
use Rattle.kept_values.specs.Trees.{Tree, Pair, same_tree, look_up}
use Rattle.kept_values.proofs.TreeLaws.{same_tree-one}
use Rattle.asking_core.specs.Worlds.{WorldModel, Fits, put_all, moved, Holds}

-- every key that was put is writable
abbrev pub AllWritable : (Tree → Bool) → List Pair → Type 0
AllWritable writable [] = Unit {0}
AllWritable writable (p ∷ ps) = (writable p.key ≡ true) × AllWritable writable ps

pub AllWritable-append : (writable : Tree → Bool) (a b : List Pair) → AllWritable writable a → AllWritable writable b → AllWritable writable (a ++ b)
AllWritable-append writable [] b x y = y
AllWritable-append writable (p ∷ a) b x y = (x.0, AllWritable-append writable a b x.1 y)

found_step : (writable : Tree → Bool) (p : Pair) (ps : List Pair) (key value : Tree) (b : Bool) → same_tree p.key key ≡ b → writable p.key ≡ true →
    (look_up ps key ≡ Some value → writable key ≡ true) → cond b (Some p.value) (look_up ps key) ≡ Some value → writable key ≡ true
found_step writable p ps key value true is here there found = ap writable (sym (same_tree-one p.key key is)) ∙ here
found_step writable p ps key value false is here there found = there found

pub writable_found : (writable : Tree → Bool) (ps : List Pair) (key value : Tree) → AllWritable writable ps → look_up ps key ≡ Some value → writable key ≡ true
writable_found writable [] key value x found = cc
writable_found writable (p ∷ ps) key value x found =
    found_step writable p ps key value (same_tree p.key key) refl x.0 (writable_found writable ps key value x.1) found

pub Holds-append : (W : WorldModel) (s : W.State) (a b : List Pair) → Holds W s a → Holds W s b → Holds W s (a ++ b)
Holds-append W s [] b x y = y
Holds-append W s (p ∷ a) b x y = (x.0, Holds-append W s a b x.1 y)

pub Holds-parts : (W : WorldModel) (s : W.State) (a b : List Pair) → Holds W s (a ++ b) → Holds W s a × Holds W s b
Holds-parts W s [] b x = (tt, x)
Holds-parts W s (p ∷ a) b x = let rest = Holds-parts W s a b x.1 in ((x.0, rest.0), rest.1)

pub put_all-append : (W : WorldModel) (s : W.State) (a b : List Pair) → put_all W s (a ++ b) ≡ put_all W (put_all W s b) a
put_all-append W s [] b = refl
put_all-append W s (p ∷ a) b = ap (λ y. W.after_put y p.key p.value) (put_all-append W s a b)

module _ (W : WorldModel) (moving writable : Tree → Bool) (rebased : Tree → Tree → ℕ → Tree) (fits : Fits W moving writable rebased) where
  pub bump_put_all : (s : W.State) (ps : List Pair) (n : ℕ) → AllWritable writable ps → W.after_bump (put_all W s ps) n ≡ put_all W (W.after_bump s n) ps
  bump_put_all s [] n x = refl
  bump_put_all s (p ∷ ps) n x =
      fits.bump_put (put_all W s ps) p.key p.value n x.0 ∙ ap (λ y. W.after_put y p.key p.value) (bump_put_all s ps n x.1)

  pub enter_put_all : (s : W.State) (ps : List Pair) → AllWritable writable ps → W.after_enter (put_all W s ps) ≡ put_all W (W.after_enter s) ps
  enter_put_all s [] x = refl
  enter_put_all s (p ∷ ps) x =
      fits.enter_put (put_all W s ps) p.key p.value x.0 ∙ ap (λ y. W.after_put y p.key p.value) (enter_put_all s ps x.1)

  pub enter_moved : (s : W.State) (ps : List Pair) (n : ℕ) → AllWritable writable ps → W.after_enter (moved W s ps n) ≡ moved W (W.after_enter s) ps n
  enter_moved s ps n x = fits.enter_bump (put_all W s ps) n ∙ ap (λ y. W.after_bump y n) (enter_put_all s ps x)

  pub moved_moved : (s : W.State) (ps : List Pair) (n : ℕ) (qs : List Pair) (k : ℕ) → AllWritable writable qs →
      moved W (moved W s ps n) qs k ≡ moved W s (qs ++ ps) (n + k)
  moved_moved s ps n qs k x =
      ap (λ y. W.after_bump y k) (sym (bump_put_all (put_all W s ps) qs n x))
      ∙ fits.bump_more (put_all W (put_all W s ps) qs) n k
      ∙ ap (λ y. W.after_bump y (n + k)) (sym (put_all-append W s qs ps))

  pub moved_put : (s : W.State) (ps : List Pair) (n : ℕ) (key value : Tree) → writable key ≡ true →
      W.after_put (moved W s ps n) key value ≡ moved W s (record { key = key; value = value } ∷ ps) n
  moved_put s ps n key value x = sym (fits.bump_put (put_all W s ps) key value n x)

  pub moved_bump : (s : W.State) (ps : List Pair) (n : ℕ) → W.after_bump (moved W s ps n) 1 ≡ moved W s ps (n + 1)
  moved_bump s ps n = fits.bump_more (put_all W s ps) n 1

  put_step : (s : W.State) (p : Pair) (ps : List Pair) (key : Tree) (b : Bool) → same_tree p.key key ≡ b → writable p.key ≡ true →
      W.answer (put_all W s ps) key ≡ unwrap_or (look_up ps key) (W.answer s key) →
      W.answer (W.after_put (put_all W s ps) p.key p.value) key ≡ unwrap_or (cond b (Some p.value) (look_up ps key)) (W.answer s key)
  put_step s p ps key true is here further =
      ap (λ y. W.answer (W.after_put (put_all W s ps) p.key p.value) y) (sym (same_tree-one p.key key is))
      ∙ fits.put_same (put_all W s ps) p.key p.value here
  put_step s p ps key false is here further = fits.put_other (put_all W s ps) p.key p.value key here is ∙ further

  pub answer_put_all : (s : W.State) (ps : List Pair) (key : Tree) → AllWritable writable ps →
      W.answer (put_all W s ps) key ≡ unwrap_or (look_up ps key) (W.answer s key)
  answer_put_all s [] key x = refl
  answer_put_all s (p ∷ ps) key x = put_step s p ps key (same_tree p.key key) refl x.0 (answer_put_all s ps key x.1)

  pub answer_written : (s : W.State) (ps : List Pair) (n : ℕ) (key value : Tree) → AllWritable writable ps → look_up ps key ≡ Some value →
      W.answer (moved W s ps n) key ≡ value
  answer_written s ps n key value x is =
      fits.bump_kept (put_all W s ps) key n (fits.writable_stays key (writable_found writable ps key value x is))
      ∙ answer_put_all s ps key x
      ∙ ap (λ o. unwrap_or o (W.answer s key)) is

  unset_step : (s : W.State) (ps : List Pair) (n : ℕ) (key : Tree) (b : Bool) → moving key ≡ b → (moving key ≡ true → n ≡ 0) →
      W.answer (moved W s ps n) key ≡ W.answer (put_all W s ps) key
  unset_step s ps n key false is calm = fits.bump_kept (put_all W s ps) key n is
  unset_step s ps n key true is calm =
      ap (λ m. W.answer (W.after_bump (put_all W s ps) m) key) (calm is) ∙ ap (λ y. W.answer y key) (fits.bump_none (put_all W s ps))

  pub answer_unset : (s : W.State) (ps : List Pair) (n : ℕ) (key : Tree) → AllWritable writable ps → look_up ps key ≡ None →
      (moving key ≡ true → n ≡ 0) → W.answer (moved W s ps n) key ≡ W.answer s key
  answer_unset s ps n key x is calm =
      unset_step s ps n key (moving key) refl calm ∙ answer_put_all s ps key x ∙ ap (λ o. unwrap_or o (W.answer s key)) is

  pub entered_written : (s : W.State) (ps : List Pair) (n : ℕ) (key value : Tree) → AllWritable writable ps → look_up ps key ≡ Some value →
      W.answer (W.after_enter (moved W s ps n)) key ≡ value
  entered_written s ps n key value x is =
      fits.enter_kept (moved W s ps n) key (fits.writable_stays key (writable_found writable ps key value x is))
      ∙ answer_written s ps n key value x is

  pub entered_unset : (s : W.State) (ps : List Pair) (n : ℕ) (key : Tree) → AllWritable writable ps → look_up ps key ≡ None →
      W.answer (W.after_enter (moved W s ps n)) key ≡ W.answer (W.after_enter (W.after_bump s n)) key
  entered_unset s ps n key x is =
      ap (λ y. W.answer (W.after_enter y) key) (bump_put_all s ps n x)
      ∙ ap (λ y. W.answer y key) (enter_put_all (W.after_bump s n) ps x)
      ∙ answer_put_all (W.after_enter (W.after_bump s n)) ps key x
      ∙ ap (λ o. unwrap_or o (W.answer (W.after_enter (W.after_bump s n)) key)) is
