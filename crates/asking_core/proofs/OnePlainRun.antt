-- There is one plain run only.
use Rattle.std.proofs.Common.{◌≡◌, ℕ, ◌+◌, ◌-◌, refl, sym, ap, ◌∙◌, subst, arith}
use Rattle.kept_values.specs.Trees.{Tree}
use Rattle.asking_core.specs.Worlds.{WorldModel}
use Rattle.asking_core.specs.Machines.{MachineModel, Told, Nothing, Answered, Returned, TooDeep}
use Rattle.asking_core.specs.Runs.{Run, Leaves, Ends, Spent, Asks, Puts, Counts, Bumps, Emits, Moves, Deepens, Rises, Refused, Calls, Barred, Ending, ByLeave, ByEnd, ByBudget, ending, Back, Follows, Agrees, Within, after_run, cost}

back_one : {C I : Type 0} (e : Ending) (t u : Run C I) (P Q : Type 0) → Back e t P → Back e u Q → (P → Q → t ≡ u) → t ≡ u
back_one ByLeave t u P Q a b k = k a b
back_one ByEnd t u P Q a b k = a ∙ sym b
back_one ByBudget t u P Q a b k = a ∙ sym b

module _ (M : MachineModel) (W : WorldModel) where
  abbrev Same : Run M.Call M.Item → Run M.Call M.Item → Type 0
  Same t u = (s : W.State) (p : M.Place) (g : Told) (f d o : ℕ) → Follows M p g t → Follows M p g u → Agrees W s t → Agrees W s u →
      Within f d o t → Within f d o u → t ≡ u

  called : (c e : M.Call) (child kid t u : Run M.Call M.Item) → Same child kid → Same t u → Same (Calls c child t) (Calls e kid u)
  called c e child kid t u inner rest s p g f d o ft fu at au wt wu =
      let calls : c ≡ e = cc in
      let starts : M.Call → Type 0 = λ x. Follows M (M.start x) Nothing kid in
      let kids : child ≡ kid = inner (W.after_enter s) (M.start c) Nothing f (d + o + 1) 0 ft.1 (subst starts (sym calls) fu.1) at.0 au.0 wt.1 wu.1 in
      let Backs : Run M.Call M.Item → Type 0 = λ x. Back (ending x) u (Follows M (M.after p g) Returned u) in
      let Told_so : Run M.Call M.Item → Type 0 = λ x. Agrees W (W.after_leave (after_run W (W.after_enter s) x)) u in
      let Room : Run M.Call M.Item → Type 0 = λ x. Within (f - cost x) d o u in
      let rests : t ≡ u =
      back_one (ending child) t u (Follows M (M.after p g) Returned t) (Follows M (M.after p g) Returned u) ft.2 (subst Backs (sym kids) fu.2)
      (λ a b. rest (W.after_leave (after_run W (W.after_enter s) child)) (M.after p g) Returned (f - cost child) d o a b
      at.1 (subst Told_so (sym kids) au.1) wt.2 (subst Room (sym kids) wu.2)) in
      ap (λ x. Calls x child t) calls ∙ ap (λ x. Calls e x t) kids ∙ ap (Calls e kid) rests

  asked : (k l v w : Tree) (t u : Run M.Call M.Item) → Same t u → Same (Asks k v t) (Asks l w u)
  asked k l v w t u rest s p g f d o ft fu at au wt wu =
      let keys : k ≡ l = cc in
      let values : v ≡ w = sym at.0 ∙ ap (W.answer s) keys ∙ au.0 in
      let Goes : Tree → Type 0 = λ x. Follows M (M.after p g) (Answered x) u in
      let rests : t ≡ u = rest s (M.after p g) (Answered v) f d o ft.1 (subst Goes (sym values) fu.1) at.1 au.1 wt wu in
      ap (λ x. Asks x v t) keys ∙ ap (λ x. Asks l x t) values ∙ ap (Asks l w) rests

  put : (k l v w : Tree) (t u : Run M.Call M.Item) → Same t u → Same (Puts k v t) (Puts l w u)
  put k l v w t u rest s p g f d o ft fu at au wt wu =
      let keys : k ≡ l = cc in
      let values : v ≡ w = cc in
      let states : W.after_put s k v ≡ W.after_put s l w = ap (λ x. W.after_put s x v) keys ∙ ap (W.after_put s l) values in
      let Told_so : W.State → Type 0 = λ x. Agrees W x u in
      let rests : t ≡ u = rest (W.after_put s k v) (M.after p g) Nothing f d o ft.1 fu.1 at (subst Told_so (sym states) au) wt wu in
      ap (λ x. Puts x v t) keys ∙ ap (λ x. Puts l x t) values ∙ ap (Puts l w) rests

  emitted_so : (i j : M.Item) (t u : Run M.Call M.Item) → Same t u → Same (Emits i t) (Emits j u)
  emitted_so i j t u rest s p g f d o ft fu at au wt wu =
      let items : i ≡ j = cc in
      let rests : t ≡ u = rest s (M.after p g) Nothing f d o ft.1 fu.1 at au wt wu in
      ap (λ x. Emits x t) items ∙ ap (Emits j) rests

  at_one : (i j : ℕ) (t u : Run M.Call M.Item) → Same t u → Same (Moves i t) (Moves j u)
  at_one i j t u rest s p g f d o ft fu at au wt wu =
      let numbers : i ≡ j = cc in
      let Told_so : ℕ → Type 0 = λ x. Agrees W (W.after_at s x) u in
      let rests : t ≡ u = rest (W.after_at s i) (M.after p g) Nothing f d o ft.1 fu.1 at (subst Told_so (sym numbers) au) wt wu in
      ap (λ x. Moves x t) numbers ∙ ap (Moves j) rests

  pub same_run : (t u : Run M.Call M.Item) → Same t u
  same_run Leaves Leaves s p g f d o ft fu at au wt wu = refl
  same_run Ends Ends s p g f d o ft fu at au wt wu = refl
  same_run Spent Spent s p g f d o ft fu at au wt wu = refl
  same_run (Asks k v t) (Asks l w u) s p g f d o ft fu at au wt wu = asked k l v w t u (same_run t u) s p g f d o ft fu at au wt wu
  same_run (Puts k v t) (Puts l w u) s p g f d o ft fu at au wt wu = put k l v w t u (same_run t u) s p g f d o ft fu at au wt wu
  same_run (Counts t) (Counts u) s p g f d o ft fu at au wt wu = ap Counts (same_run t u s (M.after p g) Nothing (f - 1) d o ft.1 fu.1 at au wt.1 wu.1)
  same_run (Bumps t) (Bumps u) s p g f d o ft fu at au wt wu = ap Bumps (same_run t u (W.after_bump s 1) (M.after p g) Nothing f d o ft.1 fu.1 at au wt wu)
  same_run (Emits i t) (Emits j u) s p g f d o ft fu at au wt wu = emitted_so i j t u (same_run t u) s p g f d o ft fu at au wt wu
  same_run (Moves i t) (Moves j u) s p g f d o ft fu at au wt wu = at_one i j t u (same_run t u) s p g f d o ft fu at au wt wu
  same_run (Deepens t) (Deepens u) s p g f d o ft fu at au wt wu = ap Deepens (same_run t u s (M.after p g) Nothing f d (o + 1) ft.1 fu.1 at au wt.1 wu.1)
  same_run (Rises t) (Rises u) s p g f d o ft fu at au wt wu = ap Rises (same_run t u s (M.after p g) Nothing f d (o - 1) ft.1 fu.1 at au wt wu)
  same_run (Refused t) (Refused u) s p g f d o ft fu at au wt wu = ap Refused (same_run t u s (M.after p g) TooDeep f d o ft.1 fu.1 at au wt.1 wu.1)
  same_run (Calls c child t) (Calls e kid u) s p g f d o ft fu at au wt wu =
      called c e child kid t u (same_run child kid) (same_run t u) s p g f d o ft fu at au wt wu
  same_run (Barred c t) (Barred e u) s p g f d o ft fu at au wt wu =
      let calls : c ≡ e = cc in
      ap (λ x. Barred x t) calls ∙ ap (Barred e) (same_run t u s (M.after p g) TooDeep f d o ft.1 fu.1 at au wt.1 wu.1)
  same_run Spent (Counts u) s p g f d o ft fu at au wt wu = absurd (omega arith)
  same_run (Counts t) Spent s p g f d o ft fu at au wt wu = absurd (omega arith)
  same_run (Deepens t) (Refused u) s p g f d o ft fu at au wt wu = absurd (omega arith)
  same_run (Refused t) (Deepens u) s p g f d o ft fu at au wt wu = absurd (omega arith)
  same_run (Calls c child t) (Barred e u) s p g f d o ft fu at au wt wu = absurd (omega arith)
  same_run (Barred c t) (Calls e kid u) s p g f d o ft fu at au wt wu = absurd (omega arith)
  same_run t u s p g f d o ft fu at au wt wu = cc
