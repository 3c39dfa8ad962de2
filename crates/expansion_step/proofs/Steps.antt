-- What an action and the next place are, at the places of the model.
use Rattle.std.proofs.Common.{◌≡◌, ◌-◌, List, [], ◌∷◌, ◌++◌, map, reverse, Option, Some, None, refl, sym, ap, ◌∙◌, subst}
use Rattle.std.specs.Prelude.{option_map, slice_get, IfOk, Result, Ok, Err}
use Rattle.kept_values.specs.Trees.{Tree, Pair, look_up}
use Rattle.asking_core.specs.Machines.{Told, Ask}
use Rattle.plain_expansion.specs.Questions.{Comes, led_by}
use Rattle.plain_expansion.specs.Language.{Language, Effect, Level as LevelOf, Stack as StackOf}
use Rattle.plain_expansion.specs.Expansion.{copier, outermost}
use Rattle.plain_expansion.specs.Engine as engine
use Rattle.plain_expansion.specs.Engine.{Ready, Doing, Deciding, next_place, opened, heard, entry_heard, step_by, led_move, led_next}
use Rattle.expansion_step.specs.declared.stack.Level.{Level}
use Rattle.expansion_step.specs.declared.stack.Stack.{Stack}
use Rattle.expansion_step.specs.declared.phase.Entrance.{Entrance}
use Rattle.expansion_step.specs.declared.phase.Opened.{Opened}
use Rattle.expansion_step.specs.declared.phase.Taken.{Taken}
use Rattle.expansion_step.specs.Meaning.{Means, call_by, level_by}
use Rattle.expansion_step.specs.Places.{hearing, deciding}
use Rattle.expansion_step.specs.Takes.{Takes, Opens}
use Rattle.std.proofs.lemmas.List.{reverse-append}

some-same : {X : Type 0} (a b : X) → Some a ≡ Some b → a ≡ b
some-same a b is = cc

-- the outermost of lists that are kept the other way round
outermost-last : (L : Language) (l m : LevelOf L.words) (ls : List (LevelOf L.words)) → outermost l (ls ++ m ∷ []) ≡ m.position - 1
outermost-last L l m [] = refl
outermost-last L l m (n ∷ ls) = outermost-last L (copier n) m ls

pub outermost-reverse : (L : Language) (l m : LevelOf L.words) (ls : List (LevelOf L.words)) → outermost l (reverse (m ∷ ls)) ≡ m.position - 1
outermost-reverse L l m ls = ap (outermost l) (reverse-append (m ∷ []) ls) ∙ outermost-last L l m (reverse ls)

pub if_ok-map : {X E : Type 0} (r : Result X E) (P Q : X → Type 0) → ((x : X) → P x → Q x) → IfOk r P → IfOk r Q
if_ok-map (Ok x) P Q go holds = go x holds
if_ok-map (Err e) P Q go holds = holds

module _ {L : Language} {T B N D S I C K V : Type 0} (m : Means L T B N D S I C K V) where
  -- the outermost list is the first that is kept
  pub outermost-some : (x : Stack T N) (xs : List (Level T)) (l : Level T) → slice_get xs 0 ≡ Some l →
      l.position - 1 ≡ outermost (level_by m x.here) (reverse (map (level_by m) xs))
  outermost-some x [] l is = cc
  outermost-some x (a ∷ xs) l is =
      let one : a ≡ l = some-same a l is in
      sym (outermost-reverse L (level_by m x.here) (level_by m a) (map (level_by m) xs) ∙ ap (λ y. y.position - 1) one)

  pub outermost-none : (x : Stack T N) (xs : List (Level T)) → slice_get xs 0 ≡ None →
      x.here.position ≡ outermost (level_by m x.here) (reverse (map (level_by m) xs))
  outermost-none x [] is = refl
  outermost-none x (a ∷ xs) is = cc

  pub takes-at : (r q : Ready L.words L.Item) (x : Stack T N) (t : Taken T C K V I) → r ≡ q → Takes m r x t → Takes m q x t
  takes-at r q x t is takes = let At : Ready L.words L.Item → Type 0 = λ y. Takes m y x t in subst At is takes

  pub opens-at : (r q : Ready L.words L.Item) (e : Entrance C K V) (o : Opened T N C K V I) → r ≡ q → Opens m r e o → Opens m q e o
  opens-at r q e o is opens = let At : Ready L.words L.Item → Type 0 = λ y. Opens m y e o in subst At is opens

  pub takes-as : (r q : Ready L.words L.Item) (x : Stack T N) (t : Taken T C K V I) → engine.move_of L r ≡ engine.move_of L q →
      next_place L r ≡ next_place L q →
      Takes m r x t → Takes m q x t
  takes-as r q x t move next takes = record { action = takes.action ∙ move; place = takes.place ∙ next }

  -- a key of the entry is asked
  pub asks-move : (c : L.words.Call) (ks rest : List Tree) (ps : List Pair) (k asked : Tree) → ks ≡ k ∷ rest → asked ≡ k →
      Ask asked ≡ engine.move_of L (opened L c ks ps)
  asks-move c ks rest ps k asked is same = ap Ask same ∙ sym (ap (λ y. engine.move_of L (opened L c y ps)) is)

  pub asks-next : (c : C) (ks rest : List Tree) (ps : List Pair) (k : Tree) → ks ≡ k ∷ rest →
      hearing m c ks ps ≡ next_place L (opened L (call_by m c) ks ps)
  asks-next c ks rest ps k is =
      let Same : List Tree → Type 0 = λ y. hearing m c y ps ≡ next_place L (opened L (call_by m c) y ps) in
      subst Same (sym is) refl

  -- what is told where a key of the entry was asked
  pub heard-none : (c : C) (ks : List Tree) (ps : List Pair) (g : Told) → ks ≡ [] →
      opened L (call_by m c) ks ps ≡ heard L (hearing m c ks ps) g
  heard-none c ks ps g is =
      let Same : List Tree → Type 0 = λ y. opened L (call_by m c) y ps ≡ heard L (hearing m c y ps) g in
      subst Same (sym is) refl

  pub heard-more : (c : C) (ks rest : List Tree) (ps qs : List Pair) (g : Told) (k : Tree) → ks ≡ k ∷ rest →
      opened L (call_by m c) rest qs ≡ entry_heard L g (call_by m c) k rest ps →
      opened L (call_by m c) rest qs ≡ heard L (hearing m c ks ps) g
  heard-more c ks rest ps qs g k is same = same ∙ sym (ap (λ y. heard L (hearing m c y ps) g) is)

  some-one : {X : Type 0} (a b : X) → Some a ≡ Some b → a ≡ b
  some-one a b is = cc

  -- a statement whose effect is known
  pub decides-does : (o : Option L.words.Statement) (x : StackOf L.words) (ps : List Pair) (e : Effect L.words) (y : Stack T N)
      (t : Taken T C K V I) →
      Some (Comes e) ≡ option_map (λ s. led_by (look_up ps) (L.effect_of s x.known)) o → Takes m (Doing (step_by L e x)) y t →
      Takes m (deciding m o x ps) y t
  decides-does None x ps e y t is takes = cc
  decides-does (Some s) x ps e y t is takes =
      let led : Comes e ≡ led_by (look_up ps) (L.effect_of s x.known) = some-one (Comes e)
      (led_by (look_up ps) (L.effect_of s x.known)) is in
      takes-as (Doing (step_by L e x)) (Deciding x s ps) y t (ap (λ z. led_move L z x) led) (ap (λ z. led_next L z x s ps) led) takes
