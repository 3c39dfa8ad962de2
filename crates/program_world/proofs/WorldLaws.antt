-- The world of a program fits the rules on keys.
use Rattle.std.proofs.Common.{◌≡◌, ℕ, ◌+◌, ◌==◌, ◌||◌, ◌<◌, Bool, true, false, cond, Option, Some, [], refl, sym, ap, ◌∙◌, subst, eqb-true}
use Rattle.std.specs.Prelude.{unwrap_or}
use Rattle.std.proofs.lemmas.Bool.{ltb-true}
use Rattle.hl_base.specs.declared.set.Answer.TheVariants as answer
use Rattle.kept_values.specs.Trees.{Tree, Leaf, Fork, same_tree}
use Rattle.kept_values.specs.Answers.{answer_tree}
use Rattle.kept_values.proofs.TreeLaws.{same_tree-same}
use Rattle.asking_core.specs.Worlds.{Fits}
use Rattle.asking_core.specs.Counters.{Round, round, Counted}
use Rattle.asking_core.proofs.CounterLaws.{counters_fit}
use Rattle.call_sites.specs.Rules.{is_moving, is_writable, number_tree, taken_back, rebased}
use Rattle.program_world.specs.World.{ProgramState, is_look, is_member, look_answer, member_answer, program_answer, program_world, with_put}
use Rattle.program_world.proofs.BitLaws.{taken_back-more, taken_back_once}

-- counters that go round
abbrev both_counters : Round → Counted
both_counters c = record { calls = c; depth = c; cell = Leaf 0 }

abbrev calls_in : Counted → Round
calls_in s = s.calls

abbrev depth_in : Counted → Round
depth_in s = s.depth

none_more : (c : Round) → round (c.number + 0) ≡ c
none_more c = ap calls_in (counters_fit.bump_none (both_counters c))

two_more : (c : Round) (m n : ℕ) → round ((round (c.number + m)).number + n) ≡ round (c.number + (m + n))
two_more c m n = ap calls_in (counters_fit.bump_more (both_counters c) m n)

one_less : (d : Round) → round ((round (d.number + 1)).number + 4294967295) ≡ d
one_less d = ap depth_in (counters_fit.leave_enter (both_counters d))

below : (c : Round) → c.number < 4294967296
below c = ltb-true c.number 4294967296 c.small

-- an answer to a key that nobody may put
abbrev looked_for : ProgramState → Tree → Tree
looked_for s key = cond (is_member key) (member_answer s.members key) (cond (is_look key) (look_answer s key) (answer_tree answer.Nothing))

-- an answer by what was put for its key
abbrev answered : Option Tree → ProgramState → Tree → Tree
answered put s (Leaf kind) =
    cond (5 == kind) (unwrap_or put (answer_tree (answer.Chars [])))
    (cond (6 == kind) (number_tree s.depth.number)
    (cond (7 == kind) (answer_tree (answer.Chars s.parm))
    (cond (8 == kind) (number_tree s.calls.number) (answer_tree answer.Nothing))))
answered put s (Fork kind named) = cond (is_writable (Fork kind named)) (unwrap_or put (answer_tree answer.Nothing)) (looked_for s (Fork kind named))

answer-answered : (s : ProgramState) (key : Tree) → program_answer s key ≡ answered (s.put key) s key
answer-answered s (Leaf kind) = refl
answer-answered s (Fork kind named) = refl

stays : (key : Tree) → is_writable key ≡ true → is_moving key ≡ false
stays (Leaf kind) w = subst (λ k. is_moving (Leaf k) ≡ false) (sym (eqb-true kind 5 w)) refl
stays (Fork left right) w = refl

-- what was put is answered
put_same : (s : ProgramState) (key value : Tree) → is_writable key ≡ true → program_answer (record s { put = with_put s.put key value }) key ≡ value
put_same s (Leaf kind) value w =
    subst (λ k. program_answer (record s { put = with_put s.put (Leaf k) value }) (Leaf k) ≡ value) (sym (eqb-true kind 5 w)) refl
put_same s (Fork kind named) value w =
    let key = Fork kind named in
    let nothing = answer_tree answer.Nothing in
    ap (λ t. cond t (unwrap_or (with_put s.put key value key) nothing) (looked_for s key)) w
    ∙ ap (λ t. unwrap_or (cond t (Some value) (s.put key)) nothing) (same_tree-same key)

-- and no other answer changes
other_answer : (s : ProgramState) (key value other : Tree) → with_put s.put key value other ≡ s.put other →
    program_answer (record s { put = with_put s.put key value }) other ≡ program_answer s other
other_answer s key value (Leaf kind) is = ap (λ o. answered o s (Leaf kind)) is
other_answer s key value (Fork kind named) is = ap (λ o. answered o s (Fork kind named)) is

put_other : (s : ProgramState) (key value other : Tree) → is_writable key ≡ true → same_tree key other ≡ false →
    program_answer (record s { put = with_put s.put key value }) other ≡ program_answer s other
put_other s key value other w differ = other_answer s key value other (ap (λ t. cond t (Some value) (s.put other)) differ)

-- a key that does not move is neither Nest nor Counter
neither : (x y : Bool) → (x || y) ≡ false → (x ≡ false) × (y ≡ false)
neither true y is = cc
neither false true is = cc
neither false false is = (refl, refl)

other_kind : (kind this : ℕ) (t : Bool) → (this == kind) ≡ t → (kind == this) ≡ false → (this == kind) ≡ false
other_kind kind this true is differ =
    let e : this ≡ kind = eqb-true this kind is in
    absurd (let same : (kind == this) ≡ true = subst (λ k. (k == this) ≡ true) e (subst (λ k. (this == k) ≡ true) (sym e) is) in cc)
other_kind kind this false is differ = is

bump_kept : (s : ProgramState) (key : Tree) (n : ℕ) → is_moving key ≡ false →
    program_answer (record s { calls = round (s.calls.number + n) }) key ≡ program_answer s key
bump_kept s (Leaf kind) n m =
    let counter = other_kind kind 8 (8 == kind) refl (neither (kind == 6) (kind == 8) m).1 in
    let under : Tree → Tree = λ last. cond (5 == kind) (unwrap_or (s.put (Leaf kind)) (answer_tree (answer.Chars [])))
    (cond (6 == kind) (number_tree s.depth.number) (cond (7 == kind) (answer_tree (answer.Chars s.parm)) last)) in
    ap (λ t. under (cond t (number_tree ((round (s.calls.number + n)).number)) (answer_tree answer.Nothing))) counter
    ∙ ap (λ t. under (cond t (number_tree s.calls.number) (answer_tree answer.Nothing))) (sym counter)
bump_kept s (Fork left right) n m = refl

enter_kept : (s : ProgramState) (key : Tree) → is_moving key ≡ false →
    program_answer (record s { depth = round (s.depth.number + 1) }) key ≡ program_answer s key
enter_kept s (Leaf kind) m =
    let nest = other_kind kind 6 (6 == kind) refl (neither (kind == 6) (kind == 8) m).0 in
    let rest = cond (7 == kind) (answer_tree (answer.Chars s.parm)) (cond (8 == kind) (number_tree s.calls.number) (answer_tree answer.Nothing)) in
    let under : Tree → Tree = λ last. cond (5 == kind) (unwrap_or (s.put (Leaf kind)) (answer_tree (answer.Chars []))) last in
    ap (λ t. under (cond t (number_tree ((round (s.depth.number + 1)).number)) rest)) nest
    ∙ ap (λ t. under (cond t (number_tree s.depth.number) rest)) (sym nest)
enter_kept s (Fork left right) m = refl

-- an answer just within a call
abbrev entered : ProgramState → ℕ → ProgramState
entered s n = record s { calls = round (s.calls.number + n); depth = round (s.depth.number + 1) }

kept : (s : ProgramState) (key : Tree) (n : ℕ) → is_moving key ≡ false → program_answer (entered s n) key ≡ program_answer s key
kept s key n m = enter_kept (record s { calls = round (s.calls.number + n) }) key m ∙ bump_kept s key n m

neither_moves : (x y : Bool) → x ≡ false → y ≡ false → (x || y) ≡ false
neither_moves true y x_is y_is = x_is
neither_moves false y x_is y_is = y_is

back_step : (s : ProgramState) (kind n : ℕ) (x y : Bool) → (kind == 8) ≡ x → (kind == 6) ≡ y →
    cond x (taken_back (program_answer (entered s n) (Leaf kind)) n)
    (cond y (taken_back (program_answer (entered s n) (Leaf kind)) 1) (program_answer (entered s n) (Leaf kind))) ≡ program_answer s (Leaf kind)
back_step s kind n true y x_is y_is =
    subst (λ k. taken_back (program_answer (entered s n) (Leaf k)) n ≡ program_answer s (Leaf k)) (sym (eqb-true kind 8 x_is)) (taken_back-more s.calls.number n (below s.calls))
back_step s kind n false true x_is y_is =
    subst (λ k. taken_back (program_answer (entered s n) (Leaf k)) 1 ≡ program_answer s (Leaf k)) (sym (eqb-true kind 6 y_is)) (taken_back-more s.depth.number 1 (below s.depth))
back_step s kind n false false x_is y_is = kept s (Leaf kind) n (neither_moves (kind == 6) (kind == 8) y_is x_is)

back : (s : ProgramState) (key : Tree) (n : ℕ) → rebased key (program_answer (entered s n) key) n ≡ program_answer s key
back s (Leaf kind) n = back_step s kind n (kind == 8) (kind == 6) refl refl
back s (Fork left right) n = refl

once_step : (x y : Bool) (one other : Tree) (n : ℕ) →
    cond x (taken_back one n) (cond y (taken_back one 1) one) ≡ cond x (taken_back other n) (cond y (taken_back other 1) other) → one ≡ other
once_step true y one other n is = taken_back_once one other n is
once_step false true one other n is = taken_back_once one other 1 is
once_step false false one other n is = is

once : (key one other : Tree) (n : ℕ) → rebased key one n ≡ rebased key other n → one ≡ other
once (Leaf kind) one other n is = once_step (kind == 8) (kind == 6) one other n is
once (Fork left right) one other n is = is

pub program_world_fits : Fits program_world is_moving is_writable rebased
program_world_fits = record {
  writable_stays = stays;
  put_same = put_same;
  put_other = put_other;
  bump_none = λ s. ap (λ c. record s { calls = c }) (none_more s.calls);
  bump_more = λ s m n. ap (λ c. record s { calls = c }) (two_more s.calls m n);
  bump_put = λ s key value n w. refl;
  enter_put = λ s key value w. refl;
  enter_bump = λ s n. refl;
  leave_enter = λ s. ap (λ d. record s { depth = d }) (one_less s.depth);
  bump_kept = bump_kept;
  enter_kept = enter_kept;
  rebased_back = back;
  rebased_once = once;
}
