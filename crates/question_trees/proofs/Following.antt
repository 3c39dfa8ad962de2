-- Following the one tree is following the other.
use Rattle.std.proofs.Common.{◌≡◌, Bool, true, false, cond, [], ◌∷◌, Option, Some, None, refl, sym, ap, ◌∙◌}
use Rattle.std.specs.Prelude.{option_map}
use Rattle.hl_base.specs.declared.set.Key.{Key}
use Rattle.hl_base.specs.declared.set.Answer.{Answer}
use Rattle.kept_values.specs.Trees.{Tree, same_tree, look_up}
use Rattle.kept_values.specs.Keys.{key_tree}
use Rattle.kept_values.specs.Answers.{answer_tree}
use Rattle.asking_core.specs.Places.{pairs_of}
use Rattle.cond_expr.specs.Outcome.{Outcome, Gives}
use Rattle.cond_expr.specs.Asking as typed
use Rattle.cond_expr.specs.Asking.{Noted, Answers, IsAsking, outcome, told}
use Rattle.plain_expansion.specs.Questions.{Led, led_by, led_on}
use Rattle.question_trees.specs.Answers.{answer_in}
use Rattle.question_trees.specs.Bridge.{over_trees, answers_in, led_as, LeadsAsFar, result_of, ComesToTheResult, EvaluatesToTheResult, answer_to, TellsWhatIsNoted}
use Rattle.question_trees.proofs.ReadBack.{answer_back}

module _ {V B : Type 0} (made : Noted V → B) where
  -- behind one question
  on_as : (key : Key) (o : Option Tree) (next : Tree → Led Tree B) (goes : Answer → Outcome V) →
      ((value : Tree) → next value ≡ led_as made (goes (answer_in value))) →
      led_on (key_tree key) next o ≡ led_as made (told key goes (option_map answer_in o))
  on_as key None next goes same = refl
  on_as key (Some value) next goes same = same value

  leads : (tree : typed.Asking (Noted V)) (given : Tree → Option Tree) →
      led_by given (over_trees made tree) ≡ led_as made (outcome (answers_in given) tree)
  leads (typed.done noted) given = refl
  leads (typed.needs key next) given =
      on_as key (given (key_tree key)) (λ value. led_by given (over_trees made (next (answer_in value))))
      (λ answer. outcome (answers_in given) (next answer)) (λ value. leads (next (answer_in value)) given)

pub leads_as_far : (V B : Type 0) (evaluation : Answers → Outcome V) (is : IsAsking evaluation) → LeadsAsFar B evaluation is
leads_as_far V B evaluation is = λ made given. leads made is.tree given ∙ sym (ap (led_as made) (is.is (answers_in given)))

pub comes_to_the_result : (A B : Type 0) (tree : typed.Asking A) → ComesToTheResult B tree
comes_to_the_result A B (typed.done result) = λ made answer. refl
comes_to_the_result A B (typed.needs key next) =
    λ made answer. comes_to_the_result A B (next (answer_in (answer (key_tree key)))) made answer

gives_result : {V : Type 0} (answer : Key → Answer) (tree : typed.Asking (Noted V)) →
    outcome (λ key. Some (answer key)) tree ≡ Gives (result_of answer tree).value (result_of answer tree).notes
gives_result answer (typed.done noted) = refl
gives_result answer (typed.needs key next) = gives_result answer (next (answer key))

pub evaluates_to_the_result : (V : Type 0) (evaluation : Answers → Outcome V) (is : IsAsking evaluation) →
    EvaluatesToTheResult evaluation is
evaluates_to_the_result V evaluation is = λ answer. is.is (λ key. Some (answer key)) ∙ gives_result answer is.tree

found_or_not : (b : Bool) (a : Answer) (o : Option Tree) (rest : Option Answer) → option_map answer_in o ≡ rest →
    option_map answer_in (cond b (Some (answer_tree a)) o) ≡ cond b (Some a) rest
found_or_not true a o rest is = ap Some (answer_back a)
found_or_not false a o rest is = is

pub tells_what_is_noted : TellsWhatIsNoted
tells_what_is_noted [] key = refl
tells_what_is_noted (n ∷ ns) key =
    found_or_not (same_tree (key_tree n.key) (key_tree key)) n.value (look_up (pairs_of key_tree answer_tree ns) (key_tree key))
    (answer_to ns key) (tells_what_is_noted ns key)
