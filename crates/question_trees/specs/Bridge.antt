-- Trees of questions over keys and answers, as trees of questions over trees of numbers. This project.
use Rattle.std.specs.Prelude.{◌≡◌, List, [], ◌∷◌, Option, Some, None, option_map, if◌then◌else◌}
use Rattle.hl_base.specs.declared.set.Key.{Key}
use Rattle.hl_base.specs.declared.set.Answer.{Answer}
use Rattle.kept_values.specs.Trees.{Tree, same_tree, look_up}
use Rattle.kept_values.specs.Keys.{key_tree}
use Rattle.kept_values.specs.Answers.{answer_tree}
use Rattle.asking_core.specs.declared.footprint.Noted.{Noted as NotedPair}
use Rattle.asking_core.specs.Places.{pairs_of}
use Rattle.cond_expr.specs.Outcome.{Outcome, Gives, Asks}
use Rattle.cond_expr.specs.Asking as typed
use Rattle.cond_expr.specs.Asking.{Noted, Answers, IsAsking}
use Rattle.plain_expansion.specs.Questions.{Asking, done, needs, Led, Comes, Wants, led_by, result_by}
use Rattle.question_trees.specs.Answers.{answer_in}

-- the same questions as trees, with what is made of the result
abbrev pub over_trees : {A B : Type 0} → (A → B) → typed.Asking A → Asking Tree Tree B
over_trees made (typed.done result) = done (made result)
over_trees made (typed.needs key next) = needs (key_tree key) (λ value. over_trees made (next (answer_in value)))

-- the answers that trees are
abbrev pub answers_in : (Tree → Option Tree) → Answers
answers_in told key = option_map answer_in (told (key_tree key))

-- how far an evaluation was led, as how far a tree is
abbrev pub led_as : {V B : Type 0} → (Noted V → B) → Outcome V → Led Tree B
led_as made (Gives value notes) = Comes (made (record { value = value; notes = notes }))
led_as made (Asks key) = Wants (key_tree key)

-- the tree leads as far as the evaluation
abbrev pub LeadsAsFar : {V : Type 0} (B : Type 0) (evaluation : Answers → Outcome V) → IsAsking evaluation → Type 0
LeadsAsFar {V} B evaluation is = (made : Noted V → B) (told : Tree → Option Tree) →
    led_by told (over_trees made is.tree) ≡ led_as made (evaluation (answers_in told))

-- what a tree over keys and answers comes to where each key has an answer
abbrev pub result_of : {A : Type 0} → (Key → Answer) → typed.Asking A → A
result_of answer (typed.done result) = result
result_of answer (typed.needs key next) = result_of answer (next (answer key))

-- both come to one result
abbrev pub ComesToTheResult : {A : Type 0} (B : Type 0) → typed.Asking A → Type 0
ComesToTheResult {A} B tree = (made : A → B) (answer : Tree → Tree) →
    result_by answer (over_trees made tree) ≡ made (result_of (λ key. answer_in (answer (key_tree key))) tree)

-- an evaluation with all answers
abbrev pub EvaluatesToTheResult : {V : Type 0} (evaluation : Answers → Outcome V) → IsAsking evaluation → Type 0
EvaluatesToTheResult evaluation is = (answer : Key → Answer) →
    let noted = result_of answer is.tree in evaluation (λ key. Some (answer key)) ≡ Gives noted.value noted.notes

-- the first answer of a key, of those that were noted
abbrev pub answer_to : List (NotedPair Key Answer) → Answers
answer_to [] key = None
answer_to (n ∷ ns) key = if same_tree (key_tree n.key) (key_tree key) then Some n.value else answer_to ns key

abbrev pub TellsWhatIsNoted : Type 0
TellsWhatIsNoted = (ns : List (NotedPair Key Answer)) (key : Key) →
    answers_in (look_up (pairs_of key_tree answer_tree ns)) key ≡ answer_to ns key
