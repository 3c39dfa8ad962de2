-- Trees of questions: what more answers change, and that restarts end.
use Rattle.std.proofs.Common.{◌≡◌, ◌∙◌, refl, List, Option, Some, None, sym, ap}
use Rattle.hl_base.specs.declared.note.Note.{Note}
use Rattle.hl_base.specs.declared.set.Key.{Key}
use Rattle.hl_base.specs.declared.set.Answer.{Answer}
use Rattle.cond_expr.specs.Outcome.{Outcome, Gives, Asks}
use Rattle.cond_expr.specs.Asking.{Asking, done, needs, Noted, Answers, told, outcome, IsAsking, HasAll, MoreChangesNothing, AsksWhatIsMissing, Ends, settled, unsettled}

-- along one tree

told_keeps : {V : Type 0} (key : Key) (next : Answer → Asking (Noted V)) (answers later : Answers) (value : V) (notes : List Note) → HasAll later answers → (found : Option Answer) →
    answers key ≡ found → told key (λ answer. outcome answers (next answer)) found ≡ Gives value notes → ((answer : Answer) → outcome answers (next answer) ≡ Gives value notes → outcome later (next answer) ≡ Gives value notes) →
    told key (λ answer. outcome later (next answer)) (later key) ≡ Gives value notes
told_keeps key next answers later value notes all None is gives keeps = cc
told_keeps key next answers later value notes all (Some answer) is gives keeps =
    ap (λ found. told key (λ a. outcome later (next a)) found) (all key answer is) ∙ keeps answer gives

tree_keeps : {V : Type 0} (tree : Asking (Noted V)) (answers later : Answers) (value : V) (notes : List Note) → HasAll later answers →
    outcome answers tree ≡ Gives value notes → outcome later tree ≡ Gives value notes
tree_keeps (done noted) answers later value notes all gives = gives
tree_keeps (needs key next) answers later value notes all gives =
    told_keeps key next answers later value notes all (answers key) refl gives (λ answer. tree_keeps (next answer) answers later value notes all)

told_misses : {V : Type 0} (first : Key) (next : Answer → Asking (Noted V)) (answers : Answers) (key : Key) (found : Option Answer) →
    answers first ≡ found → told first (λ answer. outcome answers (next answer)) found ≡ Asks key → ((answer : Answer) → outcome answers (next answer) ≡ Asks key → answers key ≡ None) →
    answers key ≡ None
told_misses first next answers key None is asks misses = cc
told_misses first next answers key (Some answer) is asks misses = misses answer asks

tree_misses : {V : Type 0} (tree : Asking (Noted V)) (answers : Answers) (key : Key) → outcome answers tree ≡ Asks key → answers key ≡ None
tree_misses (done noted) answers key asks = cc
tree_misses (needs first next) answers key asks =
    told_misses first next answers key (answers first) refl asks (λ answer. tree_misses (next answer) answers key)

-- an evaluation that has come as far as a subtree, whatever more is answered
abbrev Reached : {V : Type 0} → (Answers → Outcome V) → Asking (Noted V) → Answers → Type 0
Reached evaluation tree answers = (later : Answers) → HasAll later answers → evaluation later ≡ outcome later tree

told_ends : {V : Type 0} (evaluation : Answers → Outcome V) (key : Key) (next : Answer → Asking (Noted V)) (answers : Answers) (found : Option Answer) → answers key ≡ found → Reached evaluation (needs key next) answers →
    ((answer : Answer) (later : Answers) → Reached evaluation (next answer) later → Ends evaluation later) → Ends evaluation answers
told_ends evaluation key next answers None is reached ends =
    unsettled answers key (reached answers (λ k a e. e) ∙ ap (told key (λ a. outcome answers (next a))) is)
    (λ answer later all has. ends answer later (λ last more. reached last (λ k a e. more k a (all k a e)) ∙ ap (told key (λ a. outcome last (next a))) (more key answer has)))
told_ends evaluation key next answers (Some answer) is reached ends =
    ends answer answers (λ last more. reached last more ∙ ap (told key (λ a. outcome last (next a))) (more key answer is))

reached_ends : {V : Type 0} (evaluation : Answers → Outcome V) (tree : Asking (Noted V)) (answers : Answers) → Reached evaluation tree answers → Ends evaluation answers
reached_ends evaluation (done noted) answers reached = settled answers noted.value noted.notes (reached answers (λ k a e. e))
reached_ends evaluation (needs key next) answers reached =
    told_ends evaluation key next answers (answers key) refl reached (λ answer later. reached_ends evaluation (next answer) later)

-- of every evaluation

pub more_changes_nothing : {V : Type 0} (evaluation : Answers → Outcome V) → IsAsking evaluation → MoreChangesNothing evaluation
more_changes_nothing evaluation asking answers later value notes all gives =
    asking.is later ∙ tree_keeps asking.tree answers later value notes all (sym (asking.is answers) ∙ gives)

pub asks_what_is_missing : {V : Type 0} (evaluation : Answers → Outcome V) → IsAsking evaluation → AsksWhatIsMissing evaluation
asks_what_is_missing evaluation asking answers key asks = tree_misses asking.tree answers key (sym (asking.is answers) ∙ asks)

pub restarts_end : {V : Type 0} (evaluation : Answers → Outcome V) (answers : Answers) → IsAsking evaluation → Ends evaluation answers
restarts_end evaluation answers asking = reached_ends evaluation asking.tree answers (λ later all. asking.is later)
