-- What keys, answers, calls and what is shown mean. This project.
use Rattle.std.specs.Prelude.{ℕ, zero, suc, ◌-◌, Bool, true, false, List}
use Rattle.kept_values.specs.Trees.{Tree, Leaf, Fork}
use Rattle.asking_core.specs.Counters.{tree_back}
use Rattle.plain_expansion.specs.Example as example
use Rattle.plain_expansion.specs.Example.{value_key, calls_key}
use Rattle.expansion_step.specs.Meaning.{Reads, Means, meaning, fault_by}
use Rattle.example_language.specs.declared.values.Question.{Question}
use Rattle.example_language.specs.declared.values.Question.TheVariants as question
use Rattle.example_language.specs.declared.values.Value.{Value}
use Rattle.example_language.specs.declared.values.ListNumber.{ListNumber}
use Rattle.example_language.specs.declared.values.Shown.{Shown}
use Rattle.example_language.specs.declared.values.Knowledge.{Knowledge}
use Rattle.example_language.specs.declared.values.Change.{Change}
use Rattle.example_language.specs.declared.values.Change.TheVariants as change

abbrev pub question_tree : Question → Tree
question_tree question.Value = value_key
question_tree question.Calls = calls_key

abbrev pub value_tree : Value → Tree
value_tree v = Leaf v.number

abbrev pub call_tree : ListNumber → Tree
call_tree c = Leaf c.number

-- the call that a tree is
abbrev pub call_in : Tree → ℕ
call_in (Leaf number) = number
call_in (Fork left right) = 0

abbrev pub known_by : Knowledge → example.Knows
known_by k = record { branches = k.branches; calls = Leaf k.calls }

-- what a call knows after a change
abbrev pub changed_by : Change → example.Knows → example.Knows
changed_by change.Unchanged k = k
changed_by change.TakesBranch k = record k { branches = k.branches - 1 }

abbrev pub shown_by : Shown → example.Shown
shown_by s = record { line = s.line; deep = s.deep; said = Leaf s.said; fault = fault_by s.fault }

-- what the values of code mean in the language of these lists
abbrev pub reading : (lists : List (List example.Line)) (branches : ℕ) → Reads (example.example lists branches) ℕ ℕ Knowledge Change ℕ Shown
reading lists branches = record { listing = λ n. n; label = λ n. n; known = known_by; changed = changed_by; said = Leaf; item = shown_by }

abbrev pub means : (lists : List (List example.Line)) (branches : ℕ) →
    Means (example.example lists branches) ℕ ℕ Knowledge Change ℕ Shown ListNumber Question Value
means lists branches = meaning (reading lists branches) call_in call_tree question_tree value_tree

-- the answer to how many calls were counted moves with calls, and the value may be set
abbrev pub calls_move : Tree → Bool
calls_move (Leaf zero) = false
calls_move (Leaf (suc n)) = true
calls_move (Fork left right) = false

abbrev pub value_is_writable : Tree → Bool
value_is_writable (Leaf zero) = true
value_is_writable (Leaf (suc n)) = false
value_is_writable (Fork left right) = false

-- the count of calls, taken back
abbrev pub calls_back : Tree → Tree → ℕ → Tree
calls_back (Leaf zero) value n = value
calls_back (Leaf (suc m)) value n = tree_back value n
calls_back (Fork left right) value n = value
