-- Surroundings of which answers are what is missing (this project): a frame says what each variable symbol stands for, as a
-- tree of questions, since the value of a global SET symbol is an answer.
use Rattle.std.specs.Prelude.{ℕ, ℤ, List, Option, Some, None}
use Rattle.hl_base.specs.declared.set.Key.{Key}
use Rattle.hl_base.specs.declared.set.Answer.{Answer}
use Rattle.hl_base.specs.declared.set.SetValue.{SetValue}
use Rattle.cond_expr.specs.declared.lookups.Found.{Found}
use Rattle.cond_expr.specs.declared.lookups.Found.TheVariants as found
use Rattle.cond_expr.specs.Told.{Told}
use Rattle.cond_expr.specs.Outcome.{Outcome}
use Rattle.cond_expr.specs.Asking.{Asking, done, needs, Answers, IsAsking}

-- what a variable symbol stands for once nothing is missing: a value, the text of a parameter or a system variable, or
-- nothing, with the code of the note that says why
pub data Standing : Type 0 where
  value : (value : SetValue) → Standing
  parameter : (text : List ℕ) → Standing
  fault : (code : ℕ) → Standing

-- what each variable symbol with its subscripts stands for, and how many positional operands the call has
pub record Frame : Type 0 where
  pub variable : List ℕ → List ℤ → Asking Standing
  pub positionals : ℕ

abbrev pub found_of : Standing → Found
found_of (value v) = found.Value v
found_of (parameter text) = found.Parameter text
found_of (fault code) = found.Fault code

-- what comes behind a question, under the answer to it
abbrev pub found_told : Key → (Answer → Found) → Option Answer → Found
found_told key next None = found.Ask key
found_told key next (Some answer) = next answer

-- what a variable symbol stands for under the answers given, or the first that is missing
abbrev pub found_by : Answers → Asking Standing → Found
found_by answers (done standing) = found_of standing
found_by answers (needs key next) = found_told key (λ answer. found_by answers (next answer)) (answers key)

-- what an evaluation is told by a frame and the answers given
abbrev pub told_by : Frame → Answers → Told
told_by frame answers = record {
  variable = λ name subscripts. found_by answers (frame.variable name subscripts);
  positionals = frame.positionals;
  answer = answers;
}

-- over each frame an evaluation goes along a tree of questions
abbrev pub IsAskingOver : {V : Type 0} → (Told → Outcome V) → Type 0
IsAskingOver evaluation = (frame : Frame) → IsAsking (λ answers. evaluation (told_by frame answers))
