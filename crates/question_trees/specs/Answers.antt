-- The answer that a tree is read as: by its kind, and then by what that kind says. A tree that no answer has is read as some
-- answer too. This project.
use Rattle.std.specs.Prelude.{ℕ, ◌==◌, Bool, false, List, [], ◌∷◌, ℤ, pos, negsuc, if◌then◌else◌}
use Rattle.hl_base.specs.declared.set.Answer.{Answer}
use Rattle.hl_base.specs.declared.set.Answer.TheVariants as answer
use Rattle.kept_values.specs.Trees.{Tree, Leaf, Fork}

-- the list that a tree is: its numbers in order
abbrev pub list_in : Tree → List ℕ
list_in (Leaf n) = []
list_in (Fork (Leaf x) rest) = x ∷ list_in rest
list_in (Fork (Fork a b) rest) = []

-- the bit
abbrev pub bit_in : Tree → Bool
bit_in (Leaf n) = n == 1
bit_in (Fork a b) = false

-- the integer: its sign and its size
abbrev pub integer_in : Tree → ℤ
integer_in (Leaf n) = pos 0
integer_in (Fork (Leaf s) (Leaf n)) = if s == 0 then pos n else negsuc n
integer_in (Fork (Leaf s) (Fork a b)) = pos 0
integer_in (Fork (Fork a b) t) = pos 0

-- the file of a path with its text, and what a symbol means
abbrev pub file_in : Tree → Answer
file_in (Leaf n) = answer.Nothing
file_in (Fork (Leaf path) (Leaf text)) = answer.File (record { 0 = path }) (record { 0 = text })
file_in (Fork (Leaf path) (Fork a b)) = answer.Nothing
file_in (Fork (Fork a b) t) = answer.Nothing

abbrev pub meaning_in : Tree → Answer
meaning_in (Leaf n) = answer.Nothing
meaning_in (Fork (Leaf letter) (Leaf length)) = answer.Meaning (record { letter = letter; length = length })
meaning_in (Fork (Leaf letter) (Fork a b)) = answer.Nothing
meaning_in (Fork (Fork a b) t) = answer.Nothing

-- An answer of this kind: those that say nothing more, and those that do. The kind of macros (8) tells that an operation is
-- defined; of what else is known expressions are told nothing.
abbrev pub plain_answer_in : ℕ → Answer
plain_answer_in kind = if kind == 4 then answer.Defined else (if kind == 6 then answer.Unreadable else answer.Nothing)

abbrev pub answer_of_kind : ℕ → Tree → Answer
answer_of_kind kind t =
    if kind == 1 then answer.Number (integer_in t)
    else (if kind == 2 then answer.Bit (bit_in t)
    else (if kind == 3 then answer.Chars (list_in t)
    else (if kind == 5 then file_in t
    else (if kind == 7 then meaning_in t
    else (if kind == 8 then answer.Defined
    else answer.Nothing)))))

-- the answer
abbrev pub answer_in : Tree → Answer
answer_in (Leaf kind) = plain_answer_in kind
answer_in (Fork (Leaf kind) t) = answer_of_kind kind t
answer_in (Fork (Fork a b) t) = answer.Nothing
