-- What is read from the tree of an answer is the answer.
use Rattle.std.proofs.Common.{◌≡◌, ℕ, Bool, true, false, List, [], ◌∷◌, ℤ, pos, negsuc, refl, ap}
use Rattle.hl_base.specs.declared.set.Answer.{Answer}
use Rattle.hl_base.specs.declared.set.Answer.TheVariants as answer
use Rattle.kept_values.specs.Lists.{list_tree, bit_tree, integer_tree}
use Rattle.kept_values.specs.Answers.{answer_tree}
use Rattle.question_trees.specs.Answers.{list_in, bit_in, integer_in, answer_in}

list_back : (xs : List ℕ) → list_in (list_tree xs) ≡ xs
list_back [] = refl
list_back (x ∷ xs) = ap (λ l. x ∷ l) (list_back xs)

bit_back : (b : Bool) → bit_in (bit_tree b) ≡ b
bit_back false = refl
bit_back true = refl

integer_back : (z : ℤ) → integer_in (integer_tree z) ≡ z
integer_back (pos n) = refl
integer_back (negsuc n) = refl

pub answer_back : (a : Answer) → answer_in (answer_tree a) ≡ a
answer_back answer.Nothing = refl
answer_back (answer.Number number) = ap answer.Number (integer_back number)
answer_back (answer.Bit bit) = ap answer.Bit (bit_back bit)
answer_back (answer.Chars text) = ap answer.Chars (list_back text)
answer_back answer.Defined = refl
answer_back (answer.File path text) = refl
answer_back answer.Unreadable = refl
answer_back (answer.Meaning meaning) = refl
