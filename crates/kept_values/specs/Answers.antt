-- Answers as trees: what kind of answer it is, and then what it says. This project.
use Rattle.hl_base.specs.declared.set.Answer.{Answer}
use Rattle.hl_base.specs.declared.set.Answer.TheVariants as answer
use Rattle.kept_values.specs.Trees.{Tree, Leaf, Fork}
use Rattle.kept_values.specs.Lists.{list_tree, bit_tree, integer_tree}

-- an answer
abbrev pub answer_tree : Answer → Tree
answer_tree answer.Nothing = Leaf 0
answer_tree (answer.Number number) = Fork (Leaf 1) (integer_tree number)
answer_tree (answer.Bit bit) = Fork (Leaf 2) (bit_tree bit)
answer_tree (answer.Chars text) = Fork (Leaf 3) (list_tree text)
answer_tree answer.Defined = Leaf 4
answer_tree (answer.File path text) = Fork (Leaf 5) (Fork (Leaf path.0) (Leaf text.0))
answer_tree answer.Unreadable = Leaf 6
answer_tree (answer.Meaning meaning) = Fork (Leaf 7) (Fork (Leaf meaning.letter) (Leaf meaning.length))
