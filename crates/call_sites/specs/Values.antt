-- What is answered to a key, as a tree, and what expressions are told of it. This project.
use Rattle.std.specs.Prelude.{ℕ, ◌==◌, if◌then◌else◌}
use Rattle.hl_base.specs.declared.set.Answer.{Answer}
use Rattle.hl_base.specs.declared.set.Answer.TheVariants.{Defined, Nothing}
use Rattle.kept_values.specs.Trees.{Tree, Leaf, Fork, tree_number}
use Rattle.kept_values.specs.Lists.{list_tree}
use Rattle.kept_values.specs.Answers.{answer_tree}
use Rattle.macro_library.specs.Contents.{Content}
use Rattle.macro_library.specs.Files.{File}
use Rattle.macro_library.specs.Trees.{content_tree, definition_number, left_in, number_in}
use Rattle.call_sites.specs.declared.known.Known.{Known}
use Rattle.call_sites.specs.declared.known.Known.TheVariants as known

-- the macro that says this, and a member
abbrev pub definition_known : Content → Tree
definition_known content = Fork (Leaf 8) (content_tree content)

abbrev pub member_known : File → Tree
member_known file = Fork (Leaf 9) (Fork (Leaf file.path.0) (list_tree file.text))

-- an answer is the tree of what it says; a macro and a member have kinds of their own
abbrev pub known_tree : Known → Tree
known_tree (known.Plain answer) = answer_tree answer
known_tree (known.Macro content) = definition_known content
known_tree (known.Member file) = member_known file

-- Expressions are told of a macro that its operation is defined, and nothing of a member.
abbrev pub told_of : Known → Answer
told_of (known.Plain answer) = answer
told_of (known.Macro content) = Defined
told_of (known.Member file) = Nothing

-- the number of a macro is that of what its definition says, and that of a member its path: a text may be long
abbrev pub number_of_kind : (kind : ℕ) → Tree → ℕ
number_of_kind kind t =
    if kind == 8 then definition_number t
    else (if kind == 9 then number_in (left_in t)
    else tree_number (Fork (Leaf kind) t))

abbrev pub known_number : Tree → ℕ
known_number (Leaf kind) = tree_number (Leaf kind)
known_number (Fork (Leaf kind) t) = number_of_kind kind t
known_number (Fork (Fork a b) t) = tree_number (Fork (Fork a b) t)
