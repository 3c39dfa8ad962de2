-- Expressions that are seen at a glance (HLASM Language Reference SC26-4940, "Terms", "Expressions").
use Rattle.std.specs.Prelude.{◌≡◌, ℕ, ◌≤◌, List, Ok}
use Rattle.expression_grammar.specs.declared.character.Grammar.TheVariants.{Ordinary}
use Rattle.expression_grammar.specs.Readings.{read}
use Rattle.expression_grammar.specs.Spelling.{most_parts}
use Rattle.expression_grammar.specs.Trees.{Tree, size}

-- what is read of all of a text is this tree
pub record IsRead (text : List ℕ) (tree : Tree) : Type 0 where
  pub whole : read Ordinary text ≡ Ok tree
  pub small : size tree ≤ most_parts
