-- What a caller has of values with one tree (this project).
use Rattle.std.specs.Prelude.{◌≡◌, ℕ, List}
use Rattle.hl_base.specs.declared.set.Key.{Key}
use Rattle.hl_base.specs.declared.set.Answer.{Answer}
use Rattle.kept_values.specs.Lists.{list_tree}
use Rattle.kept_values.specs.Keys.{key_tree}
use Rattle.kept_values.specs.Answers.{answer_tree}

-- keys with one tree are one key
abbrev pub KeysAreTheirTrees : Type 0
KeysAreTheirTrees = (one other : Key) → key_tree one ≡ key_tree other → one ≡ other

-- answers with one tree are one answer
abbrev pub AnswersAreTheirTrees : Type 0
AnswersAreTheirTrees = (one other : Answer) → answer_tree one ≡ answer_tree other → one ≡ other

-- lists of characters, as those of names and texts, with one tree are one list
abbrev pub TextsAreTheirTrees : Type 0
TextsAreTheirTrees = (one other : List ℕ) → list_tree one ≡ list_tree other → one ≡ other
