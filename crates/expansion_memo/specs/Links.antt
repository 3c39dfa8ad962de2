-- An index of numbers as its table and links. No public clause cites this file. This project.
use Rattle.std.specs.Prelude.{◌≡◌, ℕ, ◌==◌, List, [], ◌∷◌, ◌++◌, map}
use Rattle.std.specs.HashMap.{HashMap, get}
use Rattle.expansion_memo.specs.declared.number_index.Link.{Link}
use Rattle.expansion_memo.specs.Latest.{latest}

-- the numbers of the links
abbrev pub numbers_of : List Link → List ℕ
numbers_of links = map (λ l. l.number) links

-- each link leads to the last place before it with its number
abbrev pub AreLinked : List ℕ → List Link → Type 0
AreLinked seen [] = Unit {0}
AreLinked seen (l ∷ ls) = (l.before ≡ latest l.number seen) × AreLinked (seen ++ l.number ∷ []) ls

-- the table has the last place of each number, and the links lead back
pub record IsIndex {S : Type 0} (newest : HashMap ℕ ℕ S) (links : List Link) : Type 0 where
  pub newest_is : (q : ℕ) → get (λ a b. a == b) newest q ≡ latest q (numbers_of links)
  pub linked : AreLinked [] links
