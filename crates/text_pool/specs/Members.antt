-- What is found under the names of members (this project).
use Rattle.std.specs.Prelude.{◌≡◌, ℕ, List}
use Rattle.hl_base.specs.declared.set.Answer.{Answer}
use Rattle.hl_base.specs.declared.set.Answer.TheVariants as answer
use Rattle.text_pool.specs.Pool.{Pool, HasText}

-- no file, a file that cannot be read, or a file: the number of its path, and its text
pub data Member : Type 0 where
  Absent : Member
  Unreadable : Member
  File : (path : ℕ) (text : List ℕ) → Member

-- an answer tells what is found: a text by its number in the pool
abbrev pub Tells : Pool → Member → Answer → Type 0
Tells pool Absent answer.Nothing = Unit {0}
Tells pool Unreadable answer.Unreadable = Unit {0}
Tells pool (File path text) (answer.File at id) = (at.0 ≡ path) × HasText pool text id.0
-- it says nothing else
Tells pool member told = ⊥
