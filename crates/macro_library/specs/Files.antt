-- The file of a member (this project).
use Rattle.std.specs.Prelude.{ℕ, List}
use Rattle.hl_base.specs.declared.place.PathId.{PathId}

-- its path, and the characters of its text
pub record File : Type 0 where
  pub path : PathId
  pub text : List ℕ
