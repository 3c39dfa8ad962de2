-- What a program's world is told of texts: what is present, and the text of the program itself. No public clause cites this
-- file. This project.
use Rattle.std.specs.Prelude.{ℕ, List}

pub record Sourced (P : Type 0) : Type 0 where
  pub present : P
  pub text : List ℕ
