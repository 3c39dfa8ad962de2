-- What is kept of members, and of what lies ahead. No public clause cites this file. This project.
use Rattle.std.specs.Prelude.{◌≡◌, ℕ, List, Option, Some, None}
use Rattle.hlasm_statements.specs.Statements.{statements_of}
use Rattle.kept_values.specs.Trees.{Tree}
use Rattle.look_places.specs.Places.{look_behind}
use Rattle.look_places.specs.Finding.{foresees}
use Rattle.look_places.specs.declared.foresight.Foresight.{Foresight}
use Rattle.text_pool.specs.Members.{Member}
use Rattle.program_world.specs.World.{member_answer}

-- whatever is kept was found: it is what is answered to its key
abbrev pub AreFound : (List ℕ → Member) → (Tree → Option Tree) → Type 0
AreFound members kept = (key value : Tree) → kept key ≡ Some value → value ≡ member_answer members key

-- what is found behind each statement of a text, where that was made
abbrev pub IsForeseen : (List ℕ → Member) → (text : List ℕ) → Option Foresight → Type 0
IsForeseen members text None = Unit {0}
IsForeseen members text (Some made) = (name : List ℕ) (place : ℕ) → foresees made name place ≡ look_behind members (statements_of text) name place

-- all that is kept is right
pub record IsSound (members : List ℕ → Member) (text : List ℕ) (kept : Tree → Option Tree) (made : Option Foresight) : Type 0 where
  pub found : AreFound members kept
  pub foreseen : IsForeseen members text made
