-- What is foreseen is what lookahead finds, and is answered.
use Rattle.std.proofs.Common.{◌≡◌, ℕ, List, Option, Some, ap, subst}
use Rattle.hl_base.specs.declared.set.Key.TheVariants as key
use Rattle.hlasm_statements.specs.Statements.{statements_of}
use Rattle.kept_values.specs.Keys.{key_tree}
use Rattle.look_places.specs.Places.{look_behind}
use Rattle.look_places.specs.Finding.{foresees}
use Rattle.look_places.specs.declared.foresight.Foresight.{Foresight}
use Rattle.text_pool.specs.Members.{Member}
use Rattle.program_world.specs.Found.{IsForeseen}
use Rattle.program_world.specs.World.{ProgramState, look_tree, program_answer}
use Rattle.program_world.proofs.MemberLaws.{text_back}

-- what was made once finds what lookahead does
pub foreseen_is : (members : List ℕ → Member) (text : List ℕ) (made : Option Foresight) (f : Foresight) → IsForeseen members text made → made ≡ Some f →
    (name : List ℕ) (place : ℕ) → foresees f name place ≡ look_behind members (statements_of text) name place
foreseen_is members text made f foreseen is = subst (IsForeseen members text) is foreseen

-- what is answered to the key of lookahead is what is found of its name
pub look_is : (s : ProgramState) (name : List ℕ) → program_answer s (key_tree (key.Look name)) ≡ look_tree s name
look_is s name = ap (look_tree s) (text_back name)
