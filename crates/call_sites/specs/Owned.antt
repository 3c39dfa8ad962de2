-- The definition of a member that is kept with it (this project).
use Rattle.std.specs.Prelude.{◌≡◌, ℕ, List, [], Option, Some, None, Ok}
use Rattle.macro_library.specs.Definitions.{Definition, definition_of}
use Rattle.macro_library.specs.Listings.{Listed}
use Rattle.call_sites.specs.declared.own_definition.OwnDefinition.{OwnDefinition}

-- It is the definition that begins at this MACRO of the member's statements where nothing was told of any member, so it copies
-- nothing. None need be kept.
abbrev pub IsAlone : List Listed → (start : ℕ) → Option Definition → Type 0
IsAlone list start None = Unit {0}
IsAlone list start (Some definition) = definition_of [] list start ≡ Ok definition

abbrev pub IsOwn : List Listed → Option OwnDefinition → Type 0
IsOwn list None = Unit {0}
IsOwn list (Some own) = definition_of [] list own.start ≡ Ok own.definition.definition.value
