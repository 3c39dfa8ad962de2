-- The names of the prototype of a macro that is called (HLASM Language Reference SC26-4940, "Macro prototype statement"): its
-- parameters, which begin the name entry or an operand, and the macro.
use Rattle.std.specs.Prelude.{ℕ, ◌+◌, ◌==◌, ◌||◌, Bool, true, false, List, [], ◌∷◌, length, Option, Some, None, if◌then◌else◌}
use Rattle.std.specs.List.{flat_map}
use Rattle.hl_base.specs.declared.place.Origin.{Origin}
use Rattle.hlasm_statements.specs.declared.statement.Field.{Field}
use Rattle.hlasm_statements.specs.declared.statement.Field.TheVariants.{Label, Op, Operands}
use Rattle.hlasm_statements.specs.declared.statement.Statement.{Statement}
use Rattle.operand_list.specs.Split.{operands_of}
use Rattle.statement_listing.specs.Listings.{Listed}
use Rattle.statement_names.specs.Statements.{names_in}
use Rattle.statement_names.specs.declared.name.NameKind.{NameKind}
use Rattle.statement_names.specs.declared.name.NameKind.TheVariants as kind
use Rattle.statement_names.specs.declared.name.WrittenName.{WrittenName}
use Rattle.statement_names.specs.declared.uses.OperandUse.TheVariants.{Unread}
use Rattle.statement_occurrences.specs.Named.{occurring}
use Rattle.statement_occurrences.specs.declared.naming.Naming.{Naming}
use Rattle.text_lists.specs.Lists.{Source, line_at}
use Rattle.trace_values.specs.declared.occurrence.Entity.TheVariants as entity
use Rattle.trace_values.specs.declared.occurrence.Occurrence.{Occurrence}
use Rattle.trace_values.specs.declared.occurrence.Role.TheVariants as role
use Rattle.trace_values.specs.declared.occurrence.Scope.TheVariants.{Definition}

-- whether one of some operands begins behind so many characters of a field, of which the first begins at this place
abbrev pub begins_operand : (place : ℕ) → List (List ℕ) → (at : ℕ) → Bool
begins_operand place [] at = false
begins_operand place (text ∷ texts) at = (place == at) || begins_operand (place + (length text + 1)) texts at

-- whether a name that stands there begins the name entry or an operand
abbrev pub begins_in : Field → List (List ℕ) → (at : ℕ) → Bool
begins_in Label operands at = at == 0
begins_in Op operands at = false
begins_in Operands operands at = begins_operand 0 operands at

abbrev pub begins_entry : List (List ℕ) → WrittenName → Bool
begins_entry operands name = begins_in name.field operands name.at

-- a parameter of the macro whose prototype stands at a place, and the macro
abbrev pub parameter : Origin → List ℕ → Naming
parameter origin name = record { entity = entity.Variable (Definition origin) name; defines = true; role = role.Parameter }

abbrev pub operation : Origin → List ℕ → Naming
operation origin name = record { entity = entity.Macro origin name; defines = true; role = role.Plain }

-- what a variable symbol defines there, if it defines something
abbrev pub variable : Origin → List (List ℕ) → WrittenName → Option Naming
variable origin operands name = if begins_entry operands name then Some (parameter origin name.name) else None

-- what a name of a kind defines there, if it defines something
abbrev pub naming_as : NameKind → Origin → List (List ℕ) → WrittenName → Option Naming
naming_as kind.Variable origin operands name = variable origin operands name
naming_as kind.Operation origin operands name = Some (operation origin name.name)
naming_as other origin operands name = None

abbrev pub naming : Origin → List (List ℕ) → WrittenName → Option Naming
naming origin operands name = naming_as name.kind origin operands name

abbrev pub of_name : Origin → Statement → (operands : List (List ℕ)) → WrittenName → List Occurrence
of_name origin statement operands name = occurring origin.path statement name (naming origin operands name)

-- the occurrences of a prototype that stands at a place
abbrev pub of_prototype : Origin → Statement → List Occurrence
of_prototype origin statement = flat_map (of_name origin statement (operands_of statement.operands)) (names_in Unread statement)

abbrev pub prototype_in : Origin → Option Listed → List Occurrence
prototype_in origin None = []
prototype_in origin (Some line) = of_prototype origin line.statement

abbrev pub prototype_at : List Source → Origin → List Occurrence
prototype_at texts origin = prototype_in origin (line_at texts origin)
