-- The members of the configuration files (the Che4z HLASM plug-in), by name and kind. A member that is missing or of another
-- kind is what a fault names.
use Rattle.std.specs.Prelude.{ℕ, List, [], ◌∷◌, codes, Option, Some, None, ok_or, Result, Ok, Err}
use Rattle.serde_json.specs.Data.{Data}
use Rattle.json_view.specs.Members.{member_of, unless_missing, as_object_value}
use Rattle.program_config.specs.declared.members.Member.{Member}
use Rattle.program_config.specs.declared.members.Member.TheVariants.{Groups, Name, Libs, Path, Optional, AsmOptions, Sysparm, Programs, Program, Group}
use Rattle.program_config.specs.declared.members.MemberError.{MemberError}
use Rattle.program_config.specs.declared.members.MemberError.TheVariants.{Bad, OutOfMemory}

-- the name of a member
abbrev pub name_of : Member → List ℕ
name_of Groups = codes "pgroups"
name_of Name = codes "name"
name_of Libs = codes "libs"
name_of Path = codes "path"
name_of Optional = codes "optional"
name_of AsmOptions = codes "asm_options"
name_of Sysparm = codes "SYSPARM"
name_of Programs = codes "pgms"
name_of Program = codes "program"
name_of Group = codes "pgroup"

-- what there is, or the member that there is not
abbrev pub or_names : {A F : Type 0} → Member → Result A F → Result A Member
or_names member (Ok value) = Ok value
or_names member (Err fault) = Err member

-- a member that must be there
abbrev pub needed : {A : Type 0} → (Data → Option A) → Member → Data → Result A Member
needed kind member value = or_names member (member_of kind (name_of member) value)

-- a member that may be missing
abbrev pub optional : {A : Type 0} → (Data → Option A) → Member → Data → Result (Option A) Member
optional kind member value = or_names member (unless_missing (member_of kind (name_of member) value))

-- an element of a list of objects; one that is no object is a fault of the list
abbrev pub object_in : Member → Data → Result Data Member
object_in list value = ok_or (as_object_value value) list

-- what is read after something else was, or why that was not
infixl 10 ◌>>=◌
abbrev pub ◌>>=◌ : {A B E : Type 0} → Result A E → (A → Result B E) → Result B E
Ok value >>= next = next value
Err fault >>= next = Err fault

-- every element read, from the first on, or what the first that cannot be read names
abbrev pub each : {A B : Type 0} → (A → Result B Member) → List A → Result (List B) Member
each read [] = Ok []
each read (x ∷ xs) = read x >>= (λ y. each read xs >>= (λ ys. Ok (y ∷ ys)))

-- the member that a fault names, which want of memory does not
abbrev pub named_by : MemberError → Option Member
named_by (Bad member) = Some member
named_by OutOfMemory = None
