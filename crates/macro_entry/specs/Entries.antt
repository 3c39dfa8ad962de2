-- What a macro asks at its entry, and what it knows before its first statement (HLASM Language Reference SC26-4940, "System variable
-- symbols", "Symbolic parameters").
use Rattle.std.specs.Prelude.{ℕ, ℤ, pos, nat_lt, unsigned_abs, Bool, true, false, List, [], ◌∷◌, ◌++◌, replicate, codes, chars, Option, Some, None, if◌then◌else◌}
use Rattle.std.specs.Fmt.{signed_decimal}
use Rattle.std.specs.Option.{option_map_or}
use Rattle.hl_base.specs.declared.set.Answer.{Answer}
use Rattle.hl_base.specs.declared.set.Answer.TheVariants.{Number, Chars}
use Rattle.hl_base.specs.declared.set.Key.{Key}
use Rattle.hl_base.specs.declared.set.Key.TheVariants.{Counter, Sect, Nest, Parm}
use Rattle.kept_values.specs.Trees.{Tree, Pair, look_up}
use Rattle.kept_values.specs.Keys.{key_tree}
use Rattle.cond_expr.specs.Asking.{Answers}
use Rattle.question_trees.specs.Bridge.{answers_in}
use Rattle.macro_binding.specs.Prototypes.{Parameter, Prototype}
use Rattle.macro_binding.specs.Bindings.{Binding, binding_of}
use Rattle.macro_library.specs.Contents.{Content, copies_later_in, prototype_in, variables_in}
use Rattle.macro_library.specs.declared.variables.SystemVariables.{SystemVariables}
use Rattle.trace_values.specs.declared.variable.Setting.{Setting}
use Rattle.call_knowledge.specs.declared.system.SystemVariable.{SystemVariable}
use Rattle.call_knowledge.specs.Knowledge.{Knowledge, in_macro}
use Rattle.macro_entry.specs.Shown.{shown}
use Rattle.macro_entry.specs.declared.systems.System.{System}
use Rattle.macro_entry.specs.declared.systems.System.TheVariants.{Sysect, Sysmac, Sysndx, Sysnest, Sysparm}

-- ---- which system variables there are

abbrev pub all_named : SystemVariables
all_named = record { sysndx = true; sysect = true; syslist = true; sysmac = true; sysnest = true; sysparm = true }

-- A macro knows those that its definition names. Where a statement may copy a member when the macro is called, it knows all,
-- since the member may name any.
abbrev pub known_systems : Content → SystemVariables
known_systems content = if copies_later_in content then all_named else variables_in content

abbrev pub is_named : SystemVariables → System → Bool
is_named named Sysect = named.sysect
is_named named Sysmac = named.sysmac
is_named named Sysndx = named.sysndx
is_named named Sysnest = named.sysnest
is_named named Sysparm = named.sysparm

abbrev pub name_of : System → List ℕ
name_of Sysect = codes "SYSECT"
name_of Sysmac = codes "SYSMAC"
name_of Sysndx = codes "SYSNDX"
name_of Sysnest = codes "SYSNEST"
name_of Sysparm = codes "SYSPARM"

-- ---- what they are asked by

abbrev pub key_if : Bool → Key → List Tree
key_if true key = key_tree key ∷ []
key_if false key = []

-- how many calls were counted, the section, how deep calls are nested, and SYSPARM
abbrev pub entry_keys : Content → List Tree
entry_keys content =
    let named = known_systems content in
    ((key_if named.sysndx Counter ++ key_if named.sysect Sect) ++ key_if named.sysnest Nest) ++ key_if named.sysparm Parm

-- ---- what they stand for

-- the number that is answered, or 0
abbrev pub number_in : Option Answer → ℤ
number_in (Some (Number n)) = n
number_in other = pos 0

-- the text that is answered, or the empty one
abbrev pub text_in : Option Answer → List ℕ
text_in (Some (Chars text)) = text
text_in other = []

abbrev pub decimal : ℤ → List ℕ
decimal n = signed_decimal n

abbrev pub behind_zeros : (zeros : ℕ) → List ℕ → List ℕ
behind_zeros zeros text = replicate zeros 48 ++ text

-- a number in decimal, with zeros before it up to four digits
abbrev pub zeros_before : ℕ → ℕ
zeros_before n = if nat_lt n 10 then 3 else (if nat_lt n 100 then 2 else (if nat_lt n 1000 then 1 else 0))

abbrev pub index : ℤ → List ℕ
index n = behind_zeros (zeros_before (unsigned_abs n)) (decimal n)

-- in a macro of this operation, by the answers of its entry
abbrev pub text_of : System → (operation : List ℕ) → Answers → List ℕ
text_of Sysect operation told = text_in (told Sect)
text_of Sysmac operation told = chars operation
text_of Sysndx operation told = index (number_in (told Counter))
text_of Sysnest operation told = decimal (number_in (told Nest))
text_of Sysparm operation told = text_in (told Parm)

abbrev pub system_where : Bool → SystemVariable → List SystemVariable
system_where true one = one ∷ []
system_where false one = []

-- one of them, if it is named
abbrev pub system_if : SystemVariables → (operation : List ℕ) → Answers → System → List SystemVariable
system_if named operation told system =
    system_where (is_named named system) (record { name = name_of system; text = text_of system operation told })

abbrev pub systems_of : SystemVariables → (operation : List ℕ) → Answers → List SystemVariable
systems_of named operation told =
    (((system_if named operation told Sysect ++ system_if named operation told Sysmac) ++ system_if named operation told Sysndx)
    ++ system_if named operation told Sysnest) ++ system_if named operation told Sysparm

-- ---- the macro

-- the operation of a definition, and its parameters
abbrev pub operation_of : Prototype → List ℕ
operation_of prototype = prototype.operation

abbrev pub parameters_of : Prototype → List Parameter
parameters_of prototype = prototype.parameters

abbrev pub operation_in : Content → List ℕ
operation_in content = option_map_or operation_of (prototype_in content) []

abbrev pub parameters_in : Content → List Parameter
parameters_in content = option_map_or parameters_of (prototype_in content) []

-- what its first statement shows: its parameters, and of its system variables those that its definition names, also where it knows
-- all of them
abbrev pub shown_at_entry : Content → Answers → Binding → List Setting
shown_at_entry content told binding =
    shown (variables_in content).syslist (systems_of (variables_in content) (operation_in content) told) binding

-- what a macro knows that is bound so, by the answers of its entry
abbrev pub entered : Content → Answers → Binding → Knowledge
entered content told binding =
    in_macro (systems_of (known_systems content) (operation_in content) told) binding (shown_at_entry content told binding)

-- what a macro knows before its first statement, by what its name entry and its operands come to, and by the answers of its entry
unfoldable pub bound_at_entry : Content → (name_entry : List ℕ) (operands : List (List ℕ)) → List Pair → Knowledge
bound_at_entry content name_entry operands pairs =
    entered content (answers_in (look_up pairs)) (binding_of (parameters_in content) name_entry operands)
