-- The groups and the programs that the configuration files say (the Che4z HLASM plug-in, `proc_grps.json` and
-- `pgm_conf.json`): members in the order in which they are tried. This project chooses the order; every member that is not
-- named here is ignored.
use Rattle.std.specs.Prelude.{ℕ, List, [], false, nat_le, length, Option, Some, None, unwrap_or, if◌then◌else◌, Result, Ok, Err, chars}
use Rattle.serde_json.specs.Data.{Data}
use Rattle.serde_json.specs.Find.{as_str, as_bool, as_array}
use Rattle.json_view.specs.Members.{as_object_value, list_of}
use Rattle.json_view.specs.Texts.{reading}
use Rattle.program_config.specs.declared.members.Member.{Member}
use Rattle.program_config.specs.declared.members.Member.TheVariants.{Groups, Name, Libs, Path, Optional, AsmOptions, Sysparm, Programs, Program, Group}
use Rattle.program_config.specs.declared.groups.Library.{Library}
use Rattle.program_config.specs.declared.groups.Group.{Group as GroupRow}
use Rattle.program_config.specs.declared.programs.Entry.{Entry}
use Rattle.program_config.specs.declared.files.ConfigFault.{ConfigFault}
use Rattle.program_config.specs.declared.files.ConfigFault.TheVariants.{NotJson, BadMember, OutOfMemory}
use Rattle.program_config.specs.Members.{name_of, needed, optional, object_in, ◌>>=◌, each}

-- ---- proc_grps.json

-- a library that is an object: a path, and whether it may be absent
abbrev pub described : Data → Result Library Member
described element = do
  library ← object_in Libs element
  path ← needed as_str Path library
  optional ← optional as_bool Optional library
  Ok (record { path = chars path; optional = unwrap_or optional false })

-- a library that is a text is its path
abbrev pub library_told : Option (List ℕ) → Data → Result Library Member
library_told (Some path) element = Ok (record { path = chars path; optional = false })
library_told None element = described element

-- a library: a text or an object
abbrev pub library_in : Data → Result Library Member
library_in element = library_told (as_str element) element

-- a value of SYSPARM has at most 255 characters
abbrev pub fitting : List ℕ → Result (List ℕ) Member
fitting text = if nat_le (length (chars text)) 255 then Ok (chars text) else Err Sysparm

-- SYSPARM, empty where it is missing
abbrev pub sysparm_told : Option (List ℕ) → Result (List ℕ) Member
sysparm_told None = Ok []
sysparm_told (Some text) = fitting text

-- SYSPARM of the options, empty where there are none
abbrev pub sysparm_of : Option Data → Result (List ℕ) Member
sysparm_of None = Ok []
sysparm_of (Some options) = do
  text ← optional as_str Sysparm options
  sysparm_told text

-- SYSPARM of a group
abbrev pub sysparm_in : Data → Result (List ℕ) Member
sysparm_in group = do
  options ← optional as_object_value AsmOptions group
  sysparm_of options

-- the libraries of a group, in order
abbrev pub libraries_in : Data → Result (List Library) Member
libraries_in group = do
  libraries ← needed as_array Libs group
  each library_in (list_of libraries)

-- a group
unfoldable pub group_in : Data → Result GroupRow Member
group_in element = do
  group ← object_in Groups element
  name ← needed as_str Name group
  libraries ← libraries_in group
  sysparm ← sysparm_in group
  Ok (record { name = chars name; libraries = libraries; sysparm = sysparm })

-- the groups of a file, in order
abbrev pub groups_in : Data → Result (List GroupRow) Member
groups_in file = do
  groups ← needed as_array Groups file
  each group_in (list_of groups)

-- ---- pgm_conf.json

-- an entry: a pattern and the name of a group
abbrev pub entry_in : Data → Result Entry Member
entry_in element = do
  entry ← object_in Programs element
  program ← needed as_str Program entry
  group ← needed as_str Group entry
  Ok (record { program = chars program; group = chars group })

-- the entries of a file, in order
abbrev pub programs_in : Data → Result (List Entry) Member
programs_in file = do
  programs ← needed as_array Programs file
  each entry_in (list_of programs)

-- ---- files

-- what was read, or the member that is missing or wrong
abbrev pub unless_bad : {A : Type 0} → Result A Member → Result A ConfigFault
unless_bad (Ok rows) = Ok rows
unless_bad (Err member) = Err (BadMember (chars (name_of member)))

-- what is read of a value, if the bytes have one
abbrev pub of_value : {A : Type 0} → (Data → Result A Member) → Option Data → Result A ConfigFault
of_value read None = Err NotJson
of_value read (Some value) = unless_bad (read value)

-- the groups that bytes say
abbrev pub groups_of : List ℕ → Result (List GroupRow) ConfigFault
groups_of bytes = of_value groups_in (reading bytes)

-- the entries that bytes say
abbrev pub programs_of : List ℕ → Result (List Entry) ConfigFault
programs_of bytes = of_value programs_in (reading bytes)

-- what a fault says of a file, which want of memory does not
abbrev pub said_by : ConfigFault → Option ConfigFault
said_by OutOfMemory = None
said_by fault = Some fault
