-- Reading the two files of the configuration (the Che4z HLASM plug-in, `proc_grps.json` and `pgm_conf.json`; what the log has
-- of them is this project's).
use Rattle.std.specs.Prelude.{ℕ, List, [], ◌++◌, codes, Result, Ok, Err}
use Rattle.io_edge.specs.LibraryCall.{Answer, absent, found, refused}
use Rattle.program_config.specs.declared.files.ConfigFault.{ConfigFault}
use Rattle.program_config.specs.declared.files.ConfigFault.TheVariants.{NotJson, BadMember, OutOfMemory}
use Rattle.library_reading.specs.Asked.{Asking, answered, ◌>>=◌, file_asked}
use Rattle.library_reading.specs.Log.{Log, said}

-- where the two files stand
abbrev pub groups_path : (root : List ℕ) → List ℕ
groups_path root = root ++ codes "/.hlasmplugin/proc_grps.json"

abbrev pub programs_path : (root : List ℕ) → List ℕ
programs_path root = root ++ codes "/.hlasmplugin/pgm_conf.json"

-- why a file is none of its form, as the log has it
abbrev pub words_of : ConfigFault → List ℕ
words_of NotJson = codes "BadConfig(json)"
words_of (BadMember name) = codes "BadConfig(" ++ (name ++ codes ")")
words_of OutOfMemory = codes "BadConfig"

-- what a file says, and the log behind it
pub record Told (A : Type 0) : Type 0 where
  pub rows : List A
  pub log : Log

-- a file says its rows, and none where it is not of its form
abbrev pub rows_told : {A : Type 0} → Log → (path : List ℕ) → Result (List A) ConfigFault → Told A
rows_told log path (Ok rows) = record { rows = rows; log = log }
rows_told log path (Err fault) = record { rows = []; log = said log path (words_of fault) }

-- a file that is not there is an empty one, and so counts one that could not be read
abbrev pub file_told : {A : Type 0} → (List ℕ → Result (List A) ConfigFault) → Log → (path : List ℕ) → Answer (List ℕ) → Told A
file_told form log path absent = record { rows = []; log = log }
file_told form log path (found bytes) = rows_told log path (form bytes)
file_told form log path refused = record { rows = []; log = said log path (codes "BadConfig") }

-- a file is read
unfoldable pub rows_read : {A : Type 0} → (List ℕ → Result (List A) ConfigFault) → (path : List ℕ) → Log → Asking (Told A)
rows_read form path log = do
  answer ← file_asked path
  answered (file_told form log path answer)
