-- What follows of the reading of the whole configuration.
use Rattle.std.proofs.Common.{◌≡◌, ℕ, List, Option, Result, Ok, Err, IsErr, ap, subst}
use Rattle.hl_base.specs.declared.memory.OutOfMemory.{OutOfMemory}
use Rattle.io_edge.specs.LibraryCall.{LibraryCall}
use Rattle.document_store.specs.Members.{files_dropped}
use Rattle.program_config.specs.declared.groups.Group.{Group}
use Rattle.program_config.specs.declared.programs.Entry.{Entry}
use Rattle.program_config.specs.Files.{groups_of, programs_of}
use Rattle.library_folders.specs.declared.configuration.Configuration.{Configuration}
use Rattle.library_folders.specs.declared.folders.Folder.{Folder}
use Rattle.library_folders.specs.Folders.{folders_of}
use Rattle.library_reading.specs.Asked.{Came, Asking, answered, ◌>>=◌, AsksOver}
use Rattle.library_reading.specs.Log.{Log}
use Rattle.library_reading.specs.Rows.{Told, groups_path, programs_path, rows_read}
use Rattle.library_reading.specs.Taking.{Taking, Passed, each_with_room}
use Rattle.library_reading.specs.Reading.{folder_read, Files, files_read, Reading, folders_read, configuration_read}
use Rattle.library_reading.proofs.AskedLaws.{AreShort, FollowShort, short_then, asks_then, asks_told, asks_lost, asks_cut}
use Rattle.library_reading.proofs.RowLaws.{rows_read-short}
use Rattle.library_reading.proofs.MemberLaws.{each_with_room-short}
use Rattle.library_reading.proofs.FolderLaws.{folder_read-short}

-- ---- the two files

-- what follows of the second file
abbrev pub files_of : List Group → Told Entry → Asking Files
files_of groups programs = answered (record { configuration = record { groups = groups; programs = programs.rows }; log = programs.log })

-- what follows of the first
abbrev pub after_groups : (root : List ℕ) → Told Group → Asking Files
after_groups root groups = rows_read programs_of (programs_path root) groups.log >>= files_of groups.rows

after_groups-short : (root : List ℕ) → FollowShort (after_groups root)
after_groups-short root groups =
    short_then (rows_read programs_of (programs_path root) groups.log) (files_of groups.rows) (rows_read-short programs_of (programs_path root) groups.log) (λ programs. tt)

pub files_read-short : (root : List ℕ) (log : Log) → AreShort (files_read root log)
unfolding files_read
files_read-short root log =
    short_then (rows_read groups_of (groups_path root) log) (after_groups root) (rows_read-short groups_of (groups_path root) log) (after_groups-short root)

-- memory ran out within the first
pub files_cut : {T U : Type 0} (root : List ℕ) (log : Log) (reached : T → Told Group) (ends : U → Files) (fault : OutOfMemory)
    (result : Result U OutOfMemory) (before now : Option (List LibraryCall)) (few many : ℕ)
    → AsksOver (rows_read groups_of (groups_path root) log) reached (Err fault) before now few many → IsErr result → AsksOver (files_read root log) ends result before now few many
unfolding files_read
files_cut root log reached ends fault result before now few many one failed =
    asks_cut (rows_read groups_of (groups_path root) log) (after_groups root) reached ends fault result before now few many one failed (after_groups-short root)

-- behind the first
pub files_lost : {T U : Type 0} (root : List ℕ) (log : Log) (reached : T → Told Group) (ends : U → Files) (groups : T)
    (result : Result U OutOfMemory) (before now : Option (List LibraryCall)) (few many : ℕ)
    → AsksOver (rows_read groups_of (groups_path root) log) reached (Ok groups) before now few many → IsErr result → AsksOver (files_read root log) ends result before now few many
unfolding files_read
files_lost root log reached ends groups result before now few many one failed =
    asks_lost (rows_read groups_of (groups_path root) log) (after_groups root) reached ends groups result before now few many one failed (after_groups-short root (reached groups))

-- within the second
pub files_cut_late : {T S U : Type 0} (root : List ℕ) (log : Log) (reached : T → Told Group) (after : S → Told Entry) (ends : U → Files) (groups : T) (fault : OutOfMemory)
    (result : Result U OutOfMemory) (before middle now : Option (List LibraryCall)) (few some many : ℕ)
    → AsksOver (rows_read groups_of (groups_path root) log) reached (Ok groups) before middle few some
    → AsksOver (rows_read programs_of (programs_path root) (reached groups).log) after (Err fault) middle now some many → IsErr result
    → AsksOver (files_read root log) ends result before now few many
unfolding files_read
files_cut_late root log reached after ends groups fault result before middle now few some many one two failed =
    asks_then (rows_read groups_of (groups_path root) log) (after_groups root) reached ends groups result before middle now few some many one
    (asks_cut (rows_read programs_of (programs_path root) (reached groups).log) (files_of (reached groups).rows) after ends fault result middle now some many two failed (λ programs. tt))

-- both were read
pub files_reached : {T S U : Type 0} (root : List ℕ) (log : Log) (reached : T → Told Group) (after : S → Told Entry) (ends : U → Files) (groups : T) (programs : S) (last : U)
    (before middle now : Option (List LibraryCall)) (few some many : ℕ)
    → AsksOver (rows_read groups_of (groups_path root) log) reached (Ok groups) before middle few some
    → AsksOver (rows_read programs_of (programs_path root) (reached groups).log) after (Ok programs) middle now some many
    → record { configuration = record { groups = (reached groups).rows; programs = (after programs).rows }; log = (after programs).log } ≡ ends last
    → AsksOver (files_read root log) ends (Ok last) before now few many
unfolding files_read
files_reached root log reached after ends groups programs last before middle now few some many one two is =
    asks_then (rows_read groups_of (groups_path root) log) (after_groups root) reached ends groups (Ok last) before middle now few some many one
    (asks_told (rows_read programs_of (programs_path root) (reached groups).log) (files_of (reached groups).rows) after ends programs last middle now some many two (λ more. ap (λ z. Came z more) is))

-- ---- the whole

-- what follows of the folders
abbrev pub reading_of : Configuration → Passed → Asking Reading
reading_of configuration passed = answered (record { configuration = configuration; taking = passed.taking })

-- what follows of the two files
abbrev pub after_files : (root : List ℕ) → Taking → Files → Asking Reading
after_files root taking files = folders_read root files.configuration (record { store = files_dropped taking.store; log = files.log }) >>= reading_of files.configuration

after_files-short : (root : List ℕ) (taking : Taking) → FollowShort (after_files root taking)
after_files-short root taking files =
    let begun : Taking = record { store = files_dropped taking.store; log = files.log } in
    short_then (folders_read root files.configuration begun) (reading_of files.configuration)
    (each_with_room-short folder_read (folders_of root files.configuration.groups) begun folder_read-short) (λ passed. tt)

-- no call of the library can differ where none is to come
pub configuration_read-short : (root : List ℕ) (taking : Taking) → AreShort (configuration_read root taking)
unfolding configuration_read
configuration_read-short root taking = short_then (files_read root taking.log) (after_files root taking) (files_read-short root taking.log) (after_files-short root taking)

-- memory ran out within the two files
pub configuration_cut : {T U : Type 0} (root : List ℕ) (taking : Taking) (reached : T → Files) (ends : U → Reading) (fault : OutOfMemory)
    (result : Result U OutOfMemory) (before now : Option (List LibraryCall)) (few many : ℕ)
    → AsksOver (files_read root taking.log) reached (Err fault) before now few many → IsErr result → AsksOver (configuration_read root taking) ends result before now few many
unfolding configuration_read
configuration_cut root taking reached ends fault result before now few many one failed =
    asks_cut (files_read root taking.log) (after_files root taking) reached ends fault result before now few many one failed (after_files-short root taking)

-- behind them
pub configuration_lost : {T U : Type 0} (root : List ℕ) (taking : Taking) (reached : T → Files) (ends : U → Reading) (files : T)
    (result : Result U OutOfMemory) (before now : Option (List LibraryCall)) (few many : ℕ)
    → AsksOver (files_read root taking.log) reached (Ok files) before now few many → IsErr result → AsksOver (configuration_read root taking) ends result before now few many
unfolding configuration_read
configuration_lost root taking reached ends files result before now few many one failed =
    asks_lost (files_read root taking.log) (after_files root taking) reached ends files result before now few many one failed (after_files-short root taking (reached files))

-- within the folders
pub configuration_cut_late : {T S U : Type 0} (root : List ℕ) (taking : Taking) (reached : T → Files) (after : S → Passed) (ends : U → Reading) (files : T) (begun : Taking)
    (folders : List Folder) (fault : OutOfMemory) (result : Result U OutOfMemory) (before middle now : Option (List LibraryCall)) (few some many : ℕ)
    → AsksOver (files_read root taking.log) reached (Ok files) before middle few some
    → begun ≡ record { store = files_dropped taking.store; log = (reached files).log } → folders ≡ folders_of root (reached files).configuration.groups
    → AsksOver (each_with_room folder_read folders begun) after (Err fault) middle now some many → IsErr result
    → AsksOver (configuration_read root taking) ends result before now few many
unfolding configuration_read
configuration_cut_late {T} {S} {U} root taking reached after ends files begun folders fault result before middle now few some many one from are two failed =
    let start : Taking = record { store = files_dropped taking.store; log = (reached files).log } in
    let here : AsksOver (folders_read root (reached files).configuration start) after (Err fault) middle now some many =
    subst (λ z. AsksOver (each_with_room folder_read z start) after (Err fault) middle now some many) are
    (subst (λ z. AsksOver (each_with_room folder_read folders z) after (Err fault) middle now some many) from two) in
    asks_then (files_read root taking.log) (after_files root taking) reached ends files result before middle now few some many one
    (asks_cut (folders_read root (reached files).configuration start) (reading_of (reached files).configuration) after ends fault result middle now some many here failed (λ passed. tt))

-- all was read
pub configuration_reached : {T S U : Type 0} (root : List ℕ) (taking : Taking) (reached : T → Files) (after : S → Passed) (ends : U → Reading) (files : T) (begun : Taking)
    (folders : List Folder) (passed : S) (last : U) (before middle now : Option (List LibraryCall)) (few some many : ℕ)
    → AsksOver (files_read root taking.log) reached (Ok files) before middle few some
    → begun ≡ record { store = files_dropped taking.store; log = (reached files).log } → folders ≡ folders_of root (reached files).configuration.groups
    → AsksOver (each_with_room folder_read folders begun) after (Ok passed) middle now some many
    → record { configuration = (reached files).configuration; taking = (after passed).taking } ≡ ends last
    → AsksOver (configuration_read root taking) ends (Ok last) before now few many
unfolding configuration_read
configuration_reached {T} {S} {U} root taking reached after ends files begun folders passed last before middle now few some many one from are two is =
    let start : Taking = record { store = files_dropped taking.store; log = (reached files).log } in
    let here : AsksOver (folders_read root (reached files).configuration start) after (Ok passed) middle now some many =
    subst (λ z. AsksOver (each_with_room folder_read z start) after (Ok passed) middle now some many) are
    (subst (λ z. AsksOver (each_with_room folder_read folders z) after (Ok passed) middle now some many) from two) in
    asks_then (files_read root taking.log) (after_files root taking) reached ends files (Ok last) before middle now few some many one
    (asks_told (folders_read root (reached files).configuration start) (reading_of (reached files).configuration) after ends passed last middle now some many here (λ more. ap (λ z. Came z more) is))
