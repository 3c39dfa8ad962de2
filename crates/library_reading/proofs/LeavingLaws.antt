-- What questions came to over some calls, they come to whatever is to come behind these.
use Rattle.std.proofs.Common.{◌≡◌, ◌≢◌, ℕ, Bool, true, false, cond, if◌then◌else◌, List, [], ◌∷◌, ◌++◌, Result, refl, ap, ◌∙◌, encode_utf8_all}
use Rattle.std.specs.Str.{bytes_eq}
use Rattle.io_edge.specs.LibraryCall.{LibraryCall, lists, reads}
use Rattle.program_config.specs.declared.files.ConfigFault.{ConfigFault}
use Rattle.program_config.specs.Files.{groups_of, programs_of}
use Rattle.document_store.specs.Members.{files_dropped}
use Rattle.library_folders.specs.declared.folders.Folder.{Folder}
use Rattle.library_folders.specs.Folders.{folders_of}
use Rattle.library_reading.specs.Asked.{Asked, Came, Lacks, Differs, Asking, answered, behind, ◌>>=◌, folder_asked, file_asked, IsShort}
use Rattle.library_reading.specs.Laws.{LeavesMore}
use Rattle.library_reading.specs.Log.{Log}
use Rattle.library_reading.specs.Rows.{file_told, rows_read, groups_path, programs_path}
use Rattle.library_reading.specs.Taking as taking
use Rattle.library_reading.specs.Taking.{Taking, Passed, member_read, each_with_room}
use Rattle.library_reading.specs.Reading.{path_in, names_told, folder_told, members_read, folder_read, files_read, folders_read, configuration_read}
use Rattle.library_reading.proofs.ConfigurationLaws.{files_of, after_groups, reading_of, after_files}

-- which of three follow one another first makes no difference
pub follow_in_any_grouping : {A B C : Type 0} (first : Asking A) (second : A → Asking B) (third : B → Asking C) (calls : List LibraryCall)
    → ((first >>= second) >>= third) calls ≡ (first >>= (λ value. second value >>= third)) calls
follow_in_any_grouping {A} {B} {C} first second third calls = by (first calls) where
  by : (asked : Asked A) → behind (behind asked second) third ≡ behind asked (λ value. second value >>= third)
  by (Came value rest) = refl
  by Lacks = refl
  by Differs = refl

-- ---- each kind of questions

answered_leaves : {A : Type 0} (value : A) → LeavesMore (answered value)
answered_leaves value calls more rest other is = ap (λ z. Came z (calls ++ more)) (same is) ∙ ap (λ z. Came other (z ++ more)) (left is) where
  same : answered value calls ≡ Came other rest → value ≡ other
  same e = cc

  left : answered value calls ≡ Came other rest → calls ≡ rest
  left e = cc

pub leaves_then : {A B : Type 0} (first : Asking A) (next : A → Asking B) → LeavesMore first → ((value : A) → LeavesMore (next value)) → LeavesMore (first >>= next)
leaves_then {A} {B} first next one two calls more rest value is = by (first calls) refl is where
  by : (asked : Asked A) → first calls ≡ asked → behind asked next ≡ Came value rest → behind (first (calls ++ more)) next ≡ Came value (rest ++ more)
  by (Came middle left) e f = ap (λ z. behind z next) (one calls more left middle e) ∙ two middle left more rest value f
  by Lacks e f = cc
  by Differs e f = cc

came_at : {A : Type 0} (b : Bool) (answer value : A) (others more rest : List LibraryCall) → cond b (Came answer others) Differs ≡ Came value rest
    → cond b (Came answer (others ++ more)) Differs ≡ Came value (rest ++ more)
came_at true answer value others more rest e =
    let same : answer ≡ value = cc in
    let left : others ≡ rest = cc in
    ap (λ z. Came z (others ++ more)) same ∙ ap (λ z. Came value (z ++ more)) left
came_at false answer value others more rest e = cc

file_leaves : (path : List ℕ) → LeavesMore (file_asked path)
file_leaves path [] more rest value is = cc
file_leaves path (reads other answer ∷ calls) more rest value is = came_at (bytes_eq (encode_utf8_all path) other) answer value calls more rest is
file_leaves path (lists folder answer ∷ calls) more rest value is = cc

folder_leaves : (path : List ℕ) → LeavesMore (folder_asked path)
folder_leaves path [] more rest value is = cc
folder_leaves path (lists other answer ∷ calls) more rest value is = came_at (bytes_eq (encode_utf8_all path) other) answer value calls more rest is
folder_leaves path (reads file answer ∷ calls) more rest value is = cc

-- ---- what is read

rows_leave : {A : Type 0} (form : List ℕ → Result (List A) ConfigFault) (path : List ℕ) (log : Log) → LeavesMore (rows_read form path log)
unfolding rows_read
rows_leave form path log =
    leaves_then (file_asked path) (λ answer. answered (file_told form log path answer)) (file_leaves path) (λ answer. answered_leaves (file_told form log path answer))

pub member_leaves : (path : List ℕ) (from : Taking) → LeavesMore (member_read path from)
unfolding member_read
member_leaves path from =
    leaves_then (file_asked path) (λ answer. answered (taking.file_taken from path (taking.file_told answer))) (file_leaves path)
    (λ answer. answered_leaves (taking.file_taken from path (taking.file_told answer)))

-- what follows of one of several
next_leaves : {A : Type 0} (read : A → Taking → Asking Passed) (xs : List A) (passed : Passed) → ((from : Taking) → LeavesMore (each_with_room read xs from))
    → LeavesMore (if passed.room then each_with_room read xs passed.taking else answered passed)
next_leaves read xs passed leave = by passed.room where
  by : (b : Bool) → LeavesMore (if b then each_with_room read xs passed.taking else answered passed)
  by true = leave passed.taking
  by false = answered_leaves passed

each_leaves : {A : Type 0} (read : A → Taking → Asking Passed) (xs : List A) (from : Taking) → ((x : A) (at : Taking) → LeavesMore (read x at)) → LeavesMore (each_with_room read xs from)
each_leaves read [] from leave = answered_leaves (record { taking = from; room = true })
each_leaves read (x ∷ xs) from leave =
    leaves_then (read x from) (λ passed. if passed.room then each_with_room read xs passed.taking else answered passed) (leave x from)
    (λ passed. next_leaves read xs passed (λ at. each_leaves read xs at leave))

folder_read_leaves : (folder : Folder) (from : Taking) → LeavesMore (folder_read folder from)
unfolding folder_read
folder_read_leaves folder from =
    leaves_then (folder_asked folder.path) (λ answer. members_read folder.path (names_told answer) (record from { log = folder_told from.log folder answer })) (folder_leaves folder.path)
    (λ answer. each_leaves (λ name. member_read (path_in folder.path name)) (names_told answer) (record from { log = folder_told from.log folder answer })
    (λ name at. member_leaves (path_in folder.path name) at))

files_leave : (root : List ℕ) (log : Log) → LeavesMore (files_read root log)
unfolding files_read
files_leave root log =
    leaves_then (rows_read groups_of (groups_path root) log) (after_groups root) (rows_leave groups_of (groups_path root) log)
    (λ groups. leaves_then (rows_read programs_of (programs_path root) groups.log) (files_of groups.rows) (rows_leave programs_of (programs_path root) groups.log)
    (λ programs. answered_leaves (record { configuration = record { groups = groups.rows; programs = programs.rows }; log = programs.log })))

pub configuration_leaves : (root : List ℕ) (from : Taking) → LeavesMore (configuration_read root from)
unfolding configuration_read
configuration_leaves root from =
    leaves_then (files_read root from.log) (after_files root from) (files_leave root from.log)
    (λ files. leaves_then (folders_read root files.configuration (record { store = files_dropped from.store; log = files.log })) (reading_of files.configuration)
    (each_leaves folder_read (folders_of root files.configuration.groups) (record { store = files_dropped from.store; log = files.log }) folder_read_leaves)
    (λ passed. answered_leaves (record { configuration = files.configuration; taking = passed.taking })))

-- ---- where no call is to come

pub never_differs : {A : Type 0} (asked : Asked A) → IsShort asked → asked ≢ Differs
never_differs (Came value rest) short e = cc
never_differs Lacks short e = cc
never_differs Differs short e = short
