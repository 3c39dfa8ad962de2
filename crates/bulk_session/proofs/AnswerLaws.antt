-- What comes of questions where each call has the answer of the shelf.
use Rattle.std.proofs.Common.{◌≡◌, ◌∙◌, Bool, true, false, ℕ, List, [], ◌∷◌, ◌++◌, map, refl, ap, sym, subst, Option, Some, Result, encode_utf8_all, if◌then◌else◌}
use Rattle.std.specs.Str.{bytes_eq}
use Rattle.std.proofs.lemmas.Slice.Eq.{bytes_eq-Decides}
use Rattle.io_edge.specs.LibraryCall.{LibraryCall, lists, reads, Answer}
use Rattle.io_edge.specs.MemoryLibrary.{names_at, bytes_at}
use Rattle.document_store.specs.Members.{files_dropped}
use Rattle.program_config.specs.declared.files.ConfigFault.{ConfigFault}
use Rattle.program_config.specs.Files.{groups_of, programs_of}
use Rattle.library_folders.specs.declared.folders.Folder.{Folder}
use Rattle.library_folders.specs.Folders.{folders_of}
use Rattle.library_reading.specs.Asked.{Asked, Came, Lacks, Differs, Asking, answered as at_once, behind, ◌>>=◌, folder_asked, file_asked}
use Rattle.library_reading.specs.Log.{Log}
use Rattle.library_reading.specs.Rows as rows
use Rattle.library_reading.specs.Rows.{Told, groups_path, programs_path, rows_read}
use Rattle.library_reading.specs.Taking as members
use Rattle.library_reading.specs.Taking.{Taking, Passed, member_read, each_with_room}
use Rattle.library_reading.specs.Reading.{Files, Reading, files_read, names_told, path_in, folder_told, folder_read, configuration_read}
use Rattle.bulk_session.specs.Shelf.{folders, files, told, answered}
use Rattle.bulk_session.specs.Inside.{AreAnswered}

-- over such calls questions come to this value and no other, and such calls are left
pub record Settles {A : Type 0} (asking : Asking A) (value : A) : Type 0 where
  pub comes : (calls rest : List LibraryCall) (other : A) → AreAnswered calls → asking calls ≡ Came other rest → (other ≡ value) × AreAnswered rest

lacks : {A : Type 0} (value : A) (rest : List LibraryCall) → Lacks ≡ Came value rest → ⊥
lacks value rest e = cc

differs : {A : Type 0} (value : A) (rest : List LibraryCall) → Differs ≡ Came value rest → ⊥
differs value rest e = cc

pub settles_at_once : {A : Type 0} (value : A) → Settles (at_once value) value
settles_at_once value = record {
  comes = λ calls rest other sound e.
      let same : Came value calls ≡ Came other rest = e in
      let is : other ≡ value = cc in
      let left : calls ≡ rest = cc in
      (is, subst (λ z. AreAnswered z) left sound);
}

-- the same where the calls are not looked at
pub settles_by : {A : Type 0} (asking : Asking A) (value : A) → ((calls : List LibraryCall) → asking calls ≡ Came value calls) → Settles asking value
settles_by asking value is = record {
  comes = λ calls rest other sound e.
      let same : Came value calls ≡ Came other rest = sym (is calls) ∙ e in
      let this : other ≡ value = cc in
      let left : calls ≡ rest = cc in
      (this, subst (λ z. AreAnswered z) left sound);
}

pub settles_then : {A B : Type 0} (first : Asking A) (next : A → Asking B) (middle : A) (last : B) → Settles first middle → Settles (next middle) last → Settles (first >>= next) last
settles_then {A} {B} first next middle last one two = record { comes = λ calls rest other sound e. by calls rest other sound (first calls) refl e } where
  by : (calls rest : List LibraryCall) (other : B) → AreAnswered calls → (asked : Asked A) → first calls ≡ asked → behind asked next ≡ Came other rest → (other ≡ last) × AreAnswered rest
  by calls rest other sound (Came value left) is came =
      let start = one.comes calls left value sound is in
      two.comes left rest other start.1 (subst (λ z. next z left ≡ Came other rest) start.0 came)
  by calls rest other sound Lacks is came = absurd (lacks other rest came)
  by calls rest other sound Differs is came = absurd (differs other rest came)

-- ---- one call

-- what the first of some calls answered, and those behind it
read_first : (path : List ℕ) (answer : Answer (List ℕ)) (calls : List LibraryCall) → AreAnswered (reads path answer ∷ calls) → (answer ≡ told (bytes_at files path)) × AreAnswered calls
read_first path answer calls sound =
    let whole : reads path (told (bytes_at files path)) ∷ map answered calls ≡ reads path answer ∷ calls = sound in
    let here : answer ≡ told (bytes_at files path) = cc in
    let rest : map answered calls ≡ calls = cc in
    (here, rest)

list_first : (path : List ℕ) (answer : Answer (List (List ℕ))) (calls : List LibraryCall) → AreAnswered (lists path answer ∷ calls) → (answer ≡ told (names_at folders path)) × AreAnswered calls
list_first path answer calls sound =
    let whole : lists path (told (names_at folders path)) ∷ map answered calls ≡ lists path answer ∷ calls = sound in
    let here : answer ≡ told (names_at folders path) = cc in
    let rest : map answered calls ≡ calls = cc in
    (here, rest)

pub settles_file : (path : List ℕ) → Settles (file_asked path) (told (bytes_at files (encode_utf8_all path)))
settles_file path = record { comes = of } where
  of : (calls rest : List LibraryCall) (other : Answer (List ℕ)) → AreAnswered calls → file_asked path calls ≡ Came other rest → (other ≡ told (bytes_at files (encode_utf8_all path))) × AreAnswered rest
  of [] rest other sound e = absurd (lacks other rest e)
  of (lists folder answer ∷ calls) rest other sound e = absurd (differs other rest e)
  of (reads asked answer ∷ calls) rest other sound e = by (bytes_eq (encode_utf8_all path) asked) refl e where
    by : (b : Bool) → bytes_eq (encode_utf8_all path) asked ≡ b → (if b then Came answer calls else Differs) ≡ Came other rest → (other ≡ told (bytes_at files (encode_utf8_all path))) × AreAnswered rest
    by true is came =
        let same : Came answer calls ≡ Came other rest = came in
        let value : answer ≡ other = cc in
        let left : calls ≡ rest = cc in
        let first = read_first asked answer calls sound in
        let path_is : encode_utf8_all path ≡ asked = (bytes_eq-Decides (encode_utf8_all path) asked).0 is in
        (sym value ∙ first.0 ∙ ap (λ z. told (bytes_at files z)) (sym path_is), subst (λ z. AreAnswered z) left first.1)
    by false is came = absurd (differs other rest came)

pub settles_folder : (path : List ℕ) → Settles (folder_asked path) (told (names_at folders (encode_utf8_all path)))
settles_folder path = record { comes = of } where
  of : (calls rest : List LibraryCall) (other : Answer (List (List ℕ))) → AreAnswered calls → folder_asked path calls ≡ Came other rest → (other ≡ told (names_at folders (encode_utf8_all path))) × AreAnswered rest
  of [] rest other sound e = absurd (lacks other rest e)
  of (reads file answer ∷ calls) rest other sound e = absurd (differs other rest e)
  of (lists asked answer ∷ calls) rest other sound e = by (bytes_eq (encode_utf8_all path) asked) refl e where
    by : (b : Bool) → bytes_eq (encode_utf8_all path) asked ≡ b → (if b then Came answer calls else Differs) ≡ Came other rest → (other ≡ told (names_at folders (encode_utf8_all path))) × AreAnswered rest
    by true is came =
        let same : Came answer calls ≡ Came other rest = came in
        let value : answer ≡ other = cc in
        let left : calls ≡ rest = cc in
        let first = list_first asked answer calls sound in
        let path_is : encode_utf8_all path ≡ asked = (bytes_eq-Decides (encode_utf8_all path) asked).0 is in
        (sym value ∙ first.0 ∙ ap (λ z. told (names_at folders z)) (sym path_is), subst (λ z. AreAnswered z) left first.1)
    by false is came = absurd (differs other rest came)

-- ---- the configuration

-- what is read here, with no question
abbrev pub rows_here : {A : Type 0} → (List ℕ → Result (List A) ConfigFault) → (path : List ℕ) → Log → Told A
rows_here form path log = rows.file_told form log path (told (bytes_at files (encode_utf8_all path)))

settles_rows : {A : Type 0} (form : List ℕ → Result (List A) ConfigFault) (path : List ℕ) (log : Log) → Settles (rows_read form path log) (rows_here form path log)
unfolding rows_read
settles_rows form path log =
    settles_then (file_asked path) (λ answer. at_once (rows.file_told form log path answer)) (told (bytes_at files (encode_utf8_all path))) (rows_here form path log)
    (settles_file path) (settles_at_once (rows_here form path log))

abbrev pub files_here : (root : List ℕ) → Log → Files
files_here root log =
    let groups = rows_here groups_of (groups_path root) log in
    let programs = rows_here programs_of (programs_path root) groups.log in
    record { configuration = record { groups = groups.rows; programs = programs.rows }; log = programs.log }

settles_files : (root : List ℕ) (log : Log) → Settles (files_read root log) (files_here root log)
unfolding files_read
settles_files root log =
    let groups = rows_here groups_of (groups_path root) log in
    let programs = rows_here programs_of (programs_path root) groups.log in
    settles_then (rows_read groups_of (groups_path root) log)
    (λ g. rows_read programs_of (programs_path root) g.log >>= (λ p. at_once (record { configuration = record { groups = g.rows; programs = p.rows }; log = p.log })))
    groups (files_here root log) (settles_rows groups_of (groups_path root) log)
    (settles_then (rows_read programs_of (programs_path root) groups.log)
    (λ p. at_once (record { configuration = record { groups = groups.rows; programs = p.rows }; log = p.log }))
    programs (files_here root log) (settles_rows programs_of (programs_path root) groups.log) (settles_at_once (files_here root log)))

abbrev pub member_here : (path : List ℕ) → Taking → Passed
member_here path taking = members.file_taken taking path (members.file_told (told (bytes_at files (encode_utf8_all path))))

settles_member : (path : List ℕ) (taking : Taking) → Settles (member_read path taking) (member_here path taking)
unfolding member_read
settles_member path taking =
    settles_then (file_asked path) (λ answer. at_once (members.file_taken taking path (members.file_told answer))) (told (bytes_at files (encode_utf8_all path))) (member_here path taking)
    (settles_file path) (settles_at_once (member_here path taking))

abbrev pub each_here : {A : Type 0} → (A → Taking → Passed) → List A → Taking → Passed
each_here read [] taking = record { taking = taking; room = true }
each_here read (first ∷ rest) taking = let passed = read first taking in if passed.room then each_here read rest passed.taking else passed

-- the rest is read where there is room
settles_rest : {A : Type 0} (asks : A → Taking → Asking Passed) (read : A → Taking → Passed) (xs : List A)
    → ((passed : Passed) → Settles (each_with_room asks xs passed.taking) (each_here read xs passed.taking)) → (passed : Passed) (room : Bool)
    → Settles (if room then each_with_room asks xs passed.taking else at_once passed) (if room then each_here read xs passed.taking else passed)
settles_rest asks read xs rest passed true = rest passed
settles_rest asks read xs rest passed false = settles_at_once passed

settles_each : {A : Type 0} (asks : A → Taking → Asking Passed) (read : A → Taking → Passed) → ((x : A) (taking : Taking) → Settles (asks x taking) (read x taking))
    → (xs : List A) (taking : Taking) → Settles (each_with_room asks xs taking) (each_here read xs taking)
settles_each asks read step [] taking = settles_at_once (record { taking = taking; room = true })
settles_each asks read step (x ∷ xs) taking =
    settles_then (asks x taking) (λ passed. if passed.room then each_with_room asks xs passed.taking else at_once passed)
    (read x taking) (each_here read (x ∷ xs) taking) (step x taking)
    (settles_rest asks read xs (λ passed. settles_each asks read step xs passed.taking) (read x taking) (read x taking).room)

abbrev pub folder_here : Folder → Taking → Passed
folder_here folder taking =
    let answer = told (names_at folders (encode_utf8_all folder.path)) in
    each_here (λ name. member_here (path_in folder.path name)) (names_told answer) (record taking { log = folder_told taking.log folder answer })

settles_folder_read : (folder : Folder) (taking : Taking) → Settles (folder_read folder taking) (folder_here folder taking)
unfolding folder_read
settles_folder_read folder taking =
    let answer = told (names_at folders (encode_utf8_all folder.path)) in
    settles_then (folder_asked folder.path)
    (λ given. each_with_room (λ name. member_read (path_in folder.path name)) (names_told given) (record taking { log = folder_told taking.log folder given }))
    answer (folder_here folder taking) (settles_folder folder.path)
    (settles_each (λ name. member_read (path_in folder.path name)) (λ name. member_here (path_in folder.path name)) (λ name. settles_member (path_in folder.path name))
    (names_told answer) (record taking { log = folder_told taking.log folder answer }))

abbrev pub configuration_here : (root : List ℕ) → Taking → Reading
configuration_here root taking =
    let read = files_here root taking.log in
    let passed = each_here folder_here (folders_of root read.configuration.groups) (record { store = files_dropped taking.store; log = read.log }) in
    record { configuration = read.configuration; taking = passed.taking }

pub settles_configuration : (root : List ℕ) (taking : Taking) → Settles (configuration_read root taking) (configuration_here root taking)
unfolding configuration_read
settles_configuration root taking =
    let read = files_here root taking.log in
    let start : Taking = record { store = files_dropped taking.store; log = read.log } in
    let passed = each_here folder_here (folders_of root read.configuration.groups) start in
    settles_then (files_read root taking.log)
    (λ f. each_with_room folder_read (folders_of root f.configuration.groups) (record { store = files_dropped taking.store; log = f.log })
    >>= (λ p. at_once (record { configuration = f.configuration; taking = p.taking })))
    read (configuration_here root taking) (settles_files root taking.log)
    (settles_then (each_with_room folder_read (folders_of root read.configuration.groups) start)
    (λ p. at_once (record { configuration = read.configuration; taking = p.taking }))
    passed (configuration_here root taking) (settles_each folder_read folder_here settles_folder_read (folders_of root read.configuration.groups) start)
    (settles_at_once (configuration_here root taking)))
