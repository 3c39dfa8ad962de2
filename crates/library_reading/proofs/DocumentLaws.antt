-- Readings leave the open documents alone.
use Rattle.std.proofs.Common.{◌≡◌, ℕ, Bool, true, false, cond, List, [], ◌∷◌, Option, Some, None, Ok, Err, refl, ◌∙◌}
use Rattle.io_edge.specs.LibraryCall.{LibraryCall}
use Rattle.document_store.specs.Store.{Store, OpenDocument, File, number_of}
use Rattle.document_store.specs.Members.{with_file, fits, files_dropped}
use Rattle.document_store.specs.declared.fault.StoreFault.TheVariants.{LibraryTooLarge}
use Rattle.library_folders.specs.declared.folders.Folder.{Folder}
use Rattle.library_folders.specs.Folders.{folders_of}
use Rattle.library_reading.specs.Asked.{Asked, Came, Lacks, Differs, Asking, answered, behind, file_asked, folder_asked}
use Rattle.library_reading.specs.Reading.{Reading, files_read, folders_read, folder_read, names_told, folder_told, path_in, configuration_read}
use Rattle.library_reading.specs.Taking.{Taking, Passed, number_dropped, file_told, file_taken, file_admitted, member_read, each_with_room}

-- where questions came to a value, this is so of it
abbrev pub Whenever : {A : Type 0} → (A → Type 0) → Asked A → Type 0
Whenever Holds (Came value rest) = Holds value
Whenever Holds Lacks = Unit {0}
Whenever Holds Differs = Unit {0}

whenever_behind : {A B : Type 0} (Holds : A → Type 0) (Then : B → Type 0) (asked : Asked A) (next : A → Asking B) → Whenever Holds asked
    → ((value : A) (calls : List LibraryCall) → Holds value → Whenever Then (next value calls)) → Whenever Then (behind asked next)
whenever_behind Holds Then (Came value rest) next so follows = follows value rest so
whenever_behind Holds Then Lacks next so follows = tt
whenever_behind Holds Then Differs next so follows = tt

whenever_any : {A : Type 0} (asked : Asked A) → Whenever (λ _. Unit {0}) asked
whenever_any (Came value rest) = tt
whenever_any Lacks = tt
whenever_any Differs = tt

-- the documents are these
abbrev Keeps : List OpenDocument → Passed → Type 0
Keeps documents passed = passed.taking.store.documents ≡ documents

documents_dropped : (store : Store) (n : Option ℕ) → (number_dropped store n).documents ≡ store.documents
documents_dropped store None = refl
documents_dropped store (Some number) = refl

documents_admitted : (taking : Taking) (path : List ℕ) (file : File) (b : Bool)
    → Keeps taking.store.documents (file_admitted taking path (cond b (Ok (with_file taking.store path file)) (Err LibraryTooLarge)))
documents_admitted taking path file true = refl
documents_admitted taking path file false = documents_dropped taking.store (number_of taking.store.paths path)

documents_taken : (taking : Taking) (path : List ℕ) (file : Option File) → Keeps taking.store.documents (file_taken taking path file)
documents_taken taking path None = documents_dropped taking.store (number_of taking.store.paths path)
documents_taken taking path (Some file) = documents_admitted taking path file (fits (with_file taking.store path file).files)

-- a member that is read
pub documents_read : (path : List ℕ) (taking : Taking) (calls : List LibraryCall) → Whenever (Keeps taking.store.documents) (member_read path taking calls)
unfolding member_read
documents_read path taking calls =
    whenever_behind (λ _. Unit {0}) (Keeps taking.store.documents) (file_asked path calls) _ (whenever_any (file_asked path calls))
    (λ answer rest so. documents_taken taking path (file_told answer))

told_on : (documents : List OpenDocument) (passed : Passed) (asked : Asked Passed) → Keeps documents passed → Whenever (Keeps passed.taking.store.documents) asked
    → Whenever (Keeps documents) asked
told_on documents passed (Came value left) so same = same ∙ so
told_on documents passed Lacks so same = tt
told_on documents passed Differs so same = tt

-- where there was room the others are read
in_room : (documents : List OpenDocument) (b : Bool) (passed : Passed) (again : Asking Passed) (calls : List LibraryCall) → Keeps documents passed
    → Whenever (Keeps passed.taking.store.documents) (again calls) → Whenever (Keeps documents) (cond b again (answered passed) calls)
in_room documents true passed again calls so same = told_on documents passed (again calls) so same
in_room documents false passed again calls so same = so

-- each that is read in turn
documents_each : {A : Type 0} (read : A → Taking → Asking Passed) (all : List A) (taking : Taking) (calls : List LibraryCall)
    → ((one : A) (t : Taking) (c : List LibraryCall) → Whenever (Keeps t.store.documents) (read one t c)) → Whenever (Keeps taking.store.documents) (each_with_room read all taking calls)
documents_each read [] taking calls keeps = refl
documents_each read (first ∷ rest) taking calls keeps =
    whenever_behind (Keeps taking.store.documents) (Keeps taking.store.documents) (read first taking calls) _ (keeps first taking calls)
    (λ passed others so. in_room taking.store.documents passed.room passed (each_with_room read rest passed.taking) others so
    (documents_each read rest passed.taking others keeps))

documents_folder : (folder : Folder) (taking : Taking) (calls : List LibraryCall) → Whenever (Keeps taking.store.documents) (folder_read folder taking calls)
unfolding folder_read
documents_folder folder taking calls =
    whenever_behind (λ _. Unit {0}) (Keeps taking.store.documents) (folder_asked folder.path calls) _ (whenever_any (folder_asked folder.path calls))
    (λ answer rest so. documents_each (λ name. member_read (path_in folder.path name)) (names_told answer) (record taking { log = folder_told taking.log folder answer }) rest
    (λ name t c. documents_read (path_in folder.path name) t c))

-- the configuration that is read
pub documents_configured : (root : List ℕ) (taking : Taking) (calls : List LibraryCall)
    → Whenever (λ (reading : Reading). reading.taking.store.documents ≡ taking.store.documents) (configuration_read root taking calls)
unfolding configuration_read
documents_configured root taking calls =
    whenever_behind (λ _. Unit {0}) (λ (reading : Reading). reading.taking.store.documents ≡ taking.store.documents) (files_read root taking.log calls) _
    (whenever_any (files_read root taking.log calls))
    (λ files rest so. whenever_behind (Keeps taking.store.documents) (λ (reading : Reading). reading.taking.store.documents ≡ taking.store.documents)
    (folders_read root files.configuration (record { store = files_dropped taking.store; log = files.log }) rest) _
    (documents_each folder_read (folders_of root files.configuration.groups) (record { store = files_dropped taking.store; log = files.log }) rest documents_folder)
    (λ passed others same. same))
