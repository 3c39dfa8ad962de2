-- What follows of the reading of a folder, and of the whole configuration.
use Rattle.std.proofs.Common.{◌≡◌, ℕ, List, Option, Result, Ok, Err, IsErr, sym, subst}
use Rattle.hl_base.specs.declared.memory.OutOfMemory.{OutOfMemory}
use Rattle.io_edge.specs.LibraryCall.{LibraryCall, Answer}
use Rattle.library_folders.specs.declared.folders.Folder.{Folder}
use Rattle.library_reading.specs.Asked.{Asking, folder_asked, AsksOver}
use Rattle.library_reading.specs.Log.{Log}
use Rattle.library_reading.specs.Taking.{Taking, Passed, member_read}
use Rattle.library_reading.specs.Reading.{path_in, names_told, folder_told, members_read, folder_read}
use Rattle.library_reading.proofs.AskedLaws.{FollowShort, asks_then, asks_lost, asks_cut}
use Rattle.library_reading.proofs.MemberLaws.{member_read-short, ReadsShort, each_with_room-short}

-- ---- a folder

pub members_are_short : (folder : List ℕ) → ReadsShort (λ (name : List ℕ). member_read (path_in folder name))
members_are_short folder name taking = member_read-short (path_in folder name) taking

-- what follows of a folder's answer
abbrev after_listing : Folder → Taking → Answer (List (List ℕ)) → Asking Passed
after_listing folder taking answer = members_read folder.path (names_told answer) (record taking { log = folder_told taking.log folder answer })

after_listing-short : (folder : Folder) (taking : Taking) → FollowShort (after_listing folder taking)
after_listing-short folder taking answer =
    each_with_room-short (λ name. member_read (path_in folder.path name)) (names_told answer) (record taking { log = folder_told taking.log folder answer }) (members_are_short folder.path)

pub folder_read-short : ReadsShort folder_read
unfolding folder_read
folder_read-short folder taking = tt

-- a folder was listed, something was said of it, and its members were read
pub folder_reached : {T U : Type 0} (folder : Folder) (taking : Taking) (reached : T → Answer (List (List ℕ))) (ends : U → Passed) (answer : T) (log : Log) (names : List (List ℕ))
    (result : Result U OutOfMemory) (before middle now : Option (List LibraryCall)) (few some many : ℕ)
    → AsksOver (folder_asked folder.path) reached (Ok answer) before middle few some → log ≡ folder_told taking.log folder (reached answer) → names ≡ names_told (reached answer)
    → AsksOver (members_read folder.path names (record taking { log = log })) ends result middle now some many → AsksOver (folder_read folder taking) ends result before now few many
unfolding folder_read
folder_reached folder taking reached ends answer log names result before middle now few some many one said are two =
    asks_then (folder_asked folder.path) (after_listing folder taking) reached ends answer result before middle now few some many one (rw (sym said, sym are) two)

-- memory ran out behind the listing
pub folder_lost : {T U : Type 0} (folder : Folder) (taking : Taking) (reached : T → Answer (List (List ℕ))) (ends : U → Passed) (answer : T)
    (result : Result U OutOfMemory) (before now : Option (List LibraryCall)) (few many : ℕ)
    → AsksOver (folder_asked folder.path) reached (Ok answer) before now few many → IsErr result → AsksOver (folder_read folder taking) ends result before now few many
unfolding folder_read
folder_lost folder taking reached ends answer result before now few many one failed =
    asks_lost (folder_asked folder.path) (after_listing folder taking) reached ends answer result before now few many one failed (after_listing-short folder taking (reached answer))

-- memory ran out at the listing
pub folder_cut : {T U : Type 0} (folder : Folder) (taking : Taking) (reached : T → Answer (List (List ℕ))) (ends : U → Passed) (fault : OutOfMemory)
    (result : Result U OutOfMemory) (before now : Option (List LibraryCall)) (few many : ℕ)
    → AsksOver (folder_asked folder.path) reached (Err fault) before now few many → IsErr result → AsksOver (folder_read folder taking) ends result before now few many
unfolding folder_read
folder_cut folder taking reached ends fault result before now few many one failed =
    asks_cut (folder_asked folder.path) (after_listing folder taking) reached ends fault result before now few many one failed (after_listing-short folder taking)

-- ---- the same of a path by another name

pub folder_at : {T : Type 0} (path other : List ℕ) (reached : T → Answer (List (List ℕ))) (result : Result T OutOfMemory)
    (before now : Option (List LibraryCall)) (few many : ℕ) → path ≡ other
    → AsksOver (folder_asked path) reached result before now few many → AsksOver (folder_asked other) reached result before now few many
folder_at path other reached result before now few many is one = subst (λ z. AsksOver (folder_asked z) reached result before now few many) is one

pub member_at : {T : Type 0} (path other : List ℕ) (taking : Taking) (ends : T → Passed) (result : Result T OutOfMemory)
    (before now : Option (List LibraryCall)) (few many : ℕ) → path ≡ other
    → AsksOver (member_read path taking) ends result before now few many → AsksOver (member_read other taking) ends result before now few many
member_at path other taking ends result before now few many is one = subst (λ z. AsksOver (member_read z taking) ends result before now few many) is one
