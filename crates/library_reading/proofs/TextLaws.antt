-- Texts of ASCII that stand in the code are their characters.
use Rattle.std.proofs.Common.{◌≡◌, ℕ, zero, suc, ◌<◌, slice_index, arith, Bool, true, false, cond, List, [], ◌∷◌, ◌++◌, codes, refl, ap, sym, ◌∙◌, append_assoc}
use Rattle.std.specs.Str.{chars, IsUtf8}
use Rattle.std.proofs.lemmas.Str.{chars-append, IsUtf8-from_ascii}
use Rattle.library_folders.specs.declared.folders.Folder.{Folder}
use Rattle.library_reading.specs.Inside.{folder_answer}
use Rattle.library_reading.specs.Log.{Log, said, said_full}
use Rattle.library_reading.specs.Reading.{folder_told}
use Rattle.library_reading.specs.declared.answers.FolderAnswer.{FolderAnswer}
use Rattle.library_reading.specs.declared.answers.FolderAnswer.TheVariants.{Absent, Refused}

pub colon_is : chars (codes ": ") ≡ codes ": "
unfolding chars
colon_is = refl

pub slash_is : chars (codes "/") ≡ codes "/"
unfolding chars
slash_is = refl

pub open_is : chars (codes "BadConfig(") ≡ codes "BadConfig("
unfolding chars
open_is = refl

pub close_is : chars (codes ")") ≡ codes ")"
unfolding chars
close_is = refl

pub json_is : chars (codes "BadConfig(json)") ≡ codes "BadConfig(json)"
unfolding chars
json_is = refl

pub unread_is : chars (codes "BadConfig") ≡ codes "BadConfig"
unfolding chars
unread_is = refl

pub absent_is : chars (codes "Absent") ≡ codes "Absent"
unfolding chars
absent_is = refl

pub unlisted_is : chars (codes "Unlisted") ≡ codes "Unlisted"
unfolding chars
unlisted_is = refl

pub groups_file_is : chars (codes "/.hlasmplugin/proc_grps.json") ≡ codes "/.hlasmplugin/proc_grps.json"
unfolding chars
groups_file_is = refl

pub programs_file_is : chars (codes "/.hlasmplugin/pgm_conf.json") ≡ codes "/.hlasmplugin/pgm_conf.json"
unfolding chars
programs_file_is = refl

full_is : chars (codes "library: LibraryTooLarge") ≡ codes "library: LibraryTooLarge"
unfolding chars
full_is = refl

-- ---- texts that are put together

pub two : (front back sign first second : List ℕ) → first ≡ front → second ≡ first ++ back → back ≡ sign → second ≡ front ++ sign
two front back sign first second one is same = is ∙ ap (λ z. z ++ back) one ∙ ap (λ z. front ++ z) same

pub three : (front middle sign back first second third : List ℕ) → first ≡ front → second ≡ first ++ middle → third ≡ second ++ back → middle ≡ sign
    → third ≡ front ++ (sign ++ back)
three front middle sign back first second third one is behind same =
    behind ∙ ap (λ z. z ++ back) (two front middle sign first second one is same) ∙ append_assoc front sign back

-- a slash is a character
slash_ascii : (i : ℕ) → slice_index (codes "/") i < 128
slash_ascii zero = omega arith
slash_ascii (suc i) = omega arith

pub slash_utf8 : IsUtf8 (codes "/")
slash_utf8 = IsUtf8-from_ascii (codes "/") slash_ascii

-- a path that is put together from bytes
pub path_spelled : (folder path name none first second whole : List ℕ) → none ≡ [] → first ≡ none ++ folder → second ≡ first ++ codes "/"
    → whole ≡ second ++ name → IsUtf8 folder → IsUtf8 (codes "/") → chars folder ≡ path → chars whole ≡ path ++ (codes "/" ++ chars name)
path_spelled folder path name none first second whole empty one two all utf8 sign spelled =
    let bytes : whole ≡ folder ++ (codes "/" ++ name) =
    all ∙ ap (λ z. z ++ name) (two ∙ ap (λ z. z ++ codes "/") (one ∙ ap (λ z. z ++ folder) empty)) ∙ append_assoc folder (codes "/") name in
    ap chars bytes ∙ chars-append folder (codes "/" ++ name) utf8 ∙ ap (λ z. z ++ chars (codes "/" ++ name)) spelled
    ∙ ap (λ z. path ++ z) (chars-append (codes "/") name sign ∙ ap (λ z. z ++ chars name) slash_is)

-- ---- the log

-- one line more, that the library is too large
pub full_said : (lines more : List (List ℕ)) (text : List ℕ) (full : Bool) → full ≡ false → more ≡ lines ++ text ∷ [] → text ≡ chars (codes "library: LibraryTooLarge")
    → record { lines = more; full = true } ≡ said_full (record { lines = lines; full = full })
full_said lines more text full not_yet are is =
    ap (λ z. record { lines = z; full = true }) (are ∙ ap (λ z. lines ++ z ∷ []) (is ∙ full_is))
    ∙ ap (λ b. said_full (record { lines = lines; full = b })) (sym not_yet)

-- an absent folder that is not optional
pub absent_told : (log : Log) (folder : Folder) (answer : FolderAnswer) → answer ≡ Absent → folder.optional ≡ false
    → folder_told log folder (folder_answer answer) ≡ said log folder.path (codes "Absent")
absent_told log folder answer is optional =
    ap (λ z. folder_told log folder (folder_answer z)) is ∙ ap (λ b. cond b log (said log folder.path (codes "Absent"))) optional

-- a folder that could not be listed
pub unlisted_told : (log : Log) (folder : Folder) (answer : FolderAnswer) → answer ≡ Refused → folder_told log folder (folder_answer answer) ≡ said log folder.path (codes "Unlisted")
unlisted_told log folder answer is = ap (λ z. folder_told log folder (folder_answer z)) is
