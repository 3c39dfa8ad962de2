-- Which member a name is in the folders of a group (this project): the first of the folders that has the name decides, and of
-- several files of one name in a folder the first by bytes of the path stands. Files are those at whose paths something is
-- present: the text of an open document, or what was last read of a file.
use Rattle.std.specs.Prelude.{◌≡◌, ℕ, Bool, false, ◌&&◌, List, Option, Some, None, filter, filter_map, is_some, slice_get, encode_utf8_all, if◌then◌else◌, refl}
use Rattle.std.specs.List.{reduce}
use Rattle.std.specs.Option.{option_and_then}
use Rattle.std.specs.Ordering.{nat_cmp, is_lt}
use Rattle.std.specs.Cmp.Lexicographic.{slice_cmp}
use Rattle.std.specs.Str.{bytes_eq}
use Rattle.member_paths.specs.Paths.{folder_of, file_name_of, member_name}
use Rattle.text_pool.specs.Members as members
use Rattle.text_pool.specs.Members.{Member}
use Rattle.document_store.specs.Store.{Store, File, Readable, Unreadable, present, present_at, number_of}
use Rattle.std.specs.Coded.{Coded, code_by, coded×, coded_ℕ, coded_list}
use Rattle.document_store.specs.Holdings.{Holdings, holdings_code}
use Rattle.group_members.specs.declared.index.MemberIndex.{MemberIndex}
use Rattle.group_members.specs.Index.{number_in}

-- ---- the files of a member

-- whether the name that a file gives, if any, is this one
abbrev pub is_name : List ℕ → Option (List ℕ) → Bool
is_name name None = false
is_name name (Some other) = bytes_eq name other

-- whether a file is a member of this folder and name, by its path
abbrev pub is_file_of : (folder name path : List ℕ) → Bool
is_file_of folder name path = bytes_eq folder (folder_of path) && is_name name (member_name (file_name_of path))

-- whether it is one, and something is present at its path
abbrev pub is_there : Store → (folder name path : List ℕ) → Bool
is_there store folder name path = is_file_of folder name path && is_some (present store path)

-- the files of a folder and a name, by their paths
abbrev pub files_of : Store → (folder name : List ℕ) → List (List ℕ)
files_of store folder name = filter (is_there store folder name) store.paths

-- ---- the first of them

-- whether a path comes before another by its bytes
abbrev pub is_before : List ℕ → List ℕ → Bool
is_before a b = is_lt (slice_cmp nat_cmp (encode_utf8_all a) (encode_utf8_all b))

-- the one of two paths that comes first
abbrev pub first_of_two : List ℕ → List ℕ → List ℕ
first_of_two a b = if is_before b a then b else a

-- the one of these paths that comes first
abbrev pub first_path : List (List ℕ) → Option (List ℕ)
first_path paths = reduce first_of_two paths

-- the number of the path of a folder's member of a name
abbrev pub member_number : Store → (folder name : List ℕ) → Option ℕ
member_number store folder name = option_and_then (number_of store.paths) (first_path (files_of store folder name))

-- ---- the member of a group

-- the number of the path of the member in the first of these folders that has one
abbrev pub first_number : Store → List (List ℕ) → (name : List ℕ) → Option ℕ
first_number store folders name = slice_get (filter_map (λ folder. member_number store folder name) folders) 0

-- what is present at a path, as a member
abbrev pub as_member : ℕ → Option File → Member
as_member number None = members.Absent
as_member number (Some Unreadable) = members.Unreadable
as_member number (Some (Readable text)) = members.File number text

-- what is present at the path of a number, if there is one
abbrev pub member_at : Store → Option ℕ → Member
member_at store None = members.Absent
member_at store (Some number) = as_member number (present_at store number)

-- the member of a name in these folders
unfoldable pub member_of : Store → (folders : List (List ℕ)) → (name : List ℕ) → Member
member_of store folders name = member_at store (first_number store folders name)

-- ---- the index

-- an index has the number of the path of each folder's member of each name
abbrev pub Indexes : Store → MemberIndex → Type 0
Indexes store index = (folder name : List ℕ) → number_in index (encode_utf8_all folder) name ≡ member_number store folder name

-- what an assembly is given: the store, and the folders in which its members are searched
pub record Available : Type 0 where
  pub holdings : Holdings
  pub folders : List (List ℕ)

abbrev pub available_code : Coded Available
available_code =
    code_by
    (Holdings × List (List ℕ))
    (coded× holdings_code (coded_list (coded_list coded_ℕ)))
    (λ a. (a.holdings, a.folders))
    (λ t. record { holdings = t.0; folders = t.1 })
    (λ _. refl)
