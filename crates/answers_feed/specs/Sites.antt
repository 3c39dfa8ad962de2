-- Where the frames of a program stand: in the program itself, or in a member (this project).
use Rattle.std.specs.Prelude.{◌≡◌, ℕ, ◌==◌, List, Option, Some, None, slice_get, unwrap_or, if◌then◌else◌}
use Rattle.std.specs.Option.{option_and_then}
use Rattle.document_store.specs.Store.{Store, OpenDocument, document_of, present}
use Rattle.library_folders.specs.declared.folders.Folder.{Folder}
use Rattle.library_folders.specs.Folders.{is_member}
use Rattle.text_sites.specs.Sites.{Site, uri_at, site_told, no_site}

-- the site of a path that stands in a library folder
abbrev pub member_site : List Folder → Store → (path : List ℕ) → Option Site
member_site folders store path = if is_member folders path then site_told (uri_at store path) (present store path) else None

-- the sites of the members, by the numbers of their paths
abbrev pub shelf : List Folder → Store → (number : ℕ) → Option Site
shelf folders store number = option_and_then (member_site folders store) (slice_get store.paths number)

-- the site of a number, where that of the program is known: a frame stands in the program itself or in a member
abbrev pub site_at : (program : ℕ) → Site → (ℕ → Option Site) → (number : ℕ) → Site
site_at program own members number = if number == program then own else unwrap_or (members number) no_site

-- a document is the one that is open at the path of a number
pub record IsOpen (store : Store) (number : ℕ) (document : OpenDocument) : Type 0 where
  pub path : slice_get store.paths number ≡ Some document.path
  pub is_open : document_of store document.path ≡ Some document

-- the site of a program
abbrev pub own_site : OpenDocument → Site
own_site document = record { uri = document.uri; text = document.text }

-- where the frames of a program stand
abbrev pub sites_of : List Folder → Store → (program : ℕ) → OpenDocument → (number : ℕ) → Site
sites_of folders store program document = site_at program (own_site document) (shelf folders store)
