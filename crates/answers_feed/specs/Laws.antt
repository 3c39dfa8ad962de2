-- Stores whose members are the same (this project).
use Rattle.std.specs.Prelude.{◌≡◌, ℕ, false, true, List, ◌++◌, Contains}
use Rattle.document_store.specs.Store.{Store, present}
use Rattle.library_folders.specs.declared.folders.Folder.{Folder}
use Rattle.library_folders.specs.Folders.{is_member}
use Rattle.text_sites.specs.Sites.{uri_at}

-- A store has the members of another: paths keep their numbers, the further paths stand in no library folder, and at each path
-- of a library folder the same is present, under the same URI.
pub record IsSameLibrary (folders : List Folder) (old new : Store) : Type 0 where
  pub more : List (List ℕ)
  pub paths : new.paths ≡ old.paths ++ more
  pub outside : (path : List ℕ) → Contains more path → is_member folders path ≡ false
  pub present_is : (path : List ℕ) → is_member folders path ≡ true → present new path ≡ present old path
  pub uri_is : (path : List ℕ) → is_member folders path ≡ true → uri_at new path ≡ uri_at old path
