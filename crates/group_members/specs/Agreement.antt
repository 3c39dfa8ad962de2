-- When two stores have the same members in the same folders (this project).
use Rattle.std.specs.Prelude.{◌≡◌, ℕ, Bool, true, false, ◌&&◌, List, ◌++◌, is_some}
use Rattle.std.specs.List.{list_any, AllByRecursion}
use Rattle.std.specs.Str.{bytes_eq}
use Rattle.member_paths.specs.Paths.{folder_of}
use Rattle.document_store.specs.Store.{Store, present}

-- whether a file lies in one of these folders
abbrev pub lies_in : List (List ℕ) → (path : List ℕ) → Bool
lies_in folders path = list_any (bytes_eq (folder_of path)) folders

-- The second of two stores has the paths of the first, and perhaps more, at none of which in these folders something is
-- present; and what is present at each path in these folders is the same.
pub record IsSameIn (folders : List (List ℕ)) (old new : Store) : Type 0 where
  pub more : List (List ℕ)
  pub paths : new.paths ≡ old.paths ++ more
  pub outside : AllByRecursion (λ path. (lies_in folders path && is_some (present new path)) ≡ false) more
  pub same : (path : List ℕ) → lies_in folders path ≡ true → present new path ≡ present old path
