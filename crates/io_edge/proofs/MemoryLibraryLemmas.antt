-- What stands at a path in a library in memory, told of the parts that it was made of.
use Rattle.std.proofs.Common.{◌≡◌, ℕ, Bool, true, false, cond, List, [], ◌∷◌, map, find, Option, Some, string_bytes, refl, ap, sym, subst, ◌∙◌}
use Rattle.std.specs.Option.{option_map}
use Rattle.std.specs.Str.{bytes_eq}
use Rattle.io_edge.specs.Counts.{IsToFail}
use Rattle.io_edge.specs.MemoryLibrary.{names_at, bytes_at}
use Rattle.io_edge.specs.MemoryLibraryParts.{folder_of, file_of}
use Rattle.io_edge.specs.declared.memory_library.MemoryFolder.{MemoryFolder}
use Rattle.io_edge.specs.declared.memory_library.MemoryFile.{MemoryFile}

option_map-cond : {A B : Type 0} (f : A → B) (b : Bool) (x y : Option A) →
    option_map f (cond b x y) ≡ cond b (option_map f x) (option_map f y)
option_map-cond f true x y = refl
option_map-cond f false x y = refl

-- the first image that passes, seen by a further function
option_map-find-map : {A B C : Type 0} (f : A → B) (g : B → C) (p : B → Bool) (xs : List A) →
    option_map g (find p (map f xs)) ≡ option_map (λ x. g (f x)) (find (λ x. p (f x)) xs)
option_map-find-map f g p [] = refl
option_map-find-map f g p (x ∷ xs) =
    option_map-cond g (p (f x)) (Some (f x)) (find p (map f xs))
    ∙ ap (cond (p (f x)) (Some (g (f x)))) (option_map-find-map f g p xs)
    ∙ sym (option_map-cond (λ y. g (f y)) (p (f x)) (Some x) (find (λ y. p (f y)) xs))

-- the names at a path are those of the first folder with that path
pub names_at-map : (folders : List MemoryFolder) (path : List ℕ) →
    option_map (λ folder. map string_bytes folder.names.items)
    (find (λ folder. bytes_eq (string_bytes folder.path) path) folders)
    ≡ names_at (map folder_of folders) path
names_at-map folders path =
    sym (option_map-find-map folder_of (λ folder. folder.names) (λ folder. bytes_eq folder.path path) folders)

-- the bytes at a path are those of the first file with that path
pub bytes_at-map : (files : List MemoryFile) (path : List ℕ) →
    option_map (λ file. file.bytes.items) (find (λ file. bytes_eq (string_bytes file.path) path) files)
    ≡ bytes_at (map file_of files) path
bytes_at-map files path =
    sym (option_map-find-map file_of (λ file. file.bytes) (λ file. bytes_eq file.path path) files)

-- a call that is to fail is so under equal lists and numbers
pub IsToFail-same : (failing listed : List ℕ) (calls made : ℕ) → failing ≡ listed → calls ≡ made →
    IsToFail failing calls → IsToFail listed made
IsToFail-same failing listed calls made one two =
    subst (λ (numbers : List ℕ). IsToFail failing calls → IsToFail numbers made) one
    (subst (λ (number : ℕ). IsToFail failing calls → IsToFail failing number) two (λ to_fail. to_fail))
