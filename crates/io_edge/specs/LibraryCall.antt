-- The calls of a library with their answers, as a library may tell them (this project).
use Rattle.std.specs.Prelude.{◌≡◌, ℕ, ◌≤◌, List, [], ◌∷◌, map, Option, Some, None, Result, Ok, Err, string_bytes}
use Rattle.std.specs.Prelude.{String as AnyString}
use Rattle.std.specs.Global.{Vec, Global}
use Rattle.io_edge.specs.declared.fault.LibraryFault.{LibraryFault}
use Rattle.io_edge.specs.declared.fault.LibraryFault.TheVariants.{Failed, OutOfMemory}
use Rattle.io_edge.specs.Told.{HasRisen}

-- an answer of a library: there is nothing at that path, there is this, or the call failed
pub data Answer (A : Type 0) : Type 0 where
  absent : Answer A
  found : A → Answer A
  refused : Answer A

-- a call with its answer: the file names of a folder, or the bytes of a file; a path is its bytes
pub data LibraryCall : Type 0 where
  lists : (folder : List ℕ) (answer : Answer (List (List ℕ))) → LibraryCall
  reads : (path : List ℕ) (answer : Answer (List ℕ)) → LibraryCall

-- what a listing adds to the calls that are told: nothing where there was no memory
abbrev pub listing : List ℕ → Result (Option (Vec (AnyString Global))) LibraryFault → List LibraryCall
listing folder (Ok None) = lists folder absent ∷ []
listing folder (Ok (Some names)) = lists folder (found (map string_bytes names.items)) ∷ []
listing folder (Err Failed) = lists folder refused ∷ []
listing folder (Err OutOfMemory) = []

-- what a reading adds to the calls that are told: nothing where there was no memory
abbrev pub reading : List ℕ → Result (Option (Vec ℕ)) LibraryFault → List LibraryCall
reading path (Ok None) = reads path absent ∷ []
reading path (Ok (Some bytes)) = reads path (found bytes.items) ∷ []
reading path (Err Failed) = reads path refused ∷ []
reading path (Err OutOfMemory) = []

-- a library's count of faults never falls, and a call that failed raised it
pub record HasLibraryCause {T : Type 0} (before now : ℕ) (result : Result T LibraryFault) : Type 0 where
  pub later : before ≤ now
  pub failed : result ≡ Err Failed → HasRisen before now
