-- An index while the paths of a store are gone over. No public clause cites this file. This project.
use Rattle.std.specs.Prelude.{◌≡◌, ℕ, Bool, true, List, [], Option, None, Some, filter, take, slice_index_or, encode_utf8_all}
use Rattle.std.specs.Option.{option_and_then}
use Rattle.document_store.specs.Store.{Store, number_of}
use Rattle.group_members.specs.declared.index.MemberIndex.{MemberIndex}
use Rattle.group_members.specs.Index.{number_in}
use Rattle.group_members.specs.Members.{is_there, is_before, first_path}

-- the number of the first of these paths
abbrev pub number_among : Store → List (List ℕ) → (folder name : List ℕ) → Option ℕ
number_among store paths folder name = option_and_then (number_of store.paths) (first_path (filter (is_there store folder name) paths))

-- an index has the members among the first so many paths
abbrev pub IndexesFirst : Store → ℕ → MemberIndex → Type 0
IndexesFirst store count index = (folder name : List ℕ) → number_in index (encode_utf8_all folder) name ≡ number_among store (take count store.paths) folder name

-- whether a path stands in place of the one that was found before, if any
abbrev pub goes_first : List (List ℕ) → Option ℕ → List ℕ → Bool
goes_first paths None path = true
goes_first paths (Some number) path = is_before path (slice_index_or paths number [])
