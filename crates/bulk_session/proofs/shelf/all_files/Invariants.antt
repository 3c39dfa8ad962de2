use Rattle.std.proofs.Common.{◌≡◌, ◌++◌, ◌∷◌, [], map}
use Rattle.io_edge.specs.MemoryLibraryParts.{file_of}
use Rattle.bulk_session.specs.Shelf.{groups_file, programs_file, first_numbers, member_file}
use Rattle.bulk_session.proofs.shelf.all_files.Given as goal

-- the files so far are there
abbrev pub invariant-loop-number : goal.invariant-loop-number
invariant-loop-number l = map file_of l.files.items ≡ (groups_file ∷ programs_file ∷ []) ++ map member_file (first_numbers l.number)
