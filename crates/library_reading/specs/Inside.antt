-- Answers as they lie in memory. No public clause cites this file. This project.
use Rattle.std.specs.Prelude.{ℕ, List, map, string_bytes}
use Rattle.io_edge.specs.LibraryCall.{Answer, absent, found, refused}
use Rattle.library_reading.specs.declared.answers.FileAnswer.{FileAnswer}
use Rattle.library_reading.specs.declared.answers.FileAnswer.TheVariants as file
use Rattle.library_reading.specs.declared.answers.FolderAnswer.{FolderAnswer}
use Rattle.library_reading.specs.declared.answers.FolderAnswer.TheVariants as folder

abbrev pub folder_answer : FolderAnswer → Answer (List (List ℕ))
folder_answer folder.Absent = absent
folder_answer (folder.Found names) = found (map string_bytes names.items)
folder_answer folder.Refused = refused

abbrev pub file_answer : FileAnswer → Answer (List ℕ)
file_answer file.Absent = absent
file_answer (file.Found bytes) = found bytes.items
file_answer file.Refused = refused
