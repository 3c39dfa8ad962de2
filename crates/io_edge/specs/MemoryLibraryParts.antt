-- The parts of a library in memory as its contracts see them (this project).
use Rattle.std.specs.Prelude.{map, Some, None, Ok, Err, string_bytes}
use Rattle.io_edge.specs.LibraryCall.{LibraryCall, lists, reads, absent, found, refused}
use Rattle.io_edge.specs.MemoryLibrary.{Folder, File}
use Rattle.io_edge.specs.declared.memory_library.MemoryFolder.{MemoryFolder}
use Rattle.io_edge.specs.declared.memory_library.MemoryFile.{MemoryFile}
use Rattle.io_edge.specs.declared.memory_library.MemoryCall.{MemoryCall}
use Rattle.io_edge.specs.declared.memory_library.MemoryCall.TheVariants.{List as Lists, Read as Reads}

-- a folder that a library was made of
abbrev pub folder_of : MemoryFolder → Folder
folder_of folder = record { path = string_bytes folder.path; names = map string_bytes folder.names.items }

-- a file that a library was made of
abbrev pub file_of : MemoryFile → File
file_of file = record { path = string_bytes file.path; bytes = file.bytes.items }

-- a call that a library has noted
abbrev pub call_of : MemoryCall → LibraryCall
call_of (Lists folder (Ok None)) = lists (string_bytes folder) absent
call_of (Lists folder (Ok (Some names))) = lists (string_bytes folder) (found (map string_bytes names.items))
call_of (Lists folder (Err _)) = lists (string_bytes folder) refused
call_of (Reads path (Ok None)) = reads (string_bytes path) absent
call_of (Reads path (Ok (Some bytes))) = reads (string_bytes path) (found bytes.items)
call_of (Reads path (Err _)) = reads (string_bytes path) refused
