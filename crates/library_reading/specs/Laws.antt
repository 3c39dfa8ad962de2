-- What is true of all questions to a library (this project).
use Rattle.std.specs.Prelude.{◌≡◌, List, ◌++◌}
use Rattle.io_edge.specs.LibraryCall.{LibraryCall}
use Rattle.library_reading.specs.Asked.{Came, Asking}

-- questions that came to a value come to it whatever is to come behind, and leave that too
abbrev pub LeavesMore : {A : Type 0} → Asking A → Type 0
LeavesMore {A} asking =
    (calls more rest : List LibraryCall) (value : A) → asking calls ≡ Came value rest → asking (calls ++ more) ≡ Came value (rest ++ more)
