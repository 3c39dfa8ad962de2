-- What is written of the lines of a session of its own.
use Rattle.std.proofs.Common.{◌≡◌, List, ℕ, [], ◌++◌, Option, refl, subst}
use Rattle.io_edge.specs.Told.{Gains}
use Rattle.io_edge.proofs.ToldLaws.{Gains-nil}
use Rattle.hlasm_server.specs.declared.status.Status.{Status}
use Rattle.hlasm_server.specs.declared.status.Status.TheVariants.{BadWords, OutOfMemory}
use Rattle.hlasm_server.specs.Bulk.{IsWritten, Writes}

-- such words are a command
pub never_bad_words : (lines : List ℕ) (before now : Option (List ℕ)) (status : Status) → Writes lines before now status → status ≡ BadWords → ⊥
never_bad_words lines before now status writes bad = subst (λ s. IsWritten s lines writes.0) bad writes.2

-- memory ran out before anything was written
pub nothing_written : (lines : List ℕ) (held : Option (List ℕ)) → Writes lines held held OutOfMemory
nothing_written lines held = ([], Gains-nil held, (lines, refl))
