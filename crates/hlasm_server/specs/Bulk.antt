-- What a run writes whose words ask for a session of its own (this project): its lines, or a front of them.
use Rattle.std.specs.Prelude.{◌≡◌, ℕ, List, ◌++◌, Option, ◌⊎◌}
use Rattle.io_edge.specs.Told.{Gains}
use Rattle.bulk_session.specs.Bulk.{bulk_lines}
use Rattle.hlasm_server.specs.declared.status.Status.{Status}
use Rattle.hlasm_server.specs.declared.status.Status.TheVariants.{Done, NoShutdown, InputEnded, OutOfMemory, ReadFault, WriteFault, BadFrame, BadWords, InputTooLong}

-- what was written of these lines with this status
abbrev pub IsWritten : Status → (lines output : List ℕ) → Type 0
IsWritten Done lines output = output ≡ lines
-- want of memory, or a sink that refused, ends it anywhere
IsWritten OutOfMemory lines output = (rest : List ℕ) × (lines ≡ output ++ rest)
IsWritten WriteFault lines output = (rest : List ℕ) × (lines ≡ output ++ rest)
-- it has no other end
IsWritten NoShutdown lines output = ⊥
IsWritten InputEnded lines output = ⊥
IsWritten ReadFault lines output = ⊥
IsWritten BadWords lines output = ⊥
IsWritten (BadFrame at) lines output = ⊥
IsWritten InputTooLong lines output = ⊥

-- what the sink has gained is that
abbrev pub Writes : (lines : List ℕ) → (held_before held_now : Option (List ℕ)) → Status → Type 0
Writes lines held_before held_now status = (output : List ℕ) × Gains held_before output held_now × IsWritten status lines output

-- All of these lines were written, unless memory ran out.
abbrev pub WritesAll : (lines : List ℕ) → (held_before held_now : Option (List ℕ)) → Status → Type 0
WritesAll lines held_before held_now status = (status ≡ OutOfMemory) ⊎ ((status ≡ Done) × Gains held_before lines held_now)
