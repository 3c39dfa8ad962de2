-- What a whole run writes and answers (this project): a relation between the bytes of the input, with the calls of the library
-- to come, and the bodies that are written, the status and the number of bytes taken. It knows nothing of pieces.
use Rattle.std.specs.Prelude.{◌≡◌, ◌≢◌, ℕ, ◌+◌, ◌^◌, ◌<◌, ◌≤◌, true, false, List, [], ◌∷◌, ◌++◌, length, take, Option, Some, None}
use Rattle.io_edge.specs.LibraryCall.{LibraryCall}
use Rattle.rpc_framing.specs.Frames.{IsFrame, IsFrames, IsPartial, IsBadStart}
use Rattle.hlasm_server.specs.declared.status.Status.{Status}
use Rattle.hlasm_server.specs.declared.status.Status.TheVariants.{Done, NoShutdown, InputEnded, OutOfMemory, ReadFault, WriteFault, BadFrame, BadWords, InputTooLong}
use Rattle.hlasm_server.specs.Hearing.{Running, Heard, Goes, Ends, Lacks, Differs, hear}

-- these bodies lead from one session to another, it goes on after each of them, and this is written for them
abbrev pub Leads : Running → List (List ℕ) → Running → List (List ℕ) → Type 0
Leads from [] to replies = (to ≡ from) × (replies ≡ [])
Leads from (body ∷ bodies) to replies =
    (next : Running) × (first : List (List ℕ)) × (others : List (List ℕ))
    × (hear from body ≡ Goes next first) × Leads next bodies to others × (replies ≡ first ++ others)

-- the input goes on with a whole frame of so many bytes, whose body has this effect
pub record Meets (session : Running) (tail : List ℕ) (heard : Heard) (taken : ℕ) : Type 0 where
  pub bytes : List ℕ
  pub body : List ℕ
  pub rest : List ℕ
  pub whole : tail ≡ bytes ++ rest
  pub is_frame : IsFrame bytes body
  pub effect : hear session body ≡ heard
  pub place : taken ≡ length bytes

-- the most bytes that are taken of an input
abbrev pub most_input : ℕ
most_input = 2 ^ 40

-- How a run ends: with a status, where these of the calls of the library to come were not made; in an event that makes a call
-- for which no answer is left; or in one that makes another call than the next of those to come.
pub data End : Type 0 where
  Finished : (status : Status) (left : List LibraryCall) → End
  Lacking : End
  Differing : End

-- How a session that stands open, with this input left, comes to its end, and how many bytes it takes for that. So many bytes
-- came before.
abbrev pub EndsAt : Running → (before : ℕ) → (tail : List ℕ) → End → (taken : ℕ) → Type 0
-- the next message is the exit, after shutdown was answered, or before
EndsAt s before tail (Finished Done left) taken = Meets s tail (Ends true left) taken
EndsAt s before tail (Finished NoShutdown left) taken = Meets s tail (Ends false left) taken
-- the input has less than a whole frame left, and is shorter than what may be taken
EndsAt s before tail (Finished InputEnded left) taken = IsPartial tail × (taken ≡ length tail) × (before + taken < most_input) × (left ≡ s.calls)
-- no frame goes on so: the place is counted over the whole input
EndsAt s before tail (Finished (BadFrame at) left) taken = IsBadStart tail taken × (at ≡ before + taken) × (left ≡ s.calls)
-- all was taken that may be, and the next frame is not yet whole
EndsAt s before tail (Finished InputTooLong left) taken = IsPartial (take taken tail) × (taken ≤ length tail) × (before + taken ≡ most_input) × (left ≡ s.calls)
-- nothing in the input gives any other status
EndsAt s before tail (Finished OutOfMemory left) taken = ⊥
EndsAt s before tail (Finished ReadFault left) taken = ⊥
EndsAt s before tail (Finished WriteFault left) taken = ⊥
EndsAt s before tail (Finished BadWords left) taken = ⊥
-- the next message makes a call, and no answer is left, or the next one is of another call
EndsAt s before tail Lacking taken = Meets s tail Lacks taken
EndsAt s before tail Differing taken = Meets s tail Differs taken

-- Where `before` bytes were taken and the session stands open: over these bytes it writes these bodies, comes to this end, and
-- takes this many bytes.
pub record Course (from : Running) (before : ℕ) (bytes : List ℕ) (replies : List (List ℕ)) (end : End) (taken : ℕ) : Type 0 where
  pub front : List ℕ
  pub bodies : List (List ℕ)
  pub tail : List ℕ
  pub session : Running
  pub place : ℕ
  pub whole : bytes ≡ front ++ tail
  pub frames : IsFrames front bodies
  pub heard : Leads from bodies session replies
  pub ends : EndsAt session (before + length front) tail end place
  pub count : taken ≡ length front + place
  pub within : before + taken ≤ most_input

-- the end at which each of the calls to come was made: with a status, or with none, where one more call was made
abbrev pub end_of : Option Status → End
end_of (Some status) = Finished status []
end_of None = Lacking

-- The output of a session over these bytes, with its status and how many bytes it takes. It makes exactly the calls of the
-- library that were to come; where it makes one more, this is the output so far, and it has no status.
abbrev pub Out : (from : Running) (before : ℕ) (bytes : List ℕ) (replies : List (List ℕ)) (status : Option Status) (taken : ℕ) → Type 0
Out from before bytes replies status taken = Course from before bytes replies (end_of status) taken

-- an end at which the calls to come are not those that were made: some are left over, or the next one is another
abbrev pub IsAstray : End → Type 0
IsAstray (Finished status left) = left ≢ []
IsAstray Lacking = ⊥
IsAstray Differing = Unit {0}

-- the calls of the library to come are not those that a session makes over these bytes, so it has no output
pub record Strays (from : Running) (before : ℕ) (bytes : List ℕ) : Type 0 where
  pub replies : List (List ℕ)
  pub end : End
  pub taken : ℕ
  pub course : Course from before bytes replies end taken
  pub astray : IsAstray end
