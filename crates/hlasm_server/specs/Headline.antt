-- The headline (this project): what a run has read and written, told by source and sink, is what the plain session
-- writes for those bytes and those answers of the library; a fault of the source or the sink or want of memory only ends it
-- after a prefix.
use Rattle.std.specs.Prelude.{◌≡◌, ℕ, Bool, List, ◌++◌, length, drop, Option, Some, ◌⊎◌}
use Rattle.io_edge.specs.Told.{Gives, Gains, HasRisen}
use Rattle.io_edge.specs.LibraryCall.{LibraryCall}
use Rattle.hlasm_server.specs.declared.status.Status.{Status}
use Rattle.hlasm_server.specs.declared.status.Status.TheVariants.{Done, NoShutdown, InputEnded, OutOfMemory, ReadFault, WriteFault, BadFrame, BadWords, InputTooLong}
use Rattle.bulk_session.specs.Step.{written}
use Rattle.hlasm_server.specs.Hearing.{beginning_with}
use Rattle.hlasm_server.specs.Output.{Out}
use Rattle.hlasm_server.specs.Waiting.{Asked}

-- The whole output of the input, with this status. These are the calls of the library that are made for it, with their answers.
pub record Whole (budget : ℕ) (waits : List Bool) (calls : List LibraryCall) (bytes : List ℕ) (status : Status) (taken : ℕ) (output : List ℕ) : Type 0 where
  pub replies : List (List ℕ)
  pub out : Out (beginning_with budget waits calls) 0 bytes replies (Some status) taken
  pub all : output ≡ written replies

-- the first bodies of the output, each a whole frame; it has no status where one more call of the library is made in it
pub record FirstFrames (budget : ℕ) (waits : List Bool) (calls : List LibraryCall) (bytes output : List ℕ) : Type 0 where
  pub first : List (List ℕ)
  pub others : List (List ℕ)
  pub status : Option Status
  pub taken : ℕ
  pub out : Out (beginning_with budget waits calls) 0 bytes (first ++ others) status taken
  pub all : output ≡ written first

-- the first bytes of the output
pub record FirstBytes (budget : ℕ) (waits : List Bool) (calls : List LibraryCall) (bytes output : List ℕ) : Type 0 where
  pub replies : List (List ℕ)
  pub status : Option Status
  pub taken : ℕ
  pub rest : List ℕ
  pub out : Out (beginning_with budget waits calls) 0 bytes replies status taken
  pub all : written replies ≡ output ++ rest

-- What a run with this status has written, `bytes` being the input that was there and `taken` what it took of it. Where
-- writing was cut off, what was written answers what was taken, too.
abbrev pub IsAnswer : Status → (budget : ℕ) → List Bool → List LibraryCall → (bytes taken output : List ℕ) → Type 0
-- want of memory ends it at a whole frame
IsAnswer OutOfMemory budget waits calls bytes taken output = FirstFrames budget waits calls bytes output × FirstFrames budget waits calls taken output
-- a sink that failed has taken some beginning
IsAnswer WriteFault budget waits calls bytes taken output = FirstBytes budget waits calls bytes output × FirstBytes budget waits calls taken output
-- a source that failed is as an input that ended there
IsAnswer ReadFault budget waits calls bytes taken output = Whole budget waits calls taken InputEnded (length taken) output
-- with right words no answer speaks of the words
IsAnswer BadWords budget waits calls bytes taken output = ⊥
IsAnswer Done budget waits calls bytes taken output = Whole budget waits calls bytes Done (length taken) output
IsAnswer NoShutdown budget waits calls bytes taken output = Whole budget waits calls bytes NoShutdown (length taken) output
IsAnswer InputEnded budget waits calls bytes taken output = Whole budget waits calls bytes InputEnded (length taken) output
IsAnswer (BadFrame at) budget waits calls bytes taken output = Whole budget waits calls bytes (BadFrame at) (length taken) output
IsAnswer InputTooLong budget waits calls bytes taken output = Whole budget waits calls bytes InputTooLong (length taken) output

-- What a run took of the source and put into the sink, as they tell it, is the plain session's for the answers of `waiting`
-- that the source gave and the calls that the library tells it has gained, with their answers. A call that failed is one of
-- them: it ends nothing.
pub record IsPlainRun (budget : ℕ) (waits_before waits_now : Option (List Bool)) (calls_before calls_now : Option (List LibraryCall)) (left_before left_now held_before held_now : Option (List ℕ)) (status : Status) : Type 0 where
  pub taken : List ℕ
  pub output : List ℕ
  pub waits : List Bool
  pub calls : List LibraryCall
  pub asked : Asked waits_before waits waits_now
  pub made : Gains calls_before calls calls_now
  pub read : Gives left_before taken left_now
  pub wrote : Gains held_before output held_now
  pub answer : (bytes : List ℕ) → left_before ≡ Some bytes → IsAnswer status budget waits calls bytes taken output

-- Faults come only where the count of that object rose.
abbrev pub HasStatusCause : Status → (source_before source_now sink_before sink_now : ℕ) → Type 0
HasStatusCause ReadFault a b c d = HasRisen a b
HasStatusCause WriteFault a b c d = HasRisen c d
HasStatusCause Done a b c d = Unit {0}
HasStatusCause NoShutdown a b c d = Unit {0}
HasStatusCause InputEnded a b c d = Unit {0}
HasStatusCause OutOfMemory a b c d = Unit {0}
HasStatusCause BadWords a b c d = Unit {0}
HasStatusCause (BadFrame at) a b c d = Unit {0}
HasStatusCause InputTooLong a b c d = Unit {0}

-- Completeness: where no fault of the source or the sink was counted, the run ends as the plain session does for the input that
-- was there, the answers of `waiting` that were given and the calls of the library that were made, has written all of its
-- output, and has taken what it takes, unless memory ran out. Where that has no status, memory did run out.
abbrev pub Completes : (budget : ℕ) → (waits_before waits_now : Option (List Bool)) (calls_before calls_now : Option (List LibraryCall)) (left_before left_now held_before held_now : Option (List ℕ)) → Status → Type 0
Completes budget waits_before waits_now calls_before calls_now left_before left_now held_before held_now status =
    (waits : List Bool) × (calls : List LibraryCall) × Asked waits_before waits waits_now × Gains calls_before calls calls_now
    × ((bytes : List ℕ) (replies : List (List ℕ)) (wanted : Option Status) (taken : ℕ) → left_before ≡ Some bytes
    → Out (beginning_with budget waits calls) 0 bytes replies wanted taken
    → (status ≡ OutOfMemory) ⊎ ((wanted ≡ Some status) × (left_now ≡ Some (drop taken bytes)) × Gains held_before (written replies) held_now))
