-- What an event comes to (this project).
use Rattle.std.specs.Prelude.{◌≡◌, ℕ, List, [], ◌∷◌, ◌++◌}
use Rattle.std.specs.List.{flat_map}
use Rattle.io_edge.specs.LibraryCall.{LibraryCall}
use Rattle.library_reading.specs.Asked.{Asked, Came, Lacks, Differs, Asking, answered}
use Rattle.rpc_framing.specs.Frames.{frame}
use Rattle.session_core.specs.State.{State}

-- ---- where the library is asked nothing

-- the state behind an event, and the bodies that are written for it
pub record Effect : Type 0 where
  pub state : State
  pub bodies : List (List ℕ)

-- nothing is written
abbrev pub quiet : State → Effect
quiet s = record { state = s; bodies = [] }

-- this is written
abbrev pub says : State → List ℕ → Effect
says s body = record { state = s; bodies = body ∷ [] }

-- an event, and then what comes of the state behind it
abbrev pub and_then : Effect → (State → Effect) → Effect
and_then first next = record { state = (next first.state).state; bodies = first.bodies ++ (next first.state).bodies }

-- the bytes of these bodies, each in a frame
abbrev pub written : List (List ℕ) → List ℕ
written bodies = flat_map frame bodies

-- an event came to this state, and these bodies are written for it
abbrev pub IsEffect : Effect → State → List (List ℕ) → Type 0
IsEffect effect s bodies = effect ≡ record { state = s; bodies = bodies }

-- an event that may ask the library asked nothing, came to this state, and these bodies are written for it
abbrev pub Acts : Asking Effect → State → List (List ℕ) → Type 0
Acts asking s bodies = asking ≡ answered (record { state = s; bodies = bodies })

-- ---- over the library's calls

-- What an event comes to where these are the calls of the library to come, with their answers: the state behind it, the
-- bodies that are written for it, and the calls that are left; or no answer was left for it, and nothing was written; or the
-- next answer is of another call than the one that is made.
pub data Step : Type 0 where
  Goes : (state : State) (bodies : List (List ℕ)) (rest : List LibraryCall) → Step
  Stopped : Step
  Other : Step

-- a Turn asks the library nothing, so all calls are left
abbrev pub asking_nothing : Effect → List LibraryCall → Step
asking_nothing effect calls = Goes effect.state effect.bodies calls

-- Each of the calls to come was made, whether or not the event made one more: none of them is another than the one that is
-- made, and none is left.
abbrev pub MakesAll : Step → Type 0
MakesAll (Goes state bodies rest) = rest ≡ []
MakesAll Stopped = Unit {0}
MakesAll Other = ⊥

-- an event, by what its questions came to
abbrev pub step_of : Asked Effect → Step
step_of (Came effect rest) = Goes effect.state effect.bodies rest
step_of Lacks = Stopped
step_of Differs = Other
