-- What the input has next, told by what was taken of it (this project).
use Rattle.std.specs.Prelude.{◌≡◌, ℕ, ◌+◌, ◌<◌, ◌≤◌, List, [], ◌∷◌, ◌++◌, length, Option, None, ◌⊎◌}
use Rattle.io_edge.specs.Told.{Gives, IsAtEnd, HasRisen}
use Rattle.rpc_framing.specs.Frames.{IsFrame, IsPartial, IsBadStart}
use Rattle.rpc_framing.specs.Reading.{Reading}
use Rattle.hlasm_server.specs.declared.feeding.Piece.{Piece}
use Rattle.hlasm_server.specs.declared.feeding.Piece.TheVariants as piece
use Rattle.hlasm_server.specs.declared.feeding.Next.{Next}
use Rattle.hlasm_server.specs.declared.feeding.Next.TheVariants.{Body, End, Broken, TooLong, ReadFault, OutOfMemory}

-- no byte of the next frame has come, and no body waits
pub record IsBetweenFrames (reader : Reading) : Type 0 where
  pub ready : reader.ready ≡ []
  pub rest : reader.rest ≡ []
  pub sound : reader.fault ≡ None

-- the source gave these bytes
abbrev pub Taking : (left_before left_now : Option (List ℕ)) → (List ℕ → Type 0) → Type 0
Taking before now P = (taken : List ℕ) × Gives before taken now × P taken

-- What the input has next, and what was taken for it, where `most` bytes may be fed: a whole frame and nothing of the one
-- behind it, all that was left, bytes up to the first with which they begin no frame, or all that may be.
abbrev pub Finds : (most : ℕ) → Next → (left_before left_now : Option (List ℕ)) → (faults_before faults_now : ℕ) → (old new : Reading) → Type 0
Finds most (Body body) before now f g old new = Taking before now (λ taken. IsFrame taken body.items × IsBetweenFrames new × (new.fed ≡ old.fed + length taken) × (new.fed ≤ most))
Finds most End before now f g old new = Taking before now (λ taken. IsPartial taken × IsAtEnd now × (old.fed + length taken < most))
Finds most (Broken at) before now f g old new = Taking before now (λ taken. IsBadStart taken (length taken) × (at ≡ old.fed + length taken) × (at ≤ most))
Finds most TooLong before now f g old new = Taking before now (λ taken. IsPartial taken × (old.fed + length taken ≡ most))
Finds most ReadFault before now f g old new = Taking before now (λ taken. IsPartial taken × HasRisen f g × (old.fed + length taken < most))
Finds most OutOfMemory before now f g old new = Taking before now (λ _. Unit {0})

-- ---- one piece

-- a piece came, and the frame is still not whole
pub record Within (old new : Reading) (bytes : List ℕ) : Type 0 where
  pub ready : new.ready ≡ old.ready
  pub rest : new.rest ≡ old.rest ++ bytes
  pub partial : IsPartial new.rest

-- a piece came, and the frame is whole, with nothing of the next
pub record Fills (old new : Reading) (bytes : List ℕ) : Type 0 where
  pub body : List ℕ
  pub frame : IsFrame (old.rest ++ bytes) body
  pub ready : new.ready ≡ old.ready ++ body ∷ []
  pub rest : new.rest ≡ []

-- a piece came that no frame stands against
pub record Brings (most : ℕ) (old new : Reading) (bytes : List ℕ) : Type 0 where
  pub some : 0 < length bytes
  pub fed : new.fed ≡ old.fed + length bytes
  pub within : new.fed ≤ most
  pub sound : new.fault ≡ None
  pub reaches : Within old new bytes ⊎ Fills old new bytes

-- what taking one piece more of a frame comes to
abbrev pub Takes : (most : ℕ) → Piece → (left_before left_now : Option (List ℕ)) → (faults_before faults_now : ℕ) → (old new : Reading) → Type 0
Takes most piece.Came before now f g old new = Taking before now (λ bytes. Brings most old new bytes)
Takes most piece.End before now f g old new = Gives before [] now × IsPartial old.rest × IsAtEnd now × (old.fed < most)
Takes most (piece.Broken at) before now f g old new = Taking before now (λ bytes. IsBadStart (old.rest ++ bytes) (length (old.rest ++ bytes)) × (at ≡ old.fed + length bytes) × (at ≤ most))
Takes most piece.TooLong before now f g old new = Gives before [] now × IsPartial old.rest × (old.fed ≡ most)
Takes most piece.ReadFault before now f g old new = Gives before [] now × IsPartial old.rest × HasRisen f g × (old.fed < most)
Takes most piece.OutOfMemory before now f g old new = Taking before now (λ _. Unit {0})
