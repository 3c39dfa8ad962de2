-- What a reader has after pieces no longer than it wanted.
use Rattle.std.proofs.Common.{◌≡◌, ℕ, ◌+◌, ◌-◌, ◌<◌, ◌≤◌, Bool, List, [], ◌∷◌, ◌++◌, length, take, Option, None, inl, inr, refl, sym, ap, ◌∙◌, subst, arith, length-append}
use Rattle.std.proofs.lemmas.List.{length-take-le}
use Rattle.io_edge.specs.Told.{Gives, IsAtEnd}
use Rattle.io_edge.proofs.ToldLaws.{Gives-nil, Gives-append, same_of_Gives-nil}
use Rattle.rpc_framing.specs.Faults.{Breaks, fault_at}
use Rattle.rpc_framing.specs.Frames.{IsFrame, IsPartial, IsBadStart}
use Rattle.rpc_framing.specs.Reading.{Reading, GoesOn, Stops, Waits}
use Rattle.rpc_framing.specs.declared.fault.FrameFault.{FrameFault}
use Rattle.rpc_framing.specs.declared.fault.FrameFault.TheVariants.{BadHeader, TooLong}
use Rattle.rpc_framing.specs.declared.place.Departure.{Departure}
use Rattle.rpc_framing.specs.declared.place.Departure.TheVariants as departure
use Rattle.hlasm_server.specs.Feeding.{IsBetweenFrames, Taking, Brings}
use Rattle.rpc_framing.proofs.FrameLaws.{IsPartial-nil, length-IsPartial}
use Rattle.rpc_framing.proofs.ReaderLaws.{GoesOn-Waits, Breaks-Waits, Stops-Waits}

-- a frame is being read: so much of it has come, and nothing else was taken
pub record IsReading (most : ℕ) (left_before left_now : Option (List ℕ)) (waits_before waits_now : Option (List Bool)) (faults_before faults_now : ℕ) (old new : Reading) : Type 0 where
  pub ready : new.ready ≡ []
  pub sound : new.fault ≡ None
  pub partial : IsPartial new.rest
  pub read : Gives left_before new.rest left_now
  pub fed : new.fed ≡ old.fed + length new.rest
  pub within : new.fed ≤ most
  pub waits : waits_now ≡ waits_before
  pub later : faults_before ≤ faults_now

-- what a reader has after a piece that it took
pub Brings-GoesOn : (most : ℕ) (old new : Reading) (piece : List ℕ) (n : ℕ) → Waits old.rest n → length piece ≤ n → 0 < length piece → old.fed + length piece ≤ most → GoesOn old new piece → Brings most old new piece
Brings-GoesOn most old new piece n waits few some room goes = record {
  some = some;
  fed = goes.fed;
  within = let fed = goes.fed in omega arith;
  sound = goes.still_sound;
  reaches = elim (GoesOn-Waits old new piece n waits few goes) [
    | inl (ready, rest) ↦ inl (record { ready = ready; rest = rest; partial = goes.splits.partial })
    | inr (body, ready, rest, frame, _) ↦ inr (record { body = body; frame = frame; ready = ready; rest = rest })
  ];
}

-- where nothing is whole before a fault, it is one of all the bytes
bad_alone : (fresh : List (List ℕ)) (stream : List ℕ) (departs : Departure) (at : ℕ) → Breaks stream fresh departs at → fresh ≡ [] → IsBadStart stream at
bad_alone [] stream departs at breaks none =
    let same : breaks.tail ≡ stream = ap (λ z. z ++ breaks.tail) (sym breaks.frames) ∙ sym breaks.is in
    let size : length breaks.front ≡ 0 = ap length breaks.frames in
    let place : breaks.within ≡ at = let is = breaks.place in omega arith in
    subst (λ z. IsBadStart z at) same (subst (IsBadStart breaks.tail) place breaks.bad)
bad_alone (body ∷ bodies) stream departs at breaks none = cc

-- what was taken when a reader stopped: no frame begins so, and the last byte is the first fault
pub IsBadStart-Stops : (old new : Reading) (piece : List ℕ) (fault : FrameFault) (n : ℕ) → Waits old.rest n → length piece ≤ n → Stops old new piece fault → IsBadStart (old.rest ++ piece) (length (old.rest ++ piece))
IsBadStart-Stops old new piece fault n waits few stops =
    let last = Breaks-Waits old.rest piece n stops.fresh stops.departs stops.at waits few stops.breaks in
    let size : stops.at ≡ length (old.rest ++ piece) = last.1 ∙ sym (length-append old.rest piece) in
    subst (IsBadStart (old.rest ++ piece)) size (bad_alone stops.fresh (old.rest ++ piece) stops.departs stops.at stops.breaks last.0)

-- an end that stood before nothing was given stands behind it
pub IsAtEnd-Gives : (before now : Option (List ℕ)) → Gives before [] now → IsAtEnd before → IsAtEnd now
IsAtEnd-Gives before now given end = subst IsAtEnd (sym (same_of_Gives-nil before now given)) end

-- how many bytes a piece has
pub length-piece : (buffer taken_into : List ℕ) (size taken : ℕ) → size ≤ 8192 → length buffer ≡ 8192
    → length taken_into ≡ length (take size buffer) → taken ≤ length (take size buffer) → (length (take taken taken_into) ≡ taken) × (taken ≤ size)
length-piece buffer taken_into size taken small whole same few =
    let room : length (take size buffer) ≡ size = length-take-le size buffer (omega arith) in
    (length-take-le taken taken_into (omega arith), omega arith)

-- a buffer has room for a byte where one is wanted
pub some_room : (buffer : List ℕ) (size : ℕ) → size ≤ 8192 → length buffer ≡ 8192 → 0 < size → 0 < length (take size buffer)
some_room buffer size small whole some =
    let room : length (take size buffer) ≡ size = length-take-le size buffer (omega arith) in
    omega arith

-- the place of a fault in such a piece, as the reader says it
pub at-Stops : (old new : Reading) (piece : List ℕ) (fault : FrameFault) (n : ℕ) → Waits old.rest n → length piece ≤ n → Stops old new piece fault → (departs : Departure) × (fault ≡ fault_at departs (old.fed + length piece))
at-Stops old new piece fault n waits few stops =
    let last = Stops-Waits old new piece fault n waits few stops in
    (stops.departs, last.1 ∙ ap (fault_at stops.departs) stops.fed)

-- and so in either fault
pub at-BadHeader : (departs : Departure) (at place : ℕ) → BadHeader at ≡ fault_at departs place → at ≡ place
at-BadHeader departure.BadHeader at place e = cc
at-BadHeader departure.TooLong at place e = cc

pub at-TooLong : (departs : Departure) (at place : ℕ) → TooLong at ≡ fault_at departs place → at ≡ place
at-TooLong departure.BadHeader at place e = cc
at-TooLong departure.TooLong at place e = cc

-- nothing of a frame was taken yet
pub reading_begins : (most : ℕ) (left : Option (List ℕ)) (waits : Option (List Bool)) (faults : ℕ) (reader : Reading) → IsBetweenFrames reader → reader.fed ≤ most → IsReading most left left waits waits faults faults reader reader
reading_begins most left waits faults reader between room =
    let none : length reader.rest ≡ 0 = ap length between.rest in
    record {
      ready = between.ready;
      sound = between.sound;
      partial = subst IsPartial (sym between.rest) IsPartial-nil;
      read = subst (λ z. Gives left z left) (sym between.rest) (Gives-nil left);
      fed = omega (arith, none);
      within = room;
      waits = refl;
      later = omega arith;
    }

-- a body that waits behind a piece is that of the frame that the piece completed
pub body_found : (most : ℕ) (l0 l1 l2 : Option (List ℕ)) (w0 w1 : Option (List Bool)) (f0 f1 : ℕ) (old mid next final : Reading) (piece body : List ℕ)
    → IsReading most l0 l1 w0 w1 f0 f1 old mid → Gives l1 piece l2 → Brings most mid next piece → next ≡ record final { ready = body ∷ final.ready }
    → Taking l0 l2 (λ taken. IsFrame taken body × IsBetweenFrames final × (final.fed ≡ old.fed + length taken) × (final.fed ≤ most))
body_found most l0 l1 l2 w0 w1 f0 f1 old mid next final piece body reading given brings is =
    let ready : next.ready ≡ body ∷ final.ready = ap (λ (r : Reading). r.ready) is in
    let rest : next.rest ≡ final.rest = ap (λ (r : Reading). r.rest) is in
    let fed : next.fed ≡ final.fed = ap (λ (r : Reading). r.fed) is in
    let fault : next.fault ≡ final.fault = ap (λ (r : Reading). r.fault) is in
    let sizes = length-append mid.rest piece in
    elim brings.reaches [
      | inl within ↦ let none : next.ready ≡ [] = within.ready ∙ reading.ready in let both : body ∷ final.ready ≡ [] = sym ready ∙ none in cc
      | inr completes ↦
          let one : body ∷ final.ready ≡ completes.body ∷ [] = sym ready ∙ completes.ready ∙ ap (λ z. z ++ completes.body ∷ []) reading.ready in
          let same : completes.body ≡ body = cc in (
            mid.rest ++ piece,
            Gives-append l0 l1 l2 mid.rest piece reading.read given,
            (
              subst (IsFrame (mid.rest ++ piece)) same completes.frame,
              record { ready = cc; rest = sym rest ∙ completes.rest; sound = sym fault ∙ brings.sound },
              omega (arith, fed, brings.fed, reading.fed, sizes),
              omega (arith, fed, brings.within),
            ),
          )
    ]

-- where no body waits behind a piece, the frame has grown
pub frame_grown : (most : ℕ) (l0 l1 : Option (List ℕ)) (w0 w1 : Option (List Bool)) (f0 f1 : ℕ) (old mid next : Reading) (piece : List ℕ)
    → IsReading most l0 l1 w0 w1 f0 f1 old mid → Brings most mid next piece → next.ready ≡ [] → (next.rest ≡ mid.rest ++ piece) × IsPartial next.rest
frame_grown most l0 l1 w0 w1 f0 f1 old mid next piece reading brings none = elim brings.reaches [
  | inl within ↦ (within.rest, within.partial)
  | inr completes ↦ let one : [] ≡ completes.body ∷ [] = sym none ∙ completes.ready ∙ ap (λ z. z ++ completes.body ∷ []) reading.ready in cc
]

-- so less of it may be missing
pub frame_longer : (most : ℕ) (l0 l1 : Option (List ℕ)) (w0 w1 : Option (List Bool)) (f0 f1 : ℕ) (old mid next : Reading) (piece : List ℕ)
    → IsReading most l0 l1 w0 w1 f0 f1 old mid → Brings most mid next piece → next.ready ≡ [] → 16781312 - length next.rest < 16781312 - length mid.rest
frame_longer most l0 l1 w0 w1 f0 f1 old mid next piece reading brings none =
    let grown = frame_grown most l0 l1 w0 w1 f0 f1 old mid next piece reading brings none in
    let sizes : length next.rest ≡ length mid.rest + length piece = ap length grown.0 ∙ length-append mid.rest piece in
    let short : length mid.rest < 16781312 = length-IsPartial mid.rest reading.partial in
    let some = brings.some in
    omega arith

-- a frame that has grown is being read still
pub reading_goes_on : (most : ℕ) (l0 l1 l2 : Option (List ℕ)) (w0 w1 w2 : Option (List Bool)) (f0 f1 f2 : ℕ) (old mid next : Reading) (piece : List ℕ)
    → IsReading most l0 l1 w0 w1 f0 f1 old mid → Gives l1 piece l2 → Brings most mid next piece → next.ready ≡ [] → w2 ≡ w1 → f1 ≤ f2 → IsReading most l0 l2 w0 w2 f0 f2 old next
reading_goes_on most l0 l1 l2 w0 w1 w2 f0 f1 f2 old mid next piece reading given brings none waits later =
    let grown = frame_grown most l0 l1 w0 w1 f0 f1 old mid next piece reading brings none in
    let sizes : length next.rest ≡ length mid.rest + length piece = ap length grown.0 ∙ length-append mid.rest piece in
    record {
      ready = none;
      sound = brings.sound;
      partial = grown.1;
      read = subst (λ z. Gives l0 z l2) (sym grown.0) (Gives-append l0 l1 l2 mid.rest piece reading.read given);
      fed = omega (arith, brings.fed, reading.fed);
      within = brings.within;
      waits = waits ∙ reading.waits;
      later = omega (arith, reading.later);
    }
