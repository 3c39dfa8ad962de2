-- What the steps of a reader say of the whole stream, for callers.
use Rattle.std.proofs.Common.{◌≡◌, ℕ, ◌+◌, ◌-◌, ◌<◌, ◌≤◌, ◌⊎◌, inl, inr, List, [], ◌∷◌, ◌++◌, length, take, None, refl, sym, ◌∙◌, ap, subst, arith, append_assoc, length-append}
use Rattle.std.proofs.lemmas.Bool.{cases_lt}
use Rattle.std.proofs.lemmas.List.{append-nil, take-append-le, take_all, length-take-le, nil_from_length}
use Rattle.rpc_framing.specs.Faults.{Breaks, fault_at}
use Rattle.rpc_framing.specs.Frames.{IsFrame, IsFrames, IsPartial, Splits, IsBadStart}
use Rattle.rpc_framing.specs.Reading.{Reading, GoesOn, Stops, Waits}
use Rattle.rpc_framing.specs.declared.fault.FrameFault.{FrameFault}
use Rattle.rpc_framing.specs.declared.place.Departure.{Departure}
use Rattle.rpc_framing.proofs.Lists.{nil_front, take-past}
use Rattle.rpc_framing.proofs.FrameLaws.{IsPartial-nil, IsPartial-no_frame, IsPartial-take, BeginsFrames-IsPartial, length-IsFrame}
use Rattle.rpc_framing.proofs.Splitting.{Splits-append, Breaks-Splits}

-- A stream of which nothing has come.
pub Splits-nil : Splits [] [] []
Splits-nil = record { front = []; frames = refl; partial = IsPartial-nil; is = refl }

-- A reader has taken in a stream: these are the bodies so far, those that wait and those that were handed out.
pub record HasRead (reading : Reading) (stream : List ℕ) (handed : List (List ℕ)) : Type 0 where
  pub splits : Splits stream (handed ++ reading.ready) reading.rest
  pub fed : reading.fed ≡ length stream
  pub sound : reading.fault ≡ None

-- nothing was fed
pub HasRead-new : HasRead (record { ready = []; rest = []; fed = 0; fault = None }) [] []
HasRead-new = record { splits = Splits-nil; fed = refl; sound = refl }

-- a piece was read
pub HasRead-GoesOn : (old new : Reading) (stream piece : List ℕ) (handed : List (List ℕ)) → HasRead old stream handed → GoesOn old new piece → HasRead new (stream ++ piece) handed
HasRead-GoesOn old new stream piece handed h goes =
    let P : List (List ℕ) → Type 0 = λ t. Splits (stream ++ piece) t new.rest in
    let same : handed ++ old.ready ++ goes.fresh ≡ handed ++ new.ready = append_assoc handed old.ready goes.fresh ∙ ap (λ t. handed ++ t) (sym goes.ready) in
    record {
      splits = subst P same (Splits-append stream (handed ++ old.ready) old.rest piece goes.fresh new.rest h.splits goes.splits);
      fed = goes.fed ∙ ap (λ n. n + length piece) h.fed ∙ sym (length-append stream piece);
      sound = goes.still_sound;
    }

-- a body was handed out
pub HasRead-next : (old new : Reading) (stream body : List ℕ) (handed : List (List ℕ)) → HasRead old stream handed → old ≡ record new { ready = body ∷ new.ready } → HasRead new stream (handed ++ body ∷ [])
HasRead-next old new stream body handed h e =
    let Q : Reading → Type 0 = λ r. HasRead r stream handed in
    let before = subst Q e h in
    let P : List (List ℕ) → Type 0 = λ t. Splits stream t new.rest in
    record { splits = subst P (sym (append_assoc handed (body ∷ []) new.ready)) before.splits; fed = before.fed; sound = before.sound }

-- A piece brought the first fault of the whole stream, at its place.
pub Breaks-Stops : (old new : Reading) (stream piece : List ℕ) (handed : List (List ℕ)) (fault : FrameFault) → HasRead old stream handed → (stops : Stops old new piece fault) → Breaks (stream ++ piece) (handed ++ new.ready) stops.departs stops.place
Breaks-Stops old new stream piece handed fault h stops =
    let P : List (List ℕ) → Type 0 = λ t. Breaks (stream ++ piece) t stops.departs stops.place in
    let same : handed ++ old.ready ++ stops.fresh ≡ handed ++ new.ready = append_assoc handed old.ready stops.fresh ∙ ap (λ t. handed ++ t) (sym stops.ready) in
    let counted = stops.counted in
    let fed = h.fed in
    subst P same (Breaks-Splits stream (handed ++ old.ready) old.rest piece stops.fresh stops.departs stops.at stops.place h.splits stops.breaks (omega arith))

-- What waits for n bytes more is less than a whole frame.
pub IsPartial-Waits : (rest : List ℕ) (n : ℕ) → Waits rest n → IsPartial rest
IsPartial-Waits rest n w =
    let P : List ℕ → Type 0 = λ t. IsPartial t in
    subst P (append-nil rest) (w.fewer [] w.some)

-- All but the last byte of what is fed then is less than a whole frame.
all_but_last : (rest piece : List ℕ) (n k : ℕ) → Waits rest n → length piece ≤ n → k < length (rest ++ piece) → IsPartial (take k (rest ++ piece))
all_but_last rest piece n k w short less =
    let P : List ℕ → Type 0 = λ t. IsPartial t in
    elim (cases_lt k (length rest)) [
      | inl within ↦ subst P (sym (take-append-le k rest piece (omega arith))) (IsPartial-take k rest (IsPartial-Waits rest n w))
      | inr past ↦
          let fits : k - length rest < length piece = omega (arith, length-append rest piece) in
          let fewer : length (take (k - length rest) piece) < n = omega (arith, length-take-le (k - length rest) piece (omega arith)) in
          subst P (sym (take-past rest piece k past)) (w.fewer (take (k - length rest) piece) fewer)
    ]

-- So a whole frame there has all of it.
whole_is_all : (rest piece f b z : List ℕ) (n : ℕ) → Waits rest n → length piece ≤ n → IsFrame f b → rest ++ piece ≡ f ++ z → z ≡ []
whole_is_all rest piece f b z n w short h e =
    elim (cases_lt (length f) (length (rest ++ piece))) [
      | inl less ↦
          let front : take (length f) (rest ++ piece) ≡ f ++ [] = ap (take (length f)) e ∙ take-append-le (length f) f z (omega arith) ∙ take_all (length f) f (omega arith) ∙ sym (append-nil f) in
          absurd (IsPartial-no_frame (take (length f) (rest ++ piece)) f b [] (all_but_last rest piece n (length f) w short less) h front)
      | inr all ↦ nil_from_length z (omega (arith, ap length e, length-append f z))
    ]

-- no bytes are the frames of no bodies
IsFrames-nil : (bodies : List (List ℕ)) (front : List ℕ) → IsFrames front bodies → front ≡ [] → bodies ≡ []
IsFrames-nil [] front frames none = refl
IsFrames-nil (body ∷ bodies) front frames none =
    absurd (let some = (length-IsFrame frames.0 body frames.2).0 in omega (arith, ap length frames.4, ap length none, length-append frames.0 frames.1))

-- A piece of at most the bytes that are wanted completes one body at most, and nothing of the next frame.
pub Splits-Waits : (rest piece : List ℕ) (n : ℕ) (fresh : List (List ℕ)) (left : List ℕ) → Waits rest n → length piece ≤ n → Splits (rest ++ piece) fresh left → ((fresh ≡ []) × (left ≡ rest ++ piece)) ⊎ ((body : List ℕ) × (fresh ≡ body ∷ []) × (left ≡ []) × IsFrame (rest ++ piece) body × (length piece ≡ n))
Splits-Waits rest piece n fresh left w short h = go fresh h.front h.frames h.is
  where
    enough : (body : List ℕ) → IsFrame (rest ++ piece) body → length piece ≡ n
    enough body frame =
        elim (cases_lt (length piece) n) [
          | inl less ↦ absurd (IsPartial-no_frame (rest ++ piece) (rest ++ piece) body [] (w.fewer piece less) frame (sym (append-nil (rest ++ piece))))
          | inr all ↦ omega arith
        ]

    go : (fresh : List (List ℕ)) (front : List ℕ) → IsFrames front fresh → rest ++ piece ≡ front ++ left → ((fresh ≡ []) × (left ≡ rest ++ piece)) ⊎ ((body : List ℕ) × (fresh ≡ body ∷ []) × (left ≡ []) × IsFrame (rest ++ piece) body × (length piece ≡ n))
    go [] front frames e = inl (refl, sym (e ∙ ap (λ t. t ++ left) frames))
    go (body ∷ bodies) front frames e =
        let none : frames.1 ++ left ≡ [] = whole_is_all rest piece frames.0 body (frames.1 ++ left) n w short frames.2 (e ∙ ap (λ t. t ++ left) frames.4 ∙ append_assoc frames.0 frames.1 left) in
        let nothing = nil_front frames.1 left none in
        let all : rest ++ piece ≡ frames.0 = e ∙ ap (λ t. t ++ left) (frames.4 ∙ ap (λ t. frames.0 ++ t) nothing.0 ∙ append-nil frames.0) ∙ ap (λ t. frames.0 ++ t) nothing.1 ∙ append-nil frames.0 in
        let P : List ℕ → Type 0 = λ t. IsFrame t body in
        let frame : IsFrame (rest ++ piece) body = subst P (sym all) frames.2 in
        inr (body, ap (λ t. body ∷ t) (IsFrames-nil bodies frames.1 frames.3 nothing.0), nothing.1, frame, enough body frame)

-- A fault in such a piece is its last byte, and no body comes with it.
pub Breaks-Waits : (rest piece : List ℕ) (n : ℕ) (fresh : List (List ℕ)) (departs : Departure) (at : ℕ) → Waits rest n → length piece ≤ n → Breaks (rest ++ piece) fresh departs at → (fresh ≡ []) × (at ≡ length rest + length piece)
Breaks-Waits rest piece n fresh departs at w short h = go fresh h.front h.frames h.is h.place
  where
    last : IsBadStart (rest ++ piece) h.within → h.within ≡ length rest + length piece
    last bad =
        let within = bad.within in
        elim (cases_lt h.within (length (rest ++ piece))) [
          | inl less ↦ absurd (bad.bad (BeginsFrames-IsPartial (take h.within (rest ++ piece)) (all_but_last rest piece n h.within w short less)))
          | inr all ↦ omega (arith, length-append rest piece)
        ]

    go : (fresh : List (List ℕ)) (front : List ℕ) → IsFrames front fresh → rest ++ piece ≡ front ++ h.tail → at ≡ length front + h.within → (fresh ≡ []) × (at ≡ length rest + length piece)
    go [] front frames e place =
        let all : rest ++ piece ≡ h.tail = e ∙ ap (λ t. t ++ h.tail) frames in
        let P : List ℕ → Type 0 = λ t. IsBadStart t h.within in
        let is : h.within ≡ length rest + length piece = last (subst P (sym all) h.bad) in
        (refl, omega (arith, ap length frames))
    go (body ∷ bodies) front frames e place =
        let none : frames.1 ++ h.tail ≡ [] = whole_is_all rest piece frames.0 body (frames.1 ++ h.tail) n w short frames.2 (e ∙ ap (λ t. t ++ h.tail) frames.4 ∙ append_assoc frames.0 frames.1 h.tail) in
        let some = h.bad.some in
        let within = h.bad.within in
        absurd (omega (arith, ap length (nil_front frames.1 h.tail none).1))

-- The same of a reader.
pub GoesOn-Waits : (old new : Reading) (piece : List ℕ) (n : ℕ) → Waits old.rest n → length piece ≤ n → GoesOn old new piece → ((new.ready ≡ old.ready) × (new.rest ≡ old.rest ++ piece)) ⊎ ((body : List ℕ) × (new.ready ≡ old.ready ++ body ∷ []) × (new.rest ≡ []) × IsFrame (old.rest ++ piece) body × (length piece ≡ n))
GoesOn-Waits old new piece n w short goes =
    elim (Splits-Waits old.rest piece n goes.fresh new.rest w short goes.splits) [
      | inl none ↦ inl (goes.ready ∙ ap (λ t. old.ready ++ t) none.0 ∙ append-nil old.ready, none.1)
      | inr one ↦ inr (one.0, goes.ready ∙ ap (λ t. old.ready ++ t) one.1, one.2, one.3, one.4)
    ]

-- A fault in such a piece is its last byte, as the reader shows it.
pub Stops-Waits : (old new : Reading) (piece : List ℕ) (fault : FrameFault) (n : ℕ) → Waits old.rest n → length piece ≤ n → (stops : Stops old new piece fault) → (new.ready ≡ old.ready) × (fault ≡ fault_at stops.departs new.fed)
Stops-Waits old new piece fault n w short stops =
    let one = Breaks-Waits old.rest piece n stops.fresh stops.departs stops.at w short stops.breaks in
    let counted = stops.counted in
    let at = one.1 in
    let fed = stops.fed in
    let place : stops.place ≡ new.fed = omega arith in
    (stops.ready ∙ ap (λ t. old.ready ++ t) one.0 ∙ append-nil old.ready, stops.says ∙ ap (fault_at stops.departs) place)
