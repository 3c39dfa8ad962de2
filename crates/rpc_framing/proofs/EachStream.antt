-- Every stream is read, byte by byte.
use Rattle.std.proofs.Common.{◌≡◌, ℕ, zero, suc, ◌+◌, ◌<◌, ◌⊎◌, inl, inr, List, [], ◌∷◌, ◌++◌, length, Option, Some, None, refl, sym, ◌∙◌, ap, subst, arith, append_assoc, length-append}
use Rattle.std.proofs.lemmas.Bool.{cases_lt}
use Rattle.std.proofs.lemmas.List.{append-nil}
use Rattle.std.specs.Prelude.{MatchOption, option_and_then}
use Rattle.rpc_framing.specs.Faults.{Breaks}
use Rattle.rpc_framing.specs.Frames.{IsHead, IsFrame, IsFrames, Splits}
use Rattle.rpc_framing.specs.Places.{departure_at}
use Rattle.rpc_framing.specs.Stages.{start, stage_after, stage_from, whole_length}
use Rattle.rpc_framing.specs.Steps.{Dies, Stands}
use Rattle.rpc_framing.specs.declared.header.Stage.{Stage}
use Rattle.rpc_framing.specs.declared.place.Departure.{Departure}
use Rattle.rpc_framing.proofs.Heads.{stage_from-then, IsHead-stage_from}
use Rattle.rpc_framing.proofs.FrameLaws.{IsFrames-one}
use Rattle.rpc_framing.proofs.Splitting.{IsFrames-append}
use Rattle.rpc_framing.proofs.Standing.{place_of, in_header, in_body, IsFault, IsFault-append, IsPartial-Stands, IsFault-Dies, Stands-header, IsShort-nil, Stands-nil}

-- One byte more stays within the frame, ends it, or is the first fault.
data ByteMore (bytes : List ℕ) (byte : ℕ) : Type 0 where
  stays : (stage : Stage) (header body : List ℕ) → Stands stage header body → bytes ++ byte ∷ [] ≡ header ++ body → ByteMore bytes byte
  ends : (body : List ℕ) → IsFrame (bytes ++ byte ∷ []) body → ByteMore bytes byte
  fails : (departs : Departure) → IsFault (bytes ++ byte ∷ []) departs (length bytes + 1) → ByteMore bytes byte

-- A header with one byte more, by the length that it then says.
head_more : (next : Stage) (header : List ℕ) (byte : ℕ) (o : Option ℕ) → stage_from start (header ++ byte ∷ []) ≡ Some next → whole_length next ≡ o → ByteMore header byte
head_more next header byte None goes e =
    stays next (header ++ byte ∷ []) [] (Stands-header next (header ++ byte ∷ []) goes (IsShort-nil next None e tt)) (sym (append-nil (header ++ byte ∷ [])))
head_more next header byte (Some zero) goes e =
    ends [] (record { head = header ++ byte ∷ []; says = IsHead-stage_from (header ++ byte ∷ []) next 0 goes e; is = sym (append-nil (header ++ byte ∷ [])) })
head_more next header byte (Some (suc n)) goes e =
    stays next (header ++ byte ∷ []) [] (Stands-header next (header ++ byte ∷ []) goes (IsShort-nil next (Some (suc n)) e (omega arith))) (sym (append-nil (header ++ byte ∷ [])))

-- A byte in a header.
after_byte : (stage : Stage) (header : List ℕ) (byte : ℕ) (o : Option Stage) → Stands stage header [] → whole_length stage ≡ None → stage_after stage byte ≡ o → ByteMore header byte
after_byte stage header byte None h short e =
    let departs : Departure = departure_at stage.place byte in
    let dies : Dies stage (byte ∷ []) 1 departs = record {
      last = stage;
      some = omega arith;
      within = omega arith;
      alive = refl;
      unfinished = short;
      dead = ap (option_and_then (λ next. stage_from next [])) e;
      wrong = refl;
    } in
    let P : List ℕ → Type 0 = λ t. IsFault (t ++ byte ∷ []) departs (length t + 1) in
    fails departs (subst P (append-nil header) (IsFault-Dies stage header [] (byte ∷ []) 1 departs h dies))
after_byte stage header byte (Some next) h short e =
    head_more next header byte (whole_length next)
    (stage_from-then start stage header (byte ∷ []) h.goes.by ∙ ap (option_and_then (λ next. stage_from next [])) e) refl

-- A byte in a frame that is not yet whole.
byte_more : (stage : Stage) (header body : List ℕ) (byte : ℕ) → Stands stage header body → ByteMore (header ++ body) byte
byte_more stage header body byte h =
    elim (place_of stage header body h) [
      | in_header short none ↦
          let P : List ℕ → Type 0 = λ t. ByteMore t byte in
          let Q : List ℕ → Type 0 = λ t. Stands stage header t in
          subst P (sym (ap (λ t. header ++ t) none ∙ append-nil header)) (after_byte stage header byte (stage_after stage byte) (subst Q none h) short refl)
      | in_body says is head less ↦
          elim (cases_lt (length body + 1) says) [
            | inl within ↦
                let P : Option ℕ → Type 0 = λ o. MatchOption o (length (body ++ byte ∷ []) ≡ 0) (λ says. length (body ++ byte ∷ []) < says) in
                stays stage header (body ++ byte ∷ []) (record { goes = h.goes; short = subst P (sym is) (omega (arith, length-append body (byte ∷ []))) }) (append_assoc header body (byte ∷ []))
            | inr whole ↦
                let all : says ≡ length (body ++ byte ∷ []) = omega (arith, length-append body (byte ∷ [])) in
                let P : ℕ → Type 0 = λ n. IsHead header n in
                ends (body ++ byte ∷ []) (record { head = header; says = subst P all head; is = append_assoc header body (byte ∷ []) })
          ]
    ]

abbrev IsRead : List ℕ → Type 0
IsRead stream = ((bodies : List (List ℕ)) × (rest : List ℕ) × Splits stream bodies rest) ⊎ ((bodies : List (List ℕ)) × (departs : Departure) × (at : ℕ) × Breaks stream bodies departs at)

-- The rest of a stream, behind frames and what has come of the next.
reads : (left front : List ℕ) (bodies : List (List ℕ)) (stage : Stage) (header body : List ℕ) → IsFrames front bodies → Stands stage header body → IsRead (front ++ ((header ++ body) ++ left))
reads [] front bodies stage header body h s =
    inl (bodies, header ++ body, record { front = front; frames = h; partial = IsPartial-Stands stage header body s; is = ap (λ t. front ++ t) (append-nil (header ++ body)) })
reads (byte ∷ left) front bodies stage header body h s =
    let P : List ℕ → Type 0 = λ t. IsRead t in
    let bytes : List ℕ = header ++ body in
    let one : bytes ++ byte ∷ left ≡ (bytes ++ byte ∷ []) ++ left = sym (append_assoc bytes (byte ∷ []) left) in
    elim (byte_more stage header body byte s) [
      | stays next head more now is ↦
          subst P (ap (λ t. front ++ t) (ap (λ t. t ++ left) (sym is) ∙ sym one)) (reads left front bodies next head more h now)
      | ends whole frame ↦
          subst P (append_assoc front (bytes ++ byte ∷ []) left ∙ ap (λ t. front ++ t) (sym one))
          (reads left (front ++ (bytes ++ byte ∷ [])) (bodies ++ whole ∷ []) start [] []
          (IsFrames-append bodies (whole ∷ []) front (bytes ++ byte ∷ []) h (IsFrames-one (bytes ++ byte ∷ []) whole frame)) Stands-nil)
      | fails departs fault ↦
          inr (
            bodies,
            departs,
            length front + (length bytes + 1),
            record {
              front = front;
              tail = (bytes ++ byte ∷ []) ++ left;
              within = length bytes + 1;
              frames = h;
              bad = (IsFault-append (bytes ++ byte ∷ []) left departs (length bytes + 1) fault).bad;
              wrong = (IsFault-append (bytes ++ byte ∷ []) left departs (length bytes + 1) fault).wrong;
              is = ap (λ t. front ++ t) one;
              place = refl;
            },
          )
    ]

-- Every stream is frames and less than a whole one, or frames and a first fault.
pub each_stream : (stream : List ℕ) → ((bodies : List (List ℕ)) × (rest : List ℕ) × Splits stream bodies rest) ⊎ ((bodies : List (List ℕ)) × (departs : Departure) × (at : ℕ) × Breaks stream bodies departs at)
each_stream stream = reads stream [] [] start [] [] refl Stands-nil
