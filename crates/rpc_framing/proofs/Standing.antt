-- A frame that is not yet whole, by the stage of its header: what it is, and what more bytes make of it.
use Rattle.std.proofs.Common.{◌≡◌, ℕ, ◌+◌, ◌-◌, ◌<◌, ◌≤◌, inl, inr, List, [], ◌∷◌, ◌++◌, length, take, drop, get_or, Option, Some, None, refl, sym, ◌∙◌, ap, subst, arith, append_assoc, length-append}
use Rattle.std.proofs.lemmas.List.{append-nil, take_more, take-append-drop, take-append-le, take-take, length-take-le, length-drop, nil_from_length}
use Rattle.std.specs.Prelude.{MatchOption, option_map, unwrap_or}
use Rattle.rpc_framing.specs.Faults.{Departs}
use Rattle.rpc_framing.specs.Frames.{IsHead, IsFrame, BeginsFrames, IsPartial, Splits, IsBadStart}
use Rattle.rpc_framing.specs.Reading.{Misses, IsWanted, Waits}
use Rattle.rpc_framing.specs.Stages.{start, stage_from, whole_length}
use Rattle.rpc_framing.specs.Steps.{Goes, Dies, IsShort, Stands}
use Rattle.rpc_framing.specs.declared.header.Stage.{Stage}
use Rattle.rpc_framing.specs.declared.place.Departure.{Departure}
use Rattle.rpc_framing.proofs.Lists.{take-past}
use Rattle.rpc_framing.proofs.Heads.{stage_from-then, stage_from-whole, stage_from-IsHead, IsHead-stage_from, HeadGoesOn-stage_from, Departs-stage}
use Rattle.rpc_framing.proofs.FrameLaws.{IsPartial-IsHead, IsPartial-HeadGoesOn, dead_begins_nothing}
use Rattle.rpc_framing.proofs.Splitting.{IsBadStart-append}

-- A frame that is not yet whole stands in its header, or in its body.
pub data Whereabouts (stage : Stage) (header body : List ℕ) : Type 0 where
  in_header : whole_length stage ≡ None → body ≡ [] → Whereabouts stage header body
  in_body : (says : ℕ) → whole_length stage ≡ Some says → IsHead header says → length body < says → Whereabouts stage header body

pub place_of : (stage : Stage) (header body : List ℕ) → Stands stage header body → Whereabouts stage header body
place_of stage header body h = go (whole_length stage) refl h.short
  where
    go : (o : Option ℕ) → whole_length stage ≡ o → MatchOption o (length body ≡ 0) (λ says. length body < says) → Whereabouts stage header body
    go None e short = in_header e (nil_from_length body short)
    go (Some n) e short = let goes = h.goes in in_body n e (IsHead-stage_from header stage n goes.by e) short

-- where a frame begins no other, and what is wrong there
pub record IsFault (bytes : List ℕ) (departs : Departure) (at : ℕ) : Type 0 where
  pub bad : IsBadStart bytes at
  pub wrong : Departs departs (take at bytes)

-- it stays, whatever follows
pub IsFault-append : (x y : List ℕ) (departs : Departure) (at : ℕ) → IsFault x departs at → IsFault (x ++ y) departs at
IsFault-append x y departs at h =
    let bad = h.bad in
    let P : List ℕ → Type 0 = λ t. Departs departs t in
    record { bad = IsBadStart-append x y at h.bad; wrong = subst P (sym (take-append-le at x y bad.within)) h.wrong }

-- It is less than a whole frame.
pub IsPartial-Stands : (stage : Stage) (header body : List ℕ) → Stands stage header body → IsPartial (header ++ body)
IsPartial-Stands stage header body h =
    elim (place_of stage header body h) [
      | in_header short none ↦
          let P : List ℕ → Type 0 = λ t. IsPartial t in
          subst P (sym (ap (λ t. header ++ t) none ∙ append-nil header)) (IsPartial-HeadGoesOn header (HeadGoesOn-stage_from stage header h.goes.by short))
      | in_body says is head less ↦ IsPartial-IsHead header body says head less
    ]

-- The bytes of a piece go to the header first, and then to the body.
pub parts_of : (stage next : Stage) (header body piece : List ℕ) (size : ℕ) → Stands stage header body → Goes stage (take size piece) next → (header ++ take size piece) ++ (body ++ drop size piece) ≡ (header ++ body) ++ piece
parts_of stage next header body piece size h goes =
    elim (place_of stage header body h) [
      | in_header short none ↦
          ap (λ t. (header ++ take size piece) ++ (t ++ drop size piece)) none
          ∙ append_assoc header (take size piece) (drop size piece)
          ∙ ap (λ t. header ++ t) (take-append-drop size piece)
          ∙ ap (λ t. t ++ piece) (sym (ap (λ t. header ++ t) none ∙ append-nil header))
      | in_body says is head less ↦
          let nothing : take size piece ≡ [] = (stage_from-whole stage next says (take size piece) is goes.by).0 in
          let all : drop size piece ≡ piece = ap (λ t. t ++ drop size piece) (sym nothing) ∙ take-append-drop size piece in
          ap (λ t. (header ++ t) ++ (body ++ drop size piece)) nothing
          ∙ ap (λ t. t ++ (body ++ drop size piece)) (append-nil header)
          ∙ ap (λ t. header ++ (body ++ t)) all
          ∙ sym (append_assoc header body piece)
    ]

-- A piece that ends within the frame.
pub Stands-within : (stage next : Stage) (header body piece : List ℕ) (size : ℕ) → Stands stage header body → Goes stage (take size piece) next → IsShort next (length body + (length piece - size)) → Stands next (header ++ take size piece) (body ++ drop size piece)
Stands-within stage next header body piece size h goes short =
    let held : length body + (length piece - size) ≡ length (body ++ drop size piece) = omega (arith, length-append body (drop size piece), length-drop size piece) in
    let P : ℕ → Type 0 = λ n. IsShort next n in
    record {
      goes = record { by = stage_from-then start stage header (take size piece) h.goes.by ∙ goes.by };
      short = subst P held short;
    }

-- What is less than a whole frame is a stream of none.
pub Splits-partial : (stream rest : List ℕ) → IsPartial rest → stream ≡ rest → Splits stream [] rest
Splits-partial stream rest p e = record { front = []; frames = refl; partial = p; is = e }

-- A piece that ends the frame.
pub IsFrame-whole : (stage last : Stage) (header body piece : List ℕ) (size end : ℕ) → Stands stage header body → size ≤ end → end ≤ length piece → Goes stage (take size piece) last → whole_length last ≡ Some (length body + (end - size)) → IsFrame ((header ++ body) ++ take end piece) (body ++ drop size (take end piece))
IsFrame-whole stage last header body piece size end h order within goes says =
    let same : take size (take end piece) ≡ take size piece = take-take size end piece order in
    let P : List ℕ → Type 0 = λ t. Goes stage t last in
    let by : Goes stage (take size (take end piece)) last = subst P (sym same) goes in
    let head : IsHead (header ++ take size (take end piece)) (length body + (end - size)) =
    IsHead-stage_from (header ++ take size (take end piece)) last (length body + (end - size))
    (stage_from-then start stage header (take size (take end piece)) h.goes.by ∙ by.by) says in
    let held : length body + (end - size) ≡ length (body ++ drop size (take end piece)) =
    omega (arith, length-append body (drop size (take end piece)), length-drop size (take end piece), length-take-le end piece within) in
    let Q : ℕ → Type 0 = λ n. IsHead (header ++ take size (take end piece)) n in
    record { head = header ++ take size (take end piece); says = subst Q held head; is = sym (parts_of stage last header body (take end piece) size h by) }

-- A piece with a byte that no frame goes on with.
pub IsFault-Dies : (stage : Stage) (header body piece : List ℕ) (count : ℕ) (departs : Departure) → Stands stage header body → Dies stage piece count departs → IsFault ((header ++ body) ++ piece) departs (length (header ++ body) + count)
IsFault-Dies stage header body piece count departs h dies =
    elim (place_of stage header body h) [
      | in_header short none ↦
          let P : List ℕ → Type 0 = λ t. IsFault (t ++ piece) departs (length t + count) in
          let goes = h.goes in
          subst P (sym (ap (λ t. header ++ t) none ∙ append-nil header)) (in_a_header stage header piece count goes.by dies)
      | in_body says is head less ↦
          let end : dies.last ≡ stage = (stage_from-whole stage dies.last says (take (count - 1) piece) is dies.alive).1 in
          let none : Some says ≡ None = sym is ∙ ap whole_length (sym end) ∙ dies.unfinished in
          absurd cc
    ]
  where
    in_a_header : (stage : Stage) (header piece : List ℕ) (count : ℕ) → stage_from start header ≡ Some stage → Dies stage piece count departs → IsFault (header ++ piece) departs (length header + count)
    in_a_header stage header piece count goes d =
        let some = d.some in
        let within = d.within in
        let byte : ℕ = get_or piece (count - 1) 0 in
        let front : List ℕ = header ++ take (count - 1) piece in
        let alive : stage_from start front ≡ Some d.last = stage_from-then start stage header (take (count - 1) piece) goes ∙ d.alive in
        let counts : count - 1 + 1 ≡ count = omega arith in
        let more : take count piece ≡ take (count - 1) piece ++ byte ∷ [] = ap (λ k. take k piece) (sym counts) ∙ take_more piece (count - 1) 0 (omega arith) in
        let whole : header ++ take count piece ≡ front ++ byte ∷ [] = ap (λ t. header ++ t) more ∙ sym (append_assoc header (take (count - 1) piece) (byte ∷ [])) in
        let dead : stage_from start (front ++ byte ∷ []) ≡ None =
        ap (stage_from start) (sym whole) ∙ stage_from-then start stage header (take count piece) goes ∙ d.dead in
        let past : take (length header + count) (header ++ piece) ≡ front ++ byte ∷ [] =
        take-past header piece (length header + count) (omega arith) ∙ ap (λ k. header ++ take k piece) (let e : length header + count - length header ≡ count = omega arith in e) ∙ whole in
        let before : take (length header + count - 1) (header ++ piece) ≡ front =
        take-past header piece (length header + count - 1) (omega arith) ∙ ap (λ k. header ++ take k piece) (let e : length header + count - 1 - length header ≡ count - 1 = omega arith in e) in
        let P : List ℕ → Type 0 = λ t. BeginsFrames t in
        let Q : List ℕ → Type 0 = λ t. IsPartial t in
        let R : List ℕ → Type 0 = λ t. Departs departs t in
        let S : Departure → Type 0 = λ wrong. Departs wrong (front ++ byte ∷ []) in
        record {
          bad = record {
            some = omega arith;
            within = omega (arith, length-append header piece);
            bad = (λ b. dead_begins_nothing front byte d.last alive d.unfinished dead (subst P past b));
            partial = subst Q (sym before) (IsPartial-HeadGoesOn front (HeadGoesOn-stage_from d.last front alive d.unfinished));
          };
          wrong = subst R (sym past) (subst S (sym d.wrong) (Departs-stage d.last front byte alive));
        }

-- How many bytes are missing.
pub Waits-Stands : (stage : Stage) (header body : List ℕ) (n : ℕ) → Stands stage header body → MatchOption (whole_length stage) (n ≡ 1) (λ says. n ≡ says - length body) → IsWanted (header ++ body) n × Waits (header ++ body) n
Waits-Stands stage header body n h wanted =
    elim (place_of stage header body h) [
      | in_header short none ↦
          let one : n ≡ 1 = (let P : Option ℕ → Type 0 = λ o. MatchOption o (n ≡ 1) (λ says. n ≡ says - length body) in subst P short wanted) in
          let bytes : header ++ body ≡ header = ap (λ t. header ++ t) none ∙ append-nil header in (
            inr (one, (λ missing m. in_no_body stage header body h short bytes missing m)),
            record {
              some = omega arith;
              fewer = (λ more less. let nil : more ≡ [] = nil_from_length more (omega arith) in
                  let P : List ℕ → Type 0 = λ t. IsPartial t in
                  subst P (sym (ap (λ t. (header ++ body) ++ t) nil ∙ append-nil (header ++ body))) (IsPartial-Stands stage header body h));
            },
          )
      | in_body says is head less ↦
          let counted : n ≡ says - length body = (let P : Option ℕ → Type 0 = λ o. MatchOption o (n ≡ 1) (λ says. n ≡ says - length body) in subst P is wanted) in
          let all : says ≡ length body + n = omega arith in (
            inl (record { head = header; body = body; some = omega arith; says = (let P : ℕ → Type 0 = λ k. IsHead header k in subst P all head); is = refl }),
            record {
              some = omega arith;
              fewer = (λ more short. let P : List ℕ → Type 0 = λ t. IsPartial t in
                  subst P (sym (append_assoc header body more)) (IsPartial-IsHead header (body ++ more) says head (omega (arith, length-append body more))));
            },
          )
    ]
  where
    in_no_body : (stage : Stage) (header body : List ℕ) → Stands stage header body → whole_length stage ≡ None → header ++ body ≡ header → (missing : ℕ) → Misses (header ++ body) missing → ⊥
    in_no_body stage header body h short bytes missing m =
        let whole = stage_from-IsHead m.head (length m.body + missing) m.says in
        let goes = h.goes in
        let behind : stage_from whole.0 m.body ≡ Some stage =
        sym (stage_from-then start whole.0 m.head m.body whole.1) ∙ ap (stage_from start) (sym m.is ∙ bytes) ∙ goes.by in
        let is : stage ≡ whole.0 = (stage_from-whole whole.0 stage (length m.body + missing) m.body whole.2 behind).1 in
        let none : Some (length m.body + missing) ≡ None = sym whole.2 ∙ ap whole_length (sym is) ∙ short in
        cc

-- A header with nothing of a body.
pub Stands-header : (stage : Stage) (header : List ℕ) → stage_from start header ≡ Some stage → IsShort stage 0 → Stands stage header []
Stands-header stage header goes short = record { goes = record { by = goes }; short = short }

-- Nothing of a body is short where a length of 0 was not yet said.
pub IsShort-nil : (stage : Stage) (o : Option ℕ) → whole_length stage ≡ o → MatchOption o (Unit {0}) (λ says. 0 < says) → IsShort stage 0
IsShort-nil stage None e h = rw e refl
IsShort-nil stage (Some n) e h = rw e h

-- Nothing of a frame.
pub Stands-nil : Stands start [] []
Stands-nil = Stands-header start [] refl (IsShort-nil start None refl tt)

-- How many bytes are wanted.
pub Waits-wanted : (stage : Stage) (header body : List ℕ) (n : ℕ) → Stands stage header body → n ≡ unwrap_or (option_map (λ says. says - length body) (whole_length stage)) 1 → IsWanted (header ++ body) n × Waits (header ++ body) n
Waits-wanted stage header body n h e = Waits-Stands stage header body n h (matched (whole_length stage) e)
  where
    matched : (o : Option ℕ) → n ≡ unwrap_or (option_map (λ says. says - length body) o) 1 → MatchOption o (n ≡ 1) (λ says. n ≡ says - length body)
    matched None e = e
    matched (Some says) e = e
