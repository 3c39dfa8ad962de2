-- What a piece brings to a reader, in the words of the grammar: the facts behind each function that takes one.
use Rattle.std.proofs.Common.{◌≡◌, ℕ, ◌+◌, ◌-◌, ◌<◌, ◌≤◌, List, [], ◌∷◌, ◌++◌, length, take, drop, get_or, Option, Some, None, refl, sym, ◌∙◌, ap, subst, arith, append_assoc, length-append, length-drop}
use Rattle.std.proofs.lemmas.List.{append-nil, take_more, take-append-drop, take_all, length-take-le, drop-take, take_rest, map_push, map-append}
use Rattle.std.specs.declared.alloc.Global.{Global}
use Rattle.std.specs.Prelude.{Vec, MatchOption, IfSome, option_and_then, option_map}
use Rattle.rpc_framing.specs.Faults.{Breaks, fault_at}
use Rattle.rpc_framing.specs.Frames.{IsFrame, IsFrames, Splits}
use Rattle.rpc_framing.specs.Places.{departure_at}
use Rattle.rpc_framing.specs.Reading.{Reading, Stops, bodies_of}
use Rattle.rpc_framing.specs.Stages.{start, stage_after, stage_from, whole_length}
use Rattle.rpc_framing.specs.Steps.{Goes, Dies, IsShort, Stands, Brings, Spoils, Accepts}
use Rattle.rpc_framing.specs.declared.fault.FrameFault.{FrameFault}
use Rattle.rpc_framing.specs.declared.header.Stage.{Stage}
use Rattle.rpc_framing.specs.declared.place.Departure.{Departure}
use Rattle.rpc_framing.specs.declared.unfinished.Astray.{Astray}
use Rattle.rpc_framing.proofs.Heads.{stage_from-then, stage_from-whole}
use Rattle.rpc_framing.proofs.FrameLaws.{IsFrames-one}
use Rattle.rpc_framing.proofs.Splitting.{IsFrames-append, Splits-behind, Breaks-behind}
use Rattle.rpc_framing.proofs.Standing.{IsFault, IsPartial-Stands, parts_of, Stands-within, Splits-partial, IsFrame-whole, IsFault-Dies, Stands-nil}

-- A fault at the beginning of a stream.
pub Breaks-IsFault : (stream : List ℕ) (departs : Departure) (at : ℕ) → IsFault stream departs at → Breaks stream [] departs at
Breaks-IsFault stream departs at h = record { front = []; tail = stream; within = at; frames = refl; bad = h.bad; wrong = h.wrong; is = refl; place = omega arith }

-- A piece with a byte that no frame goes on with is the first fault.
pub Spoils-Dies : (stage : Stage) (header body piece : List ℕ) (count : ℕ) (departs : Departure) (ready : List (List ℕ)) → Stands stage header body → Dies stage piece count departs → Spoils (header ++ body) piece ready ready departs count
Spoils-Dies stage header body piece count departs ready h dies = record {
  fresh = [];
  breaks = Breaks-IsFault ((header ++ body) ++ piece) departs (length (header ++ body) + count) (IsFault-Dies stage header body piece count departs h dies);
  ready = sym (append-nil ready);
}

-- What has come of the body is no more than the header says.
held_of : (stage next : Stage) (held : ℕ) (bytes : List ℕ) → IsShort stage held → Goes stage bytes next → MatchOption (whole_length next) (held ≡ 0) (λ says. held ≤ says)
held_of stage next held bytes short goes = from_stage (whole_length stage) refl short
  where
    from_next : (o : Option ℕ) → held ≡ 0 → MatchOption o (held ≡ 0) (λ says. held ≤ says)
    from_next None none = none
    from_next (Some n) none = omega arith

    from_stage : (o : Option ℕ) → whole_length stage ≡ o → MatchOption o (held ≡ 0) (λ says. held < says) → MatchOption (whole_length next) (held ≡ 0) (λ says. held ≤ says)
    from_stage None e none = from_next (whole_length next) none
    from_stage (Some n) e less =
        let end : next ≡ stage = (stage_from-whole stage next n bytes e goes.by).1 in
        let said : whole_length next ≡ Some n = ap whole_length end ∙ e in
        rw said (omega arith)

-- So it is no more than a length that is said.
pub held_small : (stage last : Stage) (held says : ℕ) (bytes : List ℕ) → IsShort stage held → Goes stage bytes last → whole_length last ≡ Some says → held ≤ says
held_small stage last held says bytes short goes e =
    let P : Option ℕ → Type 0 = λ o. MatchOption o (held ≡ 0) (λ says. held ≤ says) in
    subst P e (held_of stage last held bytes short goes)

-- One byte more of a piece goes on with the header, or is the first that does not.
pub Goes-more : (start stage next : Stage) (piece : List ℕ) (i : ℕ) → i < length piece → Goes start (take i piece) stage → Some next ≡ stage_after stage (get_or piece i 0) → Goes start (take (i + 1) piece) next
Goes-more start stage next piece i within goes e = record {
  by = ap (stage_from start) (take_more piece i 0 within)
      ∙ stage_from-then start stage (take i piece) (get_or piece i 0 ∷ []) goes.by
      ∙ ap (option_and_then (λ next. stage_from next [])) (sym e);
}

-- The first byte with which no header goes on.
pub Dies-more : (start stage : Stage) (piece : List ℕ) (i : ℕ) (departs : Departure) → i < length piece → Goes start (take i piece) stage → None ≡ whole_length stage → None ≡ stage_after stage (get_or piece i 0) → departs ≡ departure_at stage.place (get_or piece i 0) → Dies start piece (i + 1) departs
Dies-more start stage piece i departs within goes short e wrong =
    let same : i ≡ i + 1 - 1 = omega arith in
    record {
      last = stage;
      some = omega arith;
      within = omega arith;
      alive = ap (λ k. stage_from start (take k piece)) (sym same) ∙ goes.by;
      unfinished = sym short;
      dead = ap (stage_from start) (take_more piece i 0 within)
          ∙ stage_from-then start stage (take i piece) (get_or piece i 0 ∷ []) goes.by
          ∙ ap (option_and_then (λ next. stage_from next [])) (sym e);
      wrong = wrong ∙ ap (λ k. departure_at stage.place (get_or piece k 0)) same;
    }

-- A piece that ends within the header, and one that goes to the end of the frame.
pub reaches_within : (stage next : Stage) (held : ℕ) (piece : List ℕ) → IsShort stage held → Goes stage piece next → whole_length next ≡ None → (length piece ≤ length piece) × Goes stage (take (length piece) piece) next × IsShort next (held + (length piece - length piece))
reaches_within stage next held piece short goes e =
    let P : Option ℕ → Type 0 = λ o. MatchOption o (held ≡ 0) (λ says. held ≤ says) in
    let none : held ≡ 0 = subst P e (held_of stage next held piece short goes) in
    let Q : List ℕ → Type 0 = λ t. Goes stage t next in
    (omega arith, subst Q (sym (take_all (length piece) piece (omega arith))) goes, (rw e (omega arith)))

-- A piece that goes to the end of the frame.
pub reaches_whole : (stage last : Stage) (held size says : ℕ) (piece : List ℕ) → IsShort stage held → size ≤ length piece → Goes stage (take size piece) last → whole_length last ≡ Some says → says - held ≤ length piece - size → (size ≤ size + (says - held)) × (size + (says - held) ≤ length piece) × (last : Stage) × Goes stage (take size piece) last × (whole_length last ≡ Some (held + (size + (says - held) - size)))
reaches_whole stage last held size says piece short within goes e enough =
    let small : held ≤ says = held_small stage last held says (take size piece) short goes e in
    let same : says ≡ held + (size + (says - held) - size) = omega arith in
    (omega arith, omega arith, last, goes, e ∙ ap Some same)

-- A frame that has grown by a piece.
pub Stands-grown : (stage next now : Stage) (header body piece header_now body_now : List ℕ) (size held : ℕ) → Stands stage header body → held ≡ length body → Goes stage (take size piece) next → IsShort next (held + (length piece - size)) → header_now ≡ header ++ take size piece → body_now ≡ body ++ drop size piece → now ≡ next → Stands now header_now body_now
Stands-grown stage next now header body piece header_now body_now size held h counted goes short header_is body_is is =
    let P : ℕ → Type 0 = λ n. IsShort next (n + (length piece - size)) in
    let grown : Stands next (header ++ take size piece) (body ++ drop size piece) = Stands-within stage next header body piece size h goes (subst P counted short) in
    let Q : List ℕ → Type 0 = λ t. Stands now t body_now in
    let R : List ℕ → Type 0 = λ t. Stands now (header ++ take size piece) t in
    let S : Stage → Type 0 = λ s. Stands s (header ++ take size piece) (body ++ drop size piece) in
    subst Q (sym header_is) (subst R (sym body_is) (subst S (sym is) grown))

-- Its bytes are those before and the piece.
pub parts-grown : (stage next : Stage) (header body piece header_now body_now : List ℕ) (size : ℕ) → Stands stage header body → Goes stage (take size piece) next → header_now ≡ header ++ take size piece → body_now ≡ body ++ drop size piece → header_now ++ body_now ≡ (header ++ body) ++ piece
parts-grown stage next header body piece header_now body_now size h goes header_is body_is =
    ap (λ t. t ++ body_now) header_is ∙ ap (λ t. (header ++ take size piece) ++ t) body_is ∙ parts_of stage next header body piece size h goes

-- The piece brings no body.
pub Brings-grown : (stage next now : Stage) (header body piece header_now body_now : List ℕ) (size : ℕ) (ready : List (List ℕ)) → Stands stage header body → Stands now header_now body_now → Goes stage (take size piece) next → header_now ≡ header ++ take size piece → body_now ≡ body ++ drop size piece → Brings (header ++ body) piece ready ready (header_now ++ body_now)
Brings-grown stage next now header body piece header_now body_now size ready h s goes header_is body_is = record {
  fresh = [];
  splits = Splits-partial ((header ++ body) ++ piece) (header_now ++ body_now) (IsPartial-Stands now header_now body_now s)
      (sym (parts-grown stage next header body piece header_now body_now size h goes header_is body_is));
  ready = sym (append-nil ready);
}

-- Frames at the beginning of a piece, and then less than a whole one, or a fault.
pub Brings-ahead : (next now : Stage) (front left piece header_now body_now : List ℕ) (bodies : List (List ℕ)) (size : ℕ) → IsFrames front bodies → piece ≡ front ++ left → Stands now header_now body_now → Goes start (take size left) next → header_now ≡ take size left → body_now ≡ drop size left → Brings [] piece [] bodies (header_now ++ body_now)
Brings-ahead next now front left piece header_now body_now bodies size h is s goes header_is body_is = record {
  fresh = bodies;
  splits = record {
    front = front;
    frames = h;
    partial = IsPartial-Stands now header_now body_now s;
    is = is ∙ ap (λ t. front ++ t) (sym (parts-grown start next [] [] left header_now body_now size Stands-nil goes header_is body_is));
  };
  ready = refl;
}

-- Frames at the beginning of a piece, and then a fault.
pub Spoils-ahead : (front left piece : List ℕ) (bodies : List (List ℕ)) (count : ℕ) (departs : Departure) → IsFrames front bodies → piece ≡ front ++ left → Dies start left count departs → Spoils [] piece [] bodies departs (length piece - length left + count)
Spoils-ahead front left piece bodies count departs h is dies =
    let counted : length piece ≡ length front + length left = ap length is ∙ length-append front left in
    let P : ℕ → Type 0 = λ n. IsFault left departs n in
    let fault : IsFault left departs count = subst P (let e : 0 + count ≡ count = omega arith in e) (IsFault-Dies start [] [] left count departs Stands-nil dies) in
    record {
      fresh = bodies;
      breaks = record {
        front = front;
        tail = left;
        within = count;
        frames = h;
        bad = fault.bad;
        wrong = fault.wrong;
        is = is;
        place = omega arith;
      };
      ready = refl;
    }

-- One frame more at the beginning of a piece.
pub IsFrames-ahead : (last : Stage) (front left piece : List ℕ) (bodies : List (List ℕ)) (size end : ℕ) → IsFrames front bodies → piece ≡ front ++ left → size ≤ end → end ≤ length left → Goes start (take size left) last → whole_length last ≡ Some (0 + (end - size)) → IsFrames (front ++ take end left) (bodies ++ take (end - size) (drop size left) ∷ []) × (piece ≡ (front ++ take end left) ++ drop end left)
IsFrames-ahead last front left piece bodies size end h is order within goes says =
    let whole : IsFrame (take end left) (drop size (take end left)) = IsFrame-whole start last [] [] left size end Stands-nil order within goes says in
    let ends : end ≡ size + (end - size) = omega arith in
    let same : drop size (take end left) ≡ take (end - size) (drop size left) = ap (λ k. drop size (take k left)) ends ∙ drop-take size (end - size) left in
    let P : List ℕ → Type 0 = λ t. IsFrame (take end left) t in (
      IsFrames-append bodies (take (end - size) (drop size left) ∷ []) front (take end left) h (IsFrames-one (take end left) (take (end - size) (drop size left)) (subst P same whole)),
      is ∙ ap (λ t. front ++ t) (sym (take-append-drop end left)) ∙ sym (append_assoc front (take end left) (drop end left)),
    )

-- The bytes of one body more.
pub bodies_of-push : (bodies now : List (Vec ℕ Global)) (body : Vec ℕ Global) (bytes : List ℕ) → now ≡ bodies ++ body ∷ [] → body.items ≡ bytes → bodies_of now ≡ bodies_of bodies ++ bytes ∷ []
bodies_of-push bodies now body bytes e is = ap bodies_of e ∙ map_push (λ (b : Vec ℕ Global). b.items) bodies body ∙ ap (λ t. bodies_of bodies ++ t ∷ []) is

-- The bytes of one body more and of those behind it.
pub bodies_of-joined : (before middle now fresh : List (Vec ℕ Global)) (body : Vec ℕ Global) (bytes : List ℕ) → middle ≡ before ++ body ∷ [] → body.items ≡ bytes → now ≡ middle ++ fresh → bodies_of now ≡ bodies_of before ++ bytes ∷ bodies_of fresh
bodies_of-joined before middle now fresh body bytes e is joined =
    ap bodies_of joined ∙ map-append (λ (b : Vec ℕ Global). b.items) middle fresh
    ∙ ap (λ t. t ++ bodies_of fresh) (bodies_of-push before middle body bytes e is)
    ∙ append_assoc (bodies_of before) (bytes ∷ []) (bodies_of fresh)

-- a fault so many bytes later
abbrev pub later : ℕ → Astray → Astray
later end astray = record { count = end + astray.count; departure = astray.departure }

-- A piece that ends a frame, and what was read of the others behind it.
pub Accepts-whole : (stage last : Stage) (header body piece : List ℕ) (size end held : ℕ) (before now fresh : List (List ℕ)) (new : List ℕ) (ahead fault : Option Astray) → Stands stage header body → held ≡ length body → size ≤ end → end ≤ length piece → Goes stage (take size piece) last → whole_length last ≡ Some (held + (end - size)) → Accepts [] (take (length piece - end) (drop end piece)) [] fresh new ahead → fault ≡ option_map (later end) ahead → now ≡ before ++ (body ++ drop size (take end piece)) ∷ fresh → Accepts (header ++ body) piece before now new fault
Accepts-whole stage last header body piece size end held before now fresh new ahead fault h counted order within goes says read mapped ready =
    let P : ℕ → Type 0 = λ n. whole_length last ≡ Some (n + (end - size)) in
    let first : IsFrame ((header ++ body) ++ take end piece) (body ++ drop size (take end piece)) = IsFrame-whole stage last header body piece size end h order within goes (subst P counted says) in
    let Q : Option Astray → Type 0 = λ o. Accepts (header ++ body) piece before now new o in
    let R : List ℕ → Type 0 = λ t. Accepts [] t [] fresh new ahead in
    subst Q (sym mapped) (go ahead first (subst R (take_rest piece end) read))
  where
    all : ((header ++ body) ++ take end piece) ++ drop end piece ≡ (header ++ body) ++ piece
    all = append_assoc (header ++ body) (take end piece) (drop end piece) ∙ ap (λ t. (header ++ body) ++ t) (take-append-drop end piece)

    go : (o : Option Astray) → IsFrame ((header ++ body) ++ take end piece) (body ++ drop size (take end piece)) → Accepts [] (drop end piece) [] fresh new o → Accepts (header ++ body) piece before now new (option_map (later end) o)
    go None first brings =
        let whole : List ℕ = body ++ drop size (take end piece) in
        let R : List ℕ → Type 0 = λ t. Splits t (whole ∷ brings.fresh) new in
        record {
          fresh = whole ∷ brings.fresh;
          splits = subst R all (Splits-behind ((header ++ body) ++ take end piece) (whole ∷ []) brings.fresh (drop end piece) new (IsFrames-one ((header ++ body) ++ take end piece) whole first) brings.splits);
          ready = ready ∙ ap (λ t. before ++ whole ∷ t) brings.ready;
        }
    go (Some astray) first spoils =
        let whole : List ℕ = body ++ drop size (take end piece) in
        let R : List ℕ → Type 0 = λ t. Breaks t (whole ∷ spoils.fresh) astray.departure (length (header ++ body) + (end + astray.count)) in
        let S : ℕ → Type 0 = λ n. Breaks (((header ++ body) ++ take end piece) ++ drop end piece) (whole ∷ spoils.fresh) astray.departure n in
        let place : length ((header ++ body) ++ take end piece) + (0 + astray.count) ≡ length (header ++ body) + (end + astray.count) = omega (arith, length-append (header ++ body) (take end piece), length-take-le end piece within) in
        record {
          fresh = whole ∷ spoils.fresh;
          breaks = subst R all (subst S place (Breaks-behind ((header ++ body) ++ take end piece) (whole ∷ []) spoils.fresh (drop end piece) astray.departure (0 + astray.count) (IsFrames-one ((header ++ body) ++ take end piece) whole first) spoils.breaks));
          ready = ready ∙ ap (λ t. before ++ whole ∷ t) spoils.ready;
        }

-- A fault behind a frame that a piece ends lies within the piece.
pub within_later : (piece : List ℕ) (end : ℕ) (fresh : List (List ℕ)) (new : List ℕ) (ahead fault : Option Astray) → end ≤ length piece → Accepts [] (take (length piece - end) (drop end piece)) [] fresh new ahead → fault ≡ option_map (later end) ahead → IfSome fault (λ astray. astray.count ≤ length piece)
within_later piece end fresh new ahead fault within read mapped =
    let P : List ℕ → Type 0 = λ t. Accepts [] t [] fresh new ahead in
    let Q : Option Astray → Type 0 = λ o. IfSome o (λ astray. astray.count ≤ length piece) in
    subst Q (sym mapped) (go ahead (subst P (take_rest piece end) read))
  where
    go : (o : Option Astray) → Accepts [] (drop end piece) [] fresh new o → IfSome (option_map (later end) o) (λ astray. astray.count ≤ length piece)
    go None brings = tt
    go (Some astray) spoils =
        let b = spoils.breaks in
        let all : length piece - end ≡ length b.front + length b.tail = sym (length-drop end piece) ∙ ap length b.is ∙ length-append b.front b.tail in
        omega (arith, all, b.place, b.bad.within, within)

-- The first fault, as the reader shows it.
pub Stops-Spoils : (old new : Reading) (rest piece : List ℕ) (now ready : List (List ℕ)) (fed count : ℕ) (departs : Departure) (fault : FrameFault) → Spoils rest piece now ready departs count → old.fault ≡ None → rest ≡ old.rest → now ≡ old.ready → fed ≡ old.fed → new.ready ≡ ready → new.fed ≡ fed + length piece → fault ≡ fault_at departs (fed + count) → new.fault ≡ Some fault → Stops old new piece fault
Stops-Spoils old new rest piece now ready fed count departs fault h sound rest_is ready_is fed_is ready_now fed_now says kept =
    let P : List ℕ → Type 0 = λ t. Breaks (t ++ piece) h.fresh departs (length t + count) in
    record {
      fresh = h.fresh;
      departs = departs;
      at = length old.rest + count;
      place = fed + count;
      breaks = subst P rest_is h.breaks;
      counted = omega arith;
      says = says;
      ready = ready_now ∙ h.ready ∙ ap (λ t. t ++ h.fresh) ready_is;
      fed = fed_now ∙ ap (λ n. n + length piece) fed_is;
      sound = sound;
      kept = kept;
    }
