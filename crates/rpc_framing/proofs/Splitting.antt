-- A stream is read in one way: as frames and less than a whole one, or as frames and a first fault.
use Rattle.std.proofs.Common.{◌≡◌, ℕ, ◌+◌, ◌-◌, ◌<◌, List, [], ◌∷◌, ◌++◌, length, take, drop, refl, sym, ◌∙◌, ap, subst, arith, append_assoc, length-append}
use Rattle.std.proofs.lemmas.List.{take-append-drop, take-append-le, take-take}
use Rattle.rpc_framing.specs.Faults.{Departs, Breaks}
use Rattle.rpc_framing.specs.Frames.{IsFrames, BeginsFrames, IsPartial, Splits, IsBadStart}
use Rattle.rpc_framing.specs.declared.place.Departure.{Departure}
use Rattle.rpc_framing.specs.declared.place.Departure.TheVariants.{BadHeader, TooLong}
use Rattle.rpc_framing.proofs.Lists.{take-past}
use Rattle.rpc_framing.proofs.FrameLaws.{IsFrame-unique, length-IsFrame, IsPartial-take, HasNoFrame, HasNoFrame-IsPartial, HasNoFrame-IsBadStart, IsBadStart-unique, BeginsFrames-front, BeginsFrames-IsPartial}

-- Frames one behind the other, up to what begins with none, are read in one way.
pub IsFrames-unique : (bodies others : List (List ℕ)) (f g x y : List ℕ) → IsFrames f bodies → IsFrames g others → HasNoFrame x → HasNoFrame y → f ++ x ≡ g ++ y → (bodies ≡ others) × (f ≡ g) × (x ≡ y)
IsFrames-unique [] [] f g x y h k p q e = (refl, h ∙ sym k, ap (λ t. t ++ x) (sym h) ∙ e ∙ ap (λ t. t ++ y) k)
IsFrames-unique [] (c ∷ others) f g x y h k p q e =
    absurd (p.none k.0 c (k.1 ++ y) k.2 (ap (λ t. t ++ x) (sym h) ∙ e ∙ ap (λ t. t ++ y) k.4 ∙ append_assoc k.0 k.1 y))
IsFrames-unique (b ∷ bodies) [] f g x y h k p q e =
    absurd (q.none h.0 b (h.1 ++ x) h.2 (ap (λ t. t ++ y) (sym k) ∙ sym e ∙ ap (λ t. t ++ x) h.4 ∙ append_assoc h.0 h.1 x))
IsFrames-unique (b ∷ bodies) (c ∷ others) f g x y h k p q e =
    let first = IsFrame-unique h.0 k.0 b c (h.1 ++ x) (k.1 ++ y) h.2 k.2
    (sym (append_assoc h.0 h.1 x) ∙ ap (λ t. t ++ x) (sym h.4) ∙ e ∙ ap (λ t. t ++ y) k.4 ∙ append_assoc k.0 k.1 y) in
    let later = IsFrames-unique bodies others h.1 k.1 x y h.3 k.3 p q first.2 in
    ((let one = first.1 in let more = later.0 in cc), h.4 ∙ ap (λ t. t ++ h.1) first.0 ∙ ap (λ t. k.0 ++ t) later.1 ∙ sym k.4, later.2)

-- One reading of a stream without a fault.
pub Splits-unique : (stream : List ℕ) (bodies others : List (List ℕ)) (rest left : List ℕ) → Splits stream bodies rest → Splits stream others left → (bodies ≡ others) × (rest ≡ left)
Splits-unique stream bodies others rest left h k =
    let one = IsFrames-unique bodies others h.front k.front rest left h.frames k.frames (HasNoFrame-IsPartial rest h.partial) (HasNoFrame-IsPartial left k.partial) (sym h.is ∙ k.is) in
    (one.0, one.2)

-- A stream with a fault has none.
pub Splits-Breaks : (stream : List ℕ) (bodies others : List (List ℕ)) (rest : List ℕ) (departs : Departure) (at : ℕ) → Splits stream bodies rest → Breaks stream others departs at → ⊥
Splits-Breaks stream bodies others rest departs at h k =
    let one = IsFrames-unique bodies others h.front k.front rest k.tail h.frames k.frames (HasNoFrame-IsPartial rest h.partial) (HasNoFrame-IsBadStart k.tail k.within k.bad) (sym h.is ∙ k.is) in
    let P : List ℕ → Type 0 = λ t. BeginsFrames (take k.within t) in
    k.bad.bad (subst P one.2 (BeginsFrames-IsPartial (take k.within rest) (IsPartial-take k.within rest h.partial)))

-- one departure
Departs-unique : (a b : Departure) (bytes : List ℕ) → Departs a bytes → Departs b bytes → a ≡ b
Departs-unique BadHeader BadHeader bytes h k = refl
Departs-unique BadHeader TooLong bytes h k = absurd (h k)
Departs-unique TooLong BadHeader bytes h k = absurd (k h)
Departs-unique TooLong TooLong bytes h k = refl

-- One first fault, and the same frames before it.
pub Breaks-unique : (stream : List ℕ) (bodies others : List (List ℕ)) (departs differs : Departure) (at place : ℕ) → Breaks stream bodies departs at → Breaks stream others differs place → (bodies ≡ others) × (departs ≡ differs) × (at ≡ place)
Breaks-unique stream bodies others departs differs at place h k =
    let one = IsFrames-unique bodies others h.front k.front h.tail k.tail h.frames k.frames (HasNoFrame-IsBadStart h.tail h.within h.bad) (HasNoFrame-IsBadStart k.tail k.within k.bad) (sym h.is ∙ k.is) in
    let P : List ℕ → Type 0 = λ t. IsBadStart t h.within in
    let same : h.within ≡ k.within = IsBadStart-unique k.tail h.within k.within (subst P one.2 h.bad) k.bad in
    let bytes : take h.within h.tail ≡ take k.within k.tail = ap (take h.within) one.2 ∙ ap (λ n. take n k.tail) same in
    let Q : List ℕ → Type 0 = λ t. Departs departs t in
    let fronts_same : length h.front ≡ length k.front = ap length one.1 in
    let first = h.place in
    let second = k.place in
    (one.0, Departs-unique departs differs (take k.within k.tail) (subst Q bytes h.wrong) k.wrong, omega arith)

-- Frames behind frames.
pub IsFrames-append : (bodies others : List (List ℕ)) (f g : List ℕ) → IsFrames f bodies → IsFrames g others → IsFrames (f ++ g) (bodies ++ others)
IsFrames-append [] others f g h k = let P : List ℕ → Type 0 = λ t. IsFrames t others in subst P (ap (λ t. t ++ g) (sym h)) k
IsFrames-append (b ∷ bodies) others f g h k =
    (h.0, h.1 ++ g, h.2, IsFrames-append bodies others h.1 g h.3 k, ap (λ t. t ++ g) h.4 ∙ append_assoc h.0 h.1 g)

-- The frames before what a sequence of frames begins with are the first of the sequence.
pub IsFrames-cancel : (bodies others : List (List ℕ)) (f g x : List ℕ) → IsFrames f bodies → IsFrames g others → f ++ x ≡ g → (more : List (List ℕ)) × IsFrames x more × (others ≡ bodies ++ more)
IsFrames-cancel [] others f g x h k e =
    let is : x ≡ g = ap (λ t. t ++ x) (sym h) ∙ e in
    (others, (let P : List ℕ → Type 0 = λ t. IsFrames t others in subst P (sym is) k), refl)
IsFrames-cancel (b ∷ bodies) [] f g x h k e =
    let some = (length-IsFrame h.0 b h.2).0 in
    absurd (omega (arith, ap length h.4, ap length e, ap length k, length-append f x, length-append h.0 h.1))
IsFrames-cancel (b ∷ bodies) (c ∷ others) f g x h k e =
    let first = IsFrame-unique h.0 k.0 b c (h.1 ++ x) k.1 h.2 k.2 (sym (append_assoc h.0 h.1 x) ∙ ap (λ t. t ++ x) (sym h.4) ∙ e ∙ k.4) in
    let later = IsFrames-cancel bodies others h.1 k.1 x h.3 k.3 first.2 in
    (later.0, later.1, (let one = first.1 in let more = later.2 in cc))

-- What begins a sequence of frames, with frames before it.
pub BeginsFrames-append : (bodies : List (List ℕ)) (f x : List ℕ) → IsFrames f bodies → BeginsFrames x → BeginsFrames (f ++ x)
BeginsFrames-append bodies f x h b = record {
  more = b.more;
  bodies = bodies ++ b.bodies;
  frames = (let P : List ℕ → Type 0 = λ t. IsFrames t (bodies ++ b.bodies) in subst P (sym (append_assoc f x b.more)) (IsFrames-append bodies b.bodies f (x ++ b.more) h b.frames));
}

-- And without them.
pub BeginsFrames-cancel : (bodies : List (List ℕ)) (f x : List ℕ) → IsFrames f bodies → BeginsFrames (f ++ x) → BeginsFrames x
BeginsFrames-cancel bodies f x h b =
    let rest = IsFrames-cancel bodies b.bodies f ((f ++ x) ++ b.more) (x ++ b.more) h b.frames (sym (append_assoc f x b.more)) in
    record { more = b.more; bodies = rest.0; frames = rest.1 }

-- A stream without a fault begins a sequence of frames.
pub BeginsFrames-Splits : (stream : List ℕ) (bodies : List (List ℕ)) (rest : List ℕ) → Splits stream bodies rest → BeginsFrames stream
BeginsFrames-Splits stream bodies rest h =
    let P : List ℕ → Type 0 = λ t. BeginsFrames t in
    subst P (sym h.is) (BeginsFrames-append bodies h.front rest h.frames (BeginsFrames-IsPartial rest h.partial))

-- At a first fault the bytes begin no sequence of frames ..
pub Breaks-bad : (stream : List ℕ) (bodies : List (List ℕ)) (departs : Departure) (at : ℕ) → Breaks stream bodies departs at → BeginsFrames (take at stream) → ⊥
Breaks-bad stream bodies departs at h b =
    let place = h.place in
    let front_is : take at stream ≡ h.front ++ take h.within h.tail =
    ap (take at) h.is ∙ take-past h.front h.tail at (omega arith) ∙ ap (λ k. h.front ++ take k h.tail) (let e : at - length h.front ≡ h.within = omega arith in e) in
    let P : List ℕ → Type 0 = λ t. BeginsFrames t in
    h.bad.bad (BeginsFrames-cancel bodies h.front (take h.within h.tail) h.frames (subst P front_is b))

-- .. and fewer of them do.
pub Breaks-least : (stream : List ℕ) (bodies : List (List ℕ)) (departs : Departure) (at fewer : ℕ) → Breaks stream bodies departs at → fewer < at → BeginsFrames (take fewer stream)
Breaks-least stream bodies departs at fewer h less =
    let place = h.place in
    let some = h.bad.some in
    let before : take (at - 1) stream ≡ h.front ++ take (h.within - 1) h.tail =
    ap (take (at - 1)) h.is ∙ take-past h.front h.tail (at - 1) (omega arith) ∙ ap (λ k. h.front ++ take k h.tail) (let e : at - 1 - length h.front ≡ h.within - 1 = omega arith in e) in
    let P : List ℕ → Type 0 = λ t. BeginsFrames t in
    let longest : BeginsFrames (take (at - 1) stream) = subst P (sym before) (BeginsFrames-append bodies h.front (take (h.within - 1) h.tail) h.frames (BeginsFrames-IsPartial (take (h.within - 1) h.tail) h.bad.partial)) in
    let same : take fewer (take (at - 1) stream) ≡ take fewer stream = take-take fewer (at - 1) stream (omega arith) in
    subst P same (BeginsFrames-front (take fewer (take (at - 1) stream)) (drop fewer (take (at - 1) stream)) (subst P (sym (take-append-drop fewer (take (at - 1) stream))) longest))

-- A bad start stays one, whatever follows.
pub IsBadStart-append : (x y : List ℕ) (at : ℕ) → IsBadStart x at → IsBadStart (x ++ y) at
IsBadStart-append x y at h =
    let within = h.within in
    let same : take at (x ++ y) ≡ take at x = take-append-le at x y within in
    let before : take (at - 1) (x ++ y) ≡ take (at - 1) x = take-append-le (at - 1) x y (omega arith) in
    record {
      some = h.some;
      within = omega (arith, length-append x y);
      bad = (λ b. h.bad (let P : List ℕ → Type 0 = λ t. BeginsFrames t in subst P same b));
      partial = (let P : List ℕ → Type 0 = λ t. IsPartial t in subst P (sym before) h.partial);
    }

-- Streams with frames before them.
pub Splits-behind : (f : List ℕ) (before bodies : List (List ℕ)) (stream rest : List ℕ) → IsFrames f before → Splits stream bodies rest → Splits (f ++ stream) (before ++ bodies) rest
Splits-behind f before bodies stream rest h s = record {
  front = f ++ s.front;
  frames = IsFrames-append before bodies f s.front h s.frames;
  partial = s.partial;
  is = ap (λ t. f ++ t) s.is ∙ sym (append_assoc f s.front rest);
}

-- The same with a fault.
pub Breaks-behind : (f : List ℕ) (before bodies : List (List ℕ)) (stream : List ℕ) (departs : Departure) (at : ℕ) → IsFrames f before → Breaks stream bodies departs at → Breaks (f ++ stream) (before ++ bodies) departs (length f + at)
Breaks-behind f before bodies stream departs at h s = record {
  front = f ++ s.front;
  tail = s.tail;
  within = s.within;
  frames = IsFrames-append before bodies f s.front h s.frames;
  bad = s.bad;
  wrong = s.wrong;
  is = ap (λ t. f ++ t) s.is ∙ sym (append_assoc f s.front s.tail);
  place = (let place = s.place in omega (arith, length-append f s.front));
}

-- A stream goes on with a further piece.
pub Splits-append : (stream : List ℕ) (bodies : List (List ℕ)) (rest piece : List ℕ) (fresh : List (List ℕ)) (left : List ℕ) → Splits stream bodies rest → Splits (rest ++ piece) fresh left → Splits (stream ++ piece) (bodies ++ fresh) left
Splits-append stream bodies rest piece fresh left h k =
    let P : List ℕ → Type 0 = λ t. Splits t (bodies ++ fresh) left in
    subst P (sym (ap (λ t. t ++ piece) h.is ∙ append_assoc h.front rest piece)) (Splits-behind h.front bodies fresh (rest ++ piece) left h.frames k)

-- Or it has its first fault there.
pub Breaks-Splits : (stream : List ℕ) (bodies : List (List ℕ)) (rest piece : List ℕ) (fresh : List (List ℕ)) (departs : Departure) (at place : ℕ) → Splits stream bodies rest → Breaks (rest ++ piece) fresh departs at → place + length rest ≡ length stream + at → Breaks (stream ++ piece) (bodies ++ fresh) departs place
Breaks-Splits stream bodies rest piece fresh departs at place h k counted =
    let is : length stream ≡ length h.front + length rest = ap length h.is ∙ length-append h.front rest in
    let same : length h.front + at ≡ place = omega arith in
    let P : List ℕ → Type 0 = λ t. Breaks t (bodies ++ fresh) departs place in
    let Q : ℕ → Type 0 = λ n. Breaks (h.front ++ (rest ++ piece)) (bodies ++ fresh) departs n in
    subst P (sym (ap (λ t. t ++ piece) h.is ∙ append_assoc h.front rest piece)) (subst Q same (Breaks-behind h.front bodies fresh (rest ++ piece) departs at h.frames k))

-- A fault stays the first, whatever follows.
pub Breaks-append : (stream : List ℕ) (bodies : List (List ℕ)) (departs : Departure) (at : ℕ) (more : List ℕ) → Breaks stream bodies departs at → Breaks (stream ++ more) bodies departs at
Breaks-append stream bodies departs at more h =
    let bad = h.bad in
    let P : List ℕ → Type 0 = λ t. Departs departs t in
    record {
      front = h.front;
      tail = h.tail ++ more;
      within = h.within;
      frames = h.frames;
      bad = IsBadStart-append h.tail more h.within h.bad;
      wrong = subst P (sym (take-append-le h.within h.tail more bad.within)) h.wrong;
      is = ap (λ t. t ++ more) h.is ∙ append_assoc h.front h.tail more;
      place = h.place;
    }
