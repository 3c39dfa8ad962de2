-- Frames: none begins another, and what is less than one.
use Rattle.std.proofs.Common.{◌≡◌, ℕ, ◌+◌, ◌-◌, ◌<◌, ◌≤◌, inl, inr, List, [], ◌∷◌, ◌++◌, length, take, drop, replicate, Some, None, refl, sym, ◌∙◌, ap, subst, arith, append_assoc, length-append}
use Rattle.std.proofs.lemmas.Bool.{cases_lt}
use Rattle.std.proofs.lemmas.List.{append-nil, take-append-drop, take-append-le, take-take, length-replicate}
use Rattle.std.specs.Fmt.{decimal}
use Rattle.std.proofs.lemmas.Fmt.{decimal_is_IsNumeral, length-decimal-le}
use Rattle.rpc_framing.specs.Frames.{line_end, ended, label, IsHead, IsFrame, IsFrames, BeginsFrames, IsPartial, IsBadStart, frame}
use Rattle.rpc_framing.specs.Stages.{start, stage_from, whole_length}
use Rattle.rpc_framing.specs.declared.header.Stage.{Stage}
use Rattle.rpc_framing.proofs.Lists.{fronts, nil_front, same_length, take-past}
use Rattle.rpc_framing.proofs.Heads.{stage_from-then, stage_from-dead, stage_from-whole, stage_from-IsHead, IsHead-written, HeadGoesOn, HeadGoesOn-stage_from}

-- no header begins another
pub IsHead-unique : (head other x y : List ℕ) (n m : ℕ) → IsHead head n → IsHead other m → head ++ x ≡ other ++ y → (head ≡ other) × (n ≡ m) × (x ≡ y)
IsHead-unique head other x y n m h k e =
    elim (fronts head x other y e) [
      | inl l ↦ same head other x y n m h k l.0 l.1 l.2
      | inr r ↦ let s = same other head y x m n k h r.0 r.1 r.2 in (sym s.0, sym s.1, sym s.2)
    ]
  where
    same : (head other x y : List ℕ) (n m : ℕ) → IsHead head n → IsHead other m → (z : List ℕ) → other ≡ head ++ z → x ≡ z ++ y → (head ≡ other) × (n ≡ m) × (x ≡ y)
    same head other x y n m h k z longer rest =
        let first = stage_from-IsHead head n h in
        let second = stage_from-IsHead other m k in
        let behind : stage_from first.0 z ≡ Some second.0 = sym (stage_from-then start first.0 head z first.1) ∙ ap (stage_from start) (sym longer) ∙ second.1 in
        let none = stage_from-whole first.0 second.0 n z first.2 behind in
        let is : z ≡ [] = none.0 in
        let said : Some m ≡ Some n = sym second.2 ∙ ap whole_length none.1 ∙ first.2 in
        (sym (longer ∙ ap (λ b. head ++ b) is ∙ append-nil head), (cc), rest ∙ ap (λ b. b ++ y) is)

-- how long a header is, and the length that it says
length-IsHead : (head : List ℕ) (n : ℕ) → IsHead head n → (0 < length head) × (length head ≤ 4096) × (n ≤ 16777216)
length-IsHead head n h =
    let is : length head ≡ length (ended h.lines) + 2 = ap length h.is ∙ length-append (ended h.lines) line_end in
    let says = h.says in
    let line = says.says in
    (omega arith, h.fits, line.bound)

-- No frame begins another, and a frame has one body.
pub IsFrame-unique : (f g b c x y : List ℕ) → IsFrame f b → IsFrame g c → f ++ x ≡ g ++ y → (f ≡ g) × (b ≡ c) × (x ≡ y)
IsFrame-unique f g b c x y h k e =
    let whole : h.head ++ (b ++ x) ≡ k.head ++ (c ++ y) =
    sym (append_assoc h.head b x) ∙ ap (λ t. t ++ x) (sym h.is) ∙ e ∙ ap (λ t. t ++ y) k.is ∙ append_assoc k.head c y in
    let heads = IsHead-unique h.head k.head (b ++ x) (c ++ y) (length b) (length c) h.says k.says whole in
    let bodies = same_length b x c y heads.1 heads.2 in
    (h.is ∙ ap (λ t. t ++ b) heads.0 ∙ ap (λ t. k.head ++ t) bodies.0 ∙ sym k.is, bodies.0, bodies.1)

-- how long a frame is
pub length-IsFrame : (f b : List ℕ) → IsFrame f b → (0 < length f) × (length f ≤ 16781312)
length-IsFrame f b h =
    let head = length-IsHead h.head (length b) h.says in
    let some = head.0 in
    let short = head.1 in
    let bound = head.2 in
    let is : length f ≡ length h.head + length b = ap length h.is ∙ length-append h.head b in
    (omega arith, omega arith)

-- what is less than a whole frame is short
pub length-IsPartial : (r : List ℕ) → IsPartial r → length r < 16781312
length-IsPartial r p =
    let is = length-append r p.more in
    let bound = (length-IsFrame (r ++ p.more) p.body p.frame).1 in
    let some = p.some in
    omega arith

-- a front of what is less than a whole frame is less than one
pub IsPartial-front : (x y : List ℕ) → IsPartial (x ++ y) → IsPartial x
IsPartial-front x y p = record {
  more = y ++ p.more;
  body = p.body;
  some = (let some = p.some in omega (arith, length-append y p.more));
  frame = (let P : List ℕ → Type 0 = λ t. IsFrame t p.body in subst P (append_assoc x y p.more) p.frame);
}

-- the same of its first bytes
pub IsPartial-take : (k : ℕ) (xs : List ℕ) → IsPartial xs → IsPartial (take k xs)
IsPartial-take k xs p = IsPartial-front (take k xs) (drop k xs) (rw take-append-drop p)

-- it begins with no whole frame
pub IsPartial-no_frame : (r f b z : List ℕ) → IsPartial r → IsFrame f b → r ≡ f ++ z → ⊥
IsPartial-no_frame r f b z p h e =
    let whole : f ++ (z ++ p.more) ≡ (r ++ p.more) ++ [] = sym (append_assoc f z p.more) ∙ ap (λ t. t ++ p.more) (sym e) ∙ sym (append-nil (r ++ p.more)) in
    let none : z ++ p.more ≡ [] = (IsFrame-unique f (r ++ p.more) b p.body (z ++ p.more) [] h p.frame whole).2 in
    let some = p.some in
    omega (arith, length-append z p.more, ap length none)

-- A whole header and less of a body than it says is less than a whole frame.
pub IsPartial-IsHead : (head body : List ℕ) (n : ℕ) → IsHead head n → length body < n → IsPartial (head ++ body)
IsPartial-IsHead head body n h short =
    let pad : List ℕ = replicate (n - length body) 0 in
    let padded : length pad ≡ n - length body = length-replicate {A = ℕ} (n - length body) 0 in
    let said : n ≡ length (body ++ pad) = omega (arith, length-append body pad) in
    record {
      more = pad;
      body = body ++ pad;
      some = omega arith;
      frame = record { head = head; says = (let P : ℕ → Type 0 = λ k. IsHead head k in subst P said h); is = append_assoc head body pad };
    }

-- a header that goes on to a whole one is less than a whole frame
pub IsPartial-HeadGoesOn : (bytes : List ℕ) → HeadGoesOn bytes → IsPartial bytes
IsPartial-HeadGoesOn bytes h = record {
  more = h.more ++ replicate h.length_said 0;
  body = replicate h.length_said 0;
  some = (let some = h.some in omega (arith, length-append {A = ℕ} h.more (replicate h.length_said 0)));
  frame = record {
    head = bytes ++ h.more;
    says = (let P : ℕ → Type 0 = λ k. IsHead (bytes ++ h.more) k in subst P (sym (length-replicate {A = ℕ} h.length_said 0)) h.head);
    is = sym (append_assoc bytes h.more (replicate h.length_said 0));
  };
}

-- nothing is less than a whole frame
pub IsPartial-nil : IsPartial []
IsPartial-nil = IsPartial-HeadGoesOn [] (HeadGoesOn-stage_from start [] refl refl)

-- what begins no frame
pub record HasNoFrame (x : List ℕ) : Type 0 where
  pub none : (f b z : List ℕ) → IsFrame f b → x ≡ f ++ z → ⊥

-- A front of what begins a sequence of frames begins one.
pub BeginsFrames-front : (x y : List ℕ) → BeginsFrames (x ++ y) → BeginsFrames x
BeginsFrames-front x y b = record {
  more = y ++ b.more;
  bodies = b.bodies;
  frames = (let P : List ℕ → Type 0 = λ t. IsFrames t b.bodies in subst P (append_assoc x y b.more) b.frames);
}

-- one frame is a sequence of frames
pub IsFrames-one : (f b : List ℕ) → IsFrame f b → IsFrames f (b ∷ [])
IsFrames-one f b h = (f, [], h, refl, sym (append-nil f))

-- a front of a frame begins one
pub BeginsFrames-IsFrame : (x y b : List ℕ) → IsFrame (x ++ y) b → BeginsFrames x
BeginsFrames-IsFrame x y b h = record { more = y; bodies = b ∷ []; frames = IsFrames-one (x ++ y) b h }

-- so does what is less than a whole frame
pub BeginsFrames-IsPartial : (x : List ℕ) → IsPartial x → BeginsFrames x
BeginsFrames-IsPartial x p = BeginsFrames-IsFrame x p.more p.body p.frame

-- less than a whole frame does not begin with one
pub HasNoFrame-IsPartial : (x : List ℕ) → IsPartial x → HasNoFrame x
HasNoFrame-IsPartial x p = record { none = λ f b z h e. IsPartial-no_frame x f b z p h e }

-- nor does what begins no frame
pub HasNoFrame-IsBadStart : (x : List ℕ) (at : ℕ) → IsBadStart x at → HasNoFrame x
HasNoFrame-IsBadStart x at bad = record {
  none = λ f b z h e.
      elim (cases_lt (at - 1) (length f)) [
        | inl short ↦
            let within : at ≤ length f = (let some = bad.some in omega arith) in
            let same : take at x ≡ take at f = ap (take at) e ∙ take-append-le at f z within in
            bad.bad (let P : List ℕ → Type 0 = λ t. BeginsFrames t in subst P (sym same)
            (BeginsFrames-IsFrame (take at f) (drop at f) b (let Q : List ℕ → Type 0 = λ t. IsFrame t b in subst Q (sym (take-append-drop at f)) h)))
        | inr long ↦
            let same : take (at - 1) x ≡ f ++ take (at - 1 - length f) z = ap (take (at - 1)) e ∙ take-past f z (at - 1) long in
            IsPartial-no_frame (take (at - 1) x) f b (take (at - 1 - length f) z) bad.partial h same
      ];
}

-- a first fault is unique
pub IsBadStart-unique : (x : List ℕ) (at place : ℕ) → IsBadStart x at → IsBadStart x place → at ≡ place
IsBadStart-unique x at place h k =
    elim (cases_lt at place) [
      | inl less ↦ absurd (earlier x at place h k less)
      | inr le ↦ elim (cases_lt place at) [
        | inl less ↦ absurd (earlier x place at k h less)
        | inr ge ↦ omega arith
      ]
    ]
  where
    earlier : (x : List ℕ) (at place : ℕ) → IsBadStart x at → IsBadStart x place → at < place → ⊥
    earlier x at place h k less =
        let same : take at (take (place - 1) x) ≡ take at x = take-take at (place - 1) x (omega arith) in
        h.bad (let P : List ℕ → Type 0 = λ t. BeginsFrames t in subst P same (BeginsFrames-IsPartial (take at (take (place - 1) x)) (IsPartial-take at (take (place - 1) x) k.partial)))

-- a whole header is no front of what a byte more is no header's beginning
not_behind : (xs : List ℕ) (byte : ℕ) (last : Stage) → stage_from start xs ≡ Some last → whole_length last ≡ None → stage_from start (xs ++ byte ∷ []) ≡ None → (head : List ℕ) (n : ℕ) → IsHead head n → (z : List ℕ) → xs ++ byte ∷ [] ≡ head ++ z → ⊥
not_behind xs byte last alive short dead head n h z e =
    let whole = stage_from-IsHead head n h in
    elim (fronts xs (byte ∷ []) head z e) [
      | inl l ↦ longer whole.0 whole.1 whole.2 l.0 l.1 l.2
      | inr r ↦
          let behind : stage_from whole.0 r.0 ≡ Some last = sym (stage_from-then start whole.0 head r.0 whole.1) ∙ ap (stage_from start) (sym r.1) ∙ alive in
          let is : last ≡ whole.0 = (stage_from-whole whole.0 last n r.0 whole.2 behind).1 in
          let none : Some n ≡ None = sym whole.2 ∙ ap whole_length (sym is) ∙ short in
          cc
    ]
  where
    longer : (s : Stage) → stage_from start head ≡ Some s → whole_length s ≡ Some n → (y : List ℕ) → head ≡ xs ++ y → byte ∷ [] ≡ y ++ z → ⊥
    longer s at says [] same rest =
        let is : Some last ≡ Some s = sym alive ∙ ap (stage_from start) (sym (same ∙ append-nil xs)) ∙ at in
        let it : last ≡ s = cc in
        let none : Some n ≡ None = sym says ∙ ap whole_length (sym it) ∙ short in
        cc
    longer s at says (c ∷ y) same rest =
        let first : byte ≡ c = cc in
        let others : y ++ z ≡ [] = (let f : [] ≡ y ++ z = cc in sym f) in
        let nothing : y ≡ [] = (nil_front y z others).0 in
        let is : head ≡ xs ++ byte ∷ [] = same ∙ ap (λ t. xs ++ c ∷ t) nothing ∙ ap (λ b. xs ++ b ∷ []) (sym first) in
        let gone : Some s ≡ None = sym at ∙ ap (stage_from start) is ∙ dead in
        cc

-- a byte with which no header goes on begins no frame
pub dead_begins_nothing : (xs : List ℕ) (byte : ℕ) (last : Stage) → stage_from start xs ≡ Some last → whole_length last ≡ None → stage_from start (xs ++ byte ∷ []) ≡ None → BeginsFrames (xs ++ byte ∷ []) → ⊥
dead_begins_nothing xs byte last alive short dead b = begins b.bodies b.more b.frames
  where
    begins : (bodies : List (List ℕ)) (more : List ℕ) → IsFrames ((xs ++ byte ∷ []) ++ more) bodies → ⊥
    begins [] more e = omega (arith, ap length e, length-append (xs ++ byte ∷ []) more, length-append xs (byte ∷ []))
    begins (body ∷ bodies) more e =
        let h = e.2 in
        let whole = stage_from-IsHead h.head (length body) h.says in
        let same : (xs ++ byte ∷ []) ++ more ≡ h.head ++ (body ++ e.1) = e.4 ∙ ap (λ t. t ++ e.1) h.is ∙ append_assoc h.head body e.1 in
        elim (fronts (xs ++ byte ∷ []) more h.head (body ++ e.1) same) [
          | inl l ↦ (let gone : Some whole.0 ≡ None = sym whole.1 ∙ ap (stage_from start) l.1 ∙ stage_from-dead start (xs ++ byte ∷ []) l.0 dead in absurd cc)
          | inr r ↦ not_behind xs byte last alive short dead h.head (length body) h.says r.0 r.1
        ]

-- What is written is read.
pub IsFrame-frame : (body : List ℕ) → length body ≤ 16777216 → IsFrame (frame body) body
IsFrame-frame body bound =
    let n = decimal_is_IsNumeral (length body) (omega arith) in
    let few : length (decimal (length body)) ≤ 8 = length-decimal-le 8 (length body) (omega arith) (omega arith) (omega arith) in
    record {
      head = label ++ (decimal (length body) ++ (line_end ++ line_end));
      says = IsHead-written (decimal (length body)) (length body) n.0 (omega arith) n.1 bound;
      is = refl;
    }
