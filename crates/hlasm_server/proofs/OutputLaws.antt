-- Laws of what a run writes and answers: each input has one course, and so at most one output; where no call of the library is
-- to come, it has one.
use Rattle.std.proofs.Common.{◌≡◌, ℕ, zero, suc, ◌+◌, ◌-◌, ◌<◌, ◌≤◌, Bool, true, false, if◌then◌else◌, List, [], ◌∷◌, ◌++◌, length, take, drop, Option, Some, None, ◌⊎◌, inl, inr, refl, sym, ap, ◌∙◌, subst, arith, length-append, append_assoc, append-nil}
use Rattle.std.proofs.lemmas.Bool.{cases_lt}
use Rattle.std.proofs.lemmas.List.{take-append-drop, take-append-le, take-take, length-drop}
use Rattle.bulk_session.specs.Connection.{Connection}
use Rattle.bulk_session.specs.ConnectionVariants as connection
use Rattle.bulk_session.specs.SessionView.{connection_of}
use Rattle.bulk_session.specs.Message.{message}
use Rattle.bulk_session.specs.State.{State}
use Rattle.bulk_session.specs.Step as step
use Rattle.bulk_session.specs.Turn.{turn}
use Rattle.bulk_session.proofs.ShortLaws.{message_unanswered}
use Rattle.io_edge.specs.LibraryCall.{LibraryCall}
use Rattle.rpc_framing.specs.Frames.{IsFrame, IsFrames, IsPartial, IsBadStart}
use Rattle.hlasm_server.specs.declared.status.Status.{Status}
use Rattle.hlasm_server.specs.declared.status.Status.TheVariants.{Done, NoShutdown, InputEnded, OutOfMemory, ReadFault, WriteFault, BadFrame, BadWords, InputTooLong}
use Rattle.hlasm_server.specs.Hearing.{Running, in_state, Heard, Goes, Ends, Lacks, Differs, hear, heard_in, heard_of, none_made, behind, turns, MakesEach}
use Rattle.hlasm_server.specs.Waiting.{is_held, unasked, one_more as one_message_more}
use Rattle.hlasm_server.specs.Output.{Leads, Meets, most_input, End, Finished, Lacking, Differing, EndsAt, Course, end_of, Out, IsAstray, Strays}
use Rattle.rpc_framing.proofs.Lists.{take-past}
use Rattle.rpc_framing.proofs.FrameLaws.{IsFrame-unique, IsPartial-no_frame, IsPartial-take, BeginsFrames-IsPartial, IsBadStart-unique, HasNoFrame-IsBadStart}
use Rattle.rpc_framing.proofs.Splitting.{IsFrames-append}
use Rattle.rpc_framing.proofs.EachStream.{each_stream}

-- ---- frames

partial_has_no_frame : (f b r : List ℕ) → IsFrame f b → IsPartial (f ++ r) → ⊥
partial_has_no_frame f b r frame partial = IsPartial-no_frame (f ++ r) f b r partial frame refl

bad_has_no_frame : (f b r : List ℕ) (at : ℕ) → IsFrame f b → IsBadStart (f ++ r) at → ⊥
bad_has_no_frame f b r at frame bad = (HasNoFrame-IsBadStart (f ++ r) at bad).none f b r frame refl

bad_is_not_partial : (tail : List ℕ) (at : ℕ) → IsBadStart tail at → IsPartial tail → ⊥
bad_is_not_partial tail at bad partial = bad.bad (BeginsFrames-IsPartial (take at tail) (IsPartial-take at tail partial))

-- a frame of which less was taken is less than a whole one
front_is_partial : (f b : List ℕ) (k : ℕ) → IsFrame f b → k < length f → IsPartial (take k f)
front_is_partial f b k frame less = record {
  more = drop k f;
  body = b;
  some = omega (arith, length-drop k f);
  frame = subst (λ t. IsFrame t b) (sym (take-append-drop k f)) frame;
}

-- a frame that was taken whole is not less than one
taken_has_no_frame : (f b r : List ℕ) (k : ℕ) → IsFrame f b → length f ≤ k → IsPartial (take k (f ++ r)) → ⊥
taken_has_no_frame f b r k frame whole partial =
    IsPartial-no_frame (take k (f ++ r)) f b (take (k - length f) r) partial frame (take-past f r k whole)

-- nor is what was taken up to a bad start
bad_is_not_taken : (tail : List ℕ) (at k : ℕ) → IsBadStart tail at → at ≤ k → IsPartial (take k tail) → ⊥
bad_is_not_taken tail at k bad le partial =
    bad.bad (BeginsFrames-IsPartial (take at tail) (subst IsPartial (take-take at k tail le) (IsPartial-take at (take k tail) partial)))

-- but what was taken short of it is
short_of_bad : (tail : List ℕ) (at k : ℕ) → IsBadStart tail at → k < at → IsPartial (take k tail)
short_of_bad tail at k bad less = subst IsPartial (take-take k (at - 1) tail (omega arith)) (IsPartial-take k (take (at - 1) tail) bad.partial)

-- a stream is frames, and then a partial tail or one with a bad start
record Parts (bytes : List ℕ) : Type 0 where
  front : List ℕ
  bodies : List (List ℕ)
  tail : List ℕ
  whole : bytes ≡ front ++ tail
  frames : IsFrames front bodies
  tail_is : IsPartial tail ⊎ ((at : ℕ) × IsBadStart tail at)

parts : (bytes : List ℕ) → Parts bytes
parts bytes = elim (each_stream bytes) [
  | inl (bodies, rest, split) ↦ record { front = split.front; bodies = bodies; tail = rest; whole = split.is; frames = split.frames; tail_is = inl split.partial }
  | inr (bodies, departs, at, break) ↦ record { front = break.front; bodies = bodies; tail = break.tail; whole = break.is; frames = break.frames; tail_is = inr (break.within, break.bad) }
]

-- ---- one answer

-- two meetings of one frame are one
one_meeting : (s : Running) (tail : List ℕ) (a b : Heard) (m n : ℕ) → Meets s tail a m → Meets s tail b n → (a ≡ b) × (m ≡ n)
one_meeting s tail a b m n p q =
    let same = IsFrame-unique p.bytes q.bytes p.body q.body p.rest q.rest p.is_frame q.is_frame (sym p.whole ∙ q.whole) in
    (sym p.effect ∙ ap (hear s) same.1 ∙ q.effect, p.place ∙ ap length same.0 ∙ sym q.place)

partial_meets_nothing : (s : Running) (tail : List ℕ) (a : Heard) (m : ℕ) → Meets s tail a m → IsPartial tail → ⊥
partial_meets_nothing s tail a m p q = partial_has_no_frame p.bytes p.body p.rest p.is_frame (subst IsPartial p.whole q)

bad_meets_nothing : (s : Running) (tail : List ℕ) (a : Heard) (m at : ℕ) → Meets s tail a m → IsBadStart tail at → ⊥
bad_meets_nothing s tail a m at p q = bad_has_no_frame p.bytes p.body p.rest at p.is_frame (subst (λ t. IsBadStart t at) p.whole q)

taken_meets_nothing : (s : Running) (tail : List ℕ) (a : Heard) (m k : ℕ) → Meets s tail a m → m ≤ k → IsPartial (take k tail) → ⊥
taken_meets_nothing s tail a m k p le partial =
    let place = p.place in
    taken_has_no_frame p.bytes p.body p.rest k p.is_frame (omega arith) (subst (λ t. IsPartial (take k t)) p.whole partial)

-- the session goes on behind what was heard
abbrev is_going : Heard → Bool
is_going (Goes next first) = true
is_going (Ends closed rest) = false
is_going Lacks = false
is_going Differs = false

-- the end that a frame's body brings, where the session does not go on
abbrev brings : Heard → End
brings (Goes next first) = Differing
brings (Ends true rest) = Finished Done rest
brings (Ends false rest) = Finished NoShutdown rest
brings Lacks = Lacking
brings Differs = Differing

-- Why a session ends where it stands open: by the next frame, by the input's end, by a bad start, or by the most that
-- is taken.
data Cause (s : Running) (before : ℕ) (tail : List ℕ) (end : End) (taken : ℕ) : Type 0 where
  by_frame : (heard : Heard) → is_going heard ≡ false → Meets s tail heard taken → end ≡ brings heard → Cause s before tail end taken
  by_end : IsPartial tail → taken ≡ length tail → before + taken < most_input → end ≡ Finished InputEnded s.calls → Cause s before tail end taken
  by_bad : IsBadStart tail taken → end ≡ Finished (BadFrame (before + taken)) s.calls → Cause s before tail end taken
  by_limit : IsPartial (take taken tail) → taken ≤ length tail → before + taken ≡ most_input → end ≡ Finished InputTooLong s.calls → Cause s before tail end taken

-- a frame behind which the session does not go on is its end
ends_by_frame : (heard : Heard) (s : Running) (before : ℕ) (tail : List ℕ) (taken : ℕ) → is_going heard ≡ false → Meets s tail heard taken → EndsAt s before tail (brings heard) taken
ends_by_frame (Goes next first) s before tail taken stops met = absurd (no_going stops) where
  no_going : true ≡ false → ⊥
  no_going e = cc
ends_by_frame (Ends true rest) s before tail taken stops met = met
ends_by_frame (Ends false rest) s before tail taken stops met = met
ends_by_frame Lacks s before tail taken stops met = met
ends_by_frame Differs s before tail taken stops met = met

cause_of : (s : Running) (before : ℕ) (tail : List ℕ) (end : End) (taken : ℕ) → EndsAt s before tail end taken → Cause s before tail end taken
cause_of s before tail (Finished Done left) taken e = by_frame (Ends true left) refl e refl
cause_of s before tail (Finished NoShutdown left) taken e = by_frame (Ends false left) refl e refl
cause_of s before tail (Finished InputEnded left) taken e = by_end e.0 e.1 e.2 (ap (Finished InputEnded) e.3)
cause_of s before tail (Finished (BadFrame at) left) taken e = by_bad e.0 (ap (λ k. Finished (BadFrame k) left) e.1 ∙ ap (Finished (BadFrame (before + taken))) e.2)
cause_of s before tail (Finished InputTooLong left) taken e = by_limit e.0 e.1 e.2 (ap (Finished InputTooLong) e.3)
cause_of s before tail (Finished OutOfMemory left) taken e = absurd e
cause_of s before tail (Finished ReadFault left) taken e = absurd e
cause_of s before tail (Finished WriteFault left) taken e = absurd e
cause_of s before tail (Finished BadWords left) taken e = absurd e
cause_of s before tail Lacking taken e = by_frame Lacks refl e refl
cause_of s before tail Differing taken e = by_frame Differs refl e refl

-- where the session stands open, the next thing that happens is one
one_cause : (s : Running) (before : ℕ) (tail : List ℕ) (u v : End) (a b : ℕ) → before + a ≤ most_input → before + b ≤ most_input → Cause s before tail u a → Cause s before tail v b → (u ≡ v) × (a ≡ b)
one_cause s before tail u v a b la lb (by_frame heard stops met is) (by_frame other stops' met' is') =
    let same = one_meeting s tail heard other a b met met' in
    (is ∙ ap brings same.0 ∙ sym is', same.1)
one_cause s before tail u v a b la lb (by_frame heard stops met is) (by_end partial all few is') = absurd (partial_meets_nothing s tail heard a met partial)
one_cause s before tail u v a b la lb (by_frame heard stops met is) (by_bad bad is') = absurd (bad_meets_nothing s tail heard a b met bad)
one_cause s before tail u v a b la lb (by_frame heard stops met is) (by_limit partial le most is') = absurd (taken_meets_nothing s tail heard a b met (omega arith) partial)
one_cause s before tail u v a b la lb (by_end partial all few is) (by_frame heard stops met is') = absurd (partial_meets_nothing s tail heard b met partial)
one_cause s before tail u v a b la lb (by_end partial all few is) (by_end partial' all' few' is') = (is ∙ sym is', all ∙ sym all')
one_cause s before tail u v a b la lb (by_end partial all few is) (by_bad bad is') = absurd (bad_is_not_partial tail b bad partial)
one_cause s before tail u v a b la lb (by_end partial all few is) (by_limit partial' le most is') = absurd (omega arith)
one_cause s before tail u v a b la lb (by_bad bad is) (by_frame heard stops met is') = absurd (bad_meets_nothing s tail heard b a met bad)
one_cause s before tail u v a b la lb (by_bad bad is) (by_end partial all few is') = absurd (bad_is_not_partial tail a bad partial)
one_cause s before tail u v a b la lb (by_bad bad is) (by_bad bad' is') =
    let same = IsBadStart-unique tail a b bad bad' in
    (is ∙ ap (λ k. Finished (BadFrame (before + k)) s.calls) same ∙ sym is', same)
one_cause s before tail u v a b la lb (by_bad bad is) (by_limit partial le most is') = absurd (bad_is_not_taken tail a b bad (omega arith) partial)
one_cause s before tail u v a b la lb (by_limit partial le most is) (by_frame heard stops met is') = absurd (taken_meets_nothing s tail heard b a met (omega arith) partial)
one_cause s before tail u v a b la lb (by_limit partial le most is) (by_end partial' all few is') = absurd (omega arith)
one_cause s before tail u v a b la lb (by_limit partial le most is) (by_bad bad is') = absurd (bad_is_not_taken tail b a bad (omega arith) partial)
one_cause s before tail u v a b la lb (by_limit partial le most is) (by_limit partial' le' most' is') = (is ∙ sym is', (omega arith))

one_end : (s : Running) (before : ℕ) (tail : List ℕ) (u v : End) (a b : ℕ) → before + a ≤ most_input → before + b ≤ most_input → EndsAt s before tail u a → EndsAt s before tail v b → (u ≡ v) × (a ≡ b)
one_end s before tail u v a b la lb p q = one_cause s before tail u v a b la lb (cause_of s before tail u a p) (cause_of s before tail v b q)

-- a session that hears the next frame within what is taken and goes on has not ended there
end_is_no_frame : (s next : Running) (before : ℕ) (f b r : List ℕ) (first : List (List ℕ)) (u : End) (a : ℕ) → IsFrame f b → hear s b ≡ Goes next first → before + length f ≤ most_input → EndsAt s before (f ++ r) u a → ⊥
end_is_no_frame s next before f b r first u a p e room q = elim (cause_of s before (f ++ r) u a q) [
  | by_frame heard stops met is ↦
      let same = IsFrame-unique f met.bytes b met.body r met.rest p met.is_frame met.whole in
      let both : Goes next first ≡ heard = sym e ∙ ap (hear s) same.1 ∙ met.effect in
      let goes : true ≡ false = ap is_going both ∙ stops in
      cc
  | by_end partial all few is ↦ partial_has_no_frame f b r p partial
  | by_bad bad is ↦ bad_has_no_frame f b r a p bad
  | by_limit partial le most is ↦ taken_has_no_frame f b r a p (omega arith) partial
]

-- what was heard and what ended it, of an input in two readings
pub one_reading : (bs cs : List (List ℕ)) (s t v : Running) (before : ℕ) (f g x y : List ℕ) (ra rb : List (List ℕ)) (u w : End) (a b : ℕ)
    → IsFrames f bs → IsFrames g cs → f ++ x ≡ g ++ y → Leads s bs t ra → Leads s cs v rb
    → before + (length f + a) ≤ most_input → before + (length g + b) ≤ most_input
    → EndsAt t (before + length f) x u a → EndsAt v (before + length g) y w b → (ra ≡ rb) × (u ≡ w) × (length f + a ≡ length g + b)
one_reading [] [] s t v before f g x y ra rb u w a b p q e l m la lb end end' =
    let same_tail : x ≡ y = sym (ap (λ z. z ++ x) p) ∙ e ∙ ap (λ z. z ++ y) q in
    let lengths : length f ≡ length g = ap length p ∙ sym (ap length q) in
    let none : length f ≡ 0 = ap length p in
    let at : before + length g ≡ before + length f = omega arith in
    let there : EndsAt s (before + length f) x w b =
    subst (λ k. EndsAt s k x w b) at (subst (λ (z : Running). EndsAt z (before + length g) x w b) m.0 (subst (λ z. EndsAt v (before + length g) z w b) (sym same_tail) end')) in
    let here : EndsAt s (before + length f) x u a = subst (λ (z : Running). EndsAt z (before + length f) x u a) l.0 end in
    let same = one_end s (before + length f) x u w a b (omega arith) (omega arith) here there in
    (l.1 ∙ sym m.1, same.0, omega (arith, same.1))
one_reading [] (c ∷ cs) s t v before f g x y ra rb u w a b p (first, others, is, rest, cut) e l (next, said, more, goes, on, _) la lb end end' =
    let reads : x ≡ first ++ (others ++ y) = sym (ap (λ z. z ++ x) p) ∙ e ∙ ap (λ z. z ++ y) cut ∙ append_assoc first others y in
    let here : EndsAt s (before + length f) (first ++ (others ++ y)) u a = subst (λ z. EndsAt s (before + length f) z u a) reads (subst (λ (z : Running). EndsAt z (before + length f) x u a) l.0 end) in
    let none : length f ≡ 0 = ap length p in
    let size : length g ≡ length first + length others = ap length cut ∙ length-append first others in
    absurd (end_is_no_frame s next (before + length f) first c (others ++ y) said u a is goes (omega arith) here)
one_reading (b' ∷ bs) [] s t v before f g x y ra rb u w a b (first, others, is, rest, cut) q e (next, said, more, goes, on, _) m la lb end end' =
    let reads : y ≡ first ++ (others ++ x) = sym (ap (λ z. z ++ y) q) ∙ sym e ∙ ap (λ z. z ++ x) cut ∙ append_assoc first others x in
    let here : EndsAt s (before + length g) (first ++ (others ++ x)) w b = subst (λ z. EndsAt s (before + length g) z w b) reads (subst (λ (z : Running). EndsAt z (before + length g) y w b) m.0 end') in
    let none : length g ≡ 0 = ap length q in
    let size : length f ≡ length first + length others = ap length cut ∙ length-append first others in
    absurd (end_is_no_frame s next (before + length g) first b' (others ++ x) said w b is goes (omega arith) here)
one_reading (b' ∷ bs) (c ∷ cs) s t v before f g x y ra rb u w a b (first, others, is, rest, cut) (first', others', is', rest', cut') e (next, said, more, goes, on, all) (next', said', more', goes', on', all') la lb end end' =
    let cuts : first ++ (others ++ x) ≡ first' ++ (others' ++ y) =
    sym (append_assoc first others x) ∙ sym (ap (λ z. z ++ x) cut) ∙ e ∙ ap (λ z. z ++ y) cut' ∙ append_assoc first' others' y in
    let same = IsFrame-unique first first' b' c (others ++ x) (others' ++ y) is is' cuts in
    let met : Goes next said ≡ Goes next' said' = sym goes ∙ ap (hear s) same.1 ∙ goes' in
    let same_next : next ≡ next' = cc in
    let same_said : said ≡ said' = cc in
    let on_too : Leads next cs v more' = subst (λ (z : Running). Leads z cs v more') (sym same_next) on' in
    let lengths : length f ≡ length first + length others = ap length cut ∙ length-append first others in
    let lengths' : length g ≡ length first' + length others' = ap length cut' ∙ length-append first' others' in
    let firsts : length first ≡ length first' = ap length same.0 in
    let before_is : before + length f ≡ (before + length first) + length others = omega arith in
    let before_is' : before + length g ≡ (before + length first) + length others' = omega arith in
    let end_here : EndsAt t ((before + length first) + length others) x u a = subst (λ k. EndsAt t k x u a) before_is end in
    let end_there : EndsAt v ((before + length first) + length others') y w b = subst (λ k. EndsAt v k y w b) before_is' end' in
    let behind = one_reading bs cs next t v (before + length first) others others' x y more more' u w a b rest rest' same.2 on on_too (omega arith) (omega arith) end_here end_there in
    (all ∙ ap (λ z. z ++ more) same_said ∙ ap (λ z. said' ++ z) behind.0 ∙ sym all', behind.1, omega (arith, behind.2))

-- one course for an input
pub one_course : (from : Running) (before : ℕ) (bytes : List ℕ) (replies others : List (List ℕ)) (end other : End) (taken count : ℕ)
    → Course from before bytes replies end taken → Course from before bytes others other count
    → (replies ≡ others) × (end ≡ other) × (taken ≡ count)
one_course from before bytes replies others end other taken count p q =
    let one = p.count in
    let two = q.count in
    let room = p.within in
    let space = q.within in
    let same = one_reading p.bodies q.bodies from p.session q.session before p.front q.front p.tail q.tail replies others end other p.place q.place
    p.frames q.frames (sym p.whole ∙ q.whole) p.heard q.heard (omega arith) (omega arith) p.ends q.ends in
    (same.0, same.1, p.count ∙ same.2 ∙ sym q.count)

-- the status of an end
abbrev status_at : End → Option Status
status_at (Finished status left) = Some status
status_at Lacking = None
status_at Differing = None

one_status : (status other : Option Status) → end_of status ≡ end_of other → status ≡ other
one_status (Some status) (Some other) same = ap status_at same
one_status (Some status) None same = ap status_at same
one_status None (Some other) same = ap status_at same
one_status None None same = refl

-- one output, one status and one count for an input
pub one_out : (from : Running) (before : ℕ) (bytes : List ℕ) (replies others : List (List ℕ)) (status other : Option Status) (taken count : ℕ)
    → Out from before bytes replies status taken → Out from before bytes others other count
    → (replies ≡ others) × (status ≡ other) × (taken ≡ count)
one_out from before bytes replies others status other taken count p q =
    let same = one_course from before bytes replies others (end_of status) (end_of other) taken count p q in
    (same.0, one_status status other same.1, same.2)

-- an output does not stray
not_astray : (status : Option Status) → IsAstray (end_of status) → ⊥
not_astray (Some status) astray = astray refl
not_astray None astray = absurd astray

pub never_both : (from : Running) (before : ℕ) (bytes : List ℕ) (replies : List (List ℕ)) (status : Option Status) (taken : ℕ) → Out from before bytes replies status taken → Strays from before bytes → ⊥
never_both from before bytes replies status taken o strays =
    let same = one_course from before bytes replies strays.replies (end_of status) strays.end taken strays.taken o strays.course in
    not_astray status (subst IsAstray (sym same.1) strays.astray)

-- ---- some course

-- there is a course of this input
pub record SomeCourse (from : Running) (before : ℕ) (bytes : List ℕ) : Type 0 where
  pub replies : List (List ℕ)
  pub end : End
  pub taken : ℕ
  pub course : Course from before bytes replies end taken

pub Leads-append : (bs cs : List (List ℕ)) (s t v : Running) (first rest : List (List ℕ)) → Leads s bs t first → Leads t cs v rest → Leads s (bs ++ cs) v (first ++ rest)
Leads-append [] cs s t v first rest p q =
    let from_here : Leads s cs v rest = subst (λ (z : Running). Leads z cs v rest) p.0 q in
    subst (λ z. Leads s cs v (z ++ rest)) (sym p.1) from_here
Leads-append (b ∷ bs) cs s t v first rest (next, said, more, goes, on, all) q =
    (next, said, more ++ rest, goes, Leads-append bs cs next t v more rest on q, ap (λ z. z ++ rest) all ∙ append_assoc said more rest)

-- what was heard before goes before
pub Course-behind : (bs : List (List ℕ)) (s t : Running) (before : ℕ) (front bytes : List ℕ) (first rest : List (List ℕ)) (end : End) (taken : ℕ)
    → IsFrames front bs → Leads s bs t first → Course t (before + length front) bytes rest end taken → Course s before (front ++ bytes) (first ++ rest) end (length front + taken)
Course-behind bs s t before front bytes first rest end taken p l o = record {
  front = front ++ o.front;
  bodies = bs ++ o.bodies;
  tail = o.tail;
  session = o.session;
  place = o.place;
  whole = ap (λ z. front ++ z) o.whole ∙ sym (append_assoc front o.front o.tail);
  frames = IsFrames-append bs o.bodies front o.front p o.frames;
  heard = Leads-append bs o.bodies s t o.session first rest l o.heard;
  ends = let counted : before + length front + length o.front ≡ before + length (front ++ o.front) = omega (arith, length-append front o.front) in
      subst (λ k. EndsAt o.session k o.tail end o.place) counted o.ends;
  count = omega (arith, o.count, length-append front o.front);
  within = let room = o.within in omega arith;
}

-- the session ends with the next thing that happens
pub Course-here : (s : Running) (before : ℕ) (bytes : List ℕ) (end : End) (taken : ℕ) → before + taken ≤ most_input → EndsAt s before bytes end taken → Course s before bytes [] end taken
Course-here s before bytes end taken room ends = record {
  front = [];
  bodies = [];
  tail = bytes;
  session = s;
  place = taken;
  whole = refl;
  frames = refl;
  heard = (refl, refl);
  ends = let at : before ≡ before + 0 = omega arith in subst (λ k. EndsAt s k bytes end taken) at ends;
  count = omega arith;
  within = room;
}

-- all was taken that may be
course_at_limit : (s : Running) (before : ℕ) (bytes : List ℕ) (taken : ℕ) → IsPartial (take taken bytes) → taken ≤ length bytes → before + taken ≡ most_input → SomeCourse s before bytes
course_at_limit s before bytes taken partial le most = record { replies = []; end = Finished InputTooLong s.calls; taken = taken; course = Course-here s before bytes (Finished InputTooLong s.calls) taken (omega arith) (partial, le, most, refl) }

-- one frame and what comes behind it
one_more : (b : List ℕ) (s t : Running) (before : ℕ) (f bytes : List ℕ) (first : List (List ℕ)) → IsFrame f b → hear s b ≡ Goes t first → SomeCourse t (before + length f) bytes → SomeCourse s before (f ++ bytes)
one_more b s t before f bytes first p goes o = record {
  replies = first ++ o.replies;
  end = o.end;
  taken = length f + o.taken;
  course = let frames : IsFrames f (b ∷ []) = (f, [], p, refl, sym (append-nil f)) in
      let leads : Leads s (b ∷ []) t first = (t, first, [], goes, (refl, refl), sym (append-nil first)) in
      Course-behind (b ∷ []) s t before f bytes first o.replies o.end o.taken frames leads o.course;
}

-- a frame whose body comes to this
pub met_frame : (b : List ℕ) (s : Running) (f bytes : List ℕ) (heard : Heard) → IsFrame f b → hear s b ≡ heard → Meets s (f ++ bytes) heard (length f)
met_frame b s f bytes heard p e = record { bytes = f; body = b; rest = bytes; whole = refl; is_frame = p; effect = e; place = refl }

-- one frame at which the session ends
ends_there : (b : List ℕ) (s : Running) (before : ℕ) (f bytes : List ℕ) (heard : Heard) → IsFrame f b → hear s b ≡ heard → is_going heard ≡ false → before + length f ≤ most_input → SomeCourse s before (f ++ bytes)
ends_there b s before f bytes heard is ends stops within = record {
  replies = [];
  end = brings heard;
  taken = length f;
  course = Course-here s before (f ++ bytes) (brings heard) (length f) within (ends_by_frame heard s before (f ++ bytes) (length f) stops (met_frame b s f bytes heard is ends));
}

-- a frame that passes what may be taken
course_past : (b : List ℕ) (s : Running) (before : ℕ) (f bytes : List ℕ) → IsFrame f b → before ≤ most_input → most_input < before + length f → SomeCourse s before (f ++ bytes)
course_past b s before f bytes is room past =
    let k : ℕ = most_input - before in
    let less : k < length f = omega arith in
    let same : take k (f ++ bytes) ≡ take k f = take-append-le k f bytes (omega arith) in
    course_at_limit s before (f ++ bytes) k (subst IsPartial (sym same) (front_is_partial f b k is less)) (omega (arith, length-append f bytes)) (omega arith)

-- less than a whole frame
course_of_partial : (s : Running) (before : ℕ) (tail : List ℕ) → before ≤ most_input → IsPartial tail → SomeCourse s before tail
course_of_partial s before tail room partial = elim (cases_lt (before + length tail) most_input) [
  | inl few ↦ record { replies = []; end = Finished InputEnded s.calls; taken = length tail; course = Course-here s before tail (Finished InputEnded s.calls) (length tail) (omega arith) (partial, refl, few, refl) }
  | inr many ↦ course_at_limit s before tail (most_input - before) (IsPartial-take (most_input - before) tail partial) (omega arith) (omega arith)
]

-- a bad start
course_of_bad : (s : Running) (before : ℕ) (tail : List ℕ) (at : ℕ) → before ≤ most_input → IsBadStart tail at → SomeCourse s before tail
course_of_bad s before tail at room bad = elim (cases_lt most_input (before + at)) [
  | inr within ↦ record { replies = []; end = Finished (BadFrame (before + at)) s.calls; taken = at; course = Course-here s before tail (Finished (BadFrame (before + at)) s.calls) at within (bad, refl, refl) }
  | inl past ↦ let long = bad.within in course_at_limit s before tail (most_input - before) (short_of_bad tail at (most_input - before) bad (omega arith)) (omega arith) (omega arith)
]

walk : (bs : List (List ℕ)) (s : Running) (before : ℕ) (front tail : List ℕ) → before ≤ most_input → IsFrames front bs → IsPartial tail ⊎ ((at : ℕ) × IsBadStart tail at) → SomeCourse s before (front ++ tail)
walk [] s before front tail room p (inl partial) = subst (λ z. SomeCourse s before (z ++ tail)) (sym p) (course_of_partial s before tail room partial)
walk [] s before front tail room p (inr (at, bad)) = subst (λ z. SomeCourse s before (z ++ tail)) (sym p) (course_of_bad s before tail at room bad)
walk (b ∷ bs) s before front tail room (f, rest, is, frames, cut) t =
    let reads : f ++ (rest ++ tail) ≡ front ++ tail = sym (append_assoc f rest tail) ∙ sym (ap (λ z. z ++ tail) cut) in
    subst (SomeCourse s before) reads (elim (cases_lt most_input (before + length f)) [
      | inl past ↦ course_past b s before f (rest ++ tail) is room past
      | inr within ↦ by_heard (hear s b) refl within (λ next. walk bs next (before + length f) rest tail within frames t)
    ])
  where
    by_heard : (heard : Heard) → hear s b ≡ heard → before + length f ≤ most_input → ((next : Running) → SomeCourse next (before + length f) (rest ++ tail)) → SomeCourse s before (f ++ (rest ++ tail))
    by_heard (Goes next first) goes within behind_it = one_more b s next before f (rest ++ tail) first is goes (behind_it next)
    by_heard (Ends closed left) ends within behind_it = ends_there b s before f (rest ++ tail) (Ends closed left) is ends refl within
    by_heard Lacks ends within behind_it = ends_there b s before f (rest ++ tail) Lacks is ends refl within
    by_heard Differs ends within behind_it = ends_there b s before f (rest ++ tail) Differs is ends refl within

-- each input has a course, wherever the session stands
pub some_course : (s : Running) (before : ℕ) (bytes : List ℕ) → before ≤ most_input → SomeCourse s before bytes
some_course s before bytes room =
    let p = parts bytes in
    subst (SomeCourse s before) (sym p.whole) (walk p.bodies s before p.front p.tail room p.frames p.tail_is)

-- ---- some output

-- there is an output of this input
pub record SomeOut (from : Running) (before : ℕ) (bytes : List ℕ) : Type 0 where
  pub replies : List (List ℕ)
  pub status : Option Status
  pub taken : ℕ
  pub out : Out from before bytes replies status taken

-- a course is an output, or it strays
output_or_astray : (from : Running) (before : ℕ) (bytes : List ℕ) (replies : List (List ℕ)) (end : End) (taken : ℕ) → Course from before bytes replies end taken → SomeOut from before bytes ⊎ IsAstray end
output_or_astray from before bytes replies (Finished status []) taken course = inl (record { replies = replies; status = Some status; taken = taken; out = course })
output_or_astray from before bytes replies (Finished status (call ∷ others)) taken course = inr (λ none. cc)
output_or_astray from before bytes replies Lacking taken course = inl (record { replies = replies; status = None; taken = taken; out = course })
output_or_astray from before bytes replies Differing taken course = inr tt

pub either_out : (from : Running) (before : ℕ) (bytes : List ℕ) → before ≤ most_input
    → ((replies : List (List ℕ)) × (status : Option Status) × (taken : ℕ) × Out from before bytes replies status taken) ⊎ Strays from before bytes
either_out from before bytes room =
    let some = some_course from before bytes room in
    elim (output_or_astray from before bytes some.replies some.end some.taken some.course) [
      | inl o ↦ inl (o.replies, o.status, o.taken, o.out)
      | inr astray ↦ inr (record { replies = some.replies; end = some.end; taken = some.taken; course = some.course; astray = astray })
    ]

-- ---- where no call is to come

-- Turns leave the calls of the library that are to come
turns_keep : (n : ℕ) (r : Running) → (turns n r).next.calls ≡ r.calls
turns_keep zero r = refl
turns_keep (suc n) r = by_held (is_held r.since r.waits) (turns_keep n after) where
  after : Running
  after = record r { state = (turn r.state).state; waits = unasked r.since r.waits; since = 0 }

  by_held : (b : Bool) → (turns n after).next.calls ≡ r.calls
      → (if b then none_made (record r { waits = unasked r.since r.waits }) else behind (turn r.state).bodies (turns n after)).next.calls ≡ r.calls
  by_held true behind_it = refl
  by_held false behind_it = behind_it

-- what is heard makes the calls that its event makes
heard_in_makes : (p : Connection) (r : Running) (state : State) (bodies : List (List ℕ)) (rest : List LibraryCall) → rest ≡ [] → MakesEach (heard_in p r state bodies rest)
heard_in_makes connection.Running r state bodies rest none = turns_keep (length state.queue) (in_state state r.waits rest (one_message_more r.since)) ∙ none
heard_in_makes (connection.Exit closed) r state bodies rest none = none

pub heard_makes : (r : Running) (s : step.Step) → step.MakesAll s → MakesEach (heard_of r s)
heard_makes r (step.Goes state bodies rest) makes = heard_in_makes (connection_of state) r state bodies rest makes
heard_makes r step.Stopped makes = tt
heard_makes r step.Other makes = absurd makes

-- where none is to come, each was made
hear_makes : (r : Running) (body : List ℕ) → r.calls ≡ [] → MakesEach (hear r body)
unfolding hear
hear_makes r body none = heard_makes r (message r.state body r.calls) (subst (λ (z : List LibraryCall). step.MakesAll (message r.state body z)) (sym none) (message_unanswered r.state body))

Leads-none : (bs : List (List ℕ)) (s t : Running) (replies : List (List ℕ)) → s.calls ≡ [] → Leads s bs t replies → t.calls ≡ []
Leads-none [] s t replies none (same, all) = ap (λ (z : Running). z.calls) same ∙ none
Leads-none (b ∷ bs) s t replies none (next, said, more, goes, on, all) = Leads-none bs next t more (subst MakesEach goes (hear_makes s b none)) on

-- a session with no call to come does not stray
met_makes : (s : Running) (tail : List ℕ) (heard : Heard) (taken : ℕ) → s.calls ≡ [] → Meets s tail heard taken → MakesEach heard
met_makes s tail heard taken none met = subst MakesEach met.effect (hear_makes s met.body none)

end_not_astray : (s : Running) (before : ℕ) (tail : List ℕ) (end : End) (taken : ℕ) → s.calls ≡ [] → EndsAt s before tail end taken → IsAstray end → ⊥
end_not_astray s before tail (Finished Done left) taken none e astray = astray (met_makes s tail (Ends true left) taken none e)
end_not_astray s before tail (Finished NoShutdown left) taken none e astray = astray (met_makes s tail (Ends false left) taken none e)
end_not_astray s before tail (Finished InputEnded left) taken none e astray = astray (e.3 ∙ none)
end_not_astray s before tail (Finished (BadFrame at) left) taken none e astray = astray (e.2 ∙ none)
end_not_astray s before tail (Finished InputTooLong left) taken none e astray = astray (e.3 ∙ none)
end_not_astray s before tail (Finished OutOfMemory left) taken none e astray = absurd e
end_not_astray s before tail (Finished ReadFault left) taken none e astray = absurd e
end_not_astray s before tail (Finished WriteFault left) taken none e astray = absurd e
end_not_astray s before tail (Finished BadWords left) taken none e astray = absurd e
end_not_astray s before tail Lacking taken none e astray = absurd astray
end_not_astray s before tail Differing taken none e astray = absurd (met_makes s tail Differs taken none e)

-- each input has an output there
pub some_out : (s : Running) (before : ℕ) (bytes : List ℕ) → s.calls ≡ [] → before ≤ most_input → SomeOut s before bytes
some_out s before bytes none room =
    let some = some_course s before bytes room in
    let course = some.course in
    elim (output_or_astray s before bytes some.replies some.end some.taken course) [
      | inl o ↦ o
      | inr astray ↦ absurd (end_not_astray course.session (before + length course.front) course.tail some.end course.place (Leads-none course.bodies s course.session some.replies none course.heard) course.ends astray)
    ]
