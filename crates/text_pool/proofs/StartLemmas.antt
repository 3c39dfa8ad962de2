-- Where lines begin, one after the other.
use Rattle.std.proofs.Common.{◌≡◌, ◌∙◌, ℕ, zero, suc, ◌+◌, ◌-◌, ◌<◌, true, false, List, [], ◌∷◌, ◌++◌, length, take, drop, refl, sym, ap, subst, arith, inl, inr, length-append, length-drop, get_or-drop, add-zero}
use Rattle.std.proofs.Math.Seq.{take-length}
use Rattle.std.specs.Prelude.{chars, IsUtf8, IsCharBoundary, position, Some, slice_get, slice_index}
use Rattle.std.proofs.lemmas.Bool.{cases_lt}
use Rattle.std.proofs.lemmas.List.{drop-drop, get_or_append_left, get_or-append-add}
use Rattle.std.proofs.lemmas.Str.{IsUtf8-drop, IsCharBoundary-start, IsCharBoundary-from_rest}
use Rattle.hl_base.specs.Texts.{lines, begins_crlf}
use Rattle.hl_base.specs.Remaining.{ends_line}
use Rattle.hl_base.proofs.LineLaws.{cut_before_end, cut_behind_crlf, cut_behind_end, found_end, lines-first, lines-behind_crlf, lines-behind_end}
use Rattle.text_pool.specs.Starts.{BeginsAt, AreStarts}

-- a text begins with a line end of so many bytes
pub record EndsBy (bytes : List ℕ) (width : ℕ) : Type 0 where
  pub cut : IsCharBoundary bytes width
  pub rest : lines (chars bytes) ≡ [] ∷ lines (chars (drop width bytes))

pub EndsBy-crlf : (bytes : List ℕ) → IsUtf8 bytes → begins_crlf (slice_index bytes 0) (drop 1 bytes) ≡ true → EndsBy bytes 2
EndsBy-crlf bytes u crlf = record { cut = cut_behind_crlf bytes u crlf; rest = lines-behind_crlf bytes u crlf }

pub EndsBy-alone : (bytes : List ℕ) → IsUtf8 bytes → ends_line (slice_index bytes 0) ≡ true →
    begins_crlf (slice_index bytes 0) (drop 1 bytes) ≡ false → EndsBy bytes 1
EndsBy-alone bytes u ends alone = record { cut = cut_behind_end bytes u ends; rest = lines-behind_end bytes u ends alone }

-- bytes from a place on, up to their end
pub take-behind : (bytes : List ℕ) (at : ℕ) → take (length bytes - at) (drop at bytes) ≡ drop at bytes
take-behind bytes at = ap (λ n. take n (drop at bytes)) (sym (length-drop at bytes)) ∙ take-length (drop at bytes)

-- the next line begins behind the first line end
pub BeginsAt-next : (bytes : List ℕ) (start at width next : ℕ) → IsUtf8 bytes → IsCharBoundary bytes start →
    position ends_line (drop start bytes) ≡ Some at → EndsBy (drop at (drop start bytes)) width → next ≡ start + at + width →
    (line : ℕ) → BeginsAt bytes line start → BeginsAt bytes (line + 1) next
BeginsAt-next bytes start at width next u cut found ends is line begins =
    let rest : List ℕ = drop start bytes in
    let utf8 : IsUtf8 rest = IsUtf8-drop bytes start u cut in
    let within : at < length rest = (found_end rest at found).0 in
    let place : start + (at + width) ≡ next = omega (arith, is) in
    let behind : drop width (drop at rest) ≡ drop next bytes =
    drop-drop width at rest ∙ drop-drop (at + width) start bytes ∙ ap (λ n. drop n bytes) place in
    record {
      cut =
          subst (IsCharBoundary bytes) place
          (IsCharBoundary-from_rest bytes start (at + width) cut.0
          (IsCharBoundary-from_rest rest at width (omega (arith, within)) ends.cut));
      rest =
          sym (ap (λ bs. lines (chars bs)) behind)
          ∙ sym (ap (drop 1) (lines-first rest at _ utf8 found ends.rest))
          ∙ ap (drop 1) begins.rest
          ∙ drop-drop 1 line (lines (chars bytes));
    }

module _ (bytes : List ℕ) (start at : ℕ) (u : IsUtf8 bytes) (cut : IsCharBoundary bytes start)
    (found : position ends_line (drop start bytes) ≡ Some at) where
  -- what stands from the first line end on
  end_on : IsUtf8 (drop at (drop start bytes))
  end_on = IsUtf8-drop (drop start bytes) at (IsUtf8-drop bytes start u cut) (cut_before_end (drop start bytes) at found)

  pub BeginsAt-behind_crlf :
      begins_crlf (slice_index (drop at (drop start bytes)) 0) (drop 1 (drop at (drop start bytes))) ≡ true →
      (line : ℕ) → BeginsAt bytes line start → BeginsAt bytes (line + 1) (start + at + 2)
  BeginsAt-behind_crlf crlf =
      BeginsAt-next bytes start at 2 (start + at + 2) u cut found (EndsBy-crlf (drop at (drop start bytes)) end_on crlf) refl

  pub BeginsAt-behind_end :
      begins_crlf (slice_index (drop at (drop start bytes)) 0) (drop 1 (drop at (drop start bytes))) ≡ false →
      (line : ℕ) → BeginsAt bytes line start → BeginsAt bytes (line + 1) (start + at + 1)
  BeginsAt-behind_end alone =
      let front : slice_index (drop at (drop start bytes)) 0 ≡ slice_index (drop start bytes) at =
      get_or-drop at (drop start bytes) 0 0 ∙ ap (slice_index (drop start bytes)) (add-zero at) in
      let ends : ends_line (slice_index (drop at (drop start bytes)) 0) ≡ true =
      ap ends_line front ∙ (found_end (drop start bytes) at found).1 in
      BeginsAt-next bytes start at 1 (start + at + 1) u cut found (EndsBy-alone (drop at (drop start bytes)) end_on ends alone) refl

-- where the lines so far begin, and where the next one does
pub record AreFirst (bytes starts : List ℕ) (start : ℕ) : Type 0 where
  pub each : (line : ℕ) → line < length starts → BeginsAt bytes line (slice_index starts line)
  pub next : BeginsAt bytes (length starts) start

-- the first line begins where the text does
pub AreFirst-none : (bytes starts : List ℕ) (start : ℕ) → IsUtf8 bytes → starts ≡ [] → start ≡ 0 → AreFirst bytes starts start
AreFirst-none bytes starts start u none first = record {
  each = λ line before. absurd (omega (arith, before, ap length none));
  next =
      subst (λ xs. BeginsAt bytes (length xs) start) (sym none)
      (subst (BeginsAt bytes 0) (sym first) (record { cut = IsCharBoundary-start bytes u; rest = refl }));
}

-- the last of them
last_of : (starts : List ℕ) (start : ℕ) → slice_index (starts ++ start ∷ []) (length starts) ≡ start
last_of starts start =
    ap (slice_index (starts ++ start ∷ [])) (sym (add-zero (length starts))) ∙ get_or-append-add starts (start ∷ []) 0 0

-- the beginning of one line more
pub AreStarts-push : (bytes starts : List ℕ) (start : ℕ) → AreFirst bytes starts start → AreStarts bytes (starts ++ start ∷ [])
AreStarts-push bytes starts start first = record {
  some = omega (arith, length-append starts (start ∷ []));
  each = λ line before. elim (cases_lt line (length starts)) [
    | inl earlier ↦
        subst (BeginsAt bytes line) (sym (get_or_append_left starts (start ∷ []) 0 line earlier)) (first.each line earlier)
    | inr last ↦
        let is : length starts ≡ line = omega (arith, before, last, length-append starts (start ∷ [])) in
        subst (λ n. BeginsAt bytes n (slice_index (starts ++ start ∷ []) n)) is
        (subst (BeginsAt bytes (length starts)) (sym (last_of starts start)) first.next)
  ];
}

-- and where the line behind that begins
pub AreFirst-push : (bytes starts : List ℕ) (start next : ℕ) → AreFirst bytes starts start →
    ((line : ℕ) → BeginsAt bytes line start → BeginsAt bytes (line + 1) next) → AreFirst bytes (starts ++ start ∷ []) next
AreFirst-push bytes starts start next first follows = record {
  each = (AreStarts-push bytes starts start first).each;
  next =
      subst (λ n. BeginsAt bytes n next) (sym (length-append starts (start ∷ [])))
      (follows (length starts) first.next);
}

-- a line behind those in front
pub slice_get-behind : {A : Type 0} (xs : List A) (front behind at : ℕ) → at ≡ front + behind →
    slice_get (drop front xs) behind ≡ slice_get xs at
slice_get-behind xs zero behind at is = ap (slice_get xs) (omega (arith, is))
slice_get-behind [] (suc front) behind at is = refl
slice_get-behind (x ∷ xs) (suc front) behind zero is = absurd (omega (arith, is))
slice_get-behind (x ∷ xs) (suc front) behind (suc at) is = slice_get-behind xs front behind at (omega (arith, is))
