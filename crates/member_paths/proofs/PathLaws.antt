-- Paths by where their last `/` stands, names by their first period, and folders by their ends.
use Rattle.std.proofs.Common.{◌≡◌, ◌≢◌, ◌∙◌, ℕ, ◌+◌, ◌-◌, ◌<◌, Bool, true, false, not, List, [], ◌∷◌, ◌++◌, length, take, drop, get_or, refl, sym, ap, subst, arith, lit<, append-nil, length-append, append_assoc, take-append-drop, zero, suc}
use Rattle.std.specs.Prelude.{None, encode_utf8_all, chars, IsUtf8, slice_index, if◌then◌else◌}
use Rattle.std.specs.Str.{NonePass, NoCharPasses}
use Rattle.std.specs.Str.Pattern.{HasCharAt, FindsChar, RFindsChar, SplitsAroundMatch}
use Rattle.std.specs.List.{before_first, before_last, after_last, suffix_len, position_or_len}
use Rattle.std.proofs.lemmas.Bool.{eqb-true, both_ways, false_from_ne_true, true≢false, cond-true, cond-false}
use Rattle.std.proofs.lemmas.List.{length_push, get_or_append_left, get_or-append_right, take_at, drop_at, drop_more}
use Rattle.std.proofs.lemmas.List.Sums.{suffix_len_is, position_or_len_is}
use Rattle.std.proofs.lemmas.Str.{chars_from_encodes, chars-append, chars-encodes, chars-nil, IsUtf8-nil, encode_ascii, encodes-chars, IsUtf8-take, IsUtf8-drop, IsUtf8-append, IsCharBoundary-before_ascii, IsCharBoundary-after_ascii, len_utf8_ascii, char_from_byte, encodes-append}
use Rattle.std.proofs.lemmas.Str.Pattern.{drop_at_char}
use Rattle.std.proofs.Math.ListN.{drop_of_length-le}
use Rattle.hl_base.proofs.LineLaws.{chars-ascii}
use Rattle.member_paths.specs.Paths.{slash, is_slash, is_period, folder_of, file_name_of, without_slash, folder_path}

-- no character among these passes, by their places
NonePass-at : (p : ℕ → Bool) (cs : List ℕ) (k d : ℕ) → NonePass p cs → k < length cs → p (get_or cs k d) ≡ false
NonePass-at p [] k d h lt = absurd (omega arith)
NonePass-at p (c ∷ cs) zero d h lt = h.0
NonePass-at p (c ∷ cs) (suc k) d h lt = NonePass-at p cs k d h.1 (omega arith)

not-false : (b : Bool) → b ≡ false → not b ≡ true
not-false b e = rw e refl

not-true : (b : Bool) → b ≡ true → not b ≡ false
not-true b e = rw e refl

-- ---- lists that a character parts

module _ (p : ℕ → Bool) (xs : List ℕ) (c : ℕ) (ys : List ℕ) where
  -- the character stands behind the front
  at_length : get_or (xs ++ c ∷ ys) (length xs) 0 ≡ c
  at_length =
      let first : length xs - length xs ≡ 0 = omega arith in
      get_or-append_right xs (c ∷ ys) (length xs) (length xs) 0 refl (omega arith) ∙ ap (λ i. get_or (c ∷ ys) i 0) first

  -- and what follows it behind that
  behind_length : (k : ℕ) → length xs < k → get_or (xs ++ c ∷ ys) k 0 ≡ get_or ys (k - length xs - 1) 0
  behind_length k lt =
      let inner : k - length xs ≡ suc (k - length xs - 1) = omega arith in
      get_or-append_right xs (c ∷ ys) (length xs) k 0 refl (omega arith) ∙ ap (λ i. get_or (c ∷ ys) i 0) inner

  whole_length : length (xs ++ c ∷ ys) ≡ length xs + 1 + length ys
  whole_length = omega (arith, length-append xs (c ∷ ys))

  module _ (here : p c ≡ true) (others : NonePass p ys) where
    suffix_at : suffix_len (λ x. not (p x)) (xs ++ c ∷ ys) ≡ length ys
    suffix_at =
        let last : length xs + 1 - 1 ≡ length xs = omega arith in
        let found = suffix_len_is (λ x. not (p x)) (xs ++ c ∷ ys) (length xs + 1) 0 (omega (arith, whole_length))
        (λ k low high. not-false _ (ap p (behind_length k (omega arith)) ∙ NonePass-at p ys (k - length xs - 1) 0 others (omega (arith, whole_length))))
        (λ some. not-true _ (ap (λ i. p (get_or (xs ++ c ∷ ys) i 0)) last ∙ ap p at_length ∙ here)) in
        found ∙ omega (arith, whole_length)

    before_last-at : before_last p (xs ++ c ∷ ys) ≡ xs
    before_last-at = take_at xs (c ∷ ys) _ (omega (arith, suffix_at, whole_length))

    after_last-at : after_last p (xs ++ c ∷ ys) ≡ ys
    after_last-at =
        let n = length (xs ++ c ∷ ys) - suffix_len (λ x. not (p x)) (xs ++ c ∷ ys) in
        ap (drop n) (sym (append_assoc xs (c ∷ []) ys))
        ∙ drop_at (xs ++ c ∷ []) ys n (omega (arith, suffix_at, whole_length, length_push xs c))

  -- the first character that passes parts a list
  before_first-at : p c ≡ true → NonePass p xs → before_first p (xs ++ c ∷ ys) ≡ xs
  before_first-at here others =
      let front : position_or_len p (xs ++ c ∷ ys) ≡ length xs =
      position_or_len_is p (xs ++ c ∷ ys) (length xs) 0 (omega (arith, whole_length))
      (λ k lt. ap p (get_or_append_left xs (c ∷ ys) 0 k lt) ∙ NonePass-at p xs k 0 others lt)
      (λ _. ap p at_length ∙ here) in
      take_at xs (c ∷ ys) _ (sym front)

module _ (p : ℕ → Bool) (xs : List ℕ) (none : NonePass p xs) where
  suffix_none : suffix_len (λ x. not (p x)) xs ≡ length xs
  suffix_none =
      let whole : length xs - 0 ≡ length xs = omega arith in
      suffix_len_is (λ x. not (p x)) xs 0 0 (omega arith)
      (λ k low high. not-false _ (NonePass-at p xs k 0 none high)) (λ some. absurd (omega arith)) ∙ whole

  before_last-none : before_last p xs ≡ []
  before_last-none =
      let nothing : length xs - suffix_len (λ x. not (p x)) xs - 1 ≡ 0 = omega (arith, suffix_none) in
      ap (λ n. take n xs) nothing

  after_last-none : after_last p xs ≡ xs
  after_last-none =
      let nothing : length xs - suffix_len (λ x. not (p x)) xs ≡ 0 = omega (arith, suffix_none) in
      ap (λ n. drop n xs) nothing

  before_first-none : before_first p xs ≡ xs
  before_first-none =
      let front : position_or_len p xs ≡ length xs =
      position_or_len_is p xs (length xs) 0 (omega arith) (λ k lt. NonePass-at p xs k 0 none lt) (λ lt. absurd (omega arith)) in
      ap (take (position_or_len p xs)) (sym (append-nil xs)) ∙ take_at xs [] _ (sym front)

-- ---- the laws for callers

-- a file in a folder: its folder and its name
pub folder_of-joined : (folder name : List ℕ) → NonePass is_slash name → folder_of (folder ++ slash ∷ name) ≡ folder
unfolding folder_of
folder_of-joined folder name none = before_last-at is_slash folder slash name refl none

pub file_name_of-joined : (folder name : List ℕ) → NonePass is_slash name → file_name_of (folder ++ slash ∷ name) ≡ name
unfolding file_name_of
file_name_of-joined folder name none = after_last-at is_slash folder slash name refl none

-- a path without `/`
pub folder_of-none : (path : List ℕ) → NonePass is_slash path → folder_of path ≡ []
unfolding folder_of
folder_of-none path none = before_last-none is_slash path none

pub file_name_of-none : (path : List ℕ) → NonePass is_slash path → file_name_of path ≡ path
unfolding file_name_of
file_name_of-none path none = after_last-none is_slash path none

-- ---- texts

-- the characters of bytes among whose characters none passes
pub none_among : (p : ℕ → Bool) (bytes : List ℕ) → IsUtf8 bytes → NoCharPasses p bytes → NonePass p (chars bytes)
none_among p bytes u none = subst (NonePass p) (chars_from_encodes none.0 bytes u none.1) none.2

encode_one : (c : ℕ) → c < 128 → encode_utf8_all (c ∷ []) ≡ c ∷ []
encode_one c small = ap (λ e. e ++ []) (encode_ascii c small)

slash_small : slash < 128
slash_small = lit< tt

pub chars-slash : chars (slash ∷ []) ≡ slash ∷ []
chars-slash = ap chars (sym (encode_one slash slash_small)) ∙ chars-encodes (slash ∷ []) refl

-- an ASCII character between two texts
pub chars-joined : (front : List ℕ) (c : ℕ) (back : List ℕ) → c < 128 → IsUtf8 (c ∷ []) → IsUtf8 front → IsUtf8 back → chars (front ++ c ∷ back) ≡ chars front ++ c ∷ chars back
chars-joined front c back small one u v =
    chars-append front (c ∷ back) u ∙ ap (λ cs. chars front ++ cs) (chars-ascii c back small (IsUtf8-append (c ∷ []) back one v))

-- an ASCII character cuts a text
module _ (c : ℕ) (small : c < 128) (one : IsUtf8 (c ∷ [])) (bytes : List ℕ) (u : IsUtf8 bytes) (i j : ℕ) (at : HasCharAt c bytes i j)
    (front back : List ℕ) (before : front ≡ take i bytes) (behind : back ≡ drop j bytes) (until : length front ≡ i) (from : length back + j ≡ length bytes) where
  next : j ≡ i + 1
  next = at.ends ∙ ap (λ n. i + n) (len_utf8_ascii c small)

  inside : i < length bytes
  inside = omega (arith, next, from)

  byte_small : get_or bytes i 0 < 128
  byte_small = subst (λ b. b < 128) (sym (at.byte small)) small

  front_utf8 : IsUtf8 front
  front_utf8 = subst IsUtf8 (sym before) (IsUtf8-take bytes i u (IsCharBoundary-before_ascii bytes i inside byte_small))

  back_utf8 : IsUtf8 back
  back_utf8 = subst IsUtf8 (sym (behind ∙ ap (λ k. drop k bytes) next)) (IsUtf8-drop bytes (i + 1) u (IsCharBoundary-after_ascii bytes i u inside byte_small))

  pub chars-cut : chars bytes ≡ chars front ++ c ∷ chars back
  chars-cut =
      let whole : bytes ≡ front ++ c ∷ back =
      sym (take-append-drop i bytes) ∙ rw (before, behind) (ap (λ rest. take i bytes ++ rest) (drop_at_char c bytes i j at small)) in
      ap chars whole ∙ chars-joined front c back small one front_utf8 back_utf8

  pub none_before : (p : ℕ → Bool) → NoCharPasses p (take i bytes) → NonePass p (chars front)
  none_before p none = none_among p front front_utf8 (subst (NoCharPasses p) (sym before) none)

  pub none_behind : (p : ℕ → Bool) → NoCharPasses p (drop j bytes) → NonePass p (chars back)
  none_behind p none = none_among p back back_utf8 (subst (NoCharPasses p) (sym behind) none)

pub slash_utf8 : IsUtf8 (slash ∷ [])
slash_utf8 = (slash ∷ [], (refl, encode_one slash slash_small))

period_utf8 : IsUtf8 (46 ∷ [])
period_utf8 = (46 ∷ [], (refl, encode_one 46 (lit< tt)))

-- ---- ends

some_first : (xs : List ℕ) → get_or xs 0 0 ≡ slash → 0 < length xs
some_first [] e = absurd (omega arith)
some_first (x ∷ xs) e = omega arith

first_is : (c : ℕ) (rest : List ℕ) (b : Bool) → is_slash c ≡ b → is_slash (slice_index (encode_utf8_all (c ∷ rest)) 0) ≡ b
first_is c rest true e =
    let is : c ≡ slash = eqb-true c slash e in
    ap (λ k. is_slash (slice_index (encode_utf8_all (k ∷ rest)) 0)) is
    ∙ ap (λ e. is_slash (slice_index (e ++ encode_utf8_all rest) 0)) (encode_ascii slash slash_small)
first_is c rest false e = false_from_ne_true _ (λ yes.
    let is : get_or (encode_utf8_all (c ∷ rest)) 0 0 ≡ slash = eqb-true _ slash yes in
    let small : get_or (encode_utf8_all (c ∷ rest)) 0 0 < 128 = omega (arith, is) in
    let P : ℕ → Type 0 = λ k. is_slash k ≡ false in
    let same : c ≡ get_or (encode_utf8_all (c ∷ rest)) 0 0 = char_from_byte _ (encode_utf8_all rest) c refl small (some_first _ is) in
    both_ways _ (subst P (same ∙ is) e) refl)

-- the first character of a text is `/` where the first byte is
pub first_is_slash : (bytes : List ℕ) → IsUtf8 bytes → is_slash (slice_index bytes 0) ≡ is_slash (slice_index (chars bytes) 0)
first_is_slash bytes u = ap (λ bs. is_slash (slice_index bs 0)) (sym (encodes-chars bytes u)) ∙ first_of (chars bytes)
  where
    first_of : (cs : List ℕ) → is_slash (slice_index (encode_utf8_all cs) 0) ≡ is_slash (slice_index cs 0)
    first_of [] = refl
    first_of (c ∷ rest) = first_is c rest (is_slash c) refl

-- a path with a `/` at its end
without_slash-joined : (front : List ℕ) → without_slash (front ++ slash ∷ []) ≡ front
without_slash-joined front =
    let last : length (front ++ slash ∷ []) - 1 ≡ length front = omega (arith, length_push front slash) in
    ap (λ n. if is_slash (slice_index (front ++ slash ∷ []) n) then take n (front ++ slash ∷ []) else front ++ slash ∷ []) last
    ∙ ap (λ c. if is_slash c then take (length front) (front ++ slash ∷ []) else front ++ slash ∷ []) (at_length is_slash front slash [])
    ∙ take_at front (slash ∷ []) (length front) refl

pub without_slash-dropped : (bytes front : List ℕ) → IsUtf8 bytes → bytes ≡ front ++ slash ∷ [] → chars front ≡ without_slash (chars bytes)
without_slash-dropped bytes front u whole =
    let at : get_or bytes (length front) 0 ≡ slash = ap (λ bs. get_or bs (length front) 0) whole ∙ at_length is_slash front slash [] in
    let small : get_or bytes (length front) 0 < 128 = omega (arith, at) in
    let inside : length front < length bytes = omega (arith, ap length whole, length_push front slash) in
    let is_front : take (length front) bytes ≡ front = ap (take (length front)) whole ∙ take_at front (slash ∷ []) (length front) refl in
    let v : IsUtf8 front = subst IsUtf8 is_front (IsUtf8-take bytes (length front) u (IsCharBoundary-before_ascii bytes (length front) inside small)) in
    sym (ap (λ bs. without_slash (chars bs)) whole
    ∙ ap without_slash (chars-joined front slash [] slash_small slash_utf8 v IsUtf8-nil ∙ ap (λ rest. chars front ++ slash ∷ rest) chars-nil)
    ∙ without_slash-joined (chars front))

-- another path
pub without_slash-kept : (bytes : List ℕ) → IsUtf8 bytes → ((front : List ℕ) → bytes ≢ front ++ slash ∷ []) → chars bytes ≡ without_slash (chars bytes)
without_slash-kept bytes u none = by (is_slash (slice_index (chars bytes) (length (chars bytes) - 1))) refl
  where
    last : ℕ
    last = length (chars bytes) - 1

    inside : is_slash (slice_index (chars bytes) last) ≡ true → (cs : List ℕ) → cs ≡ chars bytes → last < length (chars bytes)
    inside e [] same = absurd (true≢false (sym e ∙ ap (λ xs. is_slash (slice_index xs (length xs - 1))) (sym same)))
    inside e (c ∷ cs) same = let some : length (c ∷ cs) ≡ length (chars bytes) = ap length same in omega arith

    ends : is_slash (slice_index (chars bytes) last) ≡ true → bytes ≡ encode_utf8_all (take last (chars bytes)) ++ slash ∷ []
    ends e =
        let within = inside e (chars bytes) refl in
        let is : get_or (chars bytes) last 0 ≡ slash = eqb-true _ slash e in
        let past : drop (last + 1) (chars bytes) ≡ [] = drop_of_length-le (chars bytes) (omega arith) in
        let whole : chars bytes ≡ take last (chars bytes) ++ slash ∷ [] =
        sym (take-append-drop last (chars bytes)) ∙ ap (λ rest. take last (chars bytes) ++ rest) (drop_more (chars bytes) last 0 within ∙ rw (is, past) refl) in
        sym (encodes-chars bytes u) ∙ ap encode_utf8_all whole ∙ encodes-append (take last (chars bytes)) (slash ∷ [])
        ∙ ap (λ end. encode_utf8_all (take last (chars bytes)) ++ end) (encode_one slash slash_small)

    by : (b : Bool) → is_slash (slice_index (chars bytes) last) ≡ b → chars bytes ≡ without_slash (chars bytes)
    by true e = absurd (none (encode_utf8_all (take last (chars bytes))) (ends e))
    by false e = sym (cond-false _ (take last (chars bytes)) (chars bytes) e)

-- ---- what the calls that cut a text say

-- the last `/` of a path cuts it
module _ (bytes : List ℕ) (u : IsUtf8 bytes) (front back : List ℕ) (cut : SplitsAroundMatch (RFindsChar slash) bytes front back) where
  pub folder_of-cut : folder_of (chars bytes) ≡ chars front
  folder_of-cut =
      ap folder_of (chars-cut slash slash_small slash_utf8 bytes u cut.0 cut.1 cut.2.1 front back cut.3 cut.4 cut.6 cut.7)
      ∙ folder_of-joined (chars front) (chars back) (none_behind slash slash_small slash_utf8 bytes u cut.0 cut.1 cut.2.1 front back cut.3 cut.4 cut.6 cut.7 is_slash cut.2.0)

  pub file_name_of-cut : file_name_of (chars bytes) ≡ chars back
  file_name_of-cut =
      ap file_name_of (chars-cut slash slash_small slash_utf8 bytes u cut.0 cut.1 cut.2.1 front back cut.3 cut.4 cut.6 cut.7)
      ∙ file_name_of-joined (chars front) (chars back) (none_behind slash slash_small slash_utf8 bytes u cut.0 cut.1 cut.2.1 front back cut.3 cut.4 cut.6 cut.7 is_slash cut.2.0)

-- a path without `/` is not cut
pub folder_of-uncut : (bytes : List ℕ) → IsUtf8 bytes → RFindsChar slash bytes None → folder_of (chars bytes) ≡ []
folder_of-uncut bytes u none = folder_of-none (chars bytes) (none_among is_slash bytes u none)

pub file_name_of-uncut : (bytes : List ℕ) → IsUtf8 bytes → RFindsChar slash bytes None → file_name_of (chars bytes) ≡ chars bytes
file_name_of-uncut bytes u none = file_name_of-none (chars bytes) (none_among is_slash bytes u none)

-- the first period of a name cuts it
pub before_period-cut : (bytes : List ℕ) → IsUtf8 bytes → (front back : List ℕ) → SplitsAroundMatch (FindsChar 46) bytes front back → before_first is_period (chars bytes) ≡ chars front
before_period-cut bytes u front back cut =
    ap (before_first is_period) (chars-cut 46 (lit< tt) period_utf8 bytes u cut.0 cut.1 cut.2.1 front back cut.3 cut.4 cut.6 cut.7)
    ∙ before_first-at is_period (chars front) 46 (chars back) refl (none_before 46 (lit< tt) period_utf8 bytes u cut.0 cut.1 cut.2.1 front back cut.3 cut.4 cut.6 cut.7 is_period cut.2.0)

pub before_period-uncut : (bytes : List ℕ) → IsUtf8 bytes → FindsChar 46 bytes None → before_first is_period (chars bytes) ≡ chars bytes
before_period-uncut bytes u none = before_first-none is_period (chars bytes) (none_among is_period bytes u none)

-- ---- folders

-- a folder whose path begins with `/`
pub folder_path-whole : (root written : List ℕ) → is_slash (slice_index written 0) ≡ true → folder_path root written ≡ without_slash written
unfolding folder_path
folder_path-whole root written e = ap without_slash (cond-true _ written (root ++ slash ∷ written) e)

-- another is taken from the root
pub folder_path-below : (root written : List ℕ) → is_slash (slice_index written 0) ≡ false → folder_path root written ≡ without_slash (root ++ slash ∷ written)
unfolding folder_path
folder_path-below root written e = ap without_slash (cond-false _ written (root ++ slash ∷ written) e)
