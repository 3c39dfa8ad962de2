-- The operand field at the front of a text, byte by byte.
use Rattle.std.proofs.Common.{◌≡◌, ◌∙◌, ℕ, ◌+◌, ◌<◌, Bool, true, false, cond, not, List, [], ◌∷◌, ◌++◌, length, take, get_or, zero, suc, refl, sym, ap, subst, arith}
use Rattle.std.specs.Prelude.{◌==◌, ◌&&◌, ◌||◌, chars, IsUtf8, nat_lt, slice_index, reverse}
use Rattle.std.specs.Char.{to_ascii_uppercase}
use Rattle.std.specs.Str.{IsAscii}
use Rattle.std.specs.List.{list_all}
use Rattle.std.proofs.lemmas.Bool.{and_parts, and_from, eqb-true, true≢false, ltb-true, false_from_ne_true}
use Rattle.std.proofs.lemmas.Bool.Decides.{nat_tests}
use Rattle.std.proofs.lemmas.List.{take_more, reverse-append}
use Rattle.hl_base.specs.Symbols.{is_letter}
use Rattle.hl_base.specs.Quoting.{is_quoted, depth, depth_outside, is_attributed, is_joining, is_of_attribute, names_attribute}
use Rattle.hl_base.proofs.LineLaws.{chars-ascii, utf8_tail}
use Rattle.hlasm_statements.specs.declared.front_field.Sight.{Sight}
use Rattle.hlasm_statements.specs.declared.front_field.FrontField.{FrontField}
use Rattle.hlasm_statements.specs.declared.reader.Scan.{Scan}
use Rattle.hlasm_statements.specs.declared.reader.Reader.{Reader}
use Rattle.hlasm_statements.specs.Columns.{is_blank}
use Rattle.hlasm_statements.specs.Fields.{keeps_groups, ends_field}
use Rattle.hlasm_statements.specs.Reading.{is_plain, IsSeen, IsFrontField, Passes, EndsAt, IsScan, Scans}
use Rattle.hlasm_statements.proofs.ByteLaws.{blank_small}
use Rattle.hlasm_statements.proofs.FrontLaws.{ascii-cons, ascii-nil}
use Rattle.hlasm_statements.proofs.ScanLaws.{passes-push}

-- ---- one byte more

quote-more : (quoted quote letter names other joined : Bool) → (not quoted && (quote && names)) ≡ false → cond quoted (not quote) (quote && not (other && ((letter && names) && not joined))) ≡ cond quoted (not quote) quote
quote-more true quote letter names other joined h = refl
quote-more false false letter names other joined h = refl
quote-more false true letter true other joined h = absurd (true≢false h)
quote-more false true true false true joined h = refl
quote-more false true true false false joined h = refl
quote-more false true false false true joined h = refl
quote-more false true false false false joined h = refl

pub seen-more : (s next : Sight) (before : List ℕ) (c : ℕ) → IsSeen s before → (not s.is_quoted && ((c == 39) && names_attribute (to_ascii_uppercase s.last))) ≡ false
    → next.is_quoted ≡ cond s.is_quoted (not (c == 39)) (c == 39) → next.depth ≡ cond s.is_quoted s.depth (depth_outside s.depth c) → next.last ≡ c → IsSeen next (c ∷ before)
seen-more s next before c is clear quoted deep last =
    let first = slice_index before 0 in
    let clear_here : (not s.is_quoted && ((c == 39) && names_attribute (to_ascii_uppercase first))) ≡ false = ap (λ l. not s.is_quoted && ((c == 39) && names_attribute (to_ascii_uppercase l))) (sym is.last) ∙ clear in
    record {
      quoted = λ x.
          ap (λ q. cond q (not (c == 39)) ((c == 39) && not (is_of_attribute x before))) (is.quoted c)
          ∙ quote-more s.is_quoted (c == 39) (is_letter first) (names_attribute (to_ascii_uppercase first)) (is_attributed x) (is_joining (slice_index before 1)) clear_here
          ∙ sym quoted;
      depth =
          deep
          ∙ ap (λ d. cond s.is_quoted d (depth_outside d c)) is.depth
          ∙ ap (λ q. cond q (depth before) (depth_outside (depth before) c)) (sym (is.quoted c));
      last = last;
    }

plain_other : (b k : ℕ) → is_plain b ≡ true → k < 42 → (b == k) ≡ false
plain_other b k plain small =
    let parts = and_parts (nat_lt 41 b) (nat_lt b 128) plain in
    let above : 41 < b = ltb-true 41 b parts.0 in
    false_from_ne_true (b == k) (λ same.
    let is : b ≡ k = eqb-true b k same in absurd (omega (arith, above, small)))

plain_blank : (b : ℕ) → is_plain b ≡ true → is_blank b ≡ false
plain_blank b plain = rw (plain_other b 32 plain (omega arith), plain_other b 9 plain (omega arith)) refl

same-quoted : (q : Bool) → q ≡ cond q true false
same-quoted true = refl
same-quoted false = refl

same-depth : (q : Bool) (d : ℕ) → d ≡ cond q d d
same-depth true d = refl
same-depth false d = refl

none-unclear : (q names : Bool) → (not q && (false && names)) ≡ false
none-unclear true names = refl
none-unclear false names = refl

pub seen-plain : (s next : Sight) (before : List ℕ) (c : ℕ) → IsSeen s before → is_plain c ≡ true → next.is_quoted ≡ s.is_quoted → next.depth ≡ s.depth → next.last ≡ c → IsSeen next (c ∷ before)
seen-plain s next before c is plain quoted deep last =
    let quote : (c == 39) ≡ false = plain_other c 39 plain (omega arith) in
    let outside : depth_outside s.depth c ≡ s.depth = rw (plain_other c 40 plain (omega arith), plain_other c 41 plain (omega arith)) refl in
    seen-more s next before c is (ap (λ e. not s.is_quoted && (e && names_attribute (to_ascii_uppercase s.last))) quote ∙ none-unclear s.is_quoted (names_attribute (to_ascii_uppercase s.last)))
    (quoted ∙ same-quoted s.is_quoted ∙ ap (λ e. cond s.is_quoted (not e) e) (sym quote))
    (deep ∙ same-depth s.is_quoted s.depth ∙ ap (λ d. cond s.is_quoted s.depth d) (sym outside)) last

-- ---- the bytes so far

pub record IsSeeing (keeps : Bool) (sight : Sight) (front : List ℕ) : Type 0 where
  pub seen : IsSeen sight (reverse front)
  pub passes : Passes keeps [] front
  pub ascii : list_all (λ b. nat_lt b 128) front ≡ true

all-push : (p : ℕ → Bool) (xs : List ℕ) (x : ℕ) → list_all p xs ≡ true → p x ≡ true → list_all p (xs ++ x ∷ []) ≡ true
all-push p [] x all here = and_from (p x) true here refl
all-push p (y ∷ xs) x all here =
    let parts = and_parts (p y) (list_all p xs) all in
    and_from (p y) (list_all p (xs ++ x ∷ [])) parts.0 (all-push p xs x parts.1 here)

none-behind : (xs : List ℕ) → xs ++ [] ≡ xs
none-behind [] = refl
none-behind (x ∷ xs) = ap (λ rest. x ∷ rest) (none-behind xs)

-- what the code finds of a blank
end-seen : (keeps : Bool) (s : Sight) (before : List ℕ) (c : ℕ) → IsSeen s before → (is_blank c && not (s.is_quoted || (nat_lt 0 s.depth && keeps))) ≡ (is_blank c && ends_field keeps c before)
end-seen keeps s before c is =
    ap (λ q. is_blank c && not (q || (nat_lt 0 s.depth && keeps))) (sym (is.quoted c))
    ∙ ap (λ d. is_blank c && not (is_quoted c before || (nat_lt 0 d && keeps))) is.depth

-- a plain byte goes on
pub plain-stays : (keeps : Bool) (s : Sight) (c : ℕ) → is_plain c ≡ true → (is_blank c && not (s.is_quoted || (nat_lt 0 s.depth && keeps))) ≡ false
plain-stays keeps s c plain = ap (λ b. b && not (s.is_quoted || (nat_lt 0 s.depth && keeps))) (plain_blank c plain)

pub seeing-more : (keeps : Bool) (s next : Sight) (bytes : List ℕ) (count : ℕ) → count < length bytes → IsSeeing keeps s (take count bytes)
    → (is_blank (get_or bytes count 0) && not (s.is_quoted || (nat_lt 0 s.depth && keeps))) ≡ false
    → get_or bytes count 0 < 128 → ((before : List ℕ) → IsSeen s before → IsSeen next (get_or bytes count 0 ∷ before)) → IsSeeing keeps next (take (count + 1) bytes)
seeing-more keeps s next bytes count within is stays small seen =
    let c = get_or bytes count 0 in
    let front = take count bytes in
    let more : take (count + 1) bytes ≡ front ++ c ∷ [] = take_more bytes count 0 within in
    let back : reverse (front ++ c ∷ []) ≡ c ∷ reverse front = reverse-append front (c ∷ []) in
    let on : (is_blank c && ends_field keeps c (reverse front)) ≡ false = sym (end-seen keeps s (reverse front) c is.seen) ∙ stays in
    let B : List ℕ → Type 0 = λ b. (is_blank c && ends_field keeps c b) ≡ false in
    let N : List ℕ → Type 0 = λ b. IsSeen next b in
    let W : List ℕ → Type 0 = λ f. IsSeeing keeps next f in
    let below : nat_lt c 128 ≡ true = grind (arith, nat_tests) in
    subst W (sym more) (record {
      seen = subst N (sym back) (seen (reverse front) is.seen);
      passes = passes-push keeps [] front c is.passes (subst B (sym (none-behind (reverse front))) on);
      ascii = all-push (λ b. nat_lt b 128) front c is.ascii below;
    })

-- ---- the bytes are characters

pub all-ascii : (bs : List ℕ) → list_all (λ b. nat_lt b 128) bs ≡ true → IsAscii bs
all-ascii [] all = ascii-nil
all-ascii (b ∷ bs) all =
    let parts = and_parts (nat_lt b 128) (list_all (λ b. nat_lt b 128) bs) all in
    ascii-cons b bs (ltb-true b 128 parts.0) (all-ascii bs parts.1)

-- the characters up to an ASCII byte, and that byte
record AtByte (n : ℕ) (bs cs : List ℕ) : Type 0 where
  front : take n cs ≡ take n bs
  within : n < length cs
  item : (d : ℕ) → get_or cs n d ≡ get_or bs n 0

at_next : (b n : ℕ) (bs cs : List ℕ) → AtByte n bs cs → AtByte (suc n) (b ∷ bs) (b ∷ cs)
at_next b n bs cs is = record { front = ap (λ xs. b ∷ xs) is.front; within = omega (arith, is.within); item = is.item }

at_here : (b : ℕ) (bs cs : List ℕ) → AtByte 0 (b ∷ bs) (b ∷ cs)
at_here b bs cs = record { front = refl; within = omega arith; item = λ d. refl }

ascii-bytes : (bs : List ℕ) (n : ℕ) → IsUtf8 bs → n < length bs → list_all (λ b. nat_lt b 128) (take n bs) ≡ true → get_or bs n 0 < 128 → AtByte n bs (chars bs)
ascii-bytes [] n u within all here = absurd (omega arith)
ascii-bytes (b ∷ bs) zero u within all here =
    let R : List ℕ → Type 0 = λ cs. AtByte 0 (b ∷ bs) cs in
    subst R (sym (chars-ascii b bs here u)) (at_here b bs (chars bs))
ascii-bytes (b ∷ bs) (suc n) u within all here =
    let parts = and_parts (nat_lt b 128) (list_all (λ b. nat_lt b 128) (take n bs)) all in
    let low : b < 128 = ltb-true b 128 parts.0 in
    let R : List ℕ → Type 0 = λ cs. AtByte (suc n) (b ∷ bs) cs in
    subst R (sym (chars-ascii b bs low u)) (at_next b n bs (chars bs) (ascii-bytes bs n (utf8_tail b bs low u) (omega (arith, within)) parts.1 here))

scanned-bytes : (alternate keeps : Bool) (bytes : List ℕ) (field : FrontField) (scan : Scan) → IsUtf8 bytes → IsFrontField alternate keeps bytes field → scan.count ≡ field.count → scan.is_ended ≡ true → scan.ends_in_comma ≡ field.ends_in_comma
    → IsScan alternate keeps [] (chars bytes) scan
scanned-bytes alternate keeps bytes field scan u is count_is ended comma =
    let text = chars bytes in
    let c = get_or bytes field.count 0 in
    let blank : is_blank c ≡ true = (and_parts (is_blank c) (ends_field keeps c (reverse (take field.count bytes))) is.ends).0 in
    let at : AtByte field.count bytes text = ascii-bytes bytes field.count u is.within is.ascii (blank_small c blank) in
    let front : take scan.count text ≡ take field.count bytes = ap (λ n. take n text) count_is ∙ at.front in
    let back : reverse (take scan.count text) ++ [] ≡ reverse (take field.count bytes) = none-behind (reverse (take scan.count text)) ∙ ap reverse front in
    let within : scan.count < length text = omega (arith, count_is, at.within) in
    let F : List ℕ → Type 0 = λ f. Passes keeps [] f in
    let E : List ℕ → Type 0 = λ b. (is_blank c && ends_field keeps c b) ≡ true in
    let R : Bool → Type 0 = λ e. EndsAt e keeps scan.count (reverse (take scan.count text) ++ []) text in
    let yes : (scan.is_ended && not (alternate && scan.ends_in_comma)) ≡ true = ap (λ e. e && not (alternate && scan.ends_in_comma)) ended ∙ ap (λ k. true && not (alternate && k)) comma ∙ ap (λ o. true && not o) is.over in
    record {
      passes = subst F (sym front) is.passes;
      fits = omega (arith, within);
      ends = subst R (sym ended) (c, within, sym (ap (λ n. get_or text n c) count_is ∙ at.item c), subst E (sym back) is.ends);
      nesting = λ over. absurd (true≢false (sym yes ∙ over));
      comma = comma ∙ is.comma ∙ ap (λ b. slice_index b 0 == 44) (sym back);
    }

pub scanned-front : (reader : Reader) (alternate : Bool) (bytes : List ℕ) (field : FrontField) (scan : Scan) → IsUtf8 bytes → reader.operands ≡ [] → IsFrontField alternate (keeps_groups reader.op) bytes field → scan.count ≡ field.count → scan.is_ended ≡ true → scan.ends_in_comma ≡ field.ends_in_comma
    → Scans alternate reader (chars bytes) scan
scanned-front reader alternate bytes field scan u first is count_is ended comma behind ends =
    let B : List ℕ → Type 0 = λ o. IsScan alternate (keeps_groups reader.op) (reverse o) (chars bytes) scan in
    subst B (sym first) (scanned-bytes alternate (keeps_groups reader.op) bytes field scan u is count_is ended comma)
