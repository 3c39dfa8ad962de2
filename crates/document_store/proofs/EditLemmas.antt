-- The bytes of a text after a change, and what its changes in turn come to.
use Rattle.std.proofs.Common.{◌≡◌, ◌∙◌, ℕ, ◌+◌, ◌<◌, ◌≤◌, true, false, List, ◌∷◌, ◌++◌, length, take, drop, sym, refl, ap, subst, arith, length-append}
use Rattle.std.specs.Prelude.{encode_utf8_all, chars, IsUtf8, IsCharBoundary, slice_range, Result, Ok, Err}
use Rattle.std.specs.String.Boundary.{IsSplitPoint}
use Rattle.std.proofs.lemmas.Bool.{lt-ltb, le-ltb}
use Rattle.std.proofs.lemmas.Str.{encodes-append, chars_from_encodes}
use Rattle.hl_base.specs.declared.edit.Edit.{Edit}
use Rattle.text_pool.specs.declared.pool.TheConstants.{LONGEST_TEXT}
use Rattle.document_store.specs.Edits.{edited, start_of, stop_of, is_backward, after_edit, after_edits, and_then}
use Rattle.document_store.specs.Places.{bytes_before, GivesText}
use Rattle.document_store.specs.declared.fault.StoreFault.{StoreFault}
use Rattle.document_store.specs.declared.fault.StoreFault.TheVariants.{BadUri, AlreadyOpen, TooMany, TextTooLong, NotOpen, BadRange, LibraryTooLarge, OutOfMemory}
use Rattle.document_store.proofs.PlaceLemmas.{take-bytes_before, drop-bytes_before, IsCharBoundary-bytes_before}

-- the text after a change, in bytes
pub encodes-edited : (bs : List ℕ) (edit : Edit) (start stop : ℕ) → IsUtf8 bs →
    start ≡ bytes_before (chars bs) (start_of (chars bs) edit.from) → stop ≡ bytes_before (chars bs) (stop_of (chars bs) edit.to) →
    encode_utf8_all (edited (chars bs) edit) ≡ take start bs ++ encode_utf8_all edit.text ++ drop stop bs
encodes-edited bs edit start stop u e f =
    encodes-append (take (start_of (chars bs) edit.from) (chars bs) ++ edit.text) (drop (stop_of (chars bs) edit.to) (chars bs))
    ∙ ap (λ xs. xs ++ encode_utf8_all (drop (stop_of (chars bs) edit.to) (chars bs))) (encodes-append (take (start_of (chars bs) edit.from) (chars bs)) edit.text)
    ∙ ap (λ xs. encode_utf8_all (take (start_of (chars bs) edit.from) (chars bs)) ++ encode_utf8_all edit.text ++ xs)
    (sym (drop-bytes_before bs (stop_of (chars bs) edit.to) u) ∙ ap (λ n. drop n bs) (sym f))
    ∙ ap (λ xs. xs ++ encode_utf8_all edit.text ++ drop stop bs)
    (sym (take-bytes_before bs (start_of (chars bs) edit.from) u) ∙ ap (λ n. take n bs) (sym e))

pub length-edited : (bs : List ℕ) (edit : Edit) (front back : List ℕ) (start stop : ℕ) → IsUtf8 bs →
    start ≡ bytes_before (chars bs) (start_of (chars bs) edit.from) → stop ≡ bytes_before (chars bs) (stop_of (chars bs) edit.to) →
    front ≡ take start bs → back ≡ drop stop bs →
    length (encode_utf8_all (edited (chars bs) edit)) ≡ length front + length (encode_utf8_all edit.text) + length back
length-edited bs edit front back start stop u e f is_front is_back =
    ap length (encodes-edited bs edit start stop u e f ∙ ap (λ xs. xs ++ encode_utf8_all edit.text ++ drop stop bs) (sym is_front) ∙ ap (λ xs. front ++ encode_utf8_all edit.text ++ xs) (sym is_back))
    ∙ length-append (front ++ encode_utf8_all edit.text) back
    ∙ ap (λ n. n + length back) (length-append front (encode_utf8_all edit.text))

-- a change whose start lies behind its end
pub after_edit-backward : (text : List ℕ) (number : ℕ) (edit : Edit) → is_backward edit.from edit.to ≡ true → after_edit text number edit ≡ Err (BadRange number)
after_edit-backward text number edit h = rw h refl

-- a change after which the text is too long
pub after_edit-long : (text : List ℕ) (number : ℕ) (edit : Edit) → is_backward edit.from edit.to ≡ false → LONGEST_TEXT < length (encode_utf8_all (edited text edit)) → after_edit text number edit ≡ Err TextTooLong
after_edit-long text number edit h long = rw (h, lt-ltb LONGEST_TEXT (length (encode_utf8_all (edited text edit))) long) refl

-- a change that is made
pub after_edit-made : (text : List ℕ) (number : ℕ) (edit : Edit) → is_backward edit.from edit.to ≡ false → length (encode_utf8_all (edited text edit)) ≤ LONGEST_TEXT → after_edit text number edit ≡ Ok (edited text edit)
after_edit-made text number edit h short = rw (h, le-ltb LONGEST_TEXT (length (encode_utf8_all (edited text edit))) short) refl

pub slice_range-front : (xs : List ℕ) (n : ℕ) → slice_range xs 0 n ≡ take n xs
slice_range-front xs n = grind arith

-- a text may be cut where these bytes end
pub cut_at : (bs : List ℕ) (at n : ℕ) → IsUtf8 bs → at ≡ bytes_before (chars bs) n → IsCharBoundary bs at
cut_at bs at n u e = subst (IsCharBoundary bs) (sym e) (IsCharBoundary-bytes_before bs n u)

pub split_at : (bs : List ℕ) (at n : ℕ) → IsUtf8 bs → at ≡ bytes_before (chars bs) n → IsSplitPoint bs at
split_at bs at n u e = let cut = cut_at bs at n u e in (cut.0, λ _ within. cut.1 within)

-- the text that its three parts are
pub chars-edited : (bs text : List ℕ) (edit : Edit) (front middle back : List ℕ) (start stop : ℕ) → IsUtf8 bs → IsUtf8 text →
    start ≡ bytes_before (chars bs) (start_of (chars bs) edit.from) → stop ≡ bytes_before (chars bs) (stop_of (chars bs) edit.to) →
    front ≡ take start bs → middle ≡ encode_utf8_all edit.text → back ≡ drop stop bs → text ≡ front ++ middle ++ back →
    edited (chars bs) edit ≡ chars text
chars-edited bs text edit front middle back start stop u v e f is_front is_middle is_back is =
    chars_from_encodes (edited (chars bs) edit) text v
    (encodes-edited bs edit start stop u e f
    ∙ ap (λ xs. xs ++ encode_utf8_all edit.text ++ drop stop bs) (sym is_front)
    ∙ ap (λ xs. front ++ xs ++ drop stop bs) (sym is_middle)
    ∙ ap (λ xs. front ++ middle ++ xs) (sym is_back)
    ∙ sym is)

-- a refusal of the first of some changes is one of all
pub GivesText-refused : (asked all : Result (List ℕ) StoreFault) (fault : StoreFault) → ((f : StoreFault) → asked ≡ Err f → all ≡ Err f) →
    GivesText asked (Err fault) → GivesText all (Err fault)
GivesText-refused asked all BadUri h g = h BadUri g
GivesText-refused asked all AlreadyOpen h g = h AlreadyOpen g
GivesText-refused asked all TooMany h g = h TooMany g
GivesText-refused asked all TextTooLong h g = h TextTooLong g
GivesText-refused asked all NotOpen h g = h NotOpen g
GivesText-refused asked all (BadRange i) h g = h (BadRange i) g
GivesText-refused asked all LibraryTooLarge h g = h LibraryTooLarge g
GivesText-refused asked all OutOfMemory h g = g

-- the changes from one on
pub after_edits-refused : (edit : Edit) (edits : List Edit) (number : ℕ) (text : List ℕ) (f : StoreFault) → after_edit text number edit ≡ Err f → after_edits (edit ∷ edits) number text ≡ Err f
after_edits-refused edit edits number text f h = ap (and_then (after_edits edits (number + 1))) h

pub after_edits-made : (edit : Edit) (edits : List Edit) (number : ℕ) (text next : List ℕ) → after_edit text number edit ≡ Ok next → after_edits (edit ∷ edits) number text ≡ after_edits edits (number + 1) next
after_edits-made edit edits number text next h = ap (and_then (after_edits edits (number + 1))) h
