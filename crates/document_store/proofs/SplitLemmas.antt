-- The two parts of a buffer after bytes were moved in it.
use Rattle.std.proofs.Common.{◌≡◌, ◌∙◌, ℕ, ◌+◌, ◌-◌, ◌≤◌, List, ◌++◌, length, take, drop, sym, ap, subst, arith, length-append, length-drop, append_assoc}
use Rattle.std.proofs.Math.Seq.{paste, take-length, drop-append_seam}
use Rattle.std.proofs.lemmas.List.{length-take, take-take, take-append-le, drop-drop, drop-take}
use Rattle.std.proofs.lemmas.List.Edits.{take-paste, drop-paste, length-paste}
use Rattle.std.proofs.lemmas.Str.{IsUtf8-append, IsUtf8-take, IsUtf8-drop}
use Rattle.std.specs.List.{copy_within}
use Rattle.std.specs.Prelude.{IsUtf8, IsCharBoundary}
use Rattle.document_store.specs.Parts.{Parts}
use Rattle.document_store.specs.Split.{parts_of, AreParts}

-- these two parts lie in a buffer
pub record Holds (bytes : List ℕ) (end start : ℕ) (parts : Parts) : Type 0 where
  pub are : AreParts bytes end start
  pub is : parts_of bytes end start ≡ parts

holds_from : (bytes : List ℕ) (end start : ℕ) (front : List ℕ) (room : ℕ) (back : List ℕ) → end ≤ start → start ≤ length bytes →
    take end bytes ≡ front → start - end ≡ room → drop start bytes ≡ back → IsUtf8 front → IsUtf8 back →
    Holds bytes end start (record { front = front; room = room; back = back })
holds_from bytes end start front room back order within is_front is_room is_back u v = record {
  are = record { order = order; within = within; front = subst IsUtf8 (sym is_front) u; back = subst IsUtf8 (sym is_back) v };
  is = λ i. record { front = is_front i; room = is_room i; back = is_back i };
}

-- the first n bytes of those up to a later place
take_take : (n m : ℕ) (xs : List ℕ) → n ≤ m → take n (take m xs) ≡ take n xs
take_take n m xs h = take-take n m xs h

-- bytes that were pasted behind the first n are not among them
pub take-before : (xs ys : List ℕ) (n at : ℕ) → n ≤ at → at ≤ length xs → take n (take at xs ++ ys) ≡ take n xs
take-before xs ys n at h within =
    take-append-le n (take at xs) ys (omega (arith, length-take at xs)) ∙ take_take n at xs h

pub drop-at : (xs ys : List ℕ) (at : ℕ) → at ≤ length xs → drop at (take at xs ++ ys) ≡ ys
drop-at xs ys at within =
    let size : length (take at xs) ≡ at = omega (arith, length-take at xs) in
    ap (λ k. drop k (take at xs ++ ys)) (sym size) ∙ drop-append_seam (take at xs) ys

-- bytes of the second part behind the first
pub holds_advanced : (xs new : List ℕ) (end start count : ℕ) → AreParts xs end start → IsCharBoundary (drop start xs) count →
    new ≡ copy_within xs start (start + count) end →
    Holds new (end + count) (start + count) (record { front = take end xs ++ take count (drop start xs); room = start - end; back = drop count (drop start xs) })
holds_advanced xs new end start count are cut h =
    let size : length (drop start xs) ≡ length xs - start = length-drop start xs in
    let low : end ≤ length xs = omega (arith, are.order, are.within) in
    let less : start + count - start ≡ count = omega arith in
    let is : new ≡ paste xs end (drop start xs) count = h ∙ ap (paste xs end (drop start xs)) less in
    let kept : length new ≡ length xs =
    ap length is ∙ length-paste xs end (drop start xs) count (omega (arith, size, cut.0, are.order, are.within)) cut.0 in
    let rest : drop (start + count) new ≡ drop count (drop start xs) =
    ap (λ k. drop k new) (let e : start + count ≡ end + count + (start - end) = omega (arith, are.order) in e)
    ∙ sym (drop-drop (start - end) (end + count) new)
    ∙ ap (drop (start - end)) (ap (drop (end + count)) is ∙ drop-paste xs end (drop start xs) count low cut.0)
    ∙ drop-drop (start - end) (end + count) xs
    ∙ ap (λ k. drop k xs) (let e : end + count + (start - end) ≡ start + count = omega (arith, are.order) in e)
    ∙ sym (drop-drop count start xs) in
    holds_from new (end + count) (start + count) (take end xs ++ take count (drop start xs)) (start - end) (drop count (drop start xs)) (omega (arith, are.order)) (omega (arith, kept, size, cut.0, are.within))
    (ap (take (end + count)) is ∙ take-paste xs end (drop start xs) count low cut.0)
    (omega arith) rest
    (IsUtf8-append (take end xs) (take count (drop start xs)) are.front (IsUtf8-take (drop start xs) count are.back cut))
    (IsUtf8-drop (drop start xs) count are.back cut)

-- bytes of the first part before the second
pub holds_gone_back : (xs new : List ℕ) (end start at : ℕ) → AreParts xs end start → IsCharBoundary (take end xs) at →
    new ≡ copy_within xs at end (start - (end - at)) →
    Holds new at (start - (end - at)) (record { front = take at (take end xs); room = start - end; back = drop at (take end xs) ++ drop start xs })
holds_gone_back xs new end start at are cut h =
    let size : length (take end xs) ≡ end = omega (arith, length-take end xs, are.order, are.within) in
    let low : at ≤ end = omega (arith, size, cut.0) in
    let to : ℕ = start - (end - at) in
    let high : to ≤ length xs = omega (arith, are.within) in
    let middle : List ℕ = take (end - at) (drop at xs) in
    let rest : List ℕ = drop (to + (end - at)) xs in
    let is : new ≡ take to xs ++ (middle ++ rest) = h ∙ append_assoc (take to xs) middle rest in
    let kept : length new ≡ length xs =
    ap length h ∙ length-paste xs to (drop at xs) (end - at) (omega (arith, are.order, are.within, low)) (omega (arith, length-drop at xs, are.order, are.within)) in
    let moved : middle ≡ drop at (take end xs) =
    sym (drop-take at (end - at) xs) ∙ ap (λ k. drop at (take k xs)) (let e : at + (end - at) ≡ end = omega (arith, low) in e) in
    let back : drop to new ≡ drop at (take end xs) ++ drop start xs =
    ap (drop to) is ∙ drop-at xs (middle ++ rest) to high
    ∙ ap (λ ys. ys ++ rest) moved
    ∙ ap (λ k. drop at (take end xs) ++ drop k xs) (let e : to + (end - at) ≡ start = omega (arith, low, are.order) in e) in
    holds_from new at to (take at (take end xs)) (start - end) (drop at (take end xs) ++ drop start xs) (omega (arith, are.order, low)) (omega (arith, kept, high))
    (ap (take at) is ∙ take-before xs (middle ++ rest) at to (omega (arith, are.order, low)) high ∙ sym (take_take at end xs low))
    (omega (arith, are.order, low)) back
    (IsUtf8-take (take end xs) at are.front cut)
    (IsUtf8-append (drop at (take end xs)) (drop start xs) (IsUtf8-drop (take end xs) at are.front cut) are.back)

-- a text in place of bytes of the second part
pub holds_put : (xs moved new text : List ℕ) (end start from to : ℕ) → AreParts xs end start → from ≤ to →
    IsCharBoundary (drop start xs) from → IsCharBoundary (drop start xs) to → IsUtf8 text → length text ≤ start - end →
    moved ≡ copy_within xs start (start + from) (start + (to - from) - length text) →
    new ≡ paste moved (start + (to - from) - length text + from) text (length text) →
    Holds new end (start + (to - from) - length text)
    (record { front = take end xs; room = start - end + (to - from) - length text; back = take from (drop start xs) ++ text ++ drop to (drop start xs) })
holds_put xs moved new text end start from to are order first last u room h g =
    let back : List ℕ = drop start xs in
    let put : ℕ = start + (to - from) - length text in
    let size : length back ≡ length xs - start = length-drop start xs in
    let behind : put + from + length text ≡ start + to = omega (arith, order, room, are.order) in
    let high : put ≤ length xs = omega (arith, size, last.0, behind, are.within) in
    let less : start + from - start ≡ from = omega arith in
    let is : moved ≡ paste xs put back from = h ∙ ap (paste xs put back) less in
    let front : take (put + from) moved ≡ take put xs ++ take from back =
    ap (take (put + from)) is ∙ take-paste xs put back from high first.0 in
    let rest : drop (put + from + length text) moved ≡ drop to back =
    sym (drop-drop (length text) (put + from) moved)
    ∙ ap (drop (length text)) (ap (drop (put + from)) is ∙ drop-paste xs put back from high first.0)
    ∙ drop-drop (length text) (put + from) xs
    ∙ ap (λ k. drop k xs) behind
    ∙ sym (drop-drop to start xs) in
    let whole : new ≡ take put xs ++ (take from back ++ text ++ drop to back) =
    g
    ∙ ap (λ ys. ys ++ take (length text) text ++ drop (put + from + length text) moved) front
    ∙ ap (λ ys. take put xs ++ take from back ++ ys ++ drop (put + from + length text) moved) (take-length text)
    ∙ ap (λ ys. take put xs ++ take from back ++ text ++ ys) rest
    ∙ ap (λ ys. ys ++ drop to back) (append_assoc (take put xs) (take from back) text)
    ∙ append_assoc (take put xs) (take from back ++ text) (drop to back) in
    let count : length new ≡ put + length (take from back ++ text ++ drop to back) =
    ap length whole ∙ length-append (take put xs) (take from back ++ text ++ drop to back)
    ∙ ap (λ k. k + length (take from back ++ text ++ drop to back)) (let e : length (take put xs) ≡ put = omega (arith, length-take put xs, high) in e) in
    holds_from new end put (take end xs) (start - end + (to - from) - length text) (take from back ++ text ++ drop to back) (omega (arith, are.order, room)) (omega (arith, count))
    (ap (take end) whole ∙ take-before xs (take from back ++ text ++ drop to back) end put (omega (arith, are.order, room)) high)
    (omega (arith, are.order, room)) (ap (drop put) whole ∙ drop-at xs (take from back ++ text ++ drop to back) put high)
    are.front
    (IsUtf8-append (take from back ++ text) (drop to back) (IsUtf8-append (take from back) text (IsUtf8-take back from are.back first) u) (IsUtf8-drop back to are.back last))

-- both parts as one
pub joined_is : (xs moved new : List ℕ) (end start : ℕ) → AreParts xs end start → moved ≡ copy_within xs start (length xs) end →
    new ≡ take (end + (length xs - start)) moved → new ≡ take end xs ++ drop start xs
joined_is xs moved new end start are h g =
    let size : length (drop start xs) ≡ length xs - start = length-drop start xs in
    g ∙ ap (take (end + (length xs - start))) h
    ∙ take-paste xs end (drop start xs) (length xs - start) (omega (arith, are.order, are.within)) (omega (arith, size))
    ∙ ap (λ k. take end xs ++ take k (drop start xs)) (sym size)
    ∙ ap (λ ys. take end xs ++ ys) (take-length (drop start xs))
