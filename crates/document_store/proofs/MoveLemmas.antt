-- Bytes that are moved part by part.
use Rattle.std.proofs.Common.{◌≡◌, ◌∙◌, ℕ, ◌+◌, ◌-◌, ◌≤◌, List, ◌++◌, length, take, drop, sym, ap, arith, length-drop, append_assoc, take-append-drop}
use Rattle.std.proofs.Math.Seq.{paste, take-add}
use Rattle.std.proofs.lemmas.List.{drop-drop, drop-take}
use Rattle.std.proofs.lemmas.List.Edits.{take-paste, drop-paste}
use Rattle.document_store.proofs.SplitLemmas.{take-before, drop-at}

-- the first so many of some bytes, and the next
next_bytes : (xs : List ℕ) (from n m : ℕ) → take n (drop from xs) ++ take m (drop (from + n) xs) ≡ take (n + m) (drop from xs)
next_bytes xs from n m = ap (λ ys. take n (drop from xs) ++ take m ys) (sym (drop-drop n from xs)) ∙ sym (take-add n m (drop from xs))

-- one part more was moved towards the front
pub moved_down : (xs ys new : List ℕ) (from to done size : ℕ) → to ≤ from → from + (done + size) ≤ length xs →
    ys ≡ paste xs to (drop from xs) done → new ≡ paste ys (to + done) (drop (from + done) ys) size →
    new ≡ paste xs to (drop from xs) (done + size)
moved_down xs ys new from to done size down within is h =
    let low : to ≤ length xs = omega (arith, down, within) in
    let enough : done ≤ length (drop from xs) = omega (arith, length-drop from xs, within) in
    let front : take (to + done) ys ≡ take to xs ++ take done (drop from xs) = ap (take (to + done)) is ∙ take-paste xs to (drop from xs) done low enough in
    let behind : drop (to + done) ys ≡ drop (to + done) xs = ap (drop (to + done)) is ∙ drop-paste xs to (drop from xs) done low enough in
    let source : drop (from + done) ys ≡ drop (from + done) xs =
    ap (λ k. drop k ys) (let e : from + done ≡ to + done + (from - to) = omega (arith, down) in e)
    ∙ sym (drop-drop (from - to) (to + done) ys) ∙ ap (drop (from - to)) behind ∙ drop-drop (from - to) (to + done) xs
    ∙ ap (λ k. drop k xs) (let e : to + done + (from - to) ≡ from + done = omega (arith, down) in e) in
    let rest : drop (to + done + size) ys ≡ drop (to + (done + size)) xs =
    sym (drop-drop size (to + done) ys) ∙ ap (drop size) behind ∙ drop-drop size (to + done) xs
    ∙ ap (λ k. drop k xs) (let e : to + done + size ≡ to + (done + size) = omega arith in e) in
    h
    ∙ ap (λ zs. zs ++ take size (drop (from + done) ys) ++ drop (to + done + size) ys) front
    ∙ ap (λ zs. take to xs ++ take done (drop from xs) ++ take size zs ++ drop (to + done + size) ys) source
    ∙ ap (λ zs. take to xs ++ take done (drop from xs) ++ take size (drop (from + done) xs) ++ zs) rest
    ∙ ap (λ zs. zs ++ drop (to + (done + size)) xs)
    (append_assoc (take to xs) (take done (drop from xs)) (take size (drop (from + done) xs)) ∙ ap (λ zs. take to xs ++ zs) (next_bytes xs from done size))

-- one part more was moved towards the end
pub moved_up : (xs ys new : List ℕ) (from to left size rest : ℕ) → from ≤ to → to + (left + size + rest) ≤ length xs →
    ys ≡ paste xs (to + (left + size)) (drop (from + (left + size)) xs) rest → new ≡ paste ys (to + left) (drop (from + left) ys) size →
    new ≡ paste xs (to + left) (drop (from + left) xs) (size + rest)
moved_up xs ys new from to left size rest up within is h =
    let m : ℕ = left + size in
    let high : to + m ≤ length xs = omega (arith, within) in
    let tail : List ℕ = take rest (drop (from + m) xs) ++ drop (to + m + rest) xs in
    let parts : ys ≡ take (to + m) xs ++ tail = is ∙ append_assoc (take (to + m) xs) (take rest (drop (from + m) xs)) (drop (to + m + rest) xs) in
    let same : (n : ℕ) → n ≤ to + m → take n ys ≡ take n xs = λ n low. ap (take n) parts ∙ take-before xs tail n (to + m) low high in
    let front : take (to + left) ys ≡ take (to + left) xs = same (to + left) (omega arith) in
    let source : take size (drop (from + left) ys) ≡ take size (drop (from + left) xs) =
    sym (drop-take (from + left) size ys) ∙ ap (drop (from + left)) (same (from + left + size) (omega (arith, up))) ∙ drop-take (from + left) size xs in
    let behind : drop (to + left + size) ys ≡ tail =
    ap (λ k. drop k ys) (let e : to + left + size ≡ to + m = omega arith in e) ∙ ap (drop (to + m)) parts ∙ drop-at xs tail (to + m) high in
    let whole : take size (drop (from + left) xs) ++ take rest (drop (from + m) xs) ≡ take (size + rest) (drop (from + left) xs) =
    ap (λ k. take size (drop (from + left) xs) ++ take rest (drop k xs)) (let e : from + m ≡ from + left + size = omega arith in e)
    ∙ next_bytes xs (from + left) size rest in
    h
    ∙ ap (λ zs. zs ++ take size (drop (from + left) ys) ++ drop (to + left + size) ys) front
    ∙ ap (λ zs. take (to + left) xs ++ zs ++ drop (to + left + size) ys) source
    ∙ ap (λ zs. take (to + left) xs ++ take size (drop (from + left) xs) ++ zs) behind
    ∙ sym (append_assoc (take (to + left) xs ++ take size (drop (from + left) xs)) (take rest (drop (from + m) xs)) (drop (to + m + rest) xs))
    ∙ ap (λ zs. zs ++ drop (to + m + rest) xs)
    (append_assoc (take (to + left) xs) (take size (drop (from + left) xs)) (take rest (drop (from + m) xs)) ∙ ap (λ zs. take (to + left) xs ++ zs) whole)
    ∙ ap (λ k. take (to + left) xs ++ take (size + rest) (drop (from + left) xs) ++ drop k xs) (let e : to + m + rest ≡ to + left + (size + rest) = omega arith in e)

-- what is moved to where it is stays
pub moved_nowhere : (xs : List ℕ) (at count : ℕ) → xs ≡ paste xs at (drop at xs) count
moved_nowhere xs at count =
    sym (take-append-drop (at + count) xs) ∙ ap (λ zs. zs ++ drop (at + count) xs) (take-add at count xs)
