-- Notes that are left of some, one after the other.
use Rattle.std.proofs.Common.{◌≡◌, ◌∙◌, ◌+◌, ◌<◌, ◌≤◌, ℕ, suc, Bool, true, false, List, [], ◌∷◌, ◌++◌, length, get_or, drop, drop-cons, add-one, sym, ap, subst, refl, append_assoc, append-nil, if◌then◌else◌}
use Rattle.std.specs.Prelude.{◌==◌, ◌&&◌, ◌||◌, not, cond, encode_utf8_all}
use Rattle.std.specs.List.{filter, list_any}
use Rattle.std.specs.Str.{bytes_eq}
use Rattle.std.proofs.Math.ListN.{drop_of_length-le}
use Rattle.std.proofs.lemmas.List.Folds.{list_any-append}
use Rattle.std.proofs.lemmas.Slice.Eq.{bytes_eq-Decides}
use Rattle.hl_base.specs.declared.note.Note.{Note}
use Rattle.conditional_asm.specs.Repeating.{repeats, once}

-- whether a note was given already
abbrev pub is_given : (given : List Note) → Note → Bool
is_given given note = list_any (λ earlier. repeats earlier note) given

-- what is left of some notes behind others that were given
abbrev pub once_behind : (given notes : List Note) → List Note
once_behind given [] = []
once_behind given (note ∷ notes) = if is_given given note then once_behind given notes else note ∷ once_behind (given ++ note ∷ []) notes

-- ---- notes that say the same

both : (x y : Bool) → (x && y) ≡ true → (x ≡ true) × (y ≡ true)
both true y is = (refl, is)
both false y is = cc

all_three : (x y z : Bool) → x ≡ true → y ≡ true → z ≡ true → (x && (y && z)) ≡ true
all_three true true true first second third = refl
all_three true true false first second third = cc
all_three true false z first second third = cc
all_three false y z first second third = cc

same_bytes : (a b c : List ℕ) → bytes_eq a b ≡ true → bytes_eq b c ≡ true → bytes_eq a c ≡ true
same_bytes a b c first second = (bytes_eq-Decides a c).1 ((bytes_eq-Decides a b).0 first ∙ (bytes_eq-Decides b c).0 second)

repeats-trans : (a b c : Note) → repeats a b ≡ true → repeats b c ≡ true → repeats a c ≡ true
repeats-trans a b c first second =
    let of_a = both (a.code == 24) (b.code == 24 && bytes_eq (encode_utf8_all a.text) (encode_utf8_all b.text)) first in
    let of_b = both (b.code == 24) (bytes_eq (encode_utf8_all a.text) (encode_utf8_all b.text)) of_a.1 in
    let behind = both (b.code == 24) (c.code == 24 && bytes_eq (encode_utf8_all b.text) (encode_utf8_all c.text)) second in
    let of_c = both (c.code == 24) (bytes_eq (encode_utf8_all b.text) (encode_utf8_all c.text)) behind.1 in
    all_three (a.code == 24) (c.code == 24) (bytes_eq (encode_utf8_all a.text) (encode_utf8_all c.text)) of_a.0 of_c.0
    (same_bytes (encode_utf8_all a.text) (encode_utf8_all b.text) (encode_utf8_all c.text) of_b.1 of_c.1)

one_or : (x y : Bool) → x ≡ true → (x || y) ≡ true
one_or true y is = refl
one_or false y is = cc

or_other : (x y : Bool) → y ≡ true → (x || y) ≡ true
or_other true y is = refl
or_other false y is = is

given_by : (b : Bool) (one : Note) (given : List Note) (note later : Note) → repeats one note ≡ b → (b || is_given given note) ≡ true → repeats note later ≡ true →
    (is_given given note ≡ true → is_given given later ≡ true) → (repeats one later || is_given given later) ≡ true
given_by true one given note later is holds again keep = one_or (repeats one later) (is_given given later) (repeats-trans one note later is again)
given_by false one given note later is holds again keep = or_other (repeats one later) (is_given given later) (keep holds)

-- what repeats a note that was given was given
given_too : (given : List Note) (note later : Note) → is_given given note ≡ true → repeats note later ≡ true → is_given given later ≡ true
given_too [] note later is again = cc
given_too (one ∷ given) note later is again = given_by (repeats one note) one given note later refl is again (λ so. given_too given note later so again)

-- ---- what is left, from the first note on and from the last

abbrev fresh : (given : List Note) → Note → Bool
fresh given note = not (is_given given note)

abbrev other_than : Note → Note → Bool
other_than note later = not (repeats note later)

filter_alike : (p q : Note → Bool) → ((n : Note) → p n ≡ q n) → (ns : List Note) → filter p ns ≡ filter q ns
filter_alike p q each [] = refl
filter_alike p q each (n ∷ ns) = ap (λ b. cond b (n ∷ filter p ns) (filter p ns)) (each n) ∙ ap (λ rest. cond (q n) (n ∷ rest) rest) (filter_alike p q each ns)

twice_at : (b : Bool) (p : Note → Bool) (n : Note) (rest kept : List Note) → filter p rest ≡ kept → filter p (cond b (n ∷ rest) rest) ≡ cond (b && p n) (n ∷ kept) kept
twice_at true p n rest kept is = ap (λ r. cond (p n) (n ∷ r) r) is
twice_at false p n rest kept is = is

filter_twice : (p q : Note → Bool) (ns : List Note) → filter p (filter q ns) ≡ filter (λ n. q n && p n) ns
filter_twice p q [] = refl
filter_twice p q (n ∷ ns) = twice_at (q n) p n (filter q ns) (filter (λ m. q m && p m) ns) (filter_twice p q ns)

idle_at : (r g : Bool) → (r ≡ true → g ≡ true) → (not r && not g) ≡ not g
idle_at true true h = refl
idle_at true false h = let no = h refl in cc
idle_at false g h = refl

joined_at : (r g : Bool) → (not r && not g) ≡ not (g || (r || false))
joined_at true true = refl
joined_at true false = refl
joined_at false true = refl
joined_at false false = refl

idle : (given : List Note) (note : Note) (ns : List Note) → is_given given note ≡ true → filter (fresh given) (filter (other_than note) ns) ≡ filter (fresh given) ns
idle given note ns is =
    filter_twice (fresh given) (other_than note) ns
    ∙ filter_alike (λ n. other_than note n && fresh given n) (fresh given) (λ n. idle_at (repeats note n) (is_given given n) (given_too given note n is)) ns

joined : (given : List Note) (note : Note) (ns : List Note) → filter (fresh given) (filter (other_than note) ns) ≡ filter (fresh (given ++ note ∷ [])) ns
joined given note ns =
    filter_twice (fresh given) (other_than note) ns
    ∙ filter_alike (λ n. other_than note n && fresh given n) (fresh (given ++ note ∷ []))
    (λ n. joined_at (repeats note n) (is_given given n) ∙ ap not (sym (list_any-append (λ earlier. repeats earlier n) given (note ∷ [])))) ns

behind_by : (b : Bool) (given : List Note) (note : Note) (notes : List Note) → is_given given note ≡ b → once_behind given notes ≡ filter (fresh given) (once notes) →
    once_behind (given ++ note ∷ []) notes ≡ filter (fresh (given ++ note ∷ [])) (once notes) →
    cond b (once_behind given notes) (note ∷ once_behind (given ++ note ∷ []) notes)
    ≡ cond (not b) (note ∷ filter (fresh given) (filter (other_than note) (once notes))) (filter (fresh given) (filter (other_than note) (once notes)))
behind_by true given note notes is left more = left ∙ sym (idle given note (once notes) is)
behind_by false given note notes is left more = ap (λ rest. note ∷ rest) (more ∙ sym (joined given note (once notes)))

behind_once : (notes given : List Note) → once_behind given notes ≡ filter (fresh given) (once notes)
behind_once [] given = refl
behind_once (note ∷ notes) given = behind_by (is_given given note) given note notes refl (behind_once notes given) (behind_once notes (given ++ note ∷ []))

all_fresh : (notes : List Note) → filter (fresh []) notes ≡ notes
all_fresh [] = refl
all_fresh (note ∷ notes) = ap (λ rest. note ∷ rest) (all_fresh notes)

-- behind none, what is left of some notes is what is left of them
behind_nothing : (notes : List Note) → once_behind [] notes ≡ once notes
behind_nothing notes = behind_once notes [] ∙ all_fresh (once notes)

-- ---- one note after the other

-- one note, and then those behind it
abbrev one_of : (given : List Note) → Note → (given_is : Bool) → List Note → List Note
one_of given note is rest = if is then once_behind given rest else note ∷ once_behind (given ++ note ∷ []) rest

at_note : (given notes : List Note) (i : ℕ) (note : Note) → i < length notes → note ≡ get_or notes i note →
    once_behind given (drop i notes) ≡ one_of given note (is_given given note) (drop (i + 1) notes)
at_note given notes i note h is =
    ap (once_behind given) (drop-cons notes i note h ∙ ap (λ n. n ∷ drop (suc i) notes) (sym is))
    ∙ ap (λ k. one_of given note (is_given given note) (drop k notes)) (sym (add-one i))

-- a note that was given already is left out
left_out : (given notes whole : List Note) (i : ℕ) (note : Note) → i < length notes → note ≡ get_or notes i note → is_given given note ≡ true →
    given ++ once_behind given (drop i notes) ≡ whole → given ++ once_behind given (drop (i + 1) notes) ≡ whole
left_out given notes whole i note h is given_is so_far =
    ap (λ rest. given ++ rest) (sym (at_note given notes i note h is ∙ ap (λ b. one_of given note b (drop (i + 1) notes)) given_is)) ∙ so_far

-- another is kept
kept : (given notes whole : List Note) (i : ℕ) (note : Note) → i < length notes → note ≡ get_or notes i note → is_given given note ≡ false →
    given ++ once_behind given (drop i notes) ≡ whole → (given ++ note ∷ []) ++ once_behind (given ++ note ∷ []) (drop (i + 1) notes) ≡ whole
kept given notes whole i note h is given_is so_far =
    append_assoc given (note ∷ []) (once_behind (given ++ note ∷ []) (drop (i + 1) notes))
    ∙ ap (λ rest. given ++ rest) (sym (at_note given notes i note h is ∙ ap (λ b. one_of given note b (drop (i + 1) notes)) given_is)) ∙ so_far

next_by : (b : Bool) (given notes whole : List Note) (i : ℕ) (note : Note) → is_given given note ≡ b → i < length notes → note ≡ get_or notes i note →
    given ++ once_behind given (drop i notes) ≡ whole →
    (if b then given else given ++ note ∷ []) ++ once_behind (if b then given else given ++ note ∷ []) (drop (i + 1) notes) ≡ whole
next_by true given notes whole i note b h is so_far = left_out given notes whole i note h is b so_far
next_by false given notes whole i note b h is so_far = kept given notes whole i note h is b so_far

-- so each note is kept or left out
pub next : (given grown notes whole : List Note) (i : ℕ) (note : Note) → i < length notes → note ≡ get_or notes i note →
    grown ≡ (if is_given given note then given else given ++ note ∷ []) → given ++ once_behind given (drop i notes) ≡ whole →
    grown ++ once_behind grown (drop (i + 1) notes) ≡ whole
next given grown notes whole i note h is grown_is so_far =
    subst (λ (g : List Note). g ++ once_behind g (drop (i + 1) notes) ≡ whole) (sym grown_is) (next_by (is_given given note) given notes whole i note refl h is so_far)

-- before the first all are left
pub none_yet : (given notes : List Note) → given ≡ [] → given ++ once_behind given (drop 0 notes) ≡ once notes
none_yet given notes is = subst (λ (g : List Note). g ++ once_behind g notes ≡ once notes) (sym is) (behind_nothing notes)

-- and none is left
pub all_told : (given notes whole : List Note) (i : ℕ) → length notes ≤ i → given ++ once_behind given (drop i notes) ≡ whole → given ≡ whole
all_told given notes whole i past so_far =
    sym (append-nil given) ∙ ap (λ rest. given ++ once_behind given rest) (sym (drop_of_length-le notes past)) ∙ so_far
