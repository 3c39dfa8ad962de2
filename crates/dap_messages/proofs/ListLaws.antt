-- Elements read one after the other, and elements with their numbers.
use Rattle.std.proofs.Common.{◌≡◌, ℕ, ◌+◌, ◌<◌, ◌≤◌, List, [], ◌∷◌, ◌++◌, length, map, take, drop, get_or, Result, Ok, Err, suc, refl, ap, sym, ◌∙◌, add-one, append_assoc, drop-cons, add_comm}
use Rattle.std.proofs.lemmas.List.{take_more, take_all, map_more}
use Rattle.std.proofs.lemmas.List.FromFn.{length-enumerate_from, get_or-enumerate_from}
use Rattle.std.specs.List.{enumerate_from}
use Rattle.serde_json.specs.Data.{Data}
use Rattle.json_view.specs.declared.members.MemberFault.{MemberFault}
use Rattle.dap_messages.specs.Arguments.{◌>>=◌, each}

-- what is left is the next element and what is left behind it
pub drop-next : {A : Type 0} (xs : List A) (i : ℕ) (x : A) → i < length xs → x ≡ get_or xs i x → drop i xs ≡ x ∷ drop (i + 1) xs
drop-next xs i x more is_next =
    drop-cons xs i x more
    ∙ ap (λ y. y ∷ drop (suc i) xs) (sym is_next)
    ∙ ap (λ k. x ∷ drop k xs) (sym (add-one i))

-- what is read of the rest, behind what was read before
abbrev pub behind : {B : Type 0} → List B → Result (List B) MemberFault → Result (List B) MemberFault
behind before rest = rest >>= (λ ys. Ok (before ++ ys))

pub behind-nil : {B : Type 0} (rest : Result (List B) MemberFault) → behind [] rest ≡ rest
behind-nil (Ok ys) = refl
behind-nil (Err fault) = refl

-- an element before the rest may as well stand behind what was read before
pub behind-cons : {B : Type 0} (before : List B) (y : B) (rest : Result (List B) MemberFault)
    → behind before (rest >>= (λ ys. Ok (y ∷ ys))) ≡ behind (before ++ y ∷ []) rest
behind-cons before y (Ok ys) = ap Ok (sym (append_assoc before (y ∷ []) ys))
behind-cons before y (Err fault) = refl

-- one more element was read
pub behind-drop-ok : {V A B : Type 0} (read : A → Result B MemberFault) (f : V → A) (before : List B) (xs : List V) (i : ℕ) (x : V) (y : B)
    → i < length xs → x ≡ get_or xs i x → read (f x) ≡ Ok y
    → behind before (each read (map f (drop i xs))) ≡ behind (before ++ y ∷ []) (each read (map f (drop (i + 1) xs)))
behind-drop-ok read f before xs i x y more is_next is_read =
    ap (λ rest. behind before (each read (map f rest))) (drop-next xs i x more is_next)
    ∙ ap (λ r. behind before (r >>= (λ z. each read (map f (drop (i + 1) xs)) >>= (λ ys. Ok (z ∷ ys))))) is_read
    ∙ behind-cons before y (each read (map f (drop (i + 1) xs)))

-- an element cannot be read
pub behind-drop-err : {V A B : Type 0} (read : A → Result B MemberFault) (f : V → A) (before : List B) (xs : List V) (i : ℕ) (x : V) (fault : MemberFault)
    → i < length xs → x ≡ get_or xs i x → read (f x) ≡ Err fault
    → behind before (each read (map f (drop i xs))) ≡ Err fault
behind-drop-err read f before xs i x fault more is_next is_bad =
    ap (λ rest. behind before (each read (map f rest))) (drop-next xs i x more is_next)
    ∙ ap (λ r. behind before (r >>= (λ z. each read (map f (drop (i + 1) xs)) >>= (λ ys. Ok (z ∷ ys))))) is_bad

-- ---- elements with their numbers, from 1

-- one more element with its number
pub take-enumerated : {A : Type 0} (xs : List A) (i : ℕ) (x : A) → i < length xs → x ≡ get_or xs i x
    → take (i + 1) (enumerate_from 1 xs) ≡ take i (enumerate_from 1 xs) ++ (i + 1, x) ∷ []
take-enumerated xs i x more is_next =
    let in_numbered : i < length (enumerate_from 1 xs) = rw (length-enumerate_from 1 xs) more in
    take_more (enumerate_from 1 xs) i (0, x) in_numbered
    ∙ ap (λ e. take i (enumerate_from 1 xs) ++ e ∷ []) (get_or-enumerate_from 1 xs i (0, x) more)
    ∙ ap (λ n. take i (enumerate_from 1 xs) ++ (n, get_or xs i x) ∷ []) (add_comm 1 i)
    ∙ ap (λ y. take i (enumerate_from 1 xs) ++ (i + 1, y) ∷ []) (sym is_next)

-- all elements with their numbers
pub take-all-enumerated : {A : Type 0} (xs : List A) (i : ℕ) → length xs ≤ i → take i (enumerate_from 1 xs) ≡ enumerate_from 1 xs
take-all-enumerated xs i all = take_all i _ (rw (length-enumerate_from 1 xs) all)

-- ---- values that are collected

-- one more element's value was made
pub map-next : {A : Type 0} (f : A → Data) (xs : List A) (i : ℕ) (x : A) (before after : List Data) → i < length xs → x ≡ get_or xs i x
    → before ≡ map f (take i xs) → after ≡ before ++ f x ∷ [] → after ≡ map f (take (i + 1) xs)
map-next f xs i x before after more is_next so_far added =
    added
    ∙ ap (λ ds. ds ++ f x ∷ []) so_far
    ∙ ap (λ y. map f (take i xs) ++ f y ∷ []) is_next
    ∙ sym (map_more f xs i x more)
