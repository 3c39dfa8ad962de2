-- Elements read one after the other.
use Rattle.std.proofs.Common.{◌≡◌, ℕ, ◌+◌, ◌<◌, List, [], ◌∷◌, ◌++◌, length, map, take, drop, get_or, Result, Ok, Err, suc, refl, ap, sym, ◌∙◌, add-one, append_assoc, drop-cons}
use Rattle.std.proofs.lemmas.List.{map_more}
use Rattle.serde_json.specs.Data.{Data}
use Rattle.json_view.specs.Answers.{Answers}
use Rattle.lsp_messages.specs.declared.parameters.Parameter.{Parameter}
use Rattle.lsp_messages.specs.declared.parameters.ParameterFault.{ParameterFault}
use Rattle.lsp_messages.specs.declared.parameters.ParameterFault.TheVariants.{Bad, OutOfMemory}
use Rattle.lsp_messages.specs.Parameters.{◌>>=◌, all, each, named_by}

-- what is left is the next element and what is left behind it
pub drop-next : {A : Type 0} (xs : List A) (i : ℕ) (x : A) → i < length xs → x ≡ get_or xs i x → drop i xs ≡ x ∷ drop (i + 1) xs
drop-next xs i x more is_next =
    drop-cons xs i x more
    ∙ ap (λ y. y ∷ drop (suc i) xs) (sym is_next)
    ∙ ap (λ k. x ∷ drop k xs) (sym (add-one i))

-- ---- elements that must be readable

-- one more element was read
pub all-drop-ok : {V A B : Type 0} (read : A → Result B Parameter) (f : V → A) (xs : List V) (i : ℕ) (x : V) (y : B)
    → i < length xs → x ≡ get_or xs i x → read (f x) ≡ Ok y
    → all read (map f (drop i xs)) ≡ all read (map f (drop (i + 1) xs))
all-drop-ok read f xs i x y more is_next is_read =
    ap (λ rest. all read (map f rest)) (drop-next xs i x more is_next)
    ∙ ap (λ r. r >>= (λ z. all read (map f (drop (i + 1) xs)))) is_read

-- an element cannot be read
pub all-drop-err : {V A B : Type 0} (read : A → Result B Parameter) (f : V → A) (xs : List V) (i : ℕ) (x : V) (parameter : Parameter)
    → i < length xs → x ≡ get_or xs i x → read (f x) ≡ Err parameter
    → all read (map f (drop i xs)) ≡ Err parameter
all-drop-err read f xs i x parameter more is_next is_bad =
    ap (λ rest. all read (map f rest)) (drop-next xs i x more is_next)
    ∙ ap (λ r. r >>= (λ z. all read (map f (drop (i + 1) xs)))) is_bad

-- ---- elements that are collected

-- what is read of the rest, behind what was read before
abbrev pub behind : {B : Type 0} → List B → Result (List B) Parameter → Result (List B) Parameter
behind before rest = rest >>= (λ ys. Ok (before ++ ys))

pub behind-nil : {B : Type 0} (rest : Result (List B) Parameter) → behind [] rest ≡ rest
behind-nil (Ok ys) = refl
behind-nil (Err parameter) = refl

-- an element before the rest may as well stand behind what was read before
pub behind-cons : {B : Type 0} (before : List B) (y : B) (rest : Result (List B) Parameter)
    → behind before (rest >>= (λ ys. Ok (y ∷ ys))) ≡ behind (before ++ y ∷ []) rest
behind-cons before y (Ok ys) = ap Ok (sym (append_assoc before (y ∷ []) ys))
behind-cons before y (Err parameter) = refl

-- one more element was read
pub behind-drop-ok : {V A B : Type 0} (read : A → Result B Parameter) (f : V → A) (before : List B) (xs : List V) (i : ℕ) (x : V) (y : B)
    → i < length xs → x ≡ get_or xs i x → read (f x) ≡ Ok y
    → behind before (each read (map f (drop i xs))) ≡ behind (before ++ y ∷ []) (each read (map f (drop (i + 1) xs)))
behind-drop-ok read f before xs i x y more is_next is_read =
    ap (λ rest. behind before (each read (map f rest))) (drop-next xs i x more is_next)
    ∙ ap (λ r. behind before (r >>= (λ z. each read (map f (drop (i + 1) xs)) >>= (λ ys. Ok (z ∷ ys))))) is_read
    ∙ behind-cons before y (each read (map f (drop (i + 1) xs)))

-- an element cannot be read, or there was no memory for it
pub Answers-behind-drop : {V A B : Type 0} (read : A → Result B Parameter) (f : V → A) (before : List B) (xs : List V) (i : ℕ) (x : V) (fault : ParameterFault)
    → i < length xs → x ≡ get_or xs i x → Answers named_by (Err fault) (read (f x))
    → Answers {A = List B} named_by (Err fault) (behind before (each read (map f (drop i xs))))
Answers-behind-drop read f before xs i x (Bad parameter) more is_next is_bad =
    ap (λ rest. behind before (each read (map f rest))) (drop-next xs i x more is_next)
    ∙ ap (λ r. behind before (r >>= (λ z. each read (map f (drop (i + 1) xs)) >>= (λ ys. Ok (z ∷ ys))))) is_bad
Answers-behind-drop read f before xs i x OutOfMemory more is_next no_room = tt

-- ---- values that are collected

-- one more element's value was made
pub map-next : {A : Type 0} (f : A → Data) (xs : List A) (i : ℕ) (x : A) (before after : List Data) → i < length xs → x ≡ get_or xs i x
    → before ≡ map f (take i xs) → after ≡ before ++ f x ∷ [] → after ≡ map f (take (i + 1) xs)
map-next f xs i x before after more is_next so_far added =
    added
    ∙ ap (λ ds. ds ++ f x ∷ []) so_far
    ∙ ap (λ y. map f (take i xs) ++ f y ∷ []) is_next
    ∙ sym (map_more f xs i x more)
