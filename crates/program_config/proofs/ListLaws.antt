-- Elements read one after the other.
use Rattle.std.proofs.Common.{◌≡◌, ℕ, ◌+◌, ◌<◌, List, [], ◌∷◌, ◌++◌, length, map, drop, get_or, Result, Ok, Err, suc, refl, ap, sym, ◌∙◌, add-one, append_assoc, drop-cons}
use Rattle.json_view.specs.Answers.{Answers}
use Rattle.program_config.specs.declared.members.Member.{Member}
use Rattle.program_config.specs.declared.members.MemberError.{MemberError}
use Rattle.program_config.specs.declared.members.MemberError.TheVariants.{Bad, OutOfMemory}
use Rattle.program_config.specs.Members.{◌>>=◌, each, named_by}

-- what is left is the next element and what is left behind it
pub drop-next : {A : Type 0} (xs : List A) (i : ℕ) (x : A) → i < length xs → x ≡ get_or xs i x → drop i xs ≡ x ∷ drop (i + 1) xs
drop-next xs i x more is_next =
    drop-cons xs i x more
    ∙ ap (λ y. y ∷ drop (suc i) xs) (sym is_next)
    ∙ ap (λ k. x ∷ drop k xs) (sym (add-one i))

-- ---- elements that are collected

-- what is read of the rest, behind what was read before
abbrev pub behind : {B : Type 0} → List B → Result (List B) Member → Result (List B) Member
behind before rest = rest >>= (λ ys. Ok (before ++ ys))

pub behind-nil : {B : Type 0} (rest : Result (List B) Member) → behind [] rest ≡ rest
behind-nil (Ok ys) = refl
behind-nil (Err member) = refl

-- an element before the rest may as well stand behind what was read before
pub behind-cons : {B : Type 0} (before : List B) (y : B) (rest : Result (List B) Member)
    → behind before (rest >>= (λ ys. Ok (y ∷ ys))) ≡ behind (before ++ y ∷ []) rest
behind-cons before y (Ok ys) = ap Ok (sym (append_assoc before (y ∷ []) ys))
behind-cons before y (Err member) = refl

-- one more element was read
pub behind-drop-ok : {V A B : Type 0} (read : A → Result B Member) (f : V → A) (before : List B) (xs : List V) (i : ℕ) (x : V) (y : B)
    → i < length xs → x ≡ get_or xs i x → read (f x) ≡ Ok y
    → behind before (each read (map f (drop i xs))) ≡ behind (before ++ y ∷ []) (each read (map f (drop (i + 1) xs)))
behind-drop-ok read f before xs i x y more is_next is_read =
    ap (λ rest. behind before (each read (map f rest))) (drop-next xs i x more is_next)
    ∙ ap (λ r. behind before (r >>= (λ z. each read (map f (drop (i + 1) xs)) >>= (λ ys. Ok (z ∷ ys))))) is_read
    ∙ behind-cons before y (each read (map f (drop (i + 1) xs)))

-- an element cannot be read, or there was no memory for it
pub Answers-behind-drop : {V A B : Type 0} (read : A → Result B Member) (f : V → A) (before : List B) (xs : List V) (i : ℕ) (x : V) (fault : MemberError)
    → i < length xs → x ≡ get_or xs i x → Answers named_by (Err fault) (read (f x))
    → Answers {A = List B} named_by (Err fault) (behind before (each read (map f (drop i xs))))
Answers-behind-drop read f before xs i x (Bad member) more is_next is_bad =
    ap (λ rest. behind before (each read (map f rest))) (drop-next xs i x more is_next)
    ∙ ap (λ r. behind before (r >>= (λ z. each read (map f (drop (i + 1) xs)) >>= (λ ys. Ok (z ∷ ys))))) is_bad
Answers-behind-drop read f before xs i x OutOfMemory more is_next no_room = tt
