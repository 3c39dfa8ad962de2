-- Operands and the commas between them.
use Rattle.std.proofs.Common.{◌≡◌, ◌∙◌, refl, ℕ, ◌+◌, ◌<◌, Bool, true, false, cond, List, [], ◌∷◌, length, sym, ap, arith, zero-add}
use Rattle.std.specs.List.{onto_first, join_with_byte}
use Rattle.operand_list.specs.Split.{is_separator, parts, operands_of}
use Rattle.field_laws.specs.Separators.{separators}

-- a character before the first of some texts
joined-onto : (x : ℕ) (texts : List (List ℕ)) → 0 < length texts → join_with_byte 44 (onto_first x texts) ≡ x ∷ join_with_byte 44 texts
joined-onto x [] some = absurd (omega arith)
joined-onto x (text ∷ []) some = refl
joined-onto x (text ∷ other ∷ texts) some = refl

-- a comma before some texts
joined-after : (x : ℕ) (texts : List (List ℕ)) → 0 < length texts → x ≡ 44 → join_with_byte 44 ([] ∷ texts) ≡ x ∷ join_with_byte 44 texts
joined-after x [] some is = absurd (omega arith)
joined-after x (text ∷ texts) some is = ap (λ c. c ∷ join_with_byte 44 (text ∷ texts)) (sym is)

joined-by : (x : ℕ) (texts : List (List ℕ)) (b : Bool) → 0 < length texts → (b ≡ true → x ≡ 44) → join_with_byte 44 (cond b ([] ∷ texts) (onto_first x texts)) ≡ x ∷ join_with_byte 44 texts
joined-by x texts true some is = joined-after x texts some (is refl)
joined-by x texts false some is = joined-onto x texts some

length-onto : (x : ℕ) (texts : List (List ℕ)) → 0 < length texts → length (onto_first x texts) ≡ length texts
length-onto x [] some = absurd (omega arith)
length-onto x (text ∷ texts) some = refl

length-by : (x : ℕ) (texts : List (List ℕ)) (b : Bool) → 0 < length texts → length (cond b ([] ∷ texts) (onto_first x texts)) ≡ cond b 1 0 + length texts
length-by x texts true some = omega arith
length-by x texts false some = length-onto x texts some ∙ sym (zero-add (length texts))

is-comma : (x : ℕ) (before : List ℕ) → is_separator 0 x before ≡ true → x ≡ 44
is-comma x before e = grind arith

pub count-parts : (before text : List ℕ) → length (parts 0 before text) ≡ separators before text + 1
count-parts before [] = refl
count-parts before (x ∷ rest) =
    let others : length (parts 0 (x ∷ before) rest) ≡ separators (x ∷ before) rest + 1 = count-parts (x ∷ before) rest in
    let some : 0 < length (parts 0 (x ∷ before) rest) = omega arith in
    let by : length (parts 0 before (x ∷ rest)) ≡ cond (is_separator 0 x before) 1 0 + length (parts 0 (x ∷ before) rest) = length-by x (parts 0 (x ∷ before) rest) (is_separator 0 x before) some in
    omega (arith, by, others)

pub joined-parts : (before text : List ℕ) → join_with_byte 44 (parts 0 before text) ≡ text
joined-parts before [] = refl
joined-parts before (x ∷ rest) =
    let others : length (parts 0 (x ∷ before) rest) ≡ separators (x ∷ before) rest + 1 = count-parts (x ∷ before) rest in
    let some : 0 < length (parts 0 (x ∷ before) rest) = omega arith in
    joined-by x (parts 0 (x ∷ before) rest) (is_separator 0 x before) some (is-comma x before) ∙ ap (λ t. x ∷ t) (joined-parts (x ∷ before) rest)

pub joined : (text : List ℕ) → join_with_byte 44 (operands_of text) ≡ text
joined [] = refl
joined (c ∷ rest) = joined-parts [] (c ∷ rest)
