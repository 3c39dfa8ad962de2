-- The fields of a source as texts, and how a source grows with its lines.
use Rattle.std.proofs.Common.{◌≡◌, ◌∙◌, ℕ, ◌+◌, Bool, true, false, cond, not, List, [], ◌∷◌, ◌++◌, length, take, drop, zero, suc, refl, sym, ap, inl, inr, arith, append_assoc}
use Rattle.std.specs.Prelude.{take_while, ◌==◌, ◌&&◌}
use Rattle.std.specs.List.{list_all, prefix_len}
use Rattle.std.proofs.lemmas.Bool.{cases_Bool, ne_eqb}
use Rattle.hlasm_statements.specs.Columns.{Placed, placed, continued, text_of, is_blank, is_ink}
use Rattle.hlasm_statements.specs.Shape.{skip_while, label_of, operation_of}
use Rattle.hlasm_statements.proofs.ListLaws.{take_while-pass, take_while-stop, skip_while-pass, skip_while-stop}

-- the operation in a text
abbrev pub operation_text : List ℕ → List ℕ
operation_text text = take_while is_ink (skip_while is_blank (skip_while is_ink text))

-- characters side by side, and one more
pub placed-append : (line column : ℕ) (xs ys : List ℕ) → placed line column (xs ++ ys) ≡ placed line column xs ++ placed line (column + length xs) ys
placed-append line column [] ys = ap (λ k. placed line k ys) (let e : column ≡ column + 0 = omega arith in e)
placed-append line column (x ∷ xs) ys =
    let e : (column + 1) + length xs ≡ column + length (x ∷ xs) = omega arith in
    ap (λ back. record { char = x; line = line; column = column } ∷ back) (placed-append line (column + 1) xs ys ∙ ap (λ k. placed line (column + 1) xs ++ placed line k ys) e)

-- continuation lines, and further ones
pub continued-append : (number : ℕ) (xs ys : List (List ℕ)) → continued number (xs ++ ys) ≡ continued number xs ++ continued (number + length xs) ys
continued-append number [] ys = ap (λ n. continued n ys) (let e : number ≡ number + 0 = omega arith in e)
continued-append number (x ∷ xs) ys =
    let e : (number + 1) + length xs ≡ number + length (x ∷ xs) = omega arith in
    ap (λ back. placed number 16 (drop 15 x) ++ back) (continued-append (number + 1) xs ys ∙ ap (λ n. continued (number + 1) xs ++ continued n ys) e)
    ∙ sym (append_assoc (placed number 16 (drop 15 x)) (continued (number + 1) xs) (continued (number + length (x ∷ xs)) ys))

text_of-prefix : (p : ℕ → Bool) (xs : List Placed) → prefix_len (λ x. p x.char) xs ≡ prefix_len p (text_of xs)
text_of-prefix p [] = refl
text_of-prefix p (x ∷ xs) = ap (λ n. cond (p x.char) (1 + n) 0) (text_of-prefix p xs)

text_of-take : (n : ℕ) (xs : List Placed) → text_of (take n xs) ≡ take n (text_of xs)
text_of-take zero xs = refl
text_of-take (suc n) [] = refl
text_of-take (suc n) (x ∷ xs) = ap (λ cs. x.char ∷ cs) (text_of-take n xs)

text_of-drop : (n : ℕ) (xs : List Placed) → text_of (drop n xs) ≡ drop n (text_of xs)
text_of-drop zero xs = refl
text_of-drop (suc n) [] = refl
text_of-drop (suc n) (x ∷ xs) = text_of-drop n xs

text_of-take_while : (p : ℕ → Bool) (xs : List Placed) → text_of (take_while (λ x. p x.char) xs) ≡ take_while p (text_of xs)
text_of-take_while p xs = text_of-take (prefix_len (λ x. p x.char) xs) xs ∙ ap (λ n. take n (text_of xs)) (text_of-prefix p xs)

text_of-skip_while : (p : ℕ → Bool) (xs : List Placed) → text_of (skip_while (λ x. p x.char) xs) ≡ skip_while p (text_of xs)
text_of-skip_while p xs = text_of-drop (prefix_len (λ x. p x.char) xs) xs ∙ ap (λ n. drop n (text_of xs)) (text_of-prefix p xs)

pub text_of-label : (source : List Placed) → text_of (label_of source) ≡ take_while is_ink (text_of source)
text_of-label source = text_of-take_while is_ink source

pub text_of-operation : (source : List Placed) → text_of (operation_of source) ≡ operation_text (text_of source)
text_of-operation source =
    text_of-take_while is_ink (skip_while (λ p. is_blank p.char) (skip_while (λ p. is_ink p.char) source))
    ∙ ap (take_while is_ink) (text_of-skip_while is_blank (skip_while (λ p. is_ink p.char) source) ∙ ap (skip_while is_blank) (text_of-skip_while is_ink source))

-- ---- blank statements

not_none : {X : Type 0} (x : X) (xs : List X) → (length (x ∷ xs) == 0) ≡ false
not_none x xs = ne_eqb (length (x ∷ xs)) 0 (λ none. absurd (omega (arith, none)))

not_true : (b : Bool) → b ≡ true → not b ≡ false
not_true b h = ap not h

not_false : (b : Bool) → b ≡ false → not b ≡ true
not_false b h = ap not h

blank_behind : (cs : List ℕ) → (length (take_while is_ink (skip_while is_blank cs)) == 0) ≡ list_all is_blank cs
blank_behind [] = refl
blank_behind (c ∷ cs) = elim (cases_Bool (is_blank c)) [
  | inl blank ↦
      ap (λ xs. length (take_while is_ink xs) == 0) (skip_while-pass is_blank c cs blank) ∙ blank_behind cs
      ∙ ap (λ b. b && list_all is_blank cs) (sym blank)
  | inr ink ↦
      ap (λ xs. length (take_while is_ink xs) == 0) (skip_while-stop is_blank c cs ink)
      ∙ ap (λ xs. length xs == 0) (take_while-pass is_ink c cs (not_false (is_blank c) ink))
      ∙ not_none c (take_while is_ink cs)
      ∙ ap (λ b. b && list_all is_blank cs) (sym ink)
]

-- a text is blank where it has neither field
pub blank_fields : (text : List ℕ) → ((length (take_while is_ink text) == 0) && (length (operation_text text) == 0)) ≡ list_all is_blank text
blank_fields [] = refl
blank_fields (c ∷ cs) = elim (cases_Bool (is_blank c)) [
  | inl blank ↦
      ap (λ xs. (length xs == 0) && (length (operation_text (c ∷ cs)) == 0)) (take_while-stop is_ink c cs (not_true (is_blank c) blank))
      ∙ ap (λ xs. length (take_while is_ink (skip_while is_blank xs)) == 0) (skip_while-stop is_ink c cs (not_true (is_blank c) blank))
      ∙ blank_behind (c ∷ cs)
  | inr ink ↦
      ap (λ xs. (length xs == 0) && (length (operation_text (c ∷ cs)) == 0)) (take_while-pass is_ink c cs (not_false (is_blank c) ink))
      ∙ ap (λ b. b && (length (operation_text (c ∷ cs)) == 0)) (not_none c (take_while is_ink cs))
      ∙ ap (λ b. b && list_all is_blank cs) (sym ink)
]
