-- How a prototype is read, one step on.
use Rattle.std.proofs.Common.{◌≡◌, ℕ, suc, ◌+◌, ◌==◌, ◌<◌, Bool, true, false, List, ◌∷◌, Option, Some, None, refl, sym, ap, ◌∙◌, length, take, drop, get_or, position}
use Rattle.std.specs.Option.{option_and_then, option_map}
use Rattle.std.proofs.Math.Seq.{drop-cons}
use Rattle.std.proofs.lemmas.List.{drop-drop}
use Rattle.macro_binding.specs.Inside.{IsAdmitted}
use Rattle.macro_binding.specs.Prototypes.{Parameter, Parted, parted, parted_at, admitted_operand, admitted_operands}

-- a text parted at the place of its first equals sign
pub parted-is : (text before rest behind : List ℕ) (n : ℕ) → before ≡ take n text → rest ≡ drop n text → behind ≡ drop 1 rest →
    Some n ≡ position (λ c. c == 61) text → Some (record { before = before; behind = behind }) ≡ parted text
parted-is text before rest behind n before-is rest-is behind-is place =
    let one : Parted = record { before = before; behind = behind } in
    let behind-all : behind ≡ drop (n + 1) text = behind-is ∙ ap (drop 1) rest-is ∙ drop-drop 1 n text in
    let same : one ≡ parted_at text n = ap (λ (b : List ℕ). record { before = b; behind = behind }) before-is ∙ ap (λ (b : List ℕ). record { before = take n text; behind = b }) behind-all in
    ap Some same ∙ ap (option_map (parted_at text)) place

not_admitted : (wanted : Option (List Parameter)) (now : List Parameter) (b : Bool) → IsAdmitted wanted now b → b ≡ false → wanted ≡ None
not_admitted None now b admitted refused = refl
not_admitted (Some wanted) now true admitted refused = cc
not_admitted (Some wanted) now false admitted refused = absurd admitted

-- where an operand is no parameter, a prototype is none
pub refuses : (parameters now : List Parameter) (items : List (List ℕ)) (i : ℕ) (x : List ℕ) (b : Bool) (whole : Option (List Parameter)) →
    admitted_operands parameters (drop i items) ≡ whole → i < length items → x ≡ get_or items i x →
    IsAdmitted (admitted_operand parameters x) now b → b ≡ false → None ≡ whole
refuses parameters now items i x b whole is within item admitted refused =
    let none : admitted_operand parameters x ≡ None = not_admitted (admitted_operand parameters x) now b admitted refused in
    sym (ap (option_and_then (λ more. admitted_operands more (drop (suc i) items))) none)
    ∙ ap (λ y. admitted_operands parameters (y ∷ drop (suc i) items)) item
    ∙ sym (ap (admitted_operands parameters) (drop-cons items i x within))
    ∙ is
