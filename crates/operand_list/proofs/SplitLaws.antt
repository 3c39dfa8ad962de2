-- How the operands of a field are read on.
use Rattle.std.proofs.Common.{◌≡◌, ◌∙◌, ℕ, ◌+◌, ◌<◌, true, false, cond, List, [], ◌∷◌, ◌++◌, length, take, drop, get_or, refl, sym, ap, arith, append_assoc, append-nil}
use Rattle.std.specs.Prelude.{◌==◌, chars, encode_utf8_all, IsUtf8, Result, Ok, Err, IfOk, OnOk}
use Rattle.std.proofs.lemmas.Bool.{eqb-true, eqb-false}
use Rattle.std.proofs.lemmas.Str.{chars-nil, encodes-chars}
use Rattle.std.specs.List.{onto_first}
use Rattle.std.proofs.lemmas.List.{at_drop_more, drop-drop, nil_from_length}
use Rattle.std.proofs.Math.Seq.{take-add}
use Rattle.hl_base.specs.Quoting.{IsBehind}
use Rattle.operand_list.specs.declared.split.Parting.{Parting}
use Rattle.operand_list.specs.Split.{is_separator, parts, operands_of, with_front, part_of, left_of, whole_parts, IsParted}

with_front-onto : (front : List ℕ) (c : ℕ) (texts : List (List ℕ)) → with_front (front ++ c ∷ []) texts ≡ with_front front (onto_first c texts)
with_front-onto front c [] = refl
with_front-onto front c (text ∷ texts) = ap (λ t. t ∷ texts) (append_assoc front (c ∷ []) text)

front-nil-onto : (c : ℕ) (texts : List (List ℕ)) → with_front [] (onto_first c texts) ≡ onto_first c texts
front-nil-onto c [] = refl
front-nil-onto c (text ∷ texts) = refl

pub with_front-nil : (level : ℕ) (before rest : List ℕ) → with_front [] (parts level before rest) ≡ parts level before rest
with_front-nil level before [] = refl
with_front-nil level before (c ∷ rest) = elim (is_separator level c before) as (λ b. with_front [] (cond b ([] ∷ parts level (c ∷ before) rest) (onto_first c (parts level (c ∷ before) rest))) ≡ cond b ([] ∷ parts level (c ∷ before) rest) (onto_first c (parts level (c ∷ before) rest))) [
  | true ↦ refl
  | false ↦ front-nil-onto c (parts level (c ∷ before) rest)
]

-- a separator ends the text that is read on
pub whole-ends : (level c : ℕ) (before rest : List ℕ) (done grown : List (List ℕ)) (part fresh : List ℕ) → is_separator level c before ≡ true → grown ≡ done ++ part ∷ [] → fresh ≡ []
    → whole_parts level grown fresh (c ∷ before) rest ≡ whole_parts level done part before (c ∷ rest)
whole-ends level c before rest done grown part fresh ends grows none =
    let tail = parts level (c ∷ before) rest in
    ap (λ d. d ++ with_front fresh tail) grows
    ∙ ap (λ p. (done ++ part ∷ []) ++ with_front p tail) none
    ∙ ap (λ t. (done ++ part ∷ []) ++ t) (with_front-nil level (c ∷ before) rest)
    ∙ append_assoc done (part ∷ []) tail
    ∙ ap (λ p. done ++ p ∷ tail) (sym (append-nil part))
    ∙ ap (λ b. done ++ with_front part (cond b ([] ∷ tail) (onto_first c tail))) (sym ends)

-- any other character goes on with it
pub whole-goes-on : (level c : ℕ) (before rest : List ℕ) (done : List (List ℕ)) (part longer : List ℕ) → is_separator level c before ≡ false → longer ≡ part ++ c ∷ []
    → whole_parts level done longer (c ∷ before) rest ≡ whole_parts level done part before (c ∷ rest)
whole-goes-on level c before rest done part longer other goes =
    let tail = parts level (c ∷ before) rest in
    ap (λ p. done ++ with_front p tail) goes
    ∙ ap (λ t. done ++ t) (with_front-onto part c tail)
    ∙ ap (λ b. done ++ with_front part (cond b ([] ∷ tail) (onto_first c tail))) (sym other)

-- ---- so many characters of a text, and one more

pub take-one_more : (n : ℕ) (text : List ℕ) (c : ℕ) (rest : List ℕ) → drop n text ≡ c ∷ rest → take (n + 1) text ≡ take n text ++ c ∷ []
take-one_more n text c rest e = take-add n 1 text ∙ ap (λ left. take n text ++ take 1 left) e

pub drop-one_more : (n : ℕ) (text : List ℕ) (c : ℕ) (rest : List ℕ) → drop n text ≡ c ∷ rest → drop (n + 1) text ≡ rest
drop-one_more n text c rest e = sym (drop-drop 1 n text) ∙ ap (drop 1) e

-- ---- the whole field

pub parted-init : (parting : Parting) (text : List ℕ) → IsBehind parting.nesting [] → parting.done ≡ [] → parting.count ≡ 0 → chars parting.from.now ≡ text → IsParted 0 parting text (parts 0 [] text)
parted-init parting text behind done count from = record {
  before = [];
  behind = behind;
  left = ap (λ n. drop n (chars parting.from.now)) count ∙ from;
  same =
      ap (λ d. d ++ with_front (part_of parting) (parts 0 [] text)) done
      ∙ ap (λ n. with_front (take n (chars parting.from.now)) (parts 0 [] text)) count
      ∙ with_front-nil 0 [] text;
}

-- one character is read
abbrev pub Reads : (level : ℕ) → Parting → Parting → ℕ → Type 0
Reads level old new c =
    (before left : List ℕ) → IsBehind old.nesting before → left_of old ≡ c ∷ left →
    IsBehind new.nesting (c ∷ before) × (left_of new ≡ left)
    × ((rest : List ℕ) → whole_parts level new.done (part_of new) (c ∷ before) rest ≡ whole_parts level old.done (part_of old) before (c ∷ rest))

pub parted-more : (level : ℕ) (old new : Parting) (text : List ℕ) (n m c : ℕ) (whole : List (List ℕ)) → IsParted level old (drop n text) whole → (n < length text) × (c ≡ get_or text n c) → m ≡ n + 1 → Reads level old new c → IsParted level new (drop m text) whole
parted-more level old new text n m c whole parted at next reads =
    let here : drop n text ≡ c ∷ drop m text = at_drop_more (λ rest. rest) text n c at.0 ∙ ap (λ x. x ∷ drop (n + 1) text) (sym at.1) ∙ ap (λ k. c ∷ drop k text) (sym next) in
    let step = reads parted.before (drop m text) parted.behind (parted.left ∙ here) in
    record {
      before = c ∷ parted.before;
      behind = step.0;
      left = step.1;
      same = step.2 (drop m text) ∙ ap (whole_parts level old.done (part_of old) parted.before) (sym here) ∙ parted.same;
    }

pub parted-end : (level : ℕ) (parting : Parting) (texts whole : List (List ℕ)) (rest : List ℕ) → IsParted level parting rest whole → rest ≡ [] → texts ≡ parting.done ++ part_of parting ∷ [] → texts ≡ whole
parted-end level parting texts whole rest parted end is =
    is ∙ ap (λ p. parting.done ++ p ∷ []) (sym (append-nil (part_of parting)))
    ∙ ap (whole_parts level parting.done (part_of parting) parted.before) (sym end) ∙ parted.same

pub operands-some : (text : List ℕ) → 0 < length text → parts 0 [] text ≡ operands_of text
operands-some [] some = absurd (omega arith)
operands-some (c ∷ text) some = refl

pub none-of_empty : (bytes : List ℕ) → (length bytes == 0) ≡ true → [] ≡ operands_of (chars bytes)
none-of_empty bytes empty =
    let none : bytes ≡ [] = nil_from_length bytes (eqb-true (length bytes) 0 empty) in
    sym (ap (λ bs. operands_of (chars bs)) none ∙ ap operands_of chars-nil)

some_chars : (cs bytes : List ℕ) → encode_utf8_all cs ≡ bytes → (length bytes ≡ 0 → ⊥) → 0 < length cs
some_chars [] bytes e some = absurd (some (ap length (sym e)))
some_chars (c ∷ cs) bytes e some = omega arith

pub operands-of_some : (bytes : List ℕ) → IsUtf8 bytes → (length bytes == 0) ≡ false → parts 0 [] (chars bytes) ≡ operands_of (chars bytes)
operands-of_some bytes utf8 some = operands-some (chars bytes) (some_chars (chars bytes) bytes (encodes-chars bytes utf8) (eqb-false (length bytes) 0 some))

-- what follows from what is so of the value of a call that succeeds
pub IfOk-map : {T E : Type 0} {P Q : T → Type 0} (r : Result T E) → ((x : T) → P x → Q x) → IfOk r P → IfOk r Q
IfOk-map (Ok x) f h = f x h
IfOk-map (Err e) f h = h

pub OnOk-map : {T E : Type 0} {P Q : Type 0} (r : Result T E) → (P → Q) → OnOk r P → OnOk r Q
OnOk-map (Ok x) f h = f h
OnOk-map (Err e) f h = h
