-- Words and blanks at the front of a source, and what the reader goes on with.
use Rattle.std.proofs.Common.{◌≡◌, ◌∙◌, ℕ, ◌+◌, Bool, true, false, not, List, [], ◌∷◌, ◌++◌, length, refl, sym, ap, inl, inr, append_assoc}
use Rattle.std.specs.Prelude.{take_while, ◌==◌, reverse, slice_index}
use Rattle.std.specs.List.{list_all}
use Rattle.std.proofs.lemmas.Bool.{cases_Bool, and_parts, and_from}
use Rattle.std.proofs.lemmas.List.{reverse-append}
use Rattle.hl_base.specs.Quoting.{IsBehind}
use Rattle.hlasm_statements.specs.declared.reader.Reader.{Reader}
use Rattle.hlasm_statements.specs.Columns.{Placed, placed, is_blank, is_ink, text_of, places_of}
use Rattle.hlasm_statements.specs.Places.{side_by_side}
use Rattle.hlasm_statements.specs.Shape.{label_of, operation_of}
use Rattle.hlasm_statements.specs.Fields.{keeps_groups, operands_of}
use Rattle.hlasm_statements.specs.Reading.{word, behind_word, behind_blanks, label_after, op_after, rest_after, backwards, IsRead, is_done}
use Rattle.hlasm_statements.proofs.ListLaws.{take_while-pass, take_while-stop, skip_while-pass, skip_while-stop}

pub text_of-append : (xs ys : List Placed) → text_of (xs ++ ys) ≡ text_of xs ++ text_of ys
text_of-append [] ys = refl
text_of-append (x ∷ xs) ys = ap (λ cs. x.char ∷ cs) (text_of-append xs ys)

pub places_of-append : (xs ys : List Placed) → places_of (xs ++ ys) ≡ places_of xs ++ places_of ys
places_of-append [] ys = refl
places_of-append (x ∷ xs) ys = ap (λ cs. (x.line, x.column) ∷ cs) (places_of-append xs ys)

pub text_of-placed : (line column : ℕ) (cs : List ℕ) → text_of (placed line column cs) ≡ cs
text_of-placed line column [] = refl
text_of-placed line column (c ∷ cs) = ap (λ back. c ∷ back) (text_of-placed line (column + 1) cs)

pub places_of-placed : (line column : ℕ) (cs : List ℕ) → places_of (placed line column cs) ≡ side_by_side line column (length cs)
places_of-placed line column [] = refl
places_of-placed line column (c ∷ cs) = ap (λ back. (line, column) ∷ back) (places_of-placed line (column + 1) cs)

pub backwards-append : (field : List Placed) (line column : ℕ) (cs : List ℕ) → backwards (field ++ placed line column cs) ≡ reverse cs ++ backwards field
backwards-append field line column cs =
    ap reverse (text_of-append field (placed line column cs) ∙ ap (λ back. text_of field ++ back) (text_of-placed line column cs))
    ∙ reverse-append (text_of field) cs

-- ---- words and blanks at the front

ink : (p : Placed) → is_blank p.char ≡ false → is_ink p.char ≡ true
ink p h = ap not h

no_ink : (p : Placed) → is_blank p.char ≡ true → is_ink p.char ≡ false
no_ink p h = ap not h

pub word-blank : (p : Placed) (tail : List Placed) → is_blank p.char ≡ true → word (p ∷ tail) ≡ []
word-blank p tail h = take_while-stop (λ q. is_ink q.char) p tail (no_ink p h)

word-ink : (p : Placed) (tail : List Placed) → is_blank p.char ≡ false → word (p ∷ tail) ≡ p ∷ word tail
word-ink p tail h = take_while-pass (λ q. is_ink q.char) p tail (ink p h)

pub behind_word-blank : (p : Placed) (tail : List Placed) → is_blank p.char ≡ true → behind_word (p ∷ tail) ≡ p ∷ tail
behind_word-blank p tail h = skip_while-stop (λ q. is_ink q.char) p tail (no_ink p h)

behind_word-ink : (p : Placed) (tail : List Placed) → is_blank p.char ≡ false → behind_word (p ∷ tail) ≡ behind_word tail
behind_word-ink p tail h = skip_while-pass (λ q. is_ink q.char) p tail (ink p h)

behind_blanks-blank : (p : Placed) (tail : List Placed) → is_blank p.char ≡ true → behind_blanks (p ∷ tail) ≡ behind_blanks tail
behind_blanks-blank p tail h = skip_while-pass (λ q. is_blank q.char) p tail h

pub behind_blanks-ink : (p : Placed) (tail : List Placed) → is_blank p.char ≡ false → behind_blanks (p ∷ tail) ≡ p ∷ tail
behind_blanks-ink p tail h = skip_while-stop (λ q. is_blank q.char) p tail h

past_blank : (p : Placed) (tail : List Placed) → is_blank p.char ≡ true → behind_blanks (behind_word (p ∷ tail)) ≡ behind_blanks tail
past_blank p tail h = ap behind_blanks (behind_word-blank p tail h) ∙ behind_blanks-blank p tail h

pushed : (front : List Placed) (p : Placed) (back : List Placed) → (front ++ p ∷ []) ++ back ≡ front ++ p ∷ back
pushed front p back = append_assoc front (p ∷ []) back

-- ---- characters that are all blanks, or none is

pub all_while : (p : ℕ → Bool) (xs : List ℕ) → list_all p (take_while p xs) ≡ true
all_while p [] = refl
all_while p (x ∷ xs) = elim (cases_Bool (p x)) [
  | inl passes ↦ ap (list_all p) (take_while-pass p x xs passes) ∙ and_from (p x) (list_all p (take_while p xs)) passes (all_while p xs)
  | inr stops ↦ ap (list_all p) (take_while-stop p x xs stops)
]

pub no_blank : (c : ℕ) → is_ink c ≡ true → is_blank c ≡ false
no_blank c h = elim (is_blank c) as (λ b. not b ≡ true → b ≡ false) [ true ↦ λ e. sym e | false ↦ λ e. refl ] h

pub word-all : (line column : ℕ) (cs : List ℕ) (tail : List Placed) → list_all is_ink cs ≡ true → word (placed line column cs ++ tail) ≡ placed line column cs ++ word tail
word-all line column [] tail all = refl
word-all line column (c ∷ cs) tail all =
    let parts = and_parts (is_ink c) (list_all is_ink cs) all in
    let p : Placed = record { char = c; line = line; column = column } in
    word-ink p (placed line (column + 1) cs ++ tail) (no_blank c parts.0) ∙ ap (λ back. p ∷ back) (word-all line (column + 1) cs tail parts.1)

pub behind_word-all : (line column : ℕ) (cs : List ℕ) (tail : List Placed) → list_all is_ink cs ≡ true → behind_word (placed line column cs ++ tail) ≡ behind_word tail
behind_word-all line column [] tail all = refl
behind_word-all line column (c ∷ cs) tail all =
    let parts = and_parts (is_ink c) (list_all is_ink cs) all in
    behind_word-ink (record { char = c; line = line; column = column }) (placed line (column + 1) cs ++ tail) (no_blank c parts.0) ∙ behind_word-all line (column + 1) cs tail parts.1

pub behind_blanks-all : (line column : ℕ) (cs : List ℕ) (tail : List Placed) → list_all is_blank cs ≡ true → behind_blanks (placed line column cs ++ tail) ≡ behind_blanks tail
behind_blanks-all line column [] tail all = refl
behind_blanks-all line column (c ∷ cs) tail all =
    let parts = and_parts (is_blank c) (list_all is_blank cs) all in
    behind_blanks-blank (record { char = c; line = line; column = column }) (placed line (column + 1) cs ++ tail) parts.0 ∙ behind_blanks-all line (column + 1) cs tail parts.1

-- ---- what the reader goes on with, by what it was told of the fields

pub read-on : (old new : Reader) (alternate : Bool) (source more label op operands : List Placed) (read : IsRead old alternate source)
    → new.label ≡ text_of label → new.op ≡ text_of op → new.operands ≡ text_of operands
    → new.label_places ≡ places_of label → new.op_places ≡ places_of op → new.operand_places ≡ places_of operands
    → (is_done new.stage ≡ false → IsBehind new.nesting (backwards operands)) → new.ends_in_comma ≡ (slice_index (backwards operands) 0 == 44)
    → ((tail : List Placed) → label_after new.stage label tail ≡ label_after old.stage read.label (more ++ tail))
    → ((tail : List Placed) → op_after new.stage op tail ≡ op_after old.stage read.op (more ++ tail))
    → ((tail : List Placed) → (let keeps = keeps_groups (text_of (op_after old.stage read.op (more ++ tail))) in
    operands ++ rest_after alternate keeps (backwards operands) new.stage tail ≡ read.operands ++ rest_after alternate keeps (backwards read.operands) old.stage (more ++ tail)))
    → IsRead new alternate (source ++ more)
read-on old new alternate source more label op operands read label_text op_text operands_text label_at op_at operands_at nesting comma label_goes op_goes operands_go =
    let on : (tail : List Placed) → source ++ (more ++ tail) ≡ (source ++ more) ++ tail = λ tail. sym (append_assoc source more tail) in
    record {
      label = label;
      op = op;
      operands = operands;
      label_text = label_text;
      op_text = op_text;
      operands_text = operands_text;
      label_places = label_at;
      op_places = op_at;
      operand_places = operands_at;
      nesting = nesting;
      comma = comma;
      label_goes = λ tail. label_goes tail ∙ read.label_goes (more ++ tail) ∙ ap label_of (on tail);
      op_goes = λ tail. op_goes tail ∙ read.op_goes (more ++ tail) ∙ ap operation_of (on tail);
      operands_go = λ tail.
          ap (λ o. operands ++ rest_after alternate (keeps_groups (text_of o)) (backwards operands) new.stage tail) (op_goes tail)
          ∙ operands_go tail ∙ read.operands_go (more ++ tail) ∙ ap (operands_of alternate) (on tail);
    }

pub text-more : (field text : List ℕ) (placed_field : List Placed) (line column : ℕ) (cs : List ℕ) → text ≡ field ++ cs → field ≡ text_of placed_field → text ≡ text_of (placed_field ++ placed line column cs)
text-more field text placed_field line column cs grows is =
    grows ∙ ap (λ f. f ++ cs) is ∙ ap (λ back. text_of placed_field ++ back) (sym (text_of-placed line column cs)) ∙ sym (text_of-append placed_field (placed line column cs))

pub places-more : (old new : List (ℕ × ℕ)) (placed_field : List Placed) (line column : ℕ) (cs : List ℕ) → new ≡ old ++ side_by_side line column (length cs) → old ≡ places_of placed_field → new ≡ places_of (placed_field ++ placed line column cs)
places-more old new placed_field line column cs grows is =
    grows ∙ ap (λ f. f ++ side_by_side line column (length cs)) is ∙ ap (λ back. places_of placed_field ++ back) (sym (places_of-placed line column cs)) ∙ sym (places_of-append placed_field (placed line column cs))
