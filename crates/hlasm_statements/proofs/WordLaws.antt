-- What blanks and words before the operands add to the fields.
use Rattle.std.proofs.Common.{◌≡◌, ◌∙◌, ℕ, ◌+◌, ◌<◌, Bool, true, false, None, List, [], ◌∷◌, ◌++◌, length, take, refl, sym, ap, subst, inl, inr, arith, append-nil, append_assoc}
use Rattle.std.specs.Prelude.{take_while}
use Rattle.std.specs.List.{list_all, prefix_len}
use Rattle.std.proofs.lemmas.Bool.{cases_Bool, and_parts, and_from, true≢false}
use Rattle.hl_base.specs.Quoting.{IsBehind}
use Rattle.hl_base.specs.declared.quoting.Nesting.{Nesting}
use Rattle.hlasm_statements.specs.declared.reader.Stage.{Stage}
use Rattle.hlasm_statements.specs.declared.reader.Stage.TheVariants.{Label, Gap, Operation, OperandGap, Operands, Remarks, Done}
use Rattle.hlasm_statements.specs.declared.reader.Reader.{Reader}
use Rattle.hlasm_statements.specs.Columns.{Placed, placed, is_blank, is_ink, text_of}
use Rattle.hlasm_statements.specs.Places.{side_by_side}
use Rattle.hlasm_statements.specs.Fields.{keeps_groups, operand_field}
use Rattle.hlasm_statements.specs.Reading.{word, behind_word, behind_blanks, stage_behind_blanks, precedes, is_before_operands, label_after, op_after, rest_after, backwards, ReadsOn, is_done}
use Rattle.hlasm_statements.proofs.ListLaws.{take_while-pass}
use Rattle.hlasm_statements.proofs.FieldLaws.{word-blank, behind_word-blank, behind_blanks-ink, all_while, no_blank, word-all, behind_word-all, behind_blanks-all, read-on, text-more, places-more}

-- ---- blanks before the operands

blank-label : (s : Stage) (label : List Placed) (line column c : ℕ) (cs : List ℕ) (tail : List Placed) → precedes s true ≡ true → list_all is_blank (c ∷ cs) ≡ true
    → label_after (stage_behind_blanks s) label tail ≡ label_after s label (placed line column (c ∷ cs) ++ tail)
blank-label Label label line column c cs tail at all =
    let parts = and_parts (is_blank c) (list_all is_blank cs) all in
    sym (append-nil label) ∙ ap (λ w. label ++ w) (sym (word-blank (record { char = c; line = line; column = column }) (placed line (column + 1) cs ++ tail) parts.0))
blank-label Gap label line column c cs tail at all = refl
blank-label Operation label line column c cs tail at all = refl
blank-label OperandGap label line column c cs tail at all = refl
blank-label Operands label line column c cs tail at all = refl
blank-label (Remarks remarks) label line column c cs tail at all = refl
blank-label Done label line column c cs tail at all = refl

-- a word, blanks and what follows them
past_blanks : (line column c : ℕ) (cs : List ℕ) (tail : List Placed) → list_all is_blank (c ∷ cs) ≡ true → behind_blanks (behind_word (placed line column (c ∷ cs) ++ tail)) ≡ behind_blanks tail
past_blanks line column c cs tail all =
    let parts = and_parts (is_blank c) (list_all is_blank cs) all in
    ap behind_blanks (behind_word-blank (record { char = c; line = line; column = column }) (placed line (column + 1) cs ++ tail) parts.0)
    ∙ behind_blanks-all line column (c ∷ cs) tail all

blank-op : (s : Stage) (op : List Placed) (line column c : ℕ) (cs : List ℕ) (tail : List Placed) → precedes s true ≡ true → list_all is_blank (c ∷ cs) ≡ true
    → op_after (stage_behind_blanks s) op tail ≡ op_after s op (placed line column (c ∷ cs) ++ tail)
blank-op Label op line column c cs tail at all = ap (λ w. op ++ word w) (sym (past_blanks line column c cs tail all))
blank-op Gap op line column c cs tail at all = ap (λ w. op ++ word w) (sym (behind_blanks-all line column (c ∷ cs) tail all))
blank-op Operation op line column c cs tail at all =
    let parts = and_parts (is_blank c) (list_all is_blank cs) all in
    sym (append-nil op) ∙ ap (λ w. op ++ w) (sym (word-blank (record { char = c; line = line; column = column }) (placed line (column + 1) cs ++ tail) parts.0))
blank-op OperandGap op line column c cs tail at all = refl
blank-op Operands op line column c cs tail at all = refl
blank-op (Remarks remarks) op line column c cs tail at all = refl
blank-op Done op line column c cs tail at all = refl

blank-rest : (alternate keeps : Bool) (before : List ℕ) (s : Stage) (line column c : ℕ) (cs : List ℕ) (tail : List Placed) → precedes s true ≡ true → list_all is_blank (c ∷ cs) ≡ true
    → rest_after alternate keeps before (stage_behind_blanks s) tail ≡ rest_after alternate keeps before s (placed line column (c ∷ cs) ++ tail)
blank-rest alternate keeps before Label line column c cs tail at all =
    ap (λ w. operand_field alternate keeps None before (behind_blanks (behind_word w))) (sym (past_blanks line column c cs tail all))
blank-rest alternate keeps before Gap line column c cs tail at all =
    ap (λ w. operand_field alternate keeps None before (behind_blanks (behind_word w))) (sym (behind_blanks-all line column (c ∷ cs) tail all))
blank-rest alternate keeps before Operation line column c cs tail at all =
    ap (operand_field alternate keeps None before) (sym (past_blanks line column c cs tail all))
blank-rest alternate keeps before OperandGap line column c cs tail at all =
    ap (operand_field alternate keeps None before) (sym (behind_blanks-all line column (c ∷ cs) tail all))
blank-rest alternate keeps before Operands line column c cs tail at all = absurd (true≢false (sym at))
blank-rest alternate keeps before (Remarks remarks) line column c cs tail at all = absurd (true≢false (sym at))
blank-rest alternate keeps before Done line column c cs tail at all = absurd (true≢false (sym at))

-- before the operands the fields are not done
precedes_open : (s : Stage) (blank : Bool) → precedes s blank ≡ true → is_done s ≡ false
precedes_open Label blank h = refl
precedes_open Gap blank h = refl
precedes_open Operation blank h = refl
precedes_open OperandGap blank h = refl
precedes_open Operands blank h = absurd (true≢false (sym h))
precedes_open (Remarks remarks) blank h = absurd (true≢false (sym h))
precedes_open Done blank h = absurd (true≢false (sym h))

-- the reader with another stage
pub record Staged (old new : Reader) (told : Stage) : Type 0 where
  pub stage : new.stage ≡ told
  pub label : new.label ≡ old.label
  pub op : new.op ≡ old.op
  pub operands : new.operands ≡ old.operands
  pub label_places : new.label_places ≡ old.label_places
  pub op_places : new.op_places ≡ old.op_places
  pub operand_places : new.operand_places ≡ old.operand_places
  pub nesting : new.nesting ≡ old.nesting
  pub comma : new.ends_in_comma ≡ old.ends_in_comma

blanks-on : (old new : Reader) (alternate : Bool) (line column c : ℕ) (cs : List ℕ) → Staged old new (stage_behind_blanks old.stage) → precedes old.stage true ≡ true → list_all is_blank (c ∷ cs) ≡ true
    → ReadsOn old new alternate (placed line column (c ∷ cs))
blanks-on old new alternate line column c cs is at all source read =
    let N : Nesting → Type 0 = λ n. IsBehind n (backwards read.operands) in
    read-on old new alternate source (placed line column (c ∷ cs)) read.label read.op read.operands read
    (is.label ∙ read.label_text) (is.op ∙ read.op_text) (is.operands ∙ read.operands_text)
    (is.label_places ∙ read.label_places) (is.op_places ∙ read.op_places) (is.operand_places ∙ read.operand_places)
    (λ going. subst N (sym is.nesting) (read.nesting (precedes_open old.stage true at))) (is.comma ∙ read.comma)
    (λ tail. ap (λ s. label_after s read.label tail) is.stage ∙ blank-label old.stage read.label line column c cs tail at all)
    (λ tail. ap (λ s. op_after s read.op tail) is.stage ∙ blank-op old.stage read.op line column c cs tail at all)
    (λ tail.
    let keeps = keeps_groups (text_of (op_after old.stage read.op (placed line column (c ∷ cs) ++ tail))) in
    ap (λ s. read.operands ++ rest_after alternate keeps (backwards read.operands) s tail) is.stage
    ∙ ap (λ rest. read.operands ++ rest) (blank-rest alternate keeps (backwards read.operands) old.stage line column c cs tail at all))

-- the blanks at the front of a text
pub read-blanks : (old new : Reader) (alternate : Bool) (line column count : ℕ) (text : List ℕ) → Staged old new (stage_behind_blanks old.stage) → is_before_operands old.stage text ≡ true → count ≡ prefix_len is_blank text → 0 < count
    → ReadsOn old new alternate (placed line column (take count text))
read-blanks old new alternate line column count [] is at counts some = absurd (true≢false (sym at))
read-blanks old new alternate line column count (c ∷ text) is at counts some = elim (cases_Bool (is_blank c)) [
  | inl blank ↦
      let P : List ℕ → Type 0 = λ cs. ReadsOn old new alternate (placed line column cs) in
      let all : list_all is_blank (c ∷ take_while is_blank text) ≡ true = and_from (is_blank c) (list_all is_blank (take_while is_blank text)) blank (all_while is_blank text) in
      subst P (sym (ap (λ n. take n (c ∷ text)) counts ∙ take_while-pass is_blank c text blank))
      (blanks-on old new alternate line column c (take_while is_blank text) is (ap (precedes old.stage) (sym blank) ∙ at) all)
  | inr other ↦ let none : prefix_len is_blank (c ∷ text) ≡ 0 = rw other refl in absurd (omega (arith, counts, none, some))
]

-- ---- a word before the operands

-- the reader with a longer name entry
pub record Labelled (old new : Reader) (line column : ℕ) (cs : List ℕ) : Type 0 where
  pub stage : new.stage ≡ old.stage
  pub label : new.label ≡ old.label ++ cs
  pub op : new.op ≡ old.op
  pub operands : new.operands ≡ old.operands
  pub label_places : new.label_places ≡ old.label_places ++ side_by_side line column (length cs)
  pub op_places : new.op_places ≡ old.op_places
  pub operand_places : new.operand_places ≡ old.operand_places
  pub nesting : new.nesting ≡ old.nesting
  pub comma : new.ends_in_comma ≡ old.ends_in_comma

pub label-on : (old new : Reader) (alternate : Bool) (line column : ℕ) (cs : List ℕ) → Labelled old new line column cs → old.stage ≡ Label → list_all is_ink cs ≡ true → ReadsOn old new alternate (placed line column cs)
label-on old new alternate line column cs is at all source read =
    let N : Nesting → Type 0 = λ n. IsBehind n (backwards read.operands) in
    let more = placed line column cs in
    let now : new.stage ≡ Label = is.stage ∙ at in
    read-on old new alternate source more (read.label ++ more) read.op read.operands read
    (text-more old.label new.label read.label line column cs is.label read.label_text) (is.op ∙ read.op_text) (is.operands ∙ read.operands_text)
    (places-more old.label_places new.label_places read.label line column cs is.label_places read.label_places) (is.op_places ∙ read.op_places) (is.operand_places ∙ read.operand_places)
    (λ going. subst N (sym is.nesting) (read.nesting (ap is_done at))) (is.comma ∙ read.comma)
    (λ tail.
    ap (λ s. label_after s (read.label ++ more) tail) now
    ∙ append_assoc read.label more (word tail)
    ∙ ap (λ w. read.label ++ w) (sym (word-all line column cs tail all))
    ∙ ap (λ s. label_after s read.label (more ++ tail)) (sym at))
    (λ tail.
    ap (λ s. op_after s read.op tail) now
    ∙ ap (λ w. read.op ++ word (behind_blanks w)) (sym (behind_word-all line column cs tail all))
    ∙ ap (λ s. op_after s read.op (more ++ tail)) (sym at))
    (λ tail.
    let keeps = keeps_groups (text_of (op_after old.stage read.op (more ++ tail))) in
    let before = backwards read.operands in
    ap (λ s. read.operands ++ rest_after alternate keeps before s tail) now
    ∙ ap (λ w. read.operands ++ operand_field alternate keeps None before (behind_blanks (behind_word (behind_blanks w)))) (sym (behind_word-all line column cs tail all))
    ∙ ap (λ s. read.operands ++ rest_after alternate keeps before s (more ++ tail)) (sym at))

-- the reader with a longer operation
pub record Operated (old new : Reader) (line column : ℕ) (cs : List ℕ) : Type 0 where
  pub stage : new.stage ≡ Operation
  pub label : new.label ≡ old.label
  pub op : new.op ≡ old.op ++ cs
  pub operands : new.operands ≡ old.operands
  pub label_places : new.label_places ≡ old.label_places
  pub op_places : new.op_places ≡ old.op_places ++ side_by_side line column (length cs)
  pub operand_places : new.operand_places ≡ old.operand_places
  pub nesting : new.nesting ≡ old.nesting
  pub comma : new.ends_in_comma ≡ old.ends_in_comma

word-label : (s : Stage) (label tail more : List Placed) → precedes s false ≡ true → (s ≡ Label → ⊥) → label_after Operation label tail ≡ label_after s label (more ++ tail)
word-label Label label tail more at other = absurd (other refl)
word-label Gap label tail more at other = refl
word-label Operation label tail more at other = refl
word-label OperandGap label tail more at other = refl
word-label Operands label tail more at other = refl
word-label (Remarks remarks) label tail more at other = refl
word-label Done label tail more at other = refl

-- a word is behind no blanks
no_blanks : (line column c : ℕ) (cs : List ℕ) (tail : List Placed) → list_all is_ink (c ∷ cs) ≡ true → behind_blanks (placed line column (c ∷ cs) ++ tail) ≡ placed line column (c ∷ cs) ++ tail
no_blanks line column c cs tail all =
    let parts = and_parts (is_ink c) (list_all is_ink cs) all in
    behind_blanks-ink (record { char = c; line = line; column = column }) (placed line (column + 1) cs ++ tail) (no_blank c parts.0)

word-op : (s : Stage) (op : List Placed) (line column c : ℕ) (cs : List ℕ) (tail : List Placed) → precedes s false ≡ true → (s ≡ Label → ⊥) → list_all is_ink (c ∷ cs) ≡ true
    → op_after Operation (op ++ placed line column (c ∷ cs)) tail ≡ op_after s op (placed line column (c ∷ cs) ++ tail)
word-op Label op line column c cs tail at other all = absurd (other refl)
word-op Gap op line column c cs tail at other all =
    append_assoc op (placed line column (c ∷ cs)) (word tail)
    ∙ ap (λ w. op ++ w) (sym (ap word (no_blanks line column c cs tail all) ∙ word-all line column (c ∷ cs) tail all))
word-op Operation op line column c cs tail at other all =
    append_assoc op (placed line column (c ∷ cs)) (word tail)
    ∙ ap (λ w. op ++ w) (sym (word-all line column (c ∷ cs) tail all))
word-op OperandGap op line column c cs tail at other all = absurd (true≢false (sym at))
word-op Operands op line column c cs tail at other all = absurd (true≢false (sym at))
word-op (Remarks remarks) op line column c cs tail at other all = absurd (true≢false (sym at))
word-op Done op line column c cs tail at other all = absurd (true≢false (sym at))

word-rest : (alternate keeps : Bool) (before : List ℕ) (s : Stage) (line column c : ℕ) (cs : List ℕ) (tail : List Placed) → precedes s false ≡ true → (s ≡ Label → ⊥) → list_all is_ink (c ∷ cs) ≡ true
    → rest_after alternate keeps before Operation tail ≡ rest_after alternate keeps before s (placed line column (c ∷ cs) ++ tail)
word-rest alternate keeps before Label line column c cs tail at other all = absurd (other refl)
word-rest alternate keeps before Gap line column c cs tail at other all =
    ap (λ w. operand_field alternate keeps None before (behind_blanks w)) (sym (ap behind_word (no_blanks line column c cs tail all) ∙ behind_word-all line column (c ∷ cs) tail all))
word-rest alternate keeps before Operation line column c cs tail at other all =
    ap (λ w. operand_field alternate keeps None before (behind_blanks w)) (sym (behind_word-all line column (c ∷ cs) tail all))
word-rest alternate keeps before OperandGap line column c cs tail at other all = absurd (true≢false (sym at))
word-rest alternate keeps before Operands line column c cs tail at other all = absurd (true≢false (sym at))
word-rest alternate keeps before (Remarks remarks) line column c cs tail at other all = absurd (true≢false (sym at))
word-rest alternate keeps before Done line column c cs tail at other all = absurd (true≢false (sym at))

op-on : (old new : Reader) (alternate : Bool) (line column c : ℕ) (cs : List ℕ) → Operated old new line column (c ∷ cs) → precedes old.stage false ≡ true → (old.stage ≡ Label → ⊥) → list_all is_ink (c ∷ cs) ≡ true
    → ReadsOn old new alternate (placed line column (c ∷ cs))
op-on old new alternate line column c cs is at other all source read =
    let N : Nesting → Type 0 = λ n. IsBehind n (backwards read.operands) in
    let more = placed line column (c ∷ cs) in
    read-on old new alternate source more read.label (read.op ++ more) read.operands read
    (is.label ∙ read.label_text) (text-more old.op new.op read.op line column (c ∷ cs) is.op read.op_text) (is.operands ∙ read.operands_text)
    (is.label_places ∙ read.label_places) (places-more old.op_places new.op_places read.op line column (c ∷ cs) is.op_places read.op_places) (is.operand_places ∙ read.operand_places)
    (λ going. subst N (sym is.nesting) (read.nesting (precedes_open old.stage false at))) (is.comma ∙ read.comma)
    (λ tail. ap (λ s. label_after s read.label tail) is.stage ∙ word-label old.stage read.label tail more at other)
    (λ tail. ap (λ s. op_after s (read.op ++ more) tail) is.stage ∙ word-op old.stage read.op line column c cs tail at other all)
    (λ tail.
    let keeps = keeps_groups (text_of (op_after old.stage read.op (more ++ tail))) in
    let before = backwards read.operands in
    ap (λ s. read.operands ++ rest_after alternate keeps before s tail) is.stage
    ∙ ap (λ rest. read.operands ++ rest) (word-rest alternate keeps before old.stage line column c cs tail at other all))

-- a word of which there is something
pub operation-on : (old new : Reader) (alternate : Bool) (line column : ℕ) (cs : List ℕ) → Operated old new line column cs → 0 < length cs → precedes old.stage false ≡ true → (old.stage ≡ Label → ⊥) → list_all is_ink cs ≡ true
    → ReadsOn old new alternate (placed line column cs)
operation-on old new alternate line column [] is some at other all = absurd (omega arith)
operation-on old new alternate line column (c ∷ cs) is some at other all = op-on old new alternate line column c cs is at other all
