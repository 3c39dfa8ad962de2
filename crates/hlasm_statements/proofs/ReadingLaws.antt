-- Parts of a source, and all of it.
use Rattle.std.proofs.Common.{◌≡◌, ◌∙◌, ℕ, ◌+◌, ◌≤◌, Bool, false, List, [], ◌++◌, length, take, drop, refl, sym, ap, subst, arith, append-nil, append_assoc, take-append-drop, length-append}
use Rattle.std.proofs.lemmas.List.{length-take-le}
use Rattle.hl_base.specs.Quoting.{IsBehind}
use Rattle.hlasm_statements.specs.declared.reader.Stage.{Stage}
use Rattle.hlasm_statements.specs.declared.reader.Stage.TheVariants.{Label, Gap, Operation, OperandGap, Operands, Remarks, Done}
use Rattle.hlasm_statements.specs.declared.reader.Reader.{Reader}
use Rattle.hlasm_statements.specs.Columns.{Placed, placed, text_of}
use Rattle.hlasm_statements.specs.Shape.{label_of, operation_of}
use Rattle.hlasm_statements.specs.Fields.{keeps_groups, operands_of}
use Rattle.hlasm_statements.specs.Reading.{label_after, op_after, rest_after, backwards, IsRead, ReadsOn}
use Rattle.hlasm_statements.proofs.SourceLaws.{placed-append}

-- ---- a part, as far as it is read

-- what stands before the rest of a part is read on, and the rest begins in this column
pub record HasReadOn (old new : Reader) (line from at : ℕ) (part rest : List ℕ) : Type 0 where
  pub front : List ℕ
  pub whole : front ++ rest ≡ part
  pub column : at ≡ from + length front
  pub read : (alternate : Bool) → ReadsOn old new alternate (placed line from front)

-- ---- where all of the source is read

label_end : (stage : Stage) (label : List Placed) → label_after stage label [] ≡ label
label_end Label label = append-nil label
label_end Gap label = refl
label_end Operation label = refl
label_end OperandGap label = refl
label_end Operands label = refl
label_end (Remarks remarks) label = refl
label_end Done label = refl

op_end : (stage : Stage) (op : List Placed) → op_after stage op [] ≡ op
op_end Label op = append-nil op
op_end Gap op = append-nil op
op_end Operation op = append-nil op
op_end OperandGap op = refl
op_end Operands op = refl
op_end (Remarks remarks) op = refl
op_end Done op = refl

rest_end : (alternate keeps : Bool) (before : List ℕ) (stage : Stage) → rest_after alternate keeps before stage [] ≡ []
rest_end alternate keeps before Label = refl
rest_end alternate keeps before Gap = refl
rest_end alternate keeps before Operation = refl
rest_end alternate keeps before OperandGap = refl
rest_end alternate keeps before Operands = refl
rest_end alternate keeps before (Remarks remarks) = refl
rest_end alternate keeps before Done = refl

pub label-whole : (reader : Reader) (alternate : Bool) (source : List Placed) (read : IsRead reader alternate source) → read.label ≡ label_of source
label-whole reader alternate source read = sym (label_end reader.stage read.label) ∙ read.label_goes [] ∙ ap label_of (append-nil source)

pub op-whole : (reader : Reader) (alternate : Bool) (source : List Placed) (read : IsRead reader alternate source) → read.op ≡ operation_of source
op-whole reader alternate source read = sym (op_end reader.stage read.op) ∙ read.op_goes [] ∙ ap operation_of (append-nil source)

pub operands-whole : (reader : Reader) (alternate : Bool) (source : List Placed) (read : IsRead reader alternate source) → read.operands ≡ operands_of alternate source
operands-whole reader alternate source read =
    sym (append-nil read.operands)
    ∙ ap (λ rest. read.operands ++ rest) (sym (rest_end alternate (keeps_groups (text_of (op_after reader.stage read.op []))) (backwards read.operands) reader.stage))
    ∙ read.operands_go [] ∙ ap (operands_of alternate) (append-nil source)

pub read-new : (reader : Reader) (alternate : Bool) → reader.stage ≡ Label → IsBehind reader.nesting [] → reader.ends_in_comma ≡ false → reader.label ≡ [] → reader.op ≡ [] → reader.operands ≡ [] → reader.label_places ≡ [] → reader.op_places ≡ [] → reader.operand_places ≡ [] → IsRead reader alternate []
read-new reader alternate stage nesting comma label op operands label_at op_at operands_at = record {
  label = [];
  op = [];
  operands = [];
  label_text = label;
  op_text = op;
  operands_text = operands;
  label_places = label_at;
  op_places = op_at;
  operand_places = operands_at;
  nesting = λ going. nesting;
  comma = comma;
  label_goes = λ tail. ap (λ s. label_after s [] tail) stage;
  op_goes = λ tail. ap (λ s. op_after s [] tail) stage;
  operands_go = λ tail. ap (λ s. rest_after alternate (keeps_groups (text_of (op_after s [] tail))) [] s tail) stage;
}

pub reads-none : (reader : Reader) (alternate : Bool) → ReadsOn reader reader alternate []
reads-none reader alternate source read = let P : List Placed → Type 0 = λ s. IsRead reader alternate s in subst P (sym (append-nil source)) read

pub reads-both : (old middle new : Reader) (alternate : Bool) (first more all : List Placed) → first ++ more ≡ all → ReadsOn old middle alternate first → ReadsOn middle new alternate more → ReadsOn old new alternate all
reads-both old middle new alternate first more all whole one two source read =
    let P : List Placed → Type 0 = λ s. IsRead new alternate s in
    subst P (append_assoc source first more ∙ ap (λ m. source ++ m) whole) (two (source ++ first) (one source read))

pub has-read-none : (reader : Reader) (line column at : ℕ) (part rest : List ℕ) → rest ≡ part → at ≡ column → HasReadOn reader reader line column at part rest
has-read-none reader line column at part rest is at_is = record {
  front = [];
  whole = is;
  column = omega arith;
  read = λ alternate. reads-none reader alternate;
}

pub has-read-more : (old middle new : Reader) (line column at next count : ℕ) (part rest behind : List ℕ) → HasReadOn old middle line column at part rest
    → ((alternate : Bool) → ReadsOn middle new alternate (placed line at (take count rest))) → behind ≡ drop count rest → count ≤ length rest → next ≡ at + count → HasReadOn old new line column next part behind
has-read-more old middle new line column at next count part rest behind is more behind_is fits next_is = record {
  front = is.front ++ take count rest;
  whole = append_assoc is.front (take count rest) behind ∙ ap (λ b. is.front ++ (take count rest ++ b)) behind_is ∙ ap (λ r. is.front ++ r) (take-append-drop count rest) ∙ is.whole;
  column = omega (arith, is.column, length-append is.front (take count rest), length-take-le count rest fits);
  read = λ alternate.
      reads-both old middle new alternate (placed line column is.front) (placed line at (take count rest)) (placed line column (is.front ++ take count rest))
      (ap (λ k. placed line column is.front ++ placed line k (take count rest)) is.column ∙ sym (placed-append line column is.front (take count rest)))
      (is.read alternate) (more alternate);
}

pub has-read-all : (old middle new : Reader) (alternate : Bool) (line column at : ℕ) (part rest : List ℕ) → HasReadOn old middle line column at part rest → ReadsOn middle new alternate (placed line at rest) → ReadsOn old new alternate (placed line column part)
has-read-all old middle new alternate line column at part rest is more =
    reads-both old middle new alternate (placed line column is.front) (placed line at rest) (placed line column part)
    (ap (λ k. placed line column is.front ++ placed line k rest) is.column ∙ sym (placed-append line column is.front rest) ∙ ap (placed line column) is.whole)
    (is.read alternate) more
