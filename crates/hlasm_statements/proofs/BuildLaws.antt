-- The statement that some lines make up.
use Rattle.std.proofs.Common.{◌≡◌, ◌∙◌, ℕ, ◌+◌, ◌-◌, ◌<◌, Bool, true, false, cond, not, List, [], ◌∷◌, ◌++◌, length, take, drop, refl, sym, ap, subst, arith, take_all, take-append-drop, append_assoc, append-nil, get_or}
use Rattle.std.specs.Prelude.{◌==◌, ◌&&◌, slice_index, nat_lt, take_while, encode_utf8_all, chars}
use Rattle.hl_base.specs.Symbols.{symbol_of}
use Rattle.std.specs.List.{list_all, list_any}
use Rattle.std.proofs.lemmas.Bool.{ne_eqb, true≢false}
use Rattle.std.proofs.lemmas.List.{take_more, length-take-le, length-map, map-append}
use Rattle.std.specs.Borrow.{Bor}
use Rattle.std.proofs.lemmas.Bool.Decides.{nat_tests}
use Rattle.hlasm_statements.specs.declared.statement.Shape.{Shape}
use Rattle.hlasm_statements.specs.declared.statement.Shape.TheVariants.{Plain, Comment, InnerComment, Blank}
use Rattle.hlasm_statements.specs.declared.statement.Statement.{Statement}
use Rattle.hlasm_statements.specs.declared.fault.ColumnFault.{ColumnFault}
use Rattle.hlasm_statements.specs.declared.fault.ColumnFault.TheVariants.{MarginText, SurplusLines, MissingLine}
use Rattle.hlasm_statements.specs.declared.reader.Reader.{Reader}
use Rattle.hlasm_statements.specs.Columns.{Placed, placed, continued, source_of, text_of, places_of, is_blank, is_ink}
use Rattle.hlasm_statements.specs.Shape.{shape_of, plain_or_blank, label_of, operation_of, field_of}
use Rattle.hlasm_statements.specs.Fields.{is_alternate_operation, is_alternate_name, is_alternate, operands_of}
use Rattle.hlasm_statements.specs.Faults.{where_met, faults_of, has_margin_text}
use Rattle.hlasm_statements.specs.Statements.{lines_read, read_of, statement_in}
use Rattle.hlasm_statements.specs.Building.{is_plain, empty_statement, filled_statement, whole_statement}
use Rattle.hlasm_statements.specs.Reading.{IsRead, opening_of, whole_source, bodies_of}
use Rattle.hlasm_statements.proofs.FieldLaws.{text_of-append}
use Rattle.hlasm_statements.proofs.ReadingLaws.{label-whole, op-whole, operands-whole}
use Rattle.hlasm_statements.proofs.SourceLaws.{text_of-label, text_of-operation, blank_fields, continued-append}

-- ---- shapes

-- the shape, by the first line and the whole source
closed : Shape → List ℕ → Shape
closed Plain text = plain_or_blank text
closed Comment text = Comment
closed InnerComment text = InnerComment
closed Blank text = Blank

closed_is : (line text : List ℕ) → closed (opening_of line) text ≡ shape_of line text
unfolding closed
closed_is line text = elim (slice_index line 0 == 42) as (λ b. closed (cond b Comment (cond ((slice_index line 0 == 46) && (slice_index line 1 == 42)) InnerComment Plain)) text ≡ cond b Comment (cond ((slice_index line 0 == 46) && (slice_index line 1 == 42)) InnerComment (plain_or_blank text))) [
  | true ↦ refl
  | false ↦ elim ((slice_index line 0 == 46) && (slice_index line 1 == 42)) as (λ b. closed (cond b InnerComment Plain) text ≡ cond b InnerComment (plain_or_blank text)) [ true ↦ refl | false ↦ refl ]
]

closed-other : (shape : Shape) (text : List ℕ) → (shape ≡ Plain → ⊥) → closed shape text ≡ shape
unfolding closed
closed-other Plain text other = absurd (other refl)
closed-other Comment text other = refl
closed-other InnerComment text other = refl
closed-other Blank text other = refl

pub shape-comment : (first text : List ℕ) (shape : Shape) → shape ≡ opening_of first → (shape ≡ Plain → ⊥) → shape_of first text ≡ shape
shape-comment first text shape is other = sym (closed_is first text) ∙ ap (λ s. closed s text) (sym is) ∙ closed-other shape text other

pub shape-plain : (first text : List ℕ) (shape : Shape) (blank : Bool) → shape ≡ opening_of first → shape ≡ Plain → list_all is_blank text ≡ blank → shape_of first text ≡ cond blank Blank Plain
unfolding closed
shape-plain first text shape blank is plain all = sym (closed_is first text) ∙ ap (λ s. closed s text) (sym is ∙ plain) ∙ ap (λ b. cond b Blank Plain) all

field-none : (shape : Shape) (field : List Placed) → (shape ≡ Plain → ⊥) → field_of shape field ≡ []
field-none Plain field other = absurd (other refl)
field-none Comment field other = refl
field-none InnerComment field other = refl
field-none Blank field other = refl

-- ---- the fields that a reader has read

label-text : (reader : Reader) (alternate : Bool) (source : List Placed) (read : IsRead reader alternate source) → reader.label ≡ text_of (label_of source)
label-text reader alternate source read = read.label_text ∙ ap text_of (label-whole reader alternate source read)

op-text : (reader : Reader) (alternate : Bool) (source : List Placed) (read : IsRead reader alternate source) → reader.op ≡ text_of (operation_of source)
op-text reader alternate source read = read.op_text ∙ ap text_of (op-whole reader alternate source read)

pub blank-whole : (reader : Reader) (alternate : Bool) (source : List Placed) (read : IsRead reader alternate source) → ((length reader.label == 0) && (length reader.op == 0)) ≡ list_all is_blank (text_of source)
blank-whole reader alternate source read =
    ap (λ l. (length l == 0) && (length reader.op == 0)) (label-text reader alternate source read ∙ text_of-label source)
    ∙ ap (λ o. (length (take_while is_ink (text_of source)) == 0) && (length o == 0)) (op-text reader alternate source read ∙ text_of-operation source)
    ∙ blank_fields (text_of source)

-- ---- statements of the same parts are one

same_statement : {f g l m : ℕ} {s t : Shape} {a b o p r q : List ℕ} {x y : List ColumnFault} {aa bb oo pp rr qq : List (ℕ × ℕ)} → f ≡ g → l ≡ m → s ≡ t → a ≡ b → o ≡ p → r ≡ q → x ≡ y → aa ≡ bb → oo ≡ pp → rr ≡ qq
    → (let one : Statement = record { first = f; last = l; shape = s; label = a; op = o; operands = r; faults = x; label_places = aa; op_places = oo; operand_places = rr } in
    let other : Statement = record { first = g; last = m; shape = t; label = b; op = p; operands = q; faults = y; label_places = bb; op_places = pp; operand_places = qq } in one ≡ other)
same_statement e1 e2 e3 e4 e5 e6 e7 e8 e9 e10 = λ i. record { first = e1 i; last = e2 i; shape = e3 i; label = e4 i; op = e5 i; operands = e6 i; faults = e7 i; label_places = e8 i; op_places = e9 i; operand_places = e10 i }

last-is : (number last : ℕ) (first : List ℕ) (rest : List (List ℕ)) → last ≡ number + length rest → last ≡ number + length (first ∷ rest) - 1
last-is number last first rest is = omega (arith, is)

-- ---- statements without fields

no_alternate : (number : ℕ) (first : List ℕ) (rest : List (List ℕ)) (shape : Shape) → shape_of first (text_of (source_of lines_read number (first ∷ rest))) ≡ shape → (shape ≡ Plain → ⊥) → is_alternate lines_read number (first ∷ rest) ≡ false
no_alternate number first [] shape is other = refl
no_alternate number first (next ∷ rest) shape is other =
    let source = source_of lines_read number (first ∷ next ∷ rest) in
    ap (λ s. is_alternate_operation (text_of (field_of s (operation_of source)))) is
    ∙ ap (λ f. is_alternate_operation (text_of f)) (field-none shape (operation_of source) other)

pub empty-made : (number last : ℕ) (marked : Bool) (first : List ℕ) (rest : List (List ℕ)) (shape : Shape) (faults : List ColumnFault)
    → last ≡ number + length rest → shape_of first (text_of (source_of lines_read number (first ∷ rest))) ≡ shape → (shape ≡ Plain → ⊥) → faults ≡ faults_of lines_read marked (first ∷ rest)
    → empty_statement number last shape faults ≡ whole_statement number marked (first ∷ rest)
unfolding statement_in
empty-made number last marked first rest shape faults last_at shape_is other faults_are =
    let source = source_of lines_read number (first ∷ rest) in
    let none : (field : List Placed) → [] ≡ field_of (shape_of first (text_of source)) field = λ field. sym (ap (λ s. field_of s field) shape_is ∙ field-none shape field other) in
    same_statement refl (last-is number last first rest last_at) (sym shape_is)
    (ap text_of (none (label_of source))) (ap text_of (none (operation_of source))) (ap text_of (none (operands_of false source))) faults_are
    (ap places_of (none (label_of source))) (ap places_of (none (operation_of source))) (ap places_of (none (operands_of false source)))
    ∙ ap (λ a. statement_in number marked a (first ∷ rest)) (sym (no_alternate number first rest shape shape_is other))

-- ---- statements with fields

pub filled-made : (number last : ℕ) (marked alternate : Bool) (first : List ℕ) (rest : List (List ℕ)) (reader : Reader) (faults : List ColumnFault)
    → last ≡ number + length rest → shape_of first (text_of (source_of (read_of alternate (first ∷ rest)) number (first ∷ rest))) ≡ Plain
    → is_alternate lines_read number (first ∷ rest) ≡ alternate → IsRead reader alternate (source_of (read_of alternate (first ∷ rest)) number (first ∷ rest))
    → faults ≡ faults_of (read_of alternate (first ∷ rest)) marked (first ∷ rest)
    → filled_statement number last reader faults ≡ whole_statement number marked (first ∷ rest)
unfolding statement_in
filled-made number last marked alternate first rest reader faults last_at shape_is alternates read faults_are =
    let source = source_of (read_of alternate (first ∷ rest)) number (first ∷ rest) in
    let all : (field : List Placed) → field ≡ field_of (shape_of first (text_of source)) field = λ field. sym (ap (λ s. field_of s field) shape_is) in
    same_statement refl (last-is number last first rest last_at) (sym shape_is)
    (read.label_text ∙ ap text_of (label-whole reader alternate source read ∙ all (label_of source)))
    (read.op_text ∙ ap text_of (op-whole reader alternate source read ∙ all (operation_of source)))
    (read.operands_text ∙ ap text_of (operands-whole reader alternate source read ∙ all (operands_of alternate source)))
    faults_are
    (read.label_places ∙ ap places_of (label-whole reader alternate source read ∙ all (label_of source)))
    (read.op_places ∙ ap places_of (op-whole reader alternate source read ∙ all (operation_of source)))
    (read.operand_places ∙ ap places_of (operands-whole reader alternate source read ∙ all (operands_of alternate source)))
    ∙ ap (λ a. statement_in number marked a (first ∷ rest)) (sym alternates)

pub alternate-is : (number : ℕ) (first : List ℕ) (rest : List (List ℕ)) (reader : Reader) → IsRead reader false (source_of lines_read number (first ∷ rest))
    → shape_of first (text_of (source_of lines_read number (first ∷ rest))) ≡ Plain → is_alternate lines_read number (first ∷ rest) ≡ (not (length rest == 0) && is_alternate_operation reader.op)
alternate-is number first [] reader read plain = refl
alternate-is number first (next ∷ rest) reader read plain =
    let source = source_of lines_read number (first ∷ next ∷ rest) in
    ap (λ s. is_alternate_operation (text_of (field_of s (operation_of source)))) plain
    ∙ ap is_alternate_operation (sym (op-text reader false source read))
    ∙ ap (λ b. not b && is_alternate_operation reader.op) (sym (ne_eqb (length (next ∷ rest)) 0 (λ none. absurd (omega (arith, none)))))

-- ---- the source, where all lines are read

all_read : (first : List ℕ) (rest : List (List ℕ)) → take (length (first ∷ rest)) rest ≡ rest
all_read first rest = take_all (length (first ∷ rest)) rest (omega arith)

pub source-all : (number : ℕ) (first : List ℕ) (rest : List (List ℕ)) → source_of (length (first ∷ rest)) number (first ∷ rest) ≡ whole_source number (first ∷ rest)
source-all number first rest = ap (λ lines. placed number 1 first ++ continued (number + 1) lines) (all_read first rest)

list_all-append : (p : ℕ → Bool) (xs ys : List ℕ) → list_all p xs ≡ false → list_all p (xs ++ ys) ≡ false
list_all-append p [] ys h = absurd (cc)
list_all-append p (x ∷ xs) ys h = elim (p x) as (λ b. (b && list_all p xs) ≡ false → (b && list_all p (xs ++ ys)) ≡ false) [ true ↦ list_all-append p xs ys | false ↦ λ e. refl ] h

-- what is not blank in the first lines is not blank in all
pub all_not_blank : (number : ℕ) (first : List ℕ) (rest : List (List ℕ)) → list_all is_blank (text_of (source_of lines_read number (first ∷ rest))) ≡ false → list_all is_blank (text_of (source_of (length (first ∷ rest)) number (first ∷ rest))) ≡ false
all_not_blank number first rest some =
    let front = source_of lines_read number (first ∷ rest) in
    let back = continued (number + 1 + length (take lines_read rest)) (drop lines_read rest) in
    let split : source_of (length (first ∷ rest)) number (first ∷ rest) ≡ front ++ back =
    source-all number first rest
    ∙ ap (λ lines. placed number 1 first ++ continued (number + 1) lines) (sym (take-append-drop lines_read rest))
    ∙ ap (λ c. placed number 1 first ++ c) (continued-append (number + 1) (take lines_read rest) (drop lines_read rest))
    ∙ sym (append_assoc (placed number 1 first) (continued (number + 1) (take lines_read rest)) back) in
    ap (λ s. list_all is_blank (text_of s)) split
    ∙ ap (list_all is_blank) (text_of-append front back)
    ∙ list_all-append is_blank (text_of front) (text_of back) some

-- ---- faults

pub faults-all : (marked : Bool) (first : List ℕ) (rest : List (List ℕ)) (margin : Bool) (faults : List ColumnFault) → margin ≡ list_any has_margin_text rest
    → faults ≡ where_met margin MarginText ++ where_met false SurplusLines ++ where_met marked MissingLine → faults ≡ faults_of (length (first ∷ rest)) marked (first ∷ rest)
faults-all marked first rest margin faults margin_is are =
    let few : nat_lt (length (first ∷ rest)) (length rest) ≡ false = grind (arith, nat_tests) in
    are
    ∙ ap (λ m. where_met m MarginText ++ where_met false SurplusLines ++ where_met marked MissingLine) (margin_is ∙ ap (list_any has_margin_text) (sym (all_read first rest)))
    ∙ ap (λ s. where_met (list_any has_margin_text (take (length (first ∷ rest)) rest)) MarginText ++ where_met s SurplusLines ++ where_met marked MissingLine) (sym few)

pub faults-first : (marked : Bool) (first : List ℕ) (rest read : List (List ℕ)) (margin surplus : Bool) (faults : List ColumnFault) → read ≡ take lines_read rest → margin ≡ list_any has_margin_text read → surplus ≡ nat_lt 9 (length rest)
    → faults ≡ where_met margin MarginText ++ where_met surplus SurplusLines ++ where_met marked MissingLine → faults ≡ faults_of lines_read marked (first ∷ rest)
faults-first marked first rest read margin surplus faults read_is margin_is surplus_is are =
    are
    ∙ ap (λ m. where_met m MarginText ++ where_met surplus SurplusLines ++ where_met marked MissingLine) (margin_is ∙ ap (list_any has_margin_text) read_is)
    ∙ ap (λ s. where_met (list_any has_margin_text (take lines_read rest)) MarginText ++ where_met s SurplusLines ++ where_met marked MissingLine) surplus_is

-- ---- the operation

pub alternate-none : (op : List ℕ) → op ≡ [] → false ≡ is_alternate_operation op
alternate-none op is = sym (ap is_alternate_operation is)

pub alternate-ampersand : (op : List ℕ) → list_any (λ k. k == 38) op ≡ true → false ≡ is_alternate_operation op
alternate-ampersand [] h = absurd (cc)
alternate-ampersand (c ∷ rest) h = ap (λ b. not b && is_alternate_name (symbol_of (encode_utf8_all (c ∷ rest)))) (sym h)

pub alternate-name : (op bytes : List ℕ) (answer : Bool) → (op ≡ [] → ⊥) → list_any (λ k. k == 38) op ≡ false → bytes ≡ encode_utf8_all op → answer ≡ is_alternate_name (symbol_of bytes) → answer ≡ is_alternate_operation op
alternate-name [] bytes answer some h is e = absurd (some refl)
alternate-name (c ∷ rest) bytes answer some h is e = e ∙ ap (λ b. is_alternate_name (symbol_of b)) is ∙ ap (λ b. not b && is_alternate_name (symbol_of (encode_utf8_all (c ∷ rest)))) (sym h)

-- ---- which shapes have fields

pub plain-is : (shape : Shape) → is_plain shape ≡ true → shape ≡ Plain
plain-is Plain h = refl
plain-is Comment h = absurd (cc)
plain-is InnerComment h = absurd (cc)
plain-is Blank h = absurd (cc)

pub plain-not : (shape : Shape) → is_plain shape ≡ false → shape ≡ Plain → ⊥
plain-not shape h is = true≢false (sym (ap is_plain is) ∙ h)

pub blank-not : Blank ≡ Plain → ⊥
blank-not is = plain-not Blank refl is

-- the bodies of a first line and the others
pub read-first : (reader : Reader) (alternate : Bool) (number : ℕ) (first : List ℕ) (read rest : List (List ℕ)) → read ≡ take lines_read rest → IsRead reader alternate (whole_source number (first ∷ read)) → IsRead reader alternate (source_of lines_read number (first ∷ rest))
read-first reader alternate number first read rest is read_it = let P : List (List ℕ) → Type 0 = λ lines. IsRead reader alternate (whole_source number (first ∷ lines)) in subst P is read_it

pub read-all : (reader : Reader) (alternate : Bool) (number : ℕ) (first : List ℕ) (rest : List (List ℕ)) → IsRead reader alternate (whole_source number (first ∷ rest)) → IsRead reader alternate (source_of (length (first ∷ rest)) number (first ∷ rest))
read-all reader alternate number first rest read_it = let P : List Placed → Type 0 = λ source. IsRead reader alternate source in subst P (sym (source-all number first rest)) read_it

-- ---- one line more

pub lines-more : (number : ℕ) (first : List ℕ) (rest : List (Bor (List ℕ))) (at line : ℕ) (d : Bor (List ℕ)) (part : List ℕ) → at < length rest → line ≡ number + (at + 1) → part ≡ drop 15 (chars (get_or rest at d).now)
    → whole_source number (first ∷ bodies_of (take at rest)) ++ placed line 16 part ≡ whole_source number (first ∷ bodies_of (take (at + 1) rest))
lines-more number first rest at line d part within line_is part_is =
    let front = bodies_of (take at rest) in
    let body = chars (get_or rest at d).now in
    let grown : bodies_of (take (at + 1) rest) ≡ front ++ body ∷ [] = ap bodies_of (take_more rest at d within) ∙ map-append (λ (b : Bor (List ℕ)). chars b.now) (take at rest) (get_or rest at d ∷ []) in
    let count : length front ≡ at = length-map (take at rest) (λ (b : Bor (List ℕ)). chars b.now) ∙ length-take-le at rest (omega arith) in
    let number_is : line ≡ (number + 1) + length front = omega (arith, count, line_is) in
    append_assoc (placed number 1 first) (continued (number + 1) front) (placed line 16 part)
    ∙ ap (λ p. placed number 1 first ++ (continued (number + 1) front ++ placed line 16 p)) part_is
    ∙ ap (λ n. placed number 1 first ++ (continued (number + 1) front ++ placed n 16 (drop 15 body))) number_is
    ∙ ap (λ p. placed number 1 first ++ (continued (number + 1) front ++ p)) (sym (append-nil (placed ((number + 1) + length front) 16 (drop 15 body))))
    ∙ ap (λ p. placed number 1 first ++ p) (sym (continued-append (number + 1) front (body ∷ [])))
    ∙ ap (λ lines. placed number 1 first ++ continued (number + 1) lines) (sym grown)
