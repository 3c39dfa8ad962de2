-- What the operands of a line add to the fields.
use Rattle.std.proofs.Common.{◌≡◌, ◌∙◌, ℕ, ◌+◌, ◌<◌, Bool, true, false, cond, not, Option, Some, None, List, [], ◌∷◌, ◌++◌, length, take, drop, get_or, refl, sym, ap, subst, arith, append_assoc, take-append-drop, take_all, drop-cons, add-one, suc}
use Rattle.std.specs.Prelude.{◌==◌, ◌&&◌, reverse, slice_index, nat_lt}
use Rattle.std.proofs.lemmas.Bool.{eq-eqb, eqb-true, true≢false}
use Rattle.std.proofs.lemmas.Bool.Decides.{nat_tests}
use Rattle.std.proofs.lemmas.List.{reverse-append, length-take-le}
use Rattle.hl_base.specs.Quoting.{IsBehind}
use Rattle.hl_base.specs.declared.quoting.Nesting.{Nesting}
use Rattle.hlasm_statements.specs.declared.reader.Stage.{Stage}
use Rattle.hlasm_statements.specs.declared.reader.Stage.TheVariants.{Label, Gap, Operation, OperandGap, Operands, Remarks, Done}
use Rattle.hlasm_statements.specs.declared.reader.Reader.{Reader}
use Rattle.hlasm_statements.specs.declared.reader.Scan.{Scan}
use Rattle.hlasm_statements.specs.Columns.{Placed, placed, is_blank, text_of}
use Rattle.hlasm_statements.specs.Places.{side_by_side}
use Rattle.hlasm_statements.specs.Fields.{keeps_groups, ends_field, is_remark, operand_field}
use Rattle.hlasm_statements.specs.Reading.{precedes, is_before_operands, is_past, label_after, op_after, rest_after, backwards, ReadsOn, is_done, Passes, EndsAt, IsScan, Scans, stage_scanned}
use Rattle.hlasm_statements.proofs.SourceLaws.{placed-append}
use Rattle.hlasm_statements.proofs.FieldLaws.{backwards-append, behind_blanks-ink, read-on, text-more, places-more}

-- the stages of the operand field, and of nothing more
abbrev pub in_field : Stage → Bool
in_field Label = false
in_field Gap = false
in_field Operation = false
in_field OperandGap = true
in_field Operands = true
in_field (Remarks remarks) = true
in_field Done = true

abbrev pub remarks_of : Stage → Option ℕ
remarks_of Label = None
remarks_of Gap = None
remarks_of Operation = None
remarks_of OperandGap = None
remarks_of Operands = None
remarks_of (Remarks remarks) = Some remarks
remarks_of Done = None

label-field : (s : Stage) (label tail : List Placed) → in_field s ≡ true → label_after s label tail ≡ label
label-field Label label tail h = absurd (true≢false (sym h))
label-field Gap label tail h = refl
label-field Operation label tail h = refl
label-field OperandGap label tail h = refl
label-field Operands label tail h = refl
label-field (Remarks remarks) label tail h = refl
label-field Done label tail h = refl

op-field : (s : Stage) (op tail : List Placed) → in_field s ≡ true → op_after s op tail ≡ op
op-field Label op tail h = absurd (true≢false (sym h))
op-field Gap op tail h = absurd (true≢false (sym h))
op-field Operation op tail h = absurd (true≢false (sym h))
op-field OperandGap op tail h = refl
op-field Operands op tail h = refl
op-field (Remarks remarks) op tail h = refl
op-field Done op tail h = refl

operand_field-here : (alternate keeps : Bool) (remarks : Option ℕ) (before : List ℕ) (p : Placed) (tail : List Placed) → is_remark remarks p.line ≡ false
    → operand_field alternate keeps remarks before (p ∷ tail)
    ≡ cond (is_blank p.char && ends_field keeps p.char before) (cond (alternate && (slice_index before 0 == 44)) (operand_field alternate keeps (Some p.line) before tail) []) (p ∷ operand_field alternate keeps None (p.char ∷ before) tail)
operand_field-here alternate keeps remarks before p tail other =
    ap (λ b. cond b (operand_field alternate keeps remarks before tail) (cond (is_blank p.char && ends_field keeps p.char before) (cond (alternate && (slice_index before 0 == 44)) (operand_field alternate keeps (Some p.line) before tail) []) (p ∷ operand_field alternate keeps None (p.char ∷ before) tail))) other

pub behind-cons : (c : ℕ) (cs before : List ℕ) → reverse (c ∷ cs) ++ before ≡ reverse cs ++ (c ∷ before)
behind-cons c cs before = ap (λ r. r ++ before) (reverse-append (c ∷ []) cs) ∙ append_assoc (reverse cs) (c ∷ []) before

-- a character that goes on with the field
passes-one : (alternate keeps : Bool) (remarks : Option ℕ) (before : List ℕ) (p : Placed) (tail : List Placed) → is_remark remarks p.line ≡ false → (is_blank p.char && ends_field keeps p.char before) ≡ false
    → operand_field alternate keeps remarks before (p ∷ tail) ≡ p ∷ operand_field alternate keeps None (p.char ∷ before) tail
passes-one alternate keeps remarks before p tail other passes =
    operand_field-here alternate keeps remarks before p tail other
    ∙ ap (λ b. cond b (cond (alternate && (slice_index before 0 == 44)) (operand_field alternate keeps (Some p.line) before tail) []) (p ∷ operand_field alternate keeps None (p.char ∷ before) tail)) passes

passes-field : (alternate keeps : Bool) (remarks : Option ℕ) (before : List ℕ) (line column c : ℕ) (cs : List ℕ) (tail : List Placed) → is_remark remarks line ≡ false → Passes keeps before (c ∷ cs)
    → operand_field alternate keeps remarks before (placed line column (c ∷ cs) ++ tail) ≡ placed line column (c ∷ cs) ++ operand_field alternate keeps None (reverse (c ∷ cs) ++ before) tail
passes-field alternate keeps remarks before line column c [] tail other passes =
    passes-one alternate keeps remarks before (record { char = c; line = line; column = column }) tail other passes.0
passes-field alternate keeps remarks before line column c (d ∷ cs) tail other passes =
    let p : Placed = record { char = c; line = line; column = column } in
    passes-one alternate keeps remarks before p (placed line (column + 1) (d ∷ cs) ++ tail) other passes.0
    ∙ ap (λ back. p ∷ back) (passes-field alternate keeps None (c ∷ before) line (column + 1) d cs tail refl passes.1)
    ∙ ap (λ b. placed line column (c ∷ d ∷ cs) ++ operand_field alternate keeps None b tail) (sym (behind-cons c (d ∷ cs) before))

-- the rest of a line that is remarks
remarks-skip : (alternate keeps : Bool) (before : List ℕ) (line column : ℕ) (cs : List ℕ) (tail : List Placed) → operand_field alternate keeps (Some line) before (placed line column cs ++ tail) ≡ operand_field alternate keeps (Some line) before tail
remarks-skip alternate keeps before line column [] tail = refl
remarks-skip alternate keeps before line column (c ∷ cs) tail =
    let p : Placed = record { char = c; line = line; column = column } in
    let rest = placed line (column + 1) cs ++ tail in
    ap (λ b. cond b (operand_field alternate keeps (Some line) before rest) (cond (is_blank c && ends_field keeps c before) (cond (alternate && (slice_index before 0 == 44)) (operand_field alternate keeps (Some line) before rest) []) (p ∷ operand_field alternate keeps None (c ∷ before) rest))) (eq-eqb line line refl)
    ∙ remarks-skip alternate keeps before line (column + 1) cs tail

-- a blank that ends the field, and what is behind it in its line
ended-rest : (alternate keeps comma : Bool) (before : List ℕ) (line : ℕ) (tail : List Placed) → cond comma (operand_field alternate keeps (Some line) before tail) [] ≡ rest_after alternate keeps before (cond comma (Remarks line) Done) tail
ended-rest alternate keeps true before line tail = refl
ended-rest alternate keeps false before line tail = refl

ended-field : (alternate keeps : Bool) (remarks : Option ℕ) (before : List ℕ) (line column c : ℕ) (cs : List ℕ) (tail : List Placed) → is_remark remarks line ≡ false → (is_blank c && ends_field keeps c before) ≡ true
    → operand_field alternate keeps remarks before (placed line column (c ∷ cs) ++ tail) ≡ rest_after alternate keeps before (cond (alternate && (slice_index before 0 == 44)) (Remarks line) Done) tail
ended-field alternate keeps remarks before line column c cs tail other ends =
    let p : Placed = record { char = c; line = line; column = column } in
    let rest = placed line (column + 1) cs ++ tail in
    operand_field-here alternate keeps remarks before p rest other
    ∙ ap (λ b. cond b (cond (alternate && (slice_index before 0 == 44)) (operand_field alternate keeps (Some line) before rest) []) (p ∷ operand_field alternate keeps None (c ∷ before) rest)) ends
    ∙ ap (λ f. cond (alternate && (slice_index before 0 == 44)) f []) (remarks-skip alternate keeps before line (column + 1) cs tail)
    ∙ ended-rest alternate keeps (alternate && (slice_index before 0 == 44)) before line tail

-- characters of the field, and then a blank that ends it
front-ended : (alternate keeps : Bool) (remarks : Option ℕ) (before : List ℕ) (line column at c : ℕ) (front cs : List ℕ) (tail : List Placed) → is_remark remarks line ≡ false → Passes keeps before front → (is_blank c && ends_field keeps c (reverse front ++ before)) ≡ true
    → operand_field alternate keeps remarks before (placed line column front ++ (placed line at (c ∷ cs) ++ tail))
    ≡ placed line column front ++ rest_after alternate keeps (reverse front ++ before) (cond (alternate && (slice_index (reverse front ++ before) 0 == 44)) (Remarks line) Done) tail
front-ended alternate keeps remarks before line column at c [] cs tail other passes ends = ended-field alternate keeps remarks before line at c cs tail other ends
front-ended alternate keeps remarks before line column at c (x ∷ xs) cs tail other passes ends =
    passes-field alternate keeps remarks before line column x xs (placed line at (c ∷ cs) ++ tail) other passes
    ∙ ap (λ rest. placed line column (x ∷ xs) ++ rest) (ended-field alternate keeps None (reverse (x ∷ xs) ++ before) line at c cs tail refl ends)

-- the field in a text that was scanned
Goes : (alternate keeps : Bool) (remarks : Option ℕ) (before : List ℕ) (stage : Stage) (line column : ℕ) (front text : List ℕ) (tail : List Placed) → Type 0
Goes alternate keeps remarks before stage line column front text tail =
    operand_field alternate keeps remarks before (placed line column text ++ tail) ≡ placed line column front ++ rest_after alternate keeps (reverse front ++ before) stage tail

goes_is : (alternate keeps : Bool) (remarks : Option ℕ) (before : List ℕ) (stage : Stage) (line column : ℕ) (front text : List ℕ) (tail : List Placed) → Goes alternate keeps remarks before stage line column front text tail
    → operand_field alternate keeps remarks before (placed line column text ++ tail) ≡ placed line column front ++ rest_after alternate keeps (reverse front ++ before) stage tail
unfolding Goes
goes_is alternate keeps remarks before stage line column front text tail h = h

drop_here : (text : List ℕ) (at c : ℕ) → at < length text → c ≡ get_or text at c → drop at text ≡ c ∷ drop (at + 1) text
drop_here text at c within is = rw (add-one, drop-cons text at c within) (ap (λ x. x ∷ drop (suc at) text) (sym is))

goes-whole : (alternate keeps : Bool) (remarks : Option ℕ) (before : List ℕ) (stage : Stage) (line column count : ℕ) (text : List ℕ) (tail : List Placed) → is_remark remarks line ≡ false → 0 < length text
    → Passes keeps before (take count text) → count ≡ length text → Goes alternate keeps remarks before (cond (nat_lt 0 count) Operands stage) line column (take count text) text tail
unfolding Goes
goes-whole alternate keeps remarks before stage line column count [] tail other some passes all = absurd (omega arith)
goes-whole alternate keeps remarks before stage line column count (c ∷ cs) tail other some passes all =
    let whole : take count (c ∷ cs) ≡ c ∷ cs = take_all count (c ∷ cs) (omega (arith, all)) in
    let some_counted : 0 < count = omega (arith, all) in
    let counted : nat_lt 0 count ≡ true = grind (arith, nat_tests) in
    let P : List ℕ → Type 0 = λ front. operand_field alternate keeps remarks before (placed line column (c ∷ cs) ++ tail) ≡ placed line column front ++ rest_after alternate keeps (reverse front ++ before) (cond (nat_lt 0 count) Operands stage) tail in
    let Q : Bool → Type 0 = λ b. operand_field alternate keeps remarks before (placed line column (c ∷ cs) ++ tail) ≡ placed line column (c ∷ cs) ++ rest_after alternate keeps (reverse (c ∷ cs) ++ before) (cond b Operands stage) tail in
    let R : List ℕ → Type 0 = λ front. Passes keeps before front in
    subst P (sym whole) (subst Q (sym counted) (passes-field alternate keeps remarks before line column c cs tail other (subst R whole passes)))

goes-ended : (alternate keeps : Bool) (remarks : Option ℕ) (before : List ℕ) (line column count c : ℕ) (text : List ℕ) (tail : List Placed) → is_remark remarks line ≡ false
    → Passes keeps before (take count text) → count < length text → c ≡ get_or text count c → (is_blank c && ends_field keeps c (reverse (take count text) ++ before)) ≡ true
    → Goes alternate keeps remarks before (cond (alternate && (slice_index (reverse (take count text) ++ before) 0 == 44)) (Remarks line) Done) line column (take count text) text tail
unfolding Goes
goes-ended alternate keeps remarks before line column count c text tail other passes within is ends =
    let front = take count text in
    let back = drop (count + 1) text in
    let split : text ≡ front ++ c ∷ back =
    sym (take-append-drop count text) ∙ ap (λ rest. front ++ rest) (drop_here text count c within is) in
    let at = column + length front in
    ap (λ t. operand_field alternate keeps remarks before (placed line column t ++ tail)) split
    ∙ ap (λ t. operand_field alternate keeps remarks before (t ++ tail)) (placed-append line column front (c ∷ back))
    ∙ ap (operand_field alternate keeps remarks before) (append_assoc (placed line column front) (placed line at (c ∷ back)) tail)
    ∙ front-ended alternate keeps remarks before line column at c front back tail other passes ends

goes-scanned : (alternate keeps : Bool) (remarks : Option ℕ) (before : List ℕ) (stage : Stage) (line column : ℕ) (text : List ℕ) (scan : Scan) (tail : List Placed) → is_remark remarks line ≡ false → 0 < length text → IsScan alternate keeps before text scan
    → (ended : Bool) → EndsAt ended keeps scan.count (reverse (take scan.count text) ++ before) text
    → Goes alternate keeps remarks before (cond ended (cond (alternate && scan.ends_in_comma) (Remarks line) Done) (cond (nat_lt 0 scan.count) Operands stage)) line column (take scan.count text) text tail
goes-scanned alternate keeps remarks before stage line column text scan tail other some is false all =
    goes-whole alternate keeps remarks before stage line column scan.count text tail other some is.passes all
goes-scanned alternate keeps remarks before stage line column text scan tail other some is true ends =
    let P : Bool → Type 0 = λ comma. Goes alternate keeps remarks before (cond (alternate && comma) (Remarks line) Done) line column (take scan.count text) text tail in
    subst P (sym is.comma) (goes-ended alternate keeps remarks before line column scan.count ends.0 text tail other is.passes ends.1 ends.2 ends.3)

-- what begins in the operand field
enters : (alternate keeps : Bool) (before : List ℕ) (s : Stage) (line column c : ℕ) (cs : List ℕ) (tail : List Placed) → precedes s (is_blank c) ≡ false → is_past s line ≡ false
    → (rest_after alternate keeps before s (placed line column (c ∷ cs) ++ tail) ≡ operand_field alternate keeps (remarks_of s) before (placed line column (c ∷ cs) ++ tail)) × (is_remark (remarks_of s) line ≡ false) × (in_field s ≡ true)
enters alternate keeps before Label line column c cs tail at past = absurd (true≢false at)
enters alternate keeps before Gap line column c cs tail at past = absurd (true≢false at)
enters alternate keeps before Operation line column c cs tail at past = absurd (true≢false at)
enters alternate keeps before OperandGap line column c cs tail at past =
    (ap (operand_field alternate keeps None before) (behind_blanks-ink (record { char = c; line = line; column = column }) (placed line (column + 1) cs ++ tail) at), refl, refl)
enters alternate keeps before Operands line column c cs tail at past = (refl, refl, refl)
enters alternate keeps before (Remarks remarks) line column c cs tail at past = (refl, past, refl)
enters alternate keeps before Done line column c cs tail at past = absurd (true≢false past)

scanned_in : (ended comma more : Bool) (s : Stage) (line : ℕ) → in_field s ≡ true → in_field (cond ended (cond comma (Remarks line) Done) (cond more Operands s)) ≡ true
scanned_in true true more s line h = refl
scanned_in true false more s line h = refl
scanned_in false comma true s line h = refl
scanned_in false comma false s line h = h

-- the reader with a longer operand field
pub record Scanned (old new : Reader) (alternate : Bool) (line column : ℕ) (text : List ℕ) (scan : Scan) : Type 0 where
  pub stage : new.stage ≡ stage_scanned alternate old.stage scan line
  pub label : new.label ≡ old.label
  pub op : new.op ≡ old.op
  pub operands : new.operands ≡ old.operands ++ take scan.count text
  pub label_places : new.label_places ≡ old.label_places
  pub op_places : new.op_places ≡ old.op_places
  pub operand_places : new.operand_places ≡ old.operand_places ++ side_by_side line column scan.count
  pub nesting : new.nesting ≡ scan.nesting
  pub comma : new.ends_in_comma ≡ scan.ends_in_comma

-- a scan that is not over leaves a stage that is not done
over_done : (alternate ended comma more : Bool) (s : Stage) (line : ℕ) → is_done (cond ended (cond (alternate && comma) (Remarks line) Done) (cond more Operands s)) ≡ false → (ended && not (alternate && comma)) ≡ false
over_done alternate false comma more s line h = refl
over_done true true true more s line h = refl
over_done true true false more s line h = absurd (true≢false h)
over_done false true comma more s line h = absurd (true≢false h)

past_open : (s : Stage) (line : ℕ) → is_past s line ≡ false → is_done s ≡ false
past_open Label line h = refl
past_open Gap line h = refl
past_open Operation line h = refl
past_open OperandGap line h = refl
past_open Operands line h = refl
past_open (Remarks remarks) line h = refl
past_open Done line h = absurd (true≢false h)

operands-on : (old new : Reader) (alternate : Bool) (line column c : ℕ) (cs : List ℕ) (scan : Scan) → precedes old.stage (is_blank c) ≡ false → is_past old.stage line ≡ false → Scans alternate old (c ∷ cs) scan → Scanned old new alternate line column (c ∷ cs) scan
    → ReadsOn old new alternate (placed line column (c ∷ cs))
operands-on old new alternate line column c cs scan at past scans is source read =
    let text = c ∷ cs in
    let more = placed line column text in
    let front = take scan.count text in
    let before = backwards read.operands in
    let before_is : backwards read.operands ≡ reverse old.operands = ap reverse (sym read.operands_text) in
    let B : List ℕ → Type 0 = λ b. IsBehind old.nesting b in
    let S : List ℕ → Type 0 = λ b. IsScan alternate (keeps_groups old.op) b text scan in
    let scanned : IsScan alternate (keeps_groups old.op) before text scan =
    subst S (sym before_is) (scans (subst B before_is (read.nesting (past_open old.stage line past))) (read.comma ∙ ap (λ b. slice_index b 0 == 44) before_is)) in
    let field : in_field old.stage ≡ true = (enters alternate true before old.stage line column c cs [] at past).2 in
    let other = (enters alternate true before old.stage line column c cs [] at past).1 in
    let now : in_field new.stage ≡ true = ap in_field is.stage ∙ scanned_in scan.is_ended (alternate && scan.ends_in_comma) (nat_lt 0 scan.count) old.stage line field in
    let count : scan.count ≡ length front = sym (length-take-le scan.count text scanned.fits) in
    let behind : backwards (read.operands ++ placed line column front) ≡ reverse front ++ before = backwards-append read.operands line column front in
    let M : Nesting → Type 0 = λ n. IsBehind n (reverse front ++ before) in
    let N : List ℕ → Type 0 = λ b. IsBehind new.nesting b in
    read-on old new alternate source more read.label read.op (read.operands ++ placed line column front) read
    (is.label ∙ read.label_text) (is.op ∙ read.op_text) (text-more old.operands new.operands read.operands line column front is.operands read.operands_text)
    (is.label_places ∙ read.label_places) (is.op_places ∙ read.op_places)
    (places-more old.operand_places new.operand_places read.operands line column front (is.operand_places ∙ ap (λ n. old.operand_places ++ side_by_side line column n) count) read.operand_places)
    (λ going. subst N (sym behind) (subst M (sym is.nesting) (scanned.nesting (over_done alternate scan.is_ended scan.ends_in_comma (nat_lt 0 scan.count) old.stage line (ap is_done (sym is.stage) ∙ going)))))
    (is.comma ∙ scanned.comma ∙ ap (λ b. slice_index b 0 == 44) (sym behind))
    (λ tail. label-field new.stage read.label tail now ∙ sym (label-field old.stage read.label (more ++ tail) field))
    (λ tail. op-field new.stage read.op tail now ∙ sym (op-field old.stage read.op (more ++ tail) field))
    (λ tail.
    let keeps = keeps_groups (text_of (op_after old.stage read.op (more ++ tail))) in
    let kept : keeps_groups old.op ≡ keeps = ap keeps_groups (read.op_text ∙ ap text_of (sym (op-field old.stage read.op (more ++ tail) field))) in
    let K : Bool → Type 0 = λ k. IsScan alternate k before text scan in
    let told : IsScan alternate keeps before text scan = subst K kept scanned in
    ap (λ b. (read.operands ++ placed line column front) ++ rest_after alternate keeps b new.stage tail) behind
    ∙ ap (λ s. (read.operands ++ placed line column front) ++ rest_after alternate keeps (reverse front ++ before) s tail) is.stage
    ∙ append_assoc read.operands (placed line column front) (rest_after alternate keeps (reverse front ++ before) (stage_scanned alternate old.stage scan line) tail)
    ∙ ap (λ rest. read.operands ++ rest) (sym ((enters alternate keeps before old.stage line column c cs tail at past).0
    ∙ goes_is alternate keeps (remarks_of old.stage) before (stage_scanned alternate old.stage scan line) line column front text tail
    (goes-scanned alternate keeps (remarks_of old.stage) before old.stage line column text scan tail other (omega arith) told scan.is_ended told.ends))))

pub read-scanned : (old new : Reader) (alternate : Bool) (line column : ℕ) (text : List ℕ) (scan : Scan) → is_before_operands old.stage text ≡ false → is_past old.stage line ≡ false → 0 < length text → Scans alternate old text scan → Scanned old new alternate line column text scan
    → ReadsOn old new alternate (placed line column text)
read-scanned old new alternate line column [] scan at past some scans is = absurd (omega arith)
read-scanned old new alternate line column (c ∷ cs) scan at past some scans is = operands-on old new alternate line column c cs scan at past scans is

-- where a line is past, nothing of it is read
past_in : (s : Stage) (line : ℕ) → is_past s line ≡ true → in_field s ≡ true
past_in Label line h = absurd (true≢false (sym h))
past_in Gap line h = absurd (true≢false (sym h))
past_in Operation line h = absurd (true≢false (sym h))
past_in OperandGap line h = absurd (true≢false (sym h))
past_in Operands line h = absurd (true≢false (sym h))
past_in (Remarks remarks) line h = refl
past_in Done line h = refl

past-rest : (alternate keeps : Bool) (before : List ℕ) (s : Stage) (line column : ℕ) (cs : List ℕ) (tail : List Placed) → is_past s line ≡ true
    → rest_after alternate keeps before s tail ≡ rest_after alternate keeps before s (placed line column cs ++ tail)
past-rest alternate keeps before Label line column cs tail h = absurd (true≢false (sym h))
past-rest alternate keeps before Gap line column cs tail h = absurd (true≢false (sym h))
past-rest alternate keeps before Operation line column cs tail h = absurd (true≢false (sym h))
past-rest alternate keeps before OperandGap line column cs tail h = absurd (true≢false (sym h))
past-rest alternate keeps before Operands line column cs tail h = absurd (true≢false (sym h))
past-rest alternate keeps before (Remarks remarks) line column cs tail h =
    let same : line ≡ remarks = eqb-true line remarks h in
    let P : ℕ → Type 0 = λ r. operand_field alternate keeps (Some r) before tail ≡ operand_field alternate keeps (Some r) before (placed line column cs ++ tail) in
    subst P same (sym (remarks-skip alternate keeps before line column cs tail))
past-rest alternate keeps before Done line column cs tail h = refl

pub reads-past : (reader : Reader) (alternate : Bool) (line column : ℕ) (text : List ℕ) → is_past reader.stage line ≡ true → ReadsOn reader reader alternate (placed line column text)
reads-past reader alternate line column text past source read =
    let more = placed line column text in
    let field = past_in reader.stage line past in
    read-on reader reader alternate source more read.label read.op read.operands read
    read.label_text read.op_text read.operands_text read.label_places read.op_places read.operand_places read.nesting read.comma
    (λ tail. label-field reader.stage read.label tail field ∙ sym (label-field reader.stage read.label (more ++ tail) field))
    (λ tail. op-field reader.stage read.op tail field ∙ sym (op-field reader.stage read.op (more ++ tail) field))
    (λ tail.
    let keeps = keeps_groups (text_of (op_after reader.stage read.op (more ++ tail))) in
    ap (λ rest. read.operands ++ rest) (past-rest alternate keeps (backwards read.operands) reader.stage line column text tail past))
