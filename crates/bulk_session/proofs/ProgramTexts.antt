-- The program's texts: their lines, how long they are, and what an edit makes of one.
use Rattle.std.proofs.Common.{◌≡◌, ◌∙◌, ℕ, zero, suc, ◌+◌, ◌-◌, ◌*◌, ◌/◌, ◌%◌, ◌^◌, ◌<◌, ◌≤◌, ◌==◌, ◌||◌, Bool, true, false, List, [], ◌∷◌, ◌++◌, Some, length, refl, ap, sym, subst, arith, append_assoc, length-append, add-one, inl, inr}
use Rattle.std.specs.Prelude.{codes, nat_lt, if◌then◌else◌}
use Rattle.std.specs.List.{list_all}
use Rattle.std.specs.Str.{IsAscii}
use Rattle.std.specs.Fmt.{decimal}
use Rattle.std.proofs.lemmas.List.{append-nil}
use Rattle.std.proofs.Math.Nat.{add-suc, mul-le-mul_right, div-lt_iff_lt-mul}
use Rattle.std.proofs.lemmas.Bool.{lt-ltb, eq-eqb}
use Rattle.std.proofs.lemmas.Bool.Decides.{eqb_tells}
use Rattle.std.proofs.lemmas.Fmt.{decimal_by_steps, decimal_digit, length-decimal-le}
use Rattle.std.proofs.lemmas.Str.Ascii.{IsAscii-nil, IsAscii-cons}
use Rattle.std.proofs.lemmas.Str.{IsAscii-append}
use Rattle.bulk_script.specs.Texts.{text_of, member_name, edited_call, is_edited, operand, call_front, call_text, call_line, call_lines, program_text}
use Rattle.bulk_session.proofs.PrintedLaws.{is_printed, IsPrinted, ArePrinted, IsPrinted-append, IsAscii-from_printed}

-- a number that has at most five digits
abbrev pub IsSmall : ℕ → Type 0
IsSmall n = n < 100000

wide : (n : ℕ) → IsSmall n → n < 2 ^ 64
wide n small = omega arith

-- ---- calls

digit_printed : (d : ℕ) → d < 10 → is_printed (48 + d) ≡ true
digit_printed d low = rw (lt-ltb 31 (48 + d) (omega arith), lt-ltb (48 + d) 128 (omega arith)) refl

one_digit : (n : ℕ) → n < 10 → IsPrinted ((48 + n) ∷ [])
one_digit n low = rw (digit_printed n low) refl

decimal_printed : (n : ℕ) → IsSmall n → IsPrinted (decimal n)
decimal_printed n small = decimal_by_steps (λ n text. IsPrinted text) one_digit
    (λ n digits _ printed. IsPrinted-append digits ((48 + n % 10) ∷ []) printed (one_digit (n % 10) (omega arith))) n (wide n small)

name_printed : (n : ℕ) → IsSmall n → IsPrinted (member_name n)
unfolding member_name
name_printed n small = IsPrinted-append (codes "M") (decimal n) refl (decimal_printed n small)

front_printed : (call : ℕ) → IsSmall call → IsPrinted (call_front call)
unfolding call_front
front_printed call small =
    let name = name_printed (call % 10) (omega arith) in
    let rest : List ℕ = member_name (call % 10) ++ codes " " in
    IsPrinted-append (codes "X") (decimal call ++ (codes " " ++ rest)) refl
    (IsPrinted-append (decimal call) (codes " " ++ rest) (decimal_printed call small)
    (IsPrinted-append (codes " ") rest refl (IsPrinted-append (member_name (call % 10)) (codes " ") name refl)))

operand_small : (count edits call : ℕ) → operand count edits call < 97
unfolding operand
operand_small count edits call = by (is_edited count edits call) where
  by : (b : Bool) → (if b then 5 else call % 97) < 97
  by true = omega arith
  by false = omega arith

call_printed : (count edits call : ℕ) → IsSmall call → IsPrinted (call_text count edits call)
unfolding call_text
call_printed count edits call small =
    let low = operand_small count edits call in
    IsPrinted-append (call_front call) (decimal (operand count edits call)) (front_printed call small)
    (decimal_printed (operand count edits call) (omega arith))

-- ---- how long they are

pub front_short : (call : ℕ) → IsSmall call → length (call_front call) ≤ 10
unfolding call_front member_name
front_short call small =
    let a = length-decimal-le 5 call (omega arith) (omega arith) (wide call small) in
    let b = length-decimal-le 1 (call % 10) (omega arith) (omega arith) (omega arith) in
    let c = length-append (decimal call) (codes " " ++ ((codes "M" ++ decimal (call % 10)) ++ codes " ")) in
    let d = length-append (decimal (call % 10)) (codes " ") in
    omega arith

pub call_short : (count edits call : ℕ) → IsSmall call → length (call_line count edits call) ≤ 13
unfolding call_text
call_short count edits call small =
    let low = operand_small count edits call in
    let a = front_short call small in
    let b = length-decimal-le 2 (operand count edits call) (omega arith) (omega arith) (omega arith) in
    let c = length-append (call_front call) (decimal (operand count edits call)) in
    let d = length-append (call_front call ++ decimal (operand count edits call)) (10 ∷ []) in
    omega arith

calls_short : (count edits first : ℕ) → first ≤ 10000 → length (call_lines count edits first) ≤ 13 * first
calls_short count edits zero few = omega arith
calls_short count edits (suc call) few =
    let before = calls_short count edits call (omega arith) in
    let here = call_short count edits call (omega arith) in
    let both = length-append (call_lines count edits call) (call_line count edits call) in
    omega arith

pub program_short : (count edits : ℕ) → count ≤ 10000 → length (program_text count edits) ≤ 200000
unfolding program_text
program_short count edits few =
    let calls = calls_short count edits count few in
    let a = length-append (text_of (codes " GBLA &TOT" ∷ codes "BULK CSECT" ∷ []) ++ call_lines count edits count) (text_of (codes " END" ∷ [])) in
    let b = length-append (text_of (codes " GBLA &TOT" ∷ codes "BULK CSECT" ∷ [])) (call_lines count edits count) in
    omega arith

-- ---- ASCII

line_ascii : (line : List ℕ) → IsPrinted line → IsAscii (text_of (line ∷ []))
line_ascii line p = IsAscii-append line (10 ∷ []) (IsAscii-from_printed line p) (IsAscii-cons 10 [] (omega arith) IsAscii-nil)

calls_ascii : (count edits first : ℕ) → first ≤ 10000 → IsAscii (call_lines count edits first)
calls_ascii count edits zero few = IsAscii-nil
calls_ascii count edits (suc call) few =
    IsAscii-append (call_lines count edits call) (call_line count edits call) (calls_ascii count edits call (omega arith))
    (line_ascii (call_text count edits call) (call_printed count edits call (omega arith)))

header_ascii : IsAscii (text_of (codes " GBLA &TOT" ∷ codes "BULK CSECT" ∷ []))
header_ascii =
    IsAscii-append (codes " GBLA &TOT") (10 ∷ text_of (codes "BULK CSECT" ∷ [])) (IsAscii-from_printed (codes " GBLA &TOT") refl)
    (IsAscii-cons 10 (text_of (codes "BULK CSECT" ∷ [])) (omega arith) (line_ascii (codes "BULK CSECT") refl))

pub program_ascii : (count edits : ℕ) → count ≤ 10000 → IsAscii (program_text count edits)
unfolding program_text
program_ascii count edits few =
    IsAscii-append (text_of (codes " GBLA &TOT" ∷ codes "BULK CSECT" ∷ []) ++ call_lines count edits count) (text_of (codes " END" ∷ []))
    (IsAscii-append (text_of (codes " GBLA &TOT" ∷ codes "BULK CSECT" ∷ [])) (call_lines count edits count) header_ascii (calls_ascii count edits count few))
    (line_ascii (codes " END") refl)

-- ---- its lines

-- the first so many calls, without line ends
abbrev pub calls : (count edits first : ℕ) → List (List ℕ)
calls count edits zero = []
calls count edits (suc call) = calls count edits call ++ call_text count edits call ∷ []

-- so many calls behind one, with line ends
abbrev pub calls_behind : (count edits call more : ℕ) → List ℕ
calls_behind count edits call zero = []
calls_behind count edits call (suc more) = calls_behind count edits call more ++ call_line count edits (suc call + more)

text_of-append : (xs ys : List (List ℕ)) → text_of (xs ++ ys) ≡ text_of xs ++ text_of ys
text_of-append [] ys = refl
text_of-append (line ∷ xs) ys =
    ap (λ z. line ++ 10 ∷ z) (text_of-append xs ys) ∙ sym (append_assoc line (10 ∷ text_of xs) (text_of ys))

calls_are_lines : (count edits first : ℕ) → call_lines count edits first ≡ text_of (calls count edits first)
calls_are_lines count edits zero = refl
calls_are_lines count edits (suc call) =
    ap (λ z. z ++ call_line count edits call) (calls_are_lines count edits call)
    ∙ sym (text_of-append (calls count edits call) (call_text count edits call ∷ []))

length-calls : (count edits first : ℕ) → length (calls count edits first) ≡ first
length-calls count edits zero = refl
length-calls count edits (suc call) =
    length-append (calls count edits call) (call_text count edits call ∷ []) ∙ ap (λ n. n + 1) (length-calls count edits call) ∙ add-one call

ArePrinted-push : (xs : List (List ℕ)) (line : List ℕ) → ArePrinted xs → IsPrinted line → ArePrinted (xs ++ line ∷ [])
ArePrinted-push [] line p q = (q, tt)
ArePrinted-push (x ∷ xs) line p q = (p.0, ArePrinted-push xs line p.1 q)

calls_printed : (count edits first : ℕ) → first ≤ 10000 → ArePrinted (calls count edits first)
calls_printed count edits zero few = tt
calls_printed count edits (suc call) few =
    ArePrinted-push (calls count edits call) (call_text count edits call) (calls_printed count edits call (omega arith)) (call_printed count edits call (omega arith))

-- those before a call, that call and those behind it
calls_around : (count edits call more : ℕ) → call_lines count edits (suc call + more) ≡ call_lines count edits call ++ (call_line count edits call ++ calls_behind count edits call more)
calls_around count edits call zero =
    let none : suc call + 0 ≡ suc call = omega arith in
    ap (λ n. call_lines count edits n) none ∙ ap (λ z. call_lines count edits call ++ z) (sym (append-nil (call_line count edits call)))
calls_around count edits call (suc more) =
    ap (λ n. call_lines count edits n) (add-suc (suc call) more)
    ∙ ap (λ z. z ++ call_line count edits (suc call + more)) (calls_around count edits call more)
    ∙ append_assoc (call_lines count edits call) (call_line count edits call ++ calls_behind count edits call more) (call_line count edits (suc call + more))
    ∙ ap (λ z. call_lines count edits call ++ z) (append_assoc (call_line count edits call) (calls_behind count edits call more) (call_line count edits (suc call + more)))

-- ---- an edit

-- it leaves each other call
other_call : (count edit call : ℕ) → (edited_call count edit ≡ call → ⊥) → call_text count (suc edit) call ≡ call_text count edit call
unfolding call_text operand
other_call count edit call apart =
    let differs : (edited_call count edit == call) ≡ false = elim (eqb_tells (edited_call count edit) call) [ inl h ↦ absurd (apart h.1) | inr h ↦ h.0 ] in
    rw differs refl

calls_before_stay : (count edit first : ℕ) → first ≤ edited_call count edit → calls count (suc edit) first ≡ calls count edit first
calls_before_stay count edit zero low = refl
calls_before_stay count edit (suc call) low =
    ap (λ z. z ++ call_text count (suc edit) call ∷ []) (calls_before_stay count edit call (omega arith))
    ∙ ap (λ z. calls count edit call ++ z ∷ []) (other_call count edit call (λ e. absurd (omega arith)))

calls_behind_stay : (count edit more : ℕ) → calls_behind count (suc edit) (edited_call count edit) more ≡ calls_behind count edit (edited_call count edit) more
calls_behind_stay count edit zero = refl
calls_behind_stay count edit (suc more) =
    ap (λ z. z ++ call_line count (suc edit) (suc (edited_call count edit) + more)) (calls_behind_stay count edit more)
    ∙ ap (λ z. calls_behind count edit (edited_call count edit) more ++ (z ++ 10 ∷ [])) (other_call count edit (suc (edited_call count edit) + more) (λ e. absurd (omega arith)))

-- and makes the operand of its own 5
edited_text : (count edit : ℕ) → call_text count (suc edit) (edited_call count edit) ≡ call_front (edited_call count edit) ++ codes "5"
unfolding call_text operand
edited_text count edit =
    rw (eq-eqb (edited_call count edit) (edited_call count edit) refl, decimal_digit 5 (omega arith)) refl

-- the lines before the call that an edit changes, and what stands behind that line
abbrev pub lines_before : (count edit : ℕ) → List (List ℕ)
lines_before count edit = codes " GBLA &TOT" ∷ codes "BULK CSECT" ∷ calls count edit (edited_call count edit)

abbrev pub text_behind_edit : (count edit : ℕ) → List ℕ
text_behind_edit count edit =
    calls_behind count edit (edited_call count edit) (count - suc (edited_call count edit)) ++ text_of (codes " END" ∷ [])

pub call_within : (count edit : ℕ) → 0 < count → edit < 10 → edited_call count edit < count
call_within count edit some low =
    let few : edit ≤ 9 = omega arith in
    let most : edit * count ≤ 9 * count = mul-le-mul_right count few in
    let less : edit * count < count * 10 = omega arith in
    (div-lt_iff_lt-mul {k = 10} {x = edit * count} {y = count} (omega arith)).1 less

around : (count edits call : ℕ) → call < count → program_text count edits
    ≡ text_of (codes " GBLA &TOT" ∷ codes "BULK CSECT" ∷ calls count edits call)
    ++ (call_text count edits call ++ 10 ∷ (calls_behind count edits call (count - suc call) ++ text_of (codes " END" ∷ [])))
unfolding program_text
around count edits call within =
    let head : List ℕ = text_of (codes " GBLA &TOT" ∷ codes "BULK CSECT" ∷ []) in
    let ends : List ℕ = text_of (codes " END" ∷ []) in
    let more : List ℕ = calls_behind count edits call (count - suc call) in
    let whole : suc call + (count - suc call) ≡ count = omega arith in
    let parts : call_lines count edits count ≡ call_lines count edits call ++ (call_line count edits call ++ more) =
    ap (λ n. call_lines count edits n) (sym whole) ∙ calls_around count edits call (count - suc call) in
    ap (λ z. (head ++ z) ++ ends) (parts ∙ ap (λ z. z ++ (call_line count edits call ++ more)) (calls_are_lines count edits call))
    ∙ append_assoc head (text_of (calls count edits call) ++ (call_line count edits call ++ more)) ends
    ∙ ap (λ z. head ++ z) (append_assoc (text_of (calls count edits call)) (call_line count edits call ++ more) ends)
    ∙ ap (λ z. head ++ (text_of (calls count edits call) ++ z)) (append_assoc (call_line count edits call) more ends
    ∙ append_assoc (call_text count edits call) (10 ∷ []) (more ++ ends))

pub program_before : (count edit : ℕ) → 0 < count → edit < 10 → program_text count edit
    ≡ text_of (lines_before count edit) ++ ((call_front (edited_call count edit) ++ decimal (operand count edit (edited_call count edit))) ++ 10 ∷ text_behind_edit count edit)
unfolding call_text
program_before count edit some low = around count edit (edited_call count edit) (call_within count edit some low)

pub program_after : (count edit : ℕ) → 0 < count → edit < 10 → program_text count (suc edit)
    ≡ text_of (lines_before count edit) ++ ((call_front (edited_call count edit) ++ codes "5") ++ 10 ∷ text_behind_edit count edit)
program_after count edit some low =
    around count (suc edit) (edited_call count edit) (call_within count edit some low)
    ∙ ap (λ z. text_of (codes " GBLA &TOT" ∷ codes "BULK CSECT" ∷ z) ++ (call_text count (suc edit) (edited_call count edit) ++ 10 ∷ (calls_behind count (suc edit) (edited_call count edit) (count - suc (edited_call count edit)) ++ text_of (codes " END" ∷ [])))) (calls_before_stay count edit (edited_call count edit) (omega arith))
    ∙ ap (λ z. text_of (lines_before count edit) ++ (z ++ 10 ∷ (calls_behind count (suc edit) (edited_call count edit) (count - suc (edited_call count edit)) ++ text_of (codes " END" ∷ [])))) (edited_text count edit)
    ∙ ap (λ z. text_of (lines_before count edit) ++ ((call_front (edited_call count edit) ++ codes "5") ++ 10 ∷ (z ++ text_of (codes " END" ∷ [])))) (calls_behind_stay count edit (count - suc (edited_call count edit)))

pub before_printed : (count edit : ℕ) → 0 < count → count ≤ 10000 → edit < 10 → ArePrinted (lines_before count edit)
before_printed count edit some few low =
    let within = call_within count edit some low in
    (refl, (refl, calls_printed count edit (edited_call count edit) (omega arith)))

pub length-lines_before : (count edit : ℕ) → length (lines_before count edit) ≡ edited_call count edit + 2
length-lines_before count edit = ap (λ n. suc (suc n)) (length-calls count edit (edited_call count edit)) ∙ omega arith

pub line_printed : (count edit : ℕ) → 0 < count → count ≤ 10000 → edit < 10 → IsPrinted (call_front (edited_call count edit) ++ decimal (operand count edit (edited_call count edit)))
unfolding call_text
line_printed count edit some few low =
    let within = call_within count edit some low in
    call_printed count edit (edited_call count edit) (omega arith)
