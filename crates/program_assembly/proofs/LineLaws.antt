-- The last line of a text.
use Rattle.std.proofs.Common.{◌≡◌, ℕ, ◌+◌, ◌-◌, ◌<◌, ◌≤◌, ◌++◌, ◌∙◌, List, [], ◌∷◌, map, length, Option, Some, None, suc, refl, ap, sym, subst, arith, slice_get}
use Rattle.std.proofs.lemmas.List.{length-map}
use Rattle.std.proofs.lemmas.Option.{slice_get-map}
use Rattle.std.specs.List.{flat_map}
use Rattle.std.specs.Option.{option_map}
use Rattle.hl_base.specs.declared.note.Note.{Note}
use Rattle.hl_base.specs.declared.place.PathId.{PathId}
use Rattle.hl_base.specs.Texts.{lines}
use Rattle.hl_base.proofs.LineLaws.{length-lines}
use Rattle.hlasm_statements.specs.declared.statement.Statement.{Statement}
use Rattle.hlasm_statements.specs.Laws.{FollowOn}
use Rattle.hlasm_statements.specs.Statements.{statements_of}
use Rattle.hlasm_statements.proofs.GroupsLaws.{FollowOn-text}
use Rattle.statement_listing.specs.Listings.{Listed, listing_of}
use Rattle.program_assembly.specs.ColumnNotes.{fault_notes}

-- statements that follow on do not go back
FollowOn-le : (number : ℕ) (statements : List Statement) (end : ℕ) → FollowOn number statements end → number ≤ end
FollowOn-le number [] end follows = omega arith
FollowOn-le number (statement ∷ rest) end follows =
    let first = follows.0 in let last = follows.1 in let behind = FollowOn-le (statement.last + 1) rest end follows.2 in omega arith

-- the last of statements that follow on ends where they end
pub FollowOn-last : (statements : List Statement) (number end : ℕ) (found : Statement) → FollowOn number statements end → number < end
    → slice_get statements (length statements - 1) ≡ Some found → found.last ≡ end - 1
FollowOn-last [] number end found follows some is = cc
FollowOn-last (statement ∷ []) number end found follows some is =
    let same : statement ≡ found = cc in
    let last : statement.last ≡ found.last = ap (λ (s : Statement). s.last) same in
    let place = follows.2 in
    omega arith
FollowOn-last (statement ∷ next ∷ rest) number end found follows some is =
    let second = follows.2 in
    let first = second.0 in
    let no_less = second.1 in
    let behind = FollowOn-le (next.last + 1) rest end second.2 in
    let place : suc (suc (length rest)) - 1 ≡ suc (length rest) = omega arith in
    let here : suc (length rest) - 1 ≡ length rest = omega arith in
    let next_is = rw place at is in
    FollowOn-last (next ∷ rest) (statement.last + 1) end found follows.2 (omega arith) (rw here next_is)

-- there is a last one
pub FollowOn-none : (statements : List Statement) (number end : ℕ) → FollowOn number statements end → number < end → slice_get statements (length statements - 1) ≡ None → ⊥
FollowOn-none [] number end follows some is = let same = follows in omega arith
FollowOn-none (statement ∷ []) number end follows some is = cc
FollowOn-none (statement ∷ next ∷ rest) number end follows some is =
    let second = follows.2 in
    let first = second.0 in
    let no_less = second.1 in
    let behind = FollowOn-le (next.last + 1) rest end second.2 in
    let place : suc (suc (length rest)) - 1 ≡ suc (length rest) = omega arith in
    let here : suc (length rest) - 1 ≡ length rest = omega arith in
    let next_is = rw place at is in
    FollowOn-none (next ∷ rest) (statement.last + 1) end follows.2 (omega arith) (rw here next_is)

-- a text has a line
some_line : (text : List ℕ) → 0 < length (lines text)
some_line text = let count = length-lines text in omega arith

-- what is told of all ends of statements that follow on is told of the last line of their text
pub last_of_text : (text : List ℕ) (statements : List Statement) (last : ℕ) → statements ≡ statements_of text →
    ((end : ℕ) → FollowOn 0 statements end → 0 < end → last ≡ end - 1) → last ≡ length (lines text) - 1
last_of_text text statements last is told =
    told (length (lines text)) (subst (λ z. FollowOn 0 z (length (lines text))) (sym is) (FollowOn-text text)) (some_line text)

-- ---- the statements of lines

pub listed-statements : (path : PathId) (statements : List Statement) → map (λ (line : Listed). line.statement) (listing_of path statements) ≡ statements
listed-statements path [] = refl
listed-statements path (statement ∷ rest) = ap (λ ss. statement ∷ ss) (listed-statements path rest)

pub listed-faults : (number : ℕ) (path : PathId) (statements : List Statement) →
    flat_map (λ (line : Listed). fault_notes number line.statement) (listing_of path statements) ≡ flat_map (fault_notes number) statements
listed-faults number path [] = refl
listed-faults number path (statement ∷ rest) = ap (λ (ns : List Note). fault_notes number statement ++ ns) (listed-faults number path rest)

-- the statement of the last line
pub last-of-listed : (list : List Listed) (o : Option Listed) → slice_get list (length list - 1) ≡ o →
    slice_get (map (λ (line : Listed). line.statement) list) (length (map (λ (line : Listed). line.statement) list) - 1) ≡ option_map (λ (line : Listed). line.statement) o
last-of-listed list o is =
    ap (λ n. slice_get (map (λ (line : Listed). line.statement) list) (n - 1)) (length-map list (λ (line : Listed). line.statement))
    ∙ slice_get-map (λ (line : Listed). line.statement) list (length list - 1)
    ∙ ap (option_map (λ (line : Listed). line.statement)) is
