-- Statements that are checked one after the other.
use Rattle.std.proofs.Common.{◌≡◌, ◌∙◌, ℕ, zero, suc, ◌+◌, ◌<◌, ◌≤◌, List, [], ◌∷◌, ◌++◌, map, Bor, length, take, drop, set, get_or, refl, sym, ap, append_assoc, append-nil, arith}
use Rattle.std.specs.Prelude.{Option, Some, None, slice_get}
use Rattle.std.proofs.lemmas.List.{take_more_set, drop-set-lt, drop_more, take_all, drop_all, take-append-drop, get_or-map, length-map, map-set}
use Rattle.hl_base.specs.declared.set.Line.{Line}
use Rattle.literal_places.specs.Places.{Literals}
use Rattle.ordinary_symbols.specs.Known.{Knowledge}
use Rattle.ordinary_symbols.specs.Table.{known}
use Rattle.section_layout.specs.declared.layout.StatementLayout.{StatementLayout}
use Rattle.section_layout.specs.Layout.{Layout, Statement}
use Rattle.section_layout.specs.Views.{lines_of, statement_of}
use Rattle.using_ranges.specs.Ranges.{Held}
use Rattle.using_statements.specs.Held.{no_ranges}
use Rattle.statement_checks.specs.Programs.{all_checked, checked, checked_at, ranges_behind}
use Rattle.statement_checks.specs.Statements as one

-- ---- with no statement, and with no line

all_checked-none : (k : Knowledge) (literals : Literals) (held : Held) (lines : List Line) → all_checked k literals held lines [] ≡ []
all_checked-none k literals held [] = refl
all_checked-none k literals held (line ∷ lines) = refl

-- ---- one statement more

-- the statements so far, and then those that are left
abbrev pub so_far : Knowledge → Literals → Held → List Line → List Statement → ℕ → List Statement
so_far k literals held lines statements number = take number statements ++ all_checked k literals held (drop number lines) (drop number statements)

pub checked_more : (k : Knowledge) (literals : Literals) (held after : Held) (lines : List Line) (old new : List Statement) (number : ℕ)
    (line : Line) (first then : Statement) →
    number < length old → number < length lines → line ≡ get_or lines number line → first ≡ get_or old number first →
    then ≡ one.checked k literals held line first → after ≡ one.behind k held line first → new ≡ set old number then →
    so_far k literals after lines new (number + 1) ≡ so_far k literals held lines old number
checked_more k literals held after lines old new number line first then inside has line_is first_is then_is after_is new_is =
    let others = drop (number + 1) old in
    let behind = drop (number + 1) lines in
    let less : number < number + 1 = omega arith in
    ap (λ (all : List Statement). so_far k literals after lines all (number + 1)) new_is
    ∙ ap (λ front. front ++ all_checked k literals after behind (drop (number + 1) (set old number then))) (take_more_set old number then inside)
    ∙ ap (λ rest. (take number old ++ then ∷ []) ++ all_checked k literals after behind rest) (drop-set-lt (number + 1) old number then less)
    ∙ append_assoc (take number old) (then ∷ []) (all_checked k literals after behind others)
    ∙ ap (λ rest. take number old ++ rest) (
    ap (λ s. s ∷ all_checked k literals after behind others) then_is
    ∙ ap (λ h. one.checked k literals held line first ∷ all_checked k literals h behind others) after_is
    ∙ sym (ap (λ ls. all_checked k literals held ls (first ∷ others))
    (drop_more lines number line has ∙ ap (λ l. l ∷ behind) (sym line_is)))
    ∙ sym (ap (all_checked k literals held (drop number lines))
    (drop_more old number first inside ∙ ap (λ s. s ∷ others) (sym first_is))))

-- the same of statements and lines as they are kept
pub step : (k : Knowledge) (literals : Literals) (held after : Held) (lines : List (Bor Line)) (old : List StatementLayout) (number : ℕ)
    (line : Bor Line) (first then : StatementLayout) →
    number < length old → number < length lines → line ≡ get_or lines number line → first ≡ get_or old number first →
    statement_of then ≡ one.checked k literals held line.now (statement_of first) → after ≡ one.behind k held line.now (statement_of first) →
    so_far k literals after (lines_of lines) (map statement_of (set old number then)) (number + 1)
    ≡ so_far k literals held (lines_of lines) (map statement_of old) number
step k literals held after lines old number line first then inside has line_is first_is then_is after_is =
    let count = length-map old statement_of in
    let counted = length-map lines (λ (l : Bor Line). l.now) in
    let inside_shown : number < length (map statement_of old) = omega arith in
    let has_shown : number < length (lines_of lines) = omega arith in
    checked_more k literals held after (lines_of lines) (map statement_of old) (map statement_of (set old number then)) number
    line.now (statement_of first) (statement_of then) inside_shown has_shown
    (ap (λ (l : Bor Line). l.now) line_is ∙ sym (get_or-map (λ (l : Bor Line). l.now) lines number line line.now has))
    (ap statement_of first_is ∙ sym (get_or-map statement_of old number first (statement_of first) inside))
    then_is after_is (map-set statement_of old number then)

-- there is no further statement
pub checked_end : (k : Knowledge) (literals : Literals) (held : Held) (lines : List Line) (statements : List Statement) (number : ℕ) →
    length statements ≤ number → so_far k literals held lines statements number ≡ statements
checked_end k literals held lines statements number past =
    ap (λ rest. take number statements ++ all_checked k literals held (drop number lines) rest) (drop_all number statements past)
    ∙ ap (λ rest. take number statements ++ rest) (all_checked-none k literals held (drop number lines))
    ∙ append-nil (take number statements)
    ∙ take_all number statements past

-- there is no further line
pub checked_short : (k : Knowledge) (literals : Literals) (held : Held) (lines : List Line) (statements : List Statement) (number : ℕ) →
    length lines ≤ number → so_far k literals held lines statements number ≡ statements
checked_short k literals held lines statements number past =
    ap (λ ls. take number statements ++ all_checked k literals held ls (drop number statements)) (drop_all number lines past)
    ∙ take-append-drop number statements

-- ---- laws

at_of : (k : Knowledge) (literals : Literals) (held : Held) (lines : List Line) (statements : List Statement) (number : ℕ) →
    slice_get (all_checked k literals held lines statements) number
    ≡ checked_at k literals (ranges_behind k held (take number lines) (take number statements)) (slice_get lines number) (slice_get statements number)
at_of k literals held [] statements zero = refl
at_of k literals held [] statements (suc number) = refl
at_of k literals held (line ∷ lines) [] zero = refl
at_of k literals held (line ∷ lines) [] (suc number) = by (slice_get lines number)
  where
    by : (found : Option Line) → None ≡ checked_at k literals (ranges_behind k held (line ∷ take number lines) []) found None
    by None = refl
    by (Some other) = refl
at_of k literals held (line ∷ lines) (first ∷ statements) zero = refl
at_of k literals held (line ∷ lines) (first ∷ statements) (suc number) = at_of k literals (one.behind k held line first) lines statements number

pub statement_at : (lines : List Line) (layout : Layout) (number : ℕ) → slice_get (checked lines layout).statements number
    ≡ checked_at (known layout.symbols) layout.literals
    (ranges_behind (known layout.symbols) no_ranges (take number lines) (take number layout.statements))
    (slice_get lines number) (slice_get layout.statements number)
unfolding checked
statement_at lines layout number = at_of (known layout.symbols) layout.literals no_ranges lines layout.statements number

length-all_checked : (k : Knowledge) (literals : Literals) (held : Held) (lines : List Line) (statements : List Statement) →
    length (all_checked k literals held lines statements) ≡ length statements
length-all_checked k literals held [] statements = refl
length-all_checked k literals held (line ∷ lines) [] = refl
length-all_checked k literals held (line ∷ lines) (first ∷ statements) =
    ap suc (length-all_checked k literals (one.behind k held line first) lines statements)

pub length-checked : (lines : List Line) (layout : Layout) → length (checked lines layout).statements ≡ length layout.statements
unfolding checked
length-checked lines layout = length-all_checked (known layout.symbols) layout.literals no_ranges lines layout.statements
