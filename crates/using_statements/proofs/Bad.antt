-- Rows that say that a statement cannot be read.
use Rattle.std.proofs.Common.{◌≡◌, ◌∙◌, ℕ, Bool, true, false, not, ◌&&◌, ◌||◌, List, [], ◌∷◌, ◌++◌, map, refl, sym, ap, append-nil, append_assoc, if◌then◌else◌}
use Rattle.std.specs.List.{filter, list_any}
use Rattle.std.specs.Option.{is_none}
use Rattle.std.specs.Prelude.{Option, Some, None, Result, Ok, Err}
use Rattle.std.proofs.lemmas.Bool.{false≢true}
use Rattle.std.proofs.lemmas.List.Elements.{filter-append}
use Rattle.std.proofs.lemmas.List.Folds.{list_any-append}
use Rattle.expression_grammar.specs.Trees.{Tree}
use Rattle.expression_notes.specs.declared.values.Wanted.{Wanted}
use Rattle.expression_notes.specs.declared.values.Wanted.TheVariants as wanted
use Rattle.expression_notes.specs.Expressions.{listed, said_of, said_of_section, said_of_value, undefined}
use Rattle.note_rows.specs.declared.row.Row.{Row}
use Rattle.note_rows.specs.declared.row.Row.TheVariants.{UndefinedSymbol}
use Rattle.ordinary_symbols.specs.declared.fault.EvalFault.{EvalFault}
use Rattle.ordinary_symbols.specs.declared.fault.EvalFault.TheVariants as fault
use Rattle.ordinary_symbols.specs.Known.{Knowledge, names}
use Rattle.ordinary_symbols.specs.Values.{value}
use Rattle.trace_values.specs.declared.section.Reloc.{Reloc}
use Rattle.trace_values.specs.declared.section.SectionId.{SectionId}
use Rattle.using_statements.specs.Said.{bad_if, bad_left, bad_once, is_bad, without_bad}

-- ---- what is said of an expression is never this

any-names : (symbols : List (List ℕ)) → list_any is_bad (map (λ (name : List ℕ). UndefinedSymbol name) symbols) ≡ false
any-names [] = refl
any-names (name ∷ symbols) = any-names symbols

any-section : (purpose : Wanted) (section : Option SectionId) → list_any is_bad (listed (said_of_section purpose section)) ≡ false
any-section wanted.Value section = refl
any-section wanted.Number (Some section) = refl
any-section wanted.Number None = refl

any-value : (purpose : Wanted) (found : Result Reloc EvalFault) → list_any is_bad (listed (said_of_value purpose found)) ≡ false
any-value purpose (Ok found) = any-section purpose found.section
any-value purpose (Err (fault.Undefined name)) = refl
any-value purpose (Err fault.NotSimple) = refl
any-value purpose (Err fault.Overflow) = refl

pub any-said_of : (known : Knowledge) (here : Option Reloc) (purpose : Wanted) (tree : Tree) → list_any is_bad (said_of known here purpose tree) ≡ false
any-said_of known here purpose tree =
    list_any-append is_bad (listed (said_of_value purpose (value known here tree))) (undefined known (names tree))
    ∙ ap (λ b. b || list_any is_bad (undefined known (names tree))) (any-value purpose (value known here tree))
    ∙ any-names (filter (λ name. is_none (known name)) (names tree))

any-bad_if : (b : Bool) → list_any is_bad (bad_if b) ≡ b
any-bad_if true = refl
any-bad_if false = refl

-- rows of which none is this, and then this, where it is so
pub any-behind : (clean : List Row) (b : Bool) → list_any is_bad clean ≡ false → list_any is_bad (clean ++ bad_if b) ≡ b
any-behind clean b none =
    list_any-append is_bad clean (bad_if b) ∙ ap (λ x. x || list_any is_bad (bad_if b)) none ∙ any-bad_if b

-- ---- rows of which none is this

first-clean : (row : Row) (rows : List Row) → list_any is_bad (row ∷ rows) ≡ false → is_bad row ≡ false
first-clean row rows none = by (is_bad row) refl
  where
    by : (b : Bool) → is_bad row ≡ b → is_bad row ≡ false
    by true is = absurd (false≢true (sym none ∙ ap (λ b. b || list_any is_bad rows) is))
    by false is = is

rest-clean : (row : Row) (rows : List Row) → list_any is_bad (row ∷ rows) ≡ false → list_any is_bad rows ≡ false
rest-clean row rows none = sym (ap (λ b. b || list_any is_bad rows) (first-clean row rows none)) ∙ none

pub without-clean : (rows : List Row) → list_any is_bad rows ≡ false → without_bad rows ≡ rows
without-clean [] none = refl
without-clean (row ∷ rows) none =
    ap (λ b. if not b then row ∷ without_bad rows else without_bad rows) (first-clean row rows none)
    ∙ ap (λ rest. row ∷ rest) (without-clean rows (rest-clean row rows none))

pub once-clean : (clean rows : List Row) → list_any is_bad clean ≡ false → bad_once (clean ++ rows) ≡ clean ++ bad_once rows
once-clean [] rows none = refl
once-clean (row ∷ clean) rows none =
    ap (λ b. row ∷ (if b then without_bad (clean ++ rows) else bad_once (clean ++ rows))) (first-clean row clean none)
    ∙ ap (λ rest. row ∷ rest) (once-clean clean rows (rest-clean row clean none))

once-bad_if : (b : Bool) → bad_once (bad_if b) ≡ bad_if b
once-bad_if true = refl
once-bad_if false = refl

-- this, where it is so, stands once behind them
pub once-behind : (clean : List Row) (b : Bool) → list_any is_bad clean ≡ false → bad_once (clean ++ bad_if b) ≡ clean ++ bad_if b
once-behind clean b none = once-clean clean (bad_if b) none ∙ ap (λ rest. clean ++ rest) (once-bad_if b)

without-bad_if : (b : Bool) → without_bad (bad_if b) ≡ []
without-bad_if true = refl
without-bad_if false = refl

-- what is left of them behind others of which it is said already, or not yet
pub left-behind : (said : Bool) (clean : List Row) (b : Bool) → list_any is_bad clean ≡ false →
    bad_left said (clean ++ bad_if b) ≡ clean ++ bad_if (b && not said)
left-behind true clean b none =
    filter-append (λ row. not (is_bad row)) clean (bad_if b)
    ∙ ap (λ rest. rest ++ without_bad (bad_if b)) (without-clean clean none)
    ∙ ap (λ rest. clean ++ rest) (without-bad_if b ∙ sym (never b))
  where
    never : (x : Bool) → bad_if (x && not true) ≡ []
    never true = refl
    never false = refl
left-behind false clean b none =
    once-behind clean b none ∙ ap (λ x. clean ++ bad_if x) (sym (always b))
  where
    always : (x : Bool) → (x && not false) ≡ x
    always true = refl
    always false = refl

-- ---- rows and others behind them

once-append : (xs ys : List Row) → bad_once (xs ++ ys) ≡ bad_once xs ++ bad_left (list_any is_bad xs) ys
once-append [] ys = refl
once-append (row ∷ xs) ys = by (is_bad row) refl (once-append xs ys)
  where
    by : (b : Bool) → is_bad row ≡ b → bad_once (xs ++ ys) ≡ bad_once xs ++ bad_left (list_any is_bad xs) ys →
        bad_once ((row ∷ xs) ++ ys) ≡ bad_once (row ∷ xs) ++ bad_left (list_any is_bad (row ∷ xs)) ys
    by true is rest =
        ap (λ b. row ∷ (if b then without_bad (xs ++ ys) else bad_once (xs ++ ys))) is
        ∙ ap (λ more. row ∷ more) (filter-append (λ r. not (is_bad r)) xs ys)
        ∙ sym (ap (λ b. (row ∷ (if b then without_bad xs else bad_once xs)) ++ bad_left (b || list_any is_bad xs) ys) is)
    by false is rest =
        ap (λ b. row ∷ (if b then without_bad (xs ++ ys) else bad_once (xs ++ ys))) is
        ∙ ap (λ more. row ∷ more) rest
        ∙ sym (ap (λ b. (row ∷ (if b then without_bad xs else bad_once xs)) ++ bad_left (b || list_any is_bad xs) ys) is)

pub left-append : (said : Bool) (xs ys : List Row) → bad_left said (xs ++ ys) ≡ bad_left said xs ++ bad_left (said || list_any is_bad xs) ys
left-append true xs ys = filter-append (λ row. not (is_bad row)) xs ys
left-append false xs ys = once-append xs ys

pub left-nil : (said : Bool) → bad_left said [] ≡ []
left-nil true = refl
left-nil false = refl

-- rows in which this stands once at most, and others behind them
pub once-behind_others : (xs ys : List Row) → bad_once xs ≡ xs → bad_once (xs ++ ys) ≡ xs ++ bad_left (list_any is_bad xs) ys
once-behind_others xs ys once = once-append xs ys ∙ ap (λ front. front ++ bad_left (list_any is_bad xs) ys) once
