-- Rows that are said one after the other.
use Rattle.std.proofs.Common.{◌≡◌, ◌∙◌, ℕ, Bool, true, false, List, [], ◌∷◌, ◌++◌, map, refl, sym, ap, append_assoc, append-nil, if◌then◌else◌}
use Rattle.std.specs.List.{filter}
use Rattle.std.specs.Option.{is_none}
use Rattle.std.proofs.lemmas.List.{map-append}
use Rattle.std.proofs.lemmas.List.Elements.{filter-append}
use Rattle.std.specs.Prelude.{Result, Ok, Err, OnOk}
use Rattle.note_rows.specs.declared.row.Row.{Row}
use Rattle.note_rows.specs.declared.row.Row.TheVariants.{UndefinedSymbol}
use Rattle.ordinary_symbols.specs.Known.{Knowledge}
use Rattle.expression_notes.specs.Repeating.{is_repeated, once_behind}
use Rattle.expression_notes.specs.Expressions.{undefined}

-- one row, and then those behind it
abbrev pub one_of : (given : List Row) → Row → (repeated : Bool) → List Row → List Row
one_of given row repeated rest = if repeated then once_behind given rest else row ∷ once_behind (given ++ row ∷ []) rest

-- what is left of some rows and others behind them
pub once_behind-append : (given xs ys : List Row) →
    once_behind given (xs ++ ys) ≡ once_behind given xs ++ once_behind (given ++ once_behind given xs) ys
once_behind-append given [] ys = ap (λ before. once_behind before ys) (sym (append-nil given))
once_behind-append given (row ∷ xs) ys =
    by (is_repeated given row) refl (once_behind-append given xs ys) (once_behind-append (given ++ row ∷ []) xs ys)
  where
    by : (b : Bool) → is_repeated given row ≡ b →
        once_behind given (xs ++ ys) ≡ once_behind given xs ++ once_behind (given ++ once_behind given xs) ys →
        once_behind (given ++ row ∷ []) (xs ++ ys)
        ≡ once_behind (given ++ row ∷ []) xs ++ once_behind ((given ++ row ∷ []) ++ once_behind (given ++ row ∷ []) xs) ys →
        once_behind given ((row ∷ xs) ++ ys) ≡ once_behind given (row ∷ xs) ++ once_behind (given ++ once_behind given (row ∷ xs)) ys
    by true is left_out kept =
        let left : once_behind given (row ∷ xs) ≡ once_behind given xs = ap (λ b. one_of given row b xs) is in
        ap (λ b. one_of given row b (xs ++ ys)) is ∙ left_out ∙ ap (λ rest. rest ++ once_behind (given ++ rest) ys) (sym left)
    by false is left_out kept =
        let more = once_behind (given ++ row ∷ []) xs in
        let left : once_behind given (row ∷ xs) ≡ row ∷ more = ap (λ b. one_of given row b xs) is in
        ap (λ b. one_of given row b (xs ++ ys)) is
        ∙ ap (λ rest. row ∷ rest) kept
        ∙ ap (λ before. row ∷ (more ++ once_behind before ys)) (append_assoc given (row ∷ []) more)
        ∙ ap (λ rest. rest ++ once_behind (given ++ rest) ys) (sym left)

-- what is said in turn is what is left of all
pub in_turn : (before middle after xs ys : List Row) → middle ≡ before ++ once_behind before xs → after ≡ middle ++ once_behind middle ys →
    after ≡ before ++ once_behind before (xs ++ ys)
in_turn before middle after xs ys first second =
    second
    ∙ ap (λ m. m ++ once_behind m ys) first
    ∙ append_assoc before (once_behind before xs) (once_behind (before ++ once_behind before xs) ys)
    ∙ ap (λ rest. before ++ rest) (sym (once_behind-append before xs ys))

-- of some symbols and then of others
pub undefined-append : (known : Knowledge) (xs ys : List (List ℕ)) → undefined known (xs ++ ys) ≡ undefined known xs ++ undefined known ys
undefined-append known xs ys =
    ap (map (λ (name : List ℕ). UndefinedSymbol name)) (filter-append (λ name. is_none (known name)) xs ys)
    ∙ map-append (λ (name : List ℕ). UndefinedSymbol name) (filter (λ name. is_none (known name)) xs) (filter (λ name. is_none (known name)) ys)

-- the same where the second call may fail
pub said_after : {T E : Type 0} (r : Result T E) (before middle after xs ys : List Row) → middle ≡ before ++ once_behind before xs →
    OnOk r (after ≡ middle ++ once_behind middle ys) → OnOk r (after ≡ before ++ once_behind before (xs ++ ys))
said_after (Ok x) before middle after xs ys first second = in_turn before middle after xs ys first second
said_after (Err e) before middle after xs ys first second = second
