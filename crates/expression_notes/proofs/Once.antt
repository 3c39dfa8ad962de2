-- What is left of rows that say nothing of a symbol again.
use Rattle.std.proofs.Common.{◌≡◌, ◌∙◌, ℕ, ◌≤◌, Bool, true, false, cond, List, [], ◌∷◌, ◌++◌, refl, sym, ap, append_assoc, arith, ◌||◌}
use Rattle.std.proofs.lemmas.Bool.{false≢true}
use Rattle.std.proofs.lemmas.List.Folds.{list_any-append}
use Rattle.std.proofs.lemmas.List.Sums.{sum_by-append}
use Rattle.std.proofs.lemmas.Slice.Eq.{bytes_eq-Decides}
use Rattle.note_rows.specs.declared.row.Row.{Row}
use Rattle.note_rows.specs.declared.row.Row.TheVariants.{UndefinedSymbol}
use Rattle.expression_notes.specs.Repeating.{says_undefined, is_said, is_repeated, once_behind, times_said}
use Rattle.expression_notes.proofs.Turns.{one_of}

-- a row that is left out says nothing new
said_before : (name : List ℕ) (given : List Row) (row : Row) → is_repeated given row ≡ true → says_undefined name row ≡ true → is_said given name ≡ true
said_before name given (UndefinedSymbol other) repeated says =
    sym (ap (is_said given) ((bytes_eq-Decides other name).0 says)) ∙ repeated
said_before name given other repeated says = absurd (false≢true repeated)

-- a row that is not left out says what was not said before
not_said_before : (name : List ℕ) (given : List Row) (row : Row) → is_repeated given row ≡ false → says_undefined name row ≡ true → is_said given name ≡ false
not_said_before name given (UndefinedSymbol other) kept says =
    sym (ap (is_said given) ((bytes_eq-Decides other name).0 says)) ∙ kept
not_said_before name given other kept says = absurd (false≢true says)

absorbed : (a b c : Bool) → (b ≡ true → a ≡ true) → (a || c) ≡ (a || (b || c))
absorbed true b c h = refl
absorbed false true c h = absurd (false≢true (h refl))
absorbed false false c h = refl

-- what is said of a symbol is said still, and nothing else is
pub is_said-once_behind : (name : List ℕ) (given rows : List Row) → is_said (given ++ once_behind given rows) name ≡ is_said (given ++ rows) name
is_said-once_behind name given [] = refl
is_said-once_behind name given (row ∷ rows) =
    by (is_repeated given row) refl (is_said-once_behind name given rows) (is_said-once_behind name (given ++ row ∷ []) rows)
  where
    by : (b : Bool) → is_repeated given row ≡ b →
        is_said (given ++ once_behind given rows) name ≡ is_said (given ++ rows) name →
        is_said ((given ++ row ∷ []) ++ once_behind (given ++ row ∷ []) rows) name ≡ is_said ((given ++ row ∷ []) ++ rows) name →
        is_said (given ++ once_behind given (row ∷ rows)) name ≡ is_said (given ++ row ∷ rows) name
    by true is left_out kept =
        ap (λ b. is_said (given ++ one_of given row b rows) name) is
        ∙ left_out
        ∙ list_any-append (says_undefined name) given rows
        ∙ absorbed (is_said given name) (says_undefined name row) (is_said rows name) (said_before name given row is)
        ∙ sym (list_any-append (says_undefined name) given (row ∷ rows))
    by false is left_out kept =
        ap (λ b. is_said (given ++ one_of given row b rows) name) is
        ∙ sym (ap (λ all. is_said all name) (append_assoc given (row ∷ []) (once_behind (given ++ row ∷ []) rows)))
        ∙ kept
        ∙ ap (λ all. is_said all name) (append_assoc given (row ∷ []) rows)

never_said : (name : List ℕ) (given : List Row) → is_said given name ≡ false → times_said given name ≡ 0
never_said name [] none = refl
never_said name (row ∷ given) none = by (says_undefined name row) refl (never_said name given)
  where
    by : (b : Bool) → says_undefined name row ≡ b → (is_said given name ≡ false → times_said given name ≡ 0) → times_said (row ∷ given) name ≡ 0
    by true is rest = absurd (false≢true (sym none ∙ ap (λ b. b || is_said given name) is))
    by false is rest =
        let nothing : cond {A = ℕ} (says_undefined name row) 1 0 ≡ 0 = ap (λ b. cond b 1 0) is in
        let joined = sum_by-append (λ r. cond (says_undefined name r) 1 0) (row ∷ []) given in
        let others = rest (sym (ap (λ b. b || is_said given name) is) ∙ none) in
        omega arith

-- one more row
times_more : (name : List ℕ) (given : List Row) (row : Row) → is_repeated given row ≡ false → times_said given name ≤ 1 → times_said (given ++ row ∷ []) name ≤ 1
times_more name given row kept few = by (says_undefined name row) refl
  where
    by : (b : Bool) → says_undefined name row ≡ b → times_said (given ++ row ∷ []) name ≤ 1
    by true is =
        let none = never_said name given (not_said_before name given row kept is) in
        let joined = sum_by-append (λ r. cond (says_undefined name r) 1 0) given (row ∷ []) in
        let one : cond {A = ℕ} (says_undefined name row) 1 0 ≡ 1 = ap (λ b. cond b 1 0) is in
        omega arith
    by false is =
        let joined = sum_by-append (λ r. cond (says_undefined name r) 1 0) given (row ∷ []) in
        let nothing : cond {A = ℕ} (says_undefined name row) 1 0 ≡ 0 = ap (λ b. cond b 1 0) is in
        omega arith

-- of no symbol it is said twice
pub times_said-once_behind : (name : List ℕ) (given rows : List Row) → times_said given name ≤ 1 → times_said (given ++ once_behind given rows) name ≤ 1
times_said-once_behind name given [] few =
    let joined = sum_by-append (λ r. cond (says_undefined name r) 1 0) given [] in omega arith
times_said-once_behind name given (row ∷ rows) few =
    by (is_repeated given row) refl (times_said-once_behind name given rows few) (times_said-once_behind name (given ++ row ∷ []) rows)
  where
    by : (b : Bool) → is_repeated given row ≡ b →
        times_said (given ++ once_behind given rows) name ≤ 1 →
        (times_said (given ++ row ∷ []) name ≤ 1 → times_said ((given ++ row ∷ []) ++ once_behind (given ++ row ∷ []) rows) name ≤ 1) →
        times_said (given ++ once_behind given (row ∷ rows)) name ≤ 1
    by true is left_out kept =
        let same : times_said (given ++ once_behind given (row ∷ rows)) name ≡ times_said (given ++ once_behind given rows) name =
        ap (λ b. times_said (given ++ one_of given row b rows) name) is in
        omega arith
    by false is left_out kept =
        let same : times_said (given ++ once_behind given (row ∷ rows)) name ≡ times_said ((given ++ row ∷ []) ++ once_behind (given ++ row ∷ []) rows) name =
        ap (λ b. times_said (given ++ one_of given row b rows) name) is
        ∙ sym (ap (λ all. times_said all name) (append_assoc given (row ∷ []) (once_behind (given ++ row ∷ []) rows))) in
        let rest = kept (times_more name given row is few) in
        omega arith
