-- Statements that are judged one after the other, each where it is.
use Rattle.std.proofs.Common.{◌≡◌, ◌∙◌, ℕ, ◌+◌, ◌<◌, ◌≤◌, List, [], ◌∷◌, ◌++◌, length, map, take, drop, set, get_or, refl, sym, ap, append_assoc, append-nil, arith}
use Rattle.std.proofs.lemmas.List.{take_more_set, drop-set-lt, drop_more, take_all, drop_all, length-map, map-set}
use Rattle.ordinary_symbols.specs.Table.{Table}
use Rattle.section_layout.specs.declared.layout.StatementLayout.{StatementLayout}
use Rattle.section_layout.specs.Layout.{Statement, judged}
use Rattle.section_layout.specs.Views.{met_of, statement_of}

-- the statements that were judged, and then those that are left
abbrev pub so_far : Table → List StatementLayout → ℕ → List Statement
so_far table all number = take number (map statement_of all) ++ map (judged table) (map met_of (drop number all))

pub judged_none : (table : Table) (all : List StatementLayout) → so_far table all 0 ≡ map (judged table) (map met_of all)
judged_none table all = refl

-- one statement more
pub judged_more : (table : Table) (old : List StatementLayout) (number : ℕ) (first then : StatementLayout) → number < length old → first ≡ get_or old number first →
    statement_of then ≡ judged table (met_of first) → so_far table (set old number then) (number + 1) ≡ so_far table old number
judged_more table old number first then inside first_is then_is =
    let shown = map statement_of old in
    let counted = length-map old statement_of in
    let inside_shown : number < length shown = omega arith in
    let less : number < number + 1 = omega arith in
    let behind = map (judged table) (map met_of (drop (number + 1) old)) in
    ap (λ (all : List Statement). take (number + 1) all ++ map (judged table) (map met_of (drop (number + 1) (set old number then)))) (map-set statement_of old number then)
    ∙ ap (λ front. front ++ map (judged table) (map met_of (drop (number + 1) (set old number then)))) (take_more_set shown number (statement_of then) inside_shown)
    ∙ ap (λ rest. (take number shown ++ statement_of then ∷ []) ++ map (judged table) (map met_of rest)) (drop-set-lt (number + 1) old number then less)
    ∙ append_assoc (take number shown) (statement_of then ∷ []) behind
    ∙ ap (λ s. take number shown ++ s ∷ behind) then_is
    ∙ sym (ap (λ (rest : List StatementLayout). take number shown ++ map (judged table) (map met_of rest)) (drop_more old number first inside ∙ ap (λ s. s ∷ drop (number + 1) old) (sym first_is)))

-- all statements
pub judged_all : (table : Table) (all : List StatementLayout) (number : ℕ) → length all ≤ number → so_far table all number ≡ map statement_of all
judged_all table all number past =
    let counted = length-map all statement_of in
    let past_shown : length (map statement_of all) ≤ number = omega arith in
    ap (λ front. front ++ map (judged table) (map met_of (drop number all))) (take_all number (map statement_of all) past_shown)
    ∙ ap (λ (rest : List StatementLayout). map statement_of all ++ map (judged table) (map met_of rest)) (drop_all number all past)
    ∙ append-nil (map statement_of all)
