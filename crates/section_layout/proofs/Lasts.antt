-- The last statement.
use Rattle.std.proofs.Common.{◌≡◌, ◌∙◌, List, [], ◌∷◌, ◌++◌, map, refl, sym, ap}
use Rattle.std.proofs.lemmas.List.{map-append}
use Rattle.note_rows.specs.declared.row.Row.{Row}
use Rattle.section_layout.specs.declared.layout.StatementLayout.{StatementLayout}
use Rattle.section_layout.specs.Views.{met_of}
use Rattle.section_layout.specs.Walks.{Met, also_said, also_said_of_last}

said_behind : (rows : List Row) (front : List Met) (last : Met) → also_said_of_last rows (front ++ last ∷ []) ≡ front
    ++ also_said rows last ∷ []
said_behind rows [] last = refl
said_behind rows (one ∷ []) last = refl
said_behind rows (one ∷ two ∷ front) last = ap (λ rest. one ∷ rest) (said_behind rows (two ∷ front) last)

-- a statement of which more is said goes last again
pub said_of_last : (rows : List Row) (front : List StatementLayout) (one two : StatementLayout) → met_of two ≡ also_said rows (met_of one) →
    map met_of (front ++ two ∷ []) ≡ also_said_of_last rows (map met_of (front ++ one ∷ []))
said_of_last rows front one two is =
    map-append met_of front (two ∷ [])
    ∙ ap (λ last. map met_of front ++ last ∷ []) is
    ∙ sym (said_behind rows (map met_of front) (met_of one))
    ∙ ap (also_said_of_last rows) (sym (map-append met_of front (one ∷ [])))
