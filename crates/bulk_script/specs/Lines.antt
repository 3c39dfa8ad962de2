-- The six lines of a session from a number (this project), each ended by a line feed.
use Rattle.std.specs.Prelude.{ℕ, List, [], ◌∷◌, ◌++◌, codes}
use Rattle.std.specs.Fmt.{decimal, signed_decimal}
use Rattle.bulk_script.specs.declared.lines.Outcome.{Outcome}
use Rattle.bulk_script.specs.Texts.{text_of, edit_count}

unfoldable pub lines_of : Outcome → List ℕ
lines_of outcome = text_of (
    (codes "points " ++ decimal outcome.points)
    ∷ (codes "symbols " ++ decimal outcome.symbols)
    ∷ (codes "diagnostics " ++ decimal outcome.diagnostics)
    ∷ (codes "total " ++ signed_decimal outcome.total)
    ∷ (codes "edits " ++ decimal edit_count)
    ∷ (codes "total after edits " ++ signed_decimal outcome.total_behind)
    ∷ []
    )
