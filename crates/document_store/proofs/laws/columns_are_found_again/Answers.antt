use Rattle.std.proofs.Common.{◌≡◌, ◌∙◌, ◌+◌, ◌-◌, ap, arith}
use Rattle.document_store.specs.Positions.{spot_of_column}
use Rattle.document_store.proofs.InverseLaws.{spot_of-position_at, spot_of_column-within, IsInside-spot_of_column}
use Rattle.document_store.proofs.laws.columns_are_found_again.Goals as goal

pub returns-clause-same : goal.returns-clause-same
returns-clause-same c = λ text line column there some within.
    let spot = spot_of_column text line column in
    let counted : column - 1 + 1 ≡ column = omega arith in
    ap (λ s. (s.line, s.before + 1)) (spot_of-position_at text spot (IsInside-spot_of_column text line column) ∙ spot_of_column-within text line column there within)
    ∙ ap (λ n. (line, n)) counted

pub returns-clause-rounded : goal.returns-clause-rounded
returns-clause-rounded c = λ text line column.
    ap (λ s. (s.line, s.before + 1)) (spot_of-position_at text (spot_of_column text line column) (IsInside-spot_of_column text line column))
