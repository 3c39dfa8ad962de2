use Rattle.std.proofs.Common.{◌≡◌, ◌∙◌, ◌+◌, sym, ap}
use Rattle.document_store.specs.Positions.{characters_before, line_of, line_start, position_at, spot_of}
use Rattle.document_store.proofs.PlaceLemmas.{spot_of-there}
use Rattle.document_store.proofs.InverseLaws.{characters_before-units, spot_of-position_at, spot_of_column-of, IsInside-spot_of}
use Rattle.document_store.proofs.laws.positions_are_found_again.Goals as goal

pub returns-clause-same : goal.returns-clause-same
returns-clause-same c = λ text at before there within wide.
    let line = line_of text at.line in
    let counted : characters_before at.character line ≡ before = ap (λ unit. characters_before unit line) wide ∙ characters_before-units line before within in
    ap (position_at text)
    (spot_of_column-of text (spot_of text at) (IsInside-spot_of text at)
    ∙ spot_of-there text at there
    ∙ ap (λ n. record { line = at.line; before = n }) counted)
    ∙ ap (λ unit. record { line = at.line; character = unit }) (sym wide)

pub returns-clause-rounded : goal.returns-clause-rounded
returns-clause-rounded c = λ text at. ap (position_at text) (spot_of_column-of text (spot_of text at) (IsInside-spot_of text at))

pub returns-clause-place : goal.returns-clause-place
returns-clause-place c = λ text at.
    let inside = IsInside-spot_of text at in
    ap (λ s. line_start text s.line + s.before) (ap (λ s. spot_of text (position_at text s)) (spot_of_column-of text (spot_of text at) inside) ∙ spot_of-position_at text (spot_of text at) inside)
