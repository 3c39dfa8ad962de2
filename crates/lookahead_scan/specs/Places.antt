-- Labels with the numbers of the statements that give them. No public clause cites this file. This project.
use Rattle.std.specs.Prelude.{ℕ, ◌+◌, List, [], ◌∷◌, ◌++◌, Option, Some, None, nat_lt, if◌then◌else◌}
use Rattle.std.specs.Str.{bytes_eq}
use Rattle.hl_base.specs.declared.set.Attr.{Attr}
use Rattle.lookahead_scan.specs.declared.index.Found.{Found}
use Rattle.lookahead_scan.specs.declared.sight.Label.{Label}
use Rattle.lookahead_scan.specs.Looks.{Met}

-- the labels of a name among these, which a statement gives
abbrev pub founds_at : List ℕ → ℕ → List Label → List Found
founds_at name at [] = []
founds_at name at (label ∷ labels) =
    if bytes_eq label.name name then record { at = at; attr = label.attr } ∷ founds_at name at labels else founds_at name at labels

-- the labels of a name that statements give, of which the first has this number
abbrev pub founds_from : List ℕ → ℕ → List Met → List Found
founds_from name at [] = []
founds_from name at (one ∷ rest) = founds_at name at one.labels ++ founds_from name (at + 1) rest

-- the statements at which a look ends
abbrev pub ends_at : ℕ → Met → List ℕ
ends_at at one = if one.ended then at ∷ [] else []

abbrev pub ends_from : ℕ → List Met → List ℕ
ends_from at [] = []
ends_from at (one ∷ rest) = ends_at at one ++ ends_from (at + 1) rest

-- the first that is given behind a statement
abbrev pub first_behind : ℕ → List Found → Option Found
first_behind after [] = None
first_behind after (found ∷ founds) = if nat_lt after found.at then Some found else first_behind after founds

-- the first statement behind another
abbrev pub first_end : ℕ → List ℕ → Option ℕ
first_end after [] = None
first_end after (end ∷ ends) = if nat_lt after end then Some end else first_end after ends

-- what is found, unless a look ends before
abbrev pub up_to : Option Found → Option ℕ → Option Attr
up_to None end = None
up_to (Some found) None = Some found.attr
up_to (Some found) (Some end) = if nat_lt end found.at then None else Some found.attr
