-- Lookahead by the places of statements that are processed: comments and blank statements have none. This project, after the
-- HLASM Language Reference SC26-4940, "Lookahead".
use Rattle.std.specs.Prelude.{ℕ, ◌+◌, List, [], ◌∷◌, Option, Some, None, slice_get, if◌then◌else◌}
use Rattle.hl_base.specs.declared.set.Attr.{Attr}
use Rattle.hlasm_statements.specs.declared.statement.Statement.{Statement}
use Rattle.statement_listing.specs.Listings.{is_plain}
use Rattle.text_pool.specs.Members.{Member}
use Rattle.lookahead_scan.specs.Looks.{look}

-- the numbers of the statements that are processed, where the first one has this number
abbrev pub numbers : (first : ℕ) → List Statement → List ℕ
numbers first [] = []
numbers first (statement ∷ rest) =
    if is_plain statement.shape then first ∷ numbers (first + 1) rest else numbers (first + 1) rest

-- what is found of a name behind the statement of a number, if there is one
abbrev pub look_from : (List ℕ → Member) → List Statement → (name : List ℕ) → (number : Option ℕ) → Option Attr
look_from members list name None = None
look_from members list name (Some number) = look members list name number

-- what is found of a name behind the statement that is processed at this place
abbrev pub look_behind : (List ℕ → Member) → List Statement → (name : List ℕ) → (place : ℕ) → Option Attr
look_behind members list name place = look_from members list name (slice_get (numbers 0 list) place)
