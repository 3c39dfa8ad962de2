-- The statements of a list as a look ahead meets them: those between a MACRO and its MEND, as they are written, are passed
-- over, and behind a MACRO without MEND all are. HLASM Language Reference SC26-4940, "Lookahead", "Macro definitions".
use Rattle.std.specs.Prelude.{ℕ, ◌+◌, ◌-◌, ◌==◌, List, [], ◌∷◌, if◌then◌else◌}
use Rattle.hlasm_statements.specs.declared.statement.Statement.{Statement}
use Rattle.lookahead_scan.specs.declared.sight.Role.{Role}
use Rattle.lookahead_scan.specs.declared.sight.Role.TheVariants.{Opens, Closes, Copies, Ends, Stands}
use Rattle.lookahead_scan.specs.declared.sight.Sight.{Sight}
use Rattle.lookahead_scan.specs.declared.sight.Sight.TheVariants.{Passed}
use Rattle.lookahead_scan.specs.Sights.{role_of, sight}

-- how many definitions are open behind a statement: one more behind MACRO, one less behind MEND, if there is one
abbrev pub open_behind : ℕ → Role → ℕ
open_behind opened Opens = opened + 1
open_behind opened Closes = opened - 1
open_behind opened Copies = opened
open_behind opened Ends = opened
open_behind opened Stands = opened

-- what a statement is within so many definitions
abbrev pub sight_within : ℕ → Role → Statement → Sight
sight_within opened role statement = if opened == 0 then sight role statement else Passed

-- what statements are, before which so many definitions are open
abbrev pub sights_from : ℕ → List Statement → List Sight
sights_from opened [] = []
sights_from opened (statement ∷ rest) =
    sight_within opened (role_of statement.op) statement ∷ sights_from (open_behind opened (role_of statement.op)) rest

-- what the statements of a list are, in order
abbrev pub sights : List Statement → List Sight
sights list = sights_from 0 list
