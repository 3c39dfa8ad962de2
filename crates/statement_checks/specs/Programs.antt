-- The statements of a program, each checked by the ranges behind those before it (HLASM Language Reference SC26-4940, "USING
-- instruction").
use Rattle.std.specs.Prelude.{List, [], ◌∷◌, Option, Some, None}
use Rattle.hl_base.specs.declared.set.Line.{Line}
use Rattle.literal_places.specs.Places.{Literals}
use Rattle.ordinary_symbols.specs.Known.{Knowledge}
use Rattle.ordinary_symbols.specs.Table.{known}
use Rattle.section_layout.specs.Layout.{Layout, Statement}
use Rattle.using_ranges.specs.Ranges.{Held}
use Rattle.using_statements.specs.Held.{no_ranges}
use Rattle.statement_checks.specs.Statements as one

-- the ranges behind some statements, in turn
abbrev pub ranges_behind : Knowledge → Held → List Line → List Statement → Held
ranges_behind known held [] statements = held
ranges_behind known held (line ∷ lines) [] = held
ranges_behind known held (line ∷ lines) (first ∷ statements) = ranges_behind known (one.behind known held line first) lines statements

-- each of some statements, in turn
abbrev pub all_checked : Knowledge → Literals → Held → List Line → List Statement → List Statement
all_checked known literals held [] statements = statements
all_checked known literals held (line ∷ lines) [] = []
all_checked known literals held (line ∷ lines) (first ∷ statements) =
    one.checked known literals held line first ∷ all_checked known literals (one.behind known held line first) lines statements

-- the layout of these lines, with what the checks say of each statement; before the first one no register has a range
unfoldable pub checked : List Line → Layout → Layout
checked lines layout = record layout { statements = all_checked (known layout.symbols) layout.literals no_ranges lines layout.statements }

-- a statement, if there is one, by the ranges before it and by its line
abbrev pub checked_at : Knowledge → Literals → Held → Option Line → Option Statement → Option Statement
checked_at known literals held None statement = statement
checked_at known literals held (Some line) None = None
checked_at known literals held (Some line) (Some statement) = Some (one.checked known literals held line statement)
