-- Which symbol an entry of the program is. This project.
use Rattle.std.specs.Prelude.{ℕ, List, map}
use Rattle.ordinary_symbols.specs.declared.held.Standing.{Standing}
use Rattle.ordinary_symbols.specs.declared.held.Standing.TheVariants as standing
use Rattle.ordinary_symbols.specs.declared.held.Held.{Held}
use Rattle.expression_grammar.specs.Views.{tree_of}
use Rattle.ordinary_symbols.specs.Table as table

abbrev pub standing_of : Standing → table.Standing
standing_of standing.Settled = table.Settled
standing_of (standing.Deferred deferred) = table.Deferred deferred.value.sized (tree_of deferred.value.expression) deferred.value.here
standing_of standing.Faulty = table.Faulty

abbrev pub entry_of : Held → table.Entry
entry_of held = record { row = held.row; standing = standing_of held.standing }

-- the names of symbols, in order
abbrev pub names_of : List Held → List (List ℕ)
names_of rows = map (λ (held : Held). held.row.name) rows
