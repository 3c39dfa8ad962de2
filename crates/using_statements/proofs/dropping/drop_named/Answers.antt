use Rattle.std.proofs.Common.{◌≡◌, ℕ, ◌<◌, List, Option, Some, subst, sym}
use Rattle.std.specs.List.{All}
use Rattle.ordinary_symbols.specs.Shown.{table_of}
use Rattle.ordinary_symbols.specs.Table.{known}
use Rattle.using_statements.proofs.RegisterLists.{registers-small}
use Rattle.using_statements.specs.Values.{registers_of}
use Rattle.using_statements.specs.Views.{trees_of}
use Rattle.using_statements.proofs.dropping.drop_named.Goals as goal

pub drop_known-requires : goal.drop_known-requires
drop_known-requires c =
    let known_of = known (table_of c.args.symbols.now) in
    let trees = trees_of c.args.formulas.now in
    let found : Some c.in-Some.registers.items ≡ registers_of known_of c.args.here trees = rw c.in-Some.is at c.in_ok-registers.ensures in
    subst (λ (xs : List ℕ). All (λ r. r < 16) xs) (sym c.as_slice.ensures.value)
    (registers-small known_of c.args.here trees c.in-Some.registers.items (sym found))
