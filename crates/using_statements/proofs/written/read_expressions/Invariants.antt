use Rattle.std.proofs.Common.{◌≡◌, length}
use Rattle.using_statements.proofs.Fronts.{behind}
use Rattle.using_statements.specs.Views.{trees_of}
use Rattle.using_statements.specs.Written.{expressions}
use Rattle.using_statements.proofs.written.read_expressions.Given as goal

-- the expressions so far stand before those of the texts that are left
abbrev pub invariant-loop-texts : goal.invariant-loop-texts
invariant-loop-texts l = behind (trees_of l.formulas.items) (expressions l.texts) ≡ expressions l.initial.texts

abbrev pub decreases-loop-texts : goal.decreases-loop-texts
decreases-loop-texts l = length l.texts
