use Rattle.std.proofs.Common.{◌≡◌, ◌++◌, length}
use Rattle.section_steps.specs.Symbols.{all_external, said_of_all}
use Rattle.section_steps.specs.Views.{state_of}
use Rattle.section_steps.proofs.symbols.define_externals.Given as goal

-- what there is so far, and then what there is of the names that are left
abbrev pub invariant-loop-names : goal.invariant-loop-names
invariant-loop-names l = record {
  behind : all_external l.attr l.names (state_of l.state) ≡ all_external l.attr l.initial.names (state_of l.initial.state);
  said : l.rows.items ++ said_of_all l.attr l.names (state_of l.state) ≡ l.initial.rows.items
      ++ said_of_all l.attr l.initial.names (state_of l.initial.state);
}

abbrev pub decreases-loop-names : goal.decreases-loop-names
decreases-loop-names l = length l.names
