use Rattle.std.proofs.Common.{◌≡◌, drop, map}
use Rattle.constant_grammar.specs.Nominals.{all_elements}
use Rattle.constant_grammar.specs.Views.{element_of}
use Rattle.constant_grammar.proofs.ElementLaws.{behind_values}
use Rattle.constant_grammar.proofs.nominal.elements.Given as goal

-- the values so far, and then what is left
abbrev pub invariant-loop-text : goal.invariant-loop-text
invariant-loop-text l = all_elements l.kind l.texts ≡ behind_values (map element_of l.values.items) (all_elements l.kind (drop l.text-index l.texts))
