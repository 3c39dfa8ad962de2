use Rattle.std.proofs.Common.{◌≡◌, drop}
use Rattle.logical_grammar.specs.LogicViews.{all_close}
use Rattle.logical_grammar.proofs.logic_reader.is_closed.Given as goal

-- as what is left
abbrev pub invariant-loop-opening : goal.invariant-loop-opening
invariant-loop-opening l = all_close l.layers ≡ all_close (drop l.opening-index l.layers)
