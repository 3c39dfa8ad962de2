use Rattle.std.proofs.Common.{◌≡◌, ◌≤◌, length}
use Rattle.std.specs.List.{list_all}
use Rattle.expression_grammar.specs.declared.tree.Form.TheVariants.{Hexadecimal}
use Rattle.expression_grammar.specs.Spelling.{figures, is_figure}
use Rattle.plain_terms.proofs.quoted.hexadecimal.Given as goal

-- the digits that are left write the number behind those before them
abbrev pub invariant-loop-digits : goal.invariant-loop-digits
invariant-loop-digits l = record {
  all : list_all (is_figure Hexadecimal) l.digits ≡ list_all (is_figure Hexadecimal) l.initial.digits;
  valued : figures Hexadecimal l.bits l.digits ≡ figures Hexadecimal 0 l.initial.digits;
  small : l.bits ≤ 4294967295;
}

abbrev pub decreases-loop-digits : goal.decreases-loop-digits
decreases-loop-digits l = length l.digits
