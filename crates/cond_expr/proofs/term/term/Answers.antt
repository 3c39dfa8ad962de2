use Rattle.std.proofs.Common.{◌∙◌, sym, ap, subst, arith}
use Rattle.std.specs.Str.{chars}
use Rattle.expression_grammar.specs.declared.character.Grammar.TheVariants.{Ordinary as OrdinaryOne}
use Rattle.expression_grammar.specs.Answers.{IsFault}
use Rattle.expression_grammar.specs.Trees.{Number}
use Rattle.expression_grammar.specs.Views.{tree_of}
use Rattle.cond_expr.specs.Terms.{term}
use Rattle.cond_expr.proofs.TermLemmas.{term-tree, term-none}
use Rattle.cond_expr.proofs.term.term.Goals as goal

pub returns-in-Ok : goal.returns-in-Ok
returns-in-Ok c =
    let text = chars c.as_str.result.now in
    let tree = tree_of c.in-Ok.e in
    let spells = c.in-Ok.ensures.spells in
    c.number_in.ensures
    ∙ term-tree text tree spells (λ other others. c.one_tree.ensures OrdinaryOne text tree other spells others)
    ∙ ap term c.as_str.ensures.characters

pub returns-in-Err-At : goal.returns-in-Err-At
returns-in-Err-At c =
    let text = chars c.as_str.result.now in
    let at = subst (IsFault _ text) c.in-Err-At.field-0-is c.in-Err-At.ensures in
    sym (term-none text (λ form bits spells. at.none (Number form bits) (record { spells = spells; small = omega arith })))
    ∙ ap term c.as_str.ensures.characters
