use Rattle.std.proofs.Common.{List, ℕ, subst}
use Rattle.std.specs.Prelude.{Err}
use Rattle.std.proofs.lemmas.List.{take_rest}
use Rattle.expression_grammar.specs.Views.{tree_of}
use Rattle.conditional_fields.specs.declared.front.Sought.TheVariants.{Number}
use Rattle.conditional_fields.specs.Answers.{Says, each}
use Rattle.conditional_fields.specs.Sequences.{sequence}
use Rattle.conditional_fields.specs.Branches.{IsChoice}
use Rattle.conditional_fields.proofs.BranchLaws.{others_fault}
use Rattle.conditional_fields.proofs.branch.among.Goals as goal

pub returns-in-Err-labels : goal.returns-in-Err-labels
returns-in-Err-labels c =
    others_fault c.args.operands.now c.first-item.result (tree_of c.in-Ok.choice.tree) c.in-Ok.choice.label c.in-Err-labels.fault c.in-len1-up.len_at_least c.first-item.is
    (subst (λ (text : List ℕ). IsChoice Number text (tree_of c.in-Ok.choice.tree) c.in-Ok.choice.label) c.as_str.ensures.characters c.in-Ok.ensures)
    (subst (λ (others : List (List ℕ)). Says (λ (names : List (List ℕ)). names) (each sequence others) (Err c.in-Err-labels.fault)) (take_rest c.args.operands.now 1) c.in-Err-labels.ensures)
