use Rattle.std.proofs.Common.{◌≡◌, ◌∙◌, ◌+◌, ℕ, List, ap, subst, drop, rules}
use Rattle.std.specs.Prelude.{Err, Ok}
use Rattle.std.specs.Str.{chars}
use Rattle.expression_grammar.specs.Views.{tree_of}
use Rattle.conditional_fields.specs.Answers.{IsPlaced, Says}
use Rattle.conditional_fields.specs.Sequences.{sequence}
use Rattle.conditional_fields.proofs.BranchLaws.{label_fault}
use Rattle.conditional_fields.proofs.branch.labelled.Goals as goal

pub returns-in-Ok : goal.returns-in-Ok
returns-in-Ok c =
    let operand = chars c.args.operand.now in
    let length : c.in_ok-length.length ≡ c.args.front.before + 2 = search rules in
    record {
      before = c.args.front.before;
      inner = c.requires;
      label = subst (λ (text : List ℕ). sequence text ≡ Ok c.in-Ok.label) (c.behind.ensures ∙ ap (λ n. drop n operand) length) c.in-Ok.ensures;
    }

pub returns-in-Err : goal.returns-in-Err
returns-in-Err c =
    let operand = chars c.args.operand.now in
    let length : c.in_ok-length.length ≡ c.args.front.before + 2 = search rules in
    label_fault c.args.sought operand c.args.front.before (tree_of c.args.front.tree) c.in-Err.fault c.further.result c.requires
    (subst (λ (text : List ℕ). Says (λ (name : List ℕ). name) (sequence text) (Err c.in-Err.fault)) (c.behind.ensures ∙ ap (λ n. drop n operand) length) c.in-Err.ensures)
    (λ place h. subst (λ (n : ℕ). IsPlaced (place + n) c.further.result) length (c.further.ensures.place place h)) c.further.ensures.want
