use Rattle.std.proofs.Common.{◌≡◌, ◌∙◌, None, List, ℕ, sym, ap, subst, [], true, false}
use Rattle.cond_expr.specs.Outcome.{Outcome, Tells}
use Rattle.cond_expr.specs.Terms.{term}
use Rattle.cond_expr.specs.Variables.{type_unless_term}
use Rattle.cond_expr.proofs.TextLemmas.{type_of_text-some}
use Rattle.cond_expr.proofs.variable.type_of_text.Goals as goal

pub returns-in-None : goal.returns-in-None
returns-in-None g c = λ notes.
    let told = g.Q.Lookups.told c.args.q.now in
    let text = c.args.text.now in
    let none : term text ≡ None = sym c.in_ok-term.ensures ∙ c.in-None.is in
    let some : text ≡ [] → ⊥ = λ empty. let yes : c.is_empty.result ≡ true = c.is_empty.ensures.1 empty in let no : c.is_empty.result ≡ false = c.if-is_empty.false in cc in
    subst (λ (o : Outcome (List ℕ)). Tells o notes notes c.type_of_name.result)
    (sym (type_of_text-some told text some ∙ ap (type_unless_term told text) none)) (c.type_of_name.ensures notes)
