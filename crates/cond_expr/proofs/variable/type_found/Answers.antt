use Rattle.std.proofs.Common.{Some, [], ◌∷◌}
use Rattle.std.specs.Option.{option_map_or}
use Rattle.cond_expr.specs.Outcome.{gives}
use Rattle.cond_expr.specs.Variables.{spelled, type_of_text}
use Rattle.cond_expr.proofs.OutcomeLemmas.{Tells-known}
use Rattle.cond_expr.proofs.variable.type_found.Goals as goal

pub returns-in-Some : goal.returns-in-Some
returns-in-Some g c =
    let told = g.Q.Lookups.told c.args.q.now in
    Tells-known (spelled c.args.name.now c.args.found) (λ text. option_map_or (type_of_text told) text (gives (79 ∷ [])))
    c.args.notes.now c.spelled.new.notes _ _ (Some c.in-Some.text) _ c.in-Some.is c.in_ok-text.ensures (c.type_of_text.ensures c.spelled.new.notes)
