use Rattle.std.proofs.Common.{Some, None}
use Rattle.cond_expr.specs.Outcome.{gives}
use Rattle.cond_expr.specs.Symbols.{meaning, letter_in}
use Rattle.cond_expr.proofs.OutcomeLemmas.{Tells-known, Tells-failed, Tells-gives}
use Rattle.cond_expr.proofs.symbol.type_of.Goals as goal

pub returns-in_err-attr : goal.returns-in_err-attr
returns-in_err-attr g c = λ notes.
    let told = g.Q.Lookups.told c.args.q.now in
    let name = c.args.name.now in
    Tells-failed (meaning told name) (λ found. gives (letter_in found)) notes notes notes _ _ c.from_residual.ensures.1
    (c.in_err-attr.ensures notes)

pub returns-in_ok-letter-in-Some : goal.returns-in_ok-letter-in-Some
returns-in_ok-letter-in-Some g c = λ notes.
    let told = g.Q.Lookups.told c.args.q.now in
    let name = c.args.name.now in
    Tells-known (meaning told name) (λ found. gives (letter_in found)) notes notes notes _ (Some c.in-Some.attr) _ c.in-Some.is
    (c.in_ok-attr.ensures notes) (Tells-gives _ _ notes c.in_ok-letter-in-Some.ensures)

pub returns-in_ok-letter-in-None : goal.returns-in_ok-letter-in-None
returns-in_ok-letter-in-None g c = λ notes.
    let told = g.Q.Lookups.told c.args.q.now in
    let name = c.args.name.now in
    Tells-known (meaning told name) (λ found. gives (letter_in found)) notes notes notes _ None _ c.in-None.is
    (c.in_ok-attr.ensures notes) (Tells-gives _ _ notes c.in_ok-letter-in-None.ensures)
