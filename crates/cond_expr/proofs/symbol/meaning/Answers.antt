use Rattle.std.proofs.Common.{Some, refl}
use Rattle.hl_base.specs.declared.set.Key.TheVariants.{Sym}
use Rattle.cond_expr.specs.Symbols.{defined_so_far, meaning_or_ahead}
use Rattle.cond_expr.proofs.OutcomeLemmas.{Tells-known, Tells-failed, Tells-gives}
use Rattle.cond_expr.proofs.symbol.meaning.Goals as goal

pub returns-in_err-attr : goal.returns-in_err-attr
returns-in_err-attr g c = λ notes.
    let told = g.Q.Lookups.told c.args.q.now in
    let name = c.args.name.now in
    Tells-failed (defined_so_far name (told.answer (Sym name))) (meaning_or_ahead told name) notes notes notes _ _ c.from_residual.ensures.1
    (c.in_err-attr.ensures notes)

pub returns-in-Some : goal.returns-in-Some
returns-in-Some g c = λ notes.
    let told = g.Q.Lookups.told c.args.q.now in
    let name = c.args.name.now in
    Tells-known (defined_so_far name (told.answer (Sym name))) (meaning_or_ahead told name) notes notes notes _ (Some c.in-Some.attr) _ c.in-Some.is
    (c.in_ok-attr.ensures notes) (Tells-gives _ _ notes refl)
