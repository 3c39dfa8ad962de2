use Rattle.std.proofs.Common.{Some, None, refl, arith}
use Rattle.hl_base.specs.declared.set.Key.TheVariants.{Sym}
use Rattle.cond_expr.specs.Outcome.{gives}
use Rattle.cond_expr.specs.Symbols.{defined_so_far, is_definition}
use Rattle.cond_expr.proofs.OutcomeLemmas.{Tells-known, Tells-failed, Tells-gives}
use Rattle.cond_expr.proofs.symbol.defined_of.Goals as goal

pub returns-in_err-attr : goal.returns-in_err-attr
returns-in_err-attr g c = λ notes.
    let told = g.Q.Lookups.told c.args.q.now in
    let name = c.args.name.now in
    Tells-failed (defined_so_far name (told.answer (Sym name))) (λ found. gives (is_definition found)) notes notes notes _ _ c.from_residual.ensures.1
    (c.in_err-attr.ensures notes)

pub returns-then-attr-eq77 : goal.returns-then-attr-eq77
returns-then-attr-eq77 g c = λ notes.
    let told = g.Q.Lookups.told c.args.q.now in
    let name = c.args.name.now in
    Tells-known (defined_so_far name (told.answer (Sym name))) (λ found. gives (is_definition found)) notes notes notes _ (Some c.in-Some.attr) _ c.in-Some.is
    (c.in_ok-attr.ensures notes) (Tells-gives _ _ notes (let same = c.if-attr-eq77.true in grind arith))

pub returns-else-attr-eq77 : goal.returns-else-attr-eq77
returns-else-attr-eq77 g c = λ notes.
    let told = g.Q.Lookups.told c.args.q.now in
    let name = c.args.name.now in
    Tells-known (defined_so_far name (told.answer (Sym name))) (λ found. gives (is_definition found)) notes notes notes _ (Some c.in-Some.attr) _ c.in-Some.is
    (c.in_ok-attr.ensures notes) (Tells-gives _ _ notes (let other = c.if-attr-eq77.false in grind arith))

pub returns-in-None : goal.returns-in-None
returns-in-None g c = λ notes.
    let told = g.Q.Lookups.told c.args.q.now in
    let name = c.args.name.now in
    Tells-known (defined_so_far name (told.answer (Sym name))) (λ found. gives (is_definition found)) notes notes notes _ None _ c.in-None.is
    (c.in_ok-attr.ensures notes) (Tells-gives _ _ notes refl)
