use Rattle.std.proofs.Common.{◌∙◌, ap, Some, None, refl, List, ℕ, ◌++◌, ◌∷◌, []}
use Rattle.std.specs.Str.{chars}
use Rattle.hl_base.specs.declared.note.Note.{Note}
use Rattle.cond_expr.specs.Troubles.{no_length}
use Rattle.cond_expr.specs.Symbols.{meaning, length_in}
use Rattle.cond_expr.proofs.OutcomeLemmas.{Tells-known, Tells-failed}
use Rattle.cond_expr.proofs.symbol.length_of.Goals as goal

pub returns-in_err-attr : goal.returns-in_err-attr
returns-in_err-attr g c =
    let told = g.Q.Lookups.told c.args.q.now in
    let name = c.args.name.now in
    Tells-failed (meaning told name) (length_in name) c.args.notes.now c.args.notes.now c.args.notes.now _ _ c.from_residual.ensures.1
    (c.in_err-attr.ensures c.args.notes.now)

pub returns-in-Some : goal.returns-in-Some
returns-in-Some g c =
    let told = g.Q.Lookups.told c.args.q.now in
    let name = c.args.name.now in
    Tells-known (meaning told name) (length_in name) c.args.notes.now c.args.notes.now _ _ (Some c.in-Some.attr) _ c.in-Some.is
    (c.in_ok-attr.ensures c.args.notes.now) c.counted.ensures

pub returns-in_ok-push-in-None : goal.returns-in_ok-push-in-None
returns-in_ok-push-in-None g c =
    let told = g.Q.Lookups.told c.args.q.now in
    let name = c.args.name.now in
    Tells-known (meaning told name) (length_in name) c.args.notes.now c.args.notes.now _ _ None _ c.in-None.is
    (c.in_ok-attr.ensures c.args.notes.now) (
      refl,
      c.in_ok-push-in-None.ensures.ok
          ∙ ap (λ (note : Note). c.args.notes.now ++ note ∷ []) (c.in_ok-no_length-in-None.ensures ∙ ap (λ (bytes : List ℕ). no_length (chars bytes)) c.text.ensures),
    )
