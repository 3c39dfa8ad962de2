use Rattle.std.proofs.Common.{◌∙◌, ◌++◌, ◌∷◌, [], List, Ok, refl, sym, ap, subst, append_assoc}
use Rattle.std.specs.Str.{chars}
use Rattle.hl_base.specs.declared.note.Note.{Note}
use Rattle.cond_expr.specs.Outcome.{Outcome, Tells}
use Rattle.conditional_asm.specs.declared.act.Act.{Act}
use Rattle.conditional_asm.specs.declared.act.Act.TheVariants.{Next}
use Rattle.conditional_asm.specs.Generating.{open_quote}
use Rattle.conditional_asm.specs.Troubles.{undefined}
use Rattle.conditional_asm.proofs.EffectLaws.{undefined_op}
use Rattle.conditional_asm.proofs.performing.complain.Goals as goal

pub returns : goal.returns
returns c =
    let op = c.args.op.now in
    let notes = c.args.notes.now in
    let judged = open_quote c.args.open_end in
    let text = chars c.as_str.result.now in
    subst (λ (o : Outcome Act). Tells o notes c.push-2.new.self (Ok Next))
    (sym (undefined_op op text c.args.open_end c.as_str.ensures.characters (sym c.is_nothing.ensures ∙ c.if-is_nothing.false))) (
      refl,
      c.in_ok-push-2.ensures.ok
          ∙ ap (λ (note : Note). c.judge.new.notes ++ note ∷ []) (c.in_ok-undefined.ensures ∙ ap undefined c.as_str-2.ensures.characters)
          ∙ ap (λ (before : List Note). before ++ undefined op ∷ []) c.in_ok-judge.ensures
          ∙ append_assoc notes judged (undefined op ∷ []),
    )
