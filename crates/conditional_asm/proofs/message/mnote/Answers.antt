use Rattle.std.proofs.Common.{◌≡◌, ◌∙◌, ◌++◌, ◌∷◌, [], List, ℕ, refl, ap}
use Rattle.hl_base.specs.declared.note.Note.{Note}
use Rattle.hl_base.specs.declared.note.Severity.{Severity}
use Rattle.expression_grammar.specs.Views.{tree_of}
use Rattle.cond_expr.specs.Outcome.{Outcome, Gives, and_then}
use Rattle.cond_expr.specs.Values.{text}
use Rattle.cond_expr.proofs.OutcomeLemmas.{Tells-and_then, Tells-failed}
use Rattle.statement_reading.specs.Views.{severity_of}
use Rattle.conditional_asm.specs.declared.act.Act.{Act}
use Rattle.conditional_asm.specs.declared.act.Act.TheVariants.{Next}
use Rattle.conditional_asm.specs.Messages.{weight_of}
use Rattle.conditional_asm.specs.Troubles.{author}
use Rattle.conditional_asm.proofs.EffectLaws.{wants_memory}
use Rattle.conditional_asm.proofs.message.mnote.Goals as goal

-- a message, whose weight is known
abbrev noted : Severity → List ℕ → Outcome Act
noted weight words = Gives Next (author weight words ∷ [])

pub returns : goal.returns
returns g c =
    let told = g.Q.Lookups.told c.args.q.now in
    let message = c.args.message.now in
    Tells-and_then (weight_of (severity_of message.severity) told) (λ weight. and_then (text (tree_of message.text) told) (noted weight))
    c.args.notes.now c.weigh.new.notes c.push.new.self c.in_ok-severity.severity _ c.in_ok-severity.ensures
    (Tells-and_then (text (tree_of message.text) told) (noted c.in_ok-severity.severity)
    c.weigh.new.notes c.text.new.notes c.push.new.self c.in_ok-words.words _ c.in_ok-words.ensures
    (refl, c.in_ok-push.ensures.ok ∙ ap (λ (note : Note). c.text.new.notes ++ note ∷ []) c.author.ensures))

pub returns-in_err-severity : goal.returns-in_err-severity
returns-in_err-severity g c =
    let told = g.Q.Lookups.told c.args.q.now in
    let message = c.args.message.now in
    Tells-failed (weight_of (severity_of message.severity) told) (λ weight. and_then (text (tree_of message.text) told) (noted weight))
    c.args.notes.now c.weigh.new.notes c.weigh.new.notes _ c.from_residual.result c.from_residual.ensures.1 c.in_err-severity.ensures

pub returns-in_err-words : goal.returns-in_err-words
returns-in_err-words g c =
    let told = g.Q.Lookups.told c.args.q.now in
    let message = c.args.message.now in
    let stopped = c.from_residual-in_err-words.result in
    Tells-and_then (weight_of (severity_of message.severity) told) (λ weight. and_then (text (tree_of message.text) told) (noted weight))
    c.args.notes.now c.weigh.new.notes c.text.new.notes c.in_ok-severity.severity stopped c.in_ok-severity.ensures
    (Tells-failed (text (tree_of message.text) told) (noted c.in_ok-severity.severity)
    c.weigh.new.notes c.text.new.notes c.text.new.notes _ stopped c.from_residual-in_err-words.ensures.1 c.in_err-words.ensures)

pub returns-in_err-push : goal.returns-in_err-push
returns-in_err-push g c =
    let told = g.Q.Lookups.told c.args.q.now in
    let message = c.args.message.now in
    wants_memory (and_then (weight_of (severity_of message.severity) told) (λ weight. and_then (text (tree_of message.text) told) (noted weight)))
    c.args.notes.now c.push.new.self c.from_residual-in_err-push.result c.from_residual-in_err-push.ensures.1
