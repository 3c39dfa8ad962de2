use Rattle.std.proofs.Common.{ap, sym, ◌∙◌, is_some}
use Rattle.variable_meanings.proofs.KnownLaws.{known-new, known-old}
use Rattle.variable_meanings.proofs.known.KnownVariables.note.Goals as goal

pub returns-then-is_some : goal.returns-then-is_some
returns-then-is_some c =
    known-old c.args.name.now c.args.meaning c.args.self.now (ap is_some (sym c.meaning.ensures) ∙ sym c.is_some.ensures ∙ c.if-is_some.true)

pub returns : goal.returns
returns c =
    known-new c.self.inside.meanings _ c.in_ok-key.key c.args.meaning c.args.name.now c.args.self.now c.self.view_is
    (ap is_some (sym c.meaning.ensures) ∙ sym c.is_some.ensures ∙ c.if-is_some.false)
    (c.in_ok-key.ensures.ok ∙ c.text.ensures) c.in_ok-insert.ensures.entries
