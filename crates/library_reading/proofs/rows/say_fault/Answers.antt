use Rattle.std.proofs.Common.{OnOk, chars, ap, sym, ◌≡◌, ◌∙◌, subst}
use Rattle.library_reading.specs.Log.{said}
use Rattle.library_reading.specs.Rows.{words_of}
use Rattle.library_reading.proofs.TextLaws.{json_is}
use Rattle.library_reading.proofs.rows.say_fault.Goals as goal

pub returns-in-NotJson-clause-said : goal.returns-in-NotJson-clause-said
returns-in-NotJson-clause-said c =
    subst (λ z. OnOk c.say.result (c.say.new.self ≡ said c.args.logs.now (chars c.args.path.now) z)) (json_is ∙ ap words_of (sym c.in-NotJson.is)) c.say.ensures
