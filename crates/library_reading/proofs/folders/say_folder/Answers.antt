use Rattle.std.proofs.Common.{OnOk, codes, chars, ap, sym, ◌≡◌, ◌∙◌, subst}
use Rattle.library_reading.specs.Log.{said}
use Rattle.library_reading.proofs.TextLaws.{absent_is, unlisted_is, absent_told, unlisted_told}
use Rattle.library_reading.proofs.folders.say_folder.Goals as goal

pub returns-else-folder : goal.returns-else-folder
returns-else-folder c =
    subst (λ z. OnOk c.say.result (c.say.new.self ≡ z))
    (ap (λ z. said c.args.logs.now z (chars (codes "Absent"))) c.as_str.ensures.characters
    ∙ ap (said c.args.logs.now c.args.folder.now.path) absent_is
    ∙ sym (absent_told c.args.logs.now c.args.folder.now _ c.in-Absent.is c.if-folder.false))
    c.say.ensures

pub returns-in-Refused : goal.returns-in-Refused
returns-in-Refused c =
    subst (λ z. OnOk c.say-in-Refused.result (c.say-in-Refused.new.self ≡ z))
    (ap (λ z. said c.args.logs.now z (chars (codes "Unlisted"))) c.as_str-in-Refused.ensures.characters
    ∙ ap (said c.args.logs.now c.args.folder.now.path) unlisted_is
    ∙ sym (unlisted_told c.args.logs.now c.args.folder.now _ c.in-Refused.is))
    c.say-in-Refused.ensures
