use Rattle.std.proofs.Common.{◌≡◌, true, false, ◌∙◌}
use Rattle.json_view.proofs.ReadingLaws.{reading-utf8, reading-unread}
use Rattle.json_view.proofs.texts.parse.Goals as goal

pub returns-in-Ok-clause-ok : goal.returns-in-Ok-clause-ok
returns-in-Ok-clause-ok c = reading-utf8 _ c.in-Ok.ensures.ok.0 ∙ c.in-Ok.ensures.ok.1

pub returns-in-Err-2-clause-refused : goal.returns-in-Err-2-clause-refused
returns-in-Err-2-clause-refused c is_refused =
    reading-unread _ (c.in-Err.ensures.err (λ out.
    let says_memory : c.is_memory.result ≡ true = c.is_memory.ensures.1 out in
    let says_other : c.is_memory.result ≡ false = c.if-is_memory.false in
    cc))
