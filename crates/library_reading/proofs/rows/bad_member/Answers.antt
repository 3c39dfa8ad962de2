use Rattle.std.proofs.Common.{codes, ap, ◌++◌, ◌∙◌}
use Rattle.library_reading.proofs.TextLaws.{three, open_is, close_is}
use Rattle.library_reading.proofs.rows.bad_member.Goals as goal

pub returns : goal.returns
returns c =
    three (codes "BadConfig(") _ c.args.name.now (codes ")") _ c.push_str.new.self _ (c.in_ok-why.ensures ∙ open_is) c.in_ok-push_str.ensures.ok
    (c.in_ok-push_str-2.ensures.ok ∙ ap (λ z. c.push_str.new.self ++ z) close_is) c.as_str.ensures.characters
