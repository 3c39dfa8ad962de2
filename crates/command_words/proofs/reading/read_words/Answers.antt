use Rattle.std.proofs.Common.{rules, ◌≡◌, Some, None, true, false, List, [], ◌∷◌, map, string_bytes, refl, sym, ap, ◌∙◌}
use Rattle.clap.specs.Kinds.{Kinds}
use Rattle.clap.specs.Walk.{Row, Text}
use Rattle.command_words.specs.Commands.{command_of}
use Rattle.command_words.proofs.ShapeLaws.{asked_where_taken, none_where_refused}
use Rattle.command_words.proofs.reading.read_words.Goals as goal

pub returns-in_err-matches-clause-bad_words : goal.returns-in_err-matches-clause-bad_words
returns-in_err-matches-clause-bad_words c = λ bad.
    none_where_refused (map string_bytes c.args.words.now) (c.in_err-matches.ensures.refused (search (rules, bad)))

pub returns-in-Some-clause-command : goal.returns-in-Some-clause-command
returns-in-Some-clause-command c =
    asked_where_taken (map string_bytes c.args.words.now) _ c.in_ok-matches.ensures.taken c.in_ok-matches.ensures.rows
    ∙ sym c.asked_by.ensures ∙ c.in-Some.is

pub returns-clause-bad_words : goal.returns-clause-bad_words
returns-clause-bad_words c = λ _.
    asked_where_taken (map string_bytes c.args.words.now) _ c.in_ok-matches.ensures.taken c.in_ok-matches.ensures.rows
    ∙ sym c.asked_by.ensures ∙ c.in-None.is
