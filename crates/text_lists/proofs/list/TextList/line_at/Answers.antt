use Rattle.std.proofs.Common.{◌∙◌, ap}
use Rattle.std.specs.Prelude.{slice_get}
use Rattle.std.specs.Option.{option_and_then}
use Rattle.text_lists.proofs.NumberLaws.{number_in-find}
use Rattle.text_lists.proofs.list.TextList.line_at.Goals as goal

pub returns-in-Some-clause-found : goal.returns-in-Some-clause-found
returns-in-Some-clause-found c =
    let list = c.args.self.now in
    c.numbered.ensures.found ∙ ap (option_and_then (slice_get list)) c.in-Some.ensures ∙ number_in-find c.args.line list

pub returns-in-None-clause-found : goal.returns-in-None-clause-found
returns-in-None-clause-found c =
    let list = c.args.self.now in
    ap (option_and_then (slice_get list)) c.in-None.ensures ∙ number_in-find c.args.line list
