use Rattle.std.proofs.Common.{ap, sym, ◌∙◌}
use Rattle.std.specs.Option.{option_and_then}
use Rattle.library_folders.proofs.PathLaws.{utf8-stripped, behind-stripped, behind-other, slash-stripped, slash_first}
use Rattle.library_folders.proofs.group.path_below.Goals as goal

pub returns-in-Some : goal.returns-in-Some
returns-in-Some c =
    slash-stripped c.in-Some.rest.now c.strip_prefix-in-Some.result (utf8-stripped c.args.root.now c.args.path.now c.in-Some.rest.now c.utf8.path c.in-Some.ensures.cases) c.strip_prefix-in-Some.ensures.cases
    ∙ ap (option_and_then slash_first) (sym (behind-stripped c.args.root.now c.args.path.now c.in-Some.rest.now c.utf8.root c.in-Some.ensures.cases))

pub returns-in-None : goal.returns-in-None
returns-in-None c = ap (option_and_then slash_first) (sym (behind-other c.args.root.now c.args.path.now c.utf8.root c.utf8.path c.in-None.ensures.cases))
