use Rattle.std.proofs.Common.{ap, sym, ◌∙◌}
use Rattle.std.specs.Prelude.{slice_get}
use Rattle.std.specs.Option.{option_and_then, option_copied}
use Rattle.std.proofs.lemmas.Str.{encodes-chars}
use Rattle.program_config.specs.Choice as choice
use Rattle.library_folders.proofs.PathLaws.{read_at}
use Rattle.library_folders.proofs.group.group_below.Goals as goal

pub returns-in_err-place : goal.returns-in_err-place
returns-in_err-place c =
    let configuration = c.args.configuration.now in
    ap option_copied c.from_residual.ensures
    ∙ ap (option_and_then (slice_get configuration.groups))
    (c.in_err-place.ensures ∙ ap (choice.group_of configuration.programs configuration.groups) (sym (encodes-chars c.args.below.now c.utf8.below)))

pub returns : goal.returns
returns c =
    let configuration = c.args.configuration.now in
    read_at c.as_slice.result.now c.in_ok-place.place.0 c.get.result c.get.ensures.lookup
    ∙ ap (λ groups. slice_get groups c.in_ok-place.place.0) c.as_slice.ensures
    ∙ ap (option_and_then (slice_get configuration.groups))
    (c.in_ok-place.ensures ∙ ap (choice.group_of configuration.programs configuration.groups) (sym (encodes-chars c.args.below.now c.utf8.below)))
