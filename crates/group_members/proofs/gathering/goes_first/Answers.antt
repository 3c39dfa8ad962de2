use Rattle.std.proofs.Common.{◌∙◌, ap, sym, []}
use Rattle.std.specs.Option.{option_map}
use Rattle.std.specs.Str.{chars}
use Rattle.std.proofs.lemmas.Option.{get_or_from_slice_get}
use Rattle.hl_base.specs.declared.place.PathId.{PathId}
use Rattle.group_members.specs.Members.{is_before}
use Rattle.group_members.specs.Gathering.{goes_first}
use Rattle.group_members.proofs.gathering.goes_first.Goals as goal

pub returns-in-Some : goal.returns-in-Some
returns-in-Some c =
    let paths = c.args.store.now.store.paths in
    c.is_before.ensures
    ∙ ap (is_before (chars c.args.path.now))
    (sym (get_or_from_slice_get paths c.in-Some.other.0 (chars c.path_text.result.now) [] (sym c.path_text.ensures)))
    ∙ ap (λ o. goes_first paths (option_map (λ (other : PathId). other.0) o) (chars c.args.path.now)) (sym c.in-Some.is)
