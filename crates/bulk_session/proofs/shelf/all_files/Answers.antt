use Rattle.std.proofs.Common.{◌≡◌, ◌∙◌, ◌++◌, ◌∷◌, [], map, ap, arith}
use Rattle.bulk_session.specs.Shelf.{files, groups_file, programs_file, member_file, first_numbers}
use Rattle.bulk_session.proofs.shelf.all_files.Goals as goal

pub returns : goal.returns
unfolding files
returns c =
    let done : c.loop-number.number ≡ 10 = omega arith in
    c.loop-number.invariant ∙ ap (λ n. (groups_file ∷ programs_file ∷ []) ++ map member_file (first_numbers n)) done
