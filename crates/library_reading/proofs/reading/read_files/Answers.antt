use Rattle.std.proofs.Common.{refl, ◌∙◌}
use Rattle.library_reading.proofs.AskedLaws.{is_failure, asks_stopped}
use Rattle.library_reading.proofs.RowLaws.{rows_at}
use Rattle.library_reading.proofs.ConfigurationLaws.{files_read-short, files_cut, files_lost, files_cut_late, files_reached}
use Rattle.library_reading.proofs.reading.read_files.Goals as goal

pub returns-in_err-path : goal.returns-in_err-path
returns-in_err-path g c = asks_stopped _ _ _ _ _ (is_failure _ _ c.from_residual.ensures.1) (files_read-short _ _)

pub returns-in_err-groups : goal.returns-in_err-groups
returns-in_err-groups g c =
    files_cut _ _ _ _ _ _ _ _ _ _ (rows_at _ _ _ _ _ _ _ _ _ _ (c.as_str.ensures.characters ∙ c.in_ok-path.ensures) c.in_err-groups.ensures)
    (is_failure _ _ c.from_residual-in_err-groups.ensures.1)

pub returns-in_err-path-2 : goal.returns-in_err-path-2
returns-in_err-path-2 g c =
    files_lost _ _ _ _ _ _ _ _ _ _ (rows_at _ _ _ _ _ _ _ _ _ _ (c.as_str.ensures.characters ∙ c.in_ok-path.ensures) c.in_ok-groups.ensures)
    (is_failure _ _ c.from_residual-in_err-path-2.ensures.1)

pub returns-in_err-programs : goal.returns-in_err-programs
returns-in_err-programs g c =
    files_cut_late _ _ _ _ _ _ _ _ _ _ _ _ _ _ (rows_at _ _ _ _ _ _ _ _ _ _ (c.as_str.ensures.characters ∙ c.in_ok-path.ensures) c.in_ok-groups.ensures)
    (rows_at _ _ _ _ _ _ _ _ _ _ (c.as_str-2.ensures.characters ∙ c.in_ok-path-2.ensures) c.in_err-programs.ensures)
    (is_failure _ _ c.from_residual-in_err-programs.ensures.1)

pub returns : goal.returns
returns g c =
    files_reached _ _ _ _ _ _ _ _ _ _ _ _ _ _ (rows_at _ _ _ _ _ _ _ _ _ _ (c.as_str.ensures.characters ∙ c.in_ok-path.ensures) c.in_ok-groups.ensures)
    (rows_at _ _ _ _ _ _ _ _ _ _ (c.as_str-2.ensures.characters ∙ c.in_ok-path-2.ensures) c.in_ok-programs.ensures) refl
