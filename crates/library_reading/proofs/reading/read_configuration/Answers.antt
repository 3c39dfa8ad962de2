use Rattle.std.proofs.Common.{chars, refl, ap, ◌∙◌}
use Rattle.library_folders.specs.Folders.{folders_of}
use Rattle.library_reading.proofs.AskedLaws.{is_failure}
use Rattle.library_reading.proofs.ConfigurationLaws.{configuration_cut, configuration_lost, configuration_cut_late, configuration_reached}
use Rattle.library_reading.proofs.reading.read_configuration.Goals as goal

pub returns-in_err-configuration : goal.returns-in_err-configuration
returns-in_err-configuration g c =
    configuration_cut _ _ _ _ _ _ _ _ _ _ c.in_err-configuration.ensures (is_failure _ _ c.from_residual.ensures.1)

pub returns-in_err-folders : goal.returns-in_err-folders
returns-in_err-folders g c =
    configuration_lost _ _ _ _ _ _ _ _ _ _ c.in_ok-configuration.ensures (is_failure _ _ c.from_residual-in_err-folders.ensures.1)

pub returns-in_err-read_folders : goal.returns-in_err-read_folders
returns-in_err-read_folders g c =
    configuration_cut_late _ _ _ _ _ _ _ _ _ _ _ _ _ _ _ _ c.in_ok-configuration.ensures
    (ap (λ z. record { store = z; log = c.read_files.new.logs }) c.drop_members.ensures)
    (c.as_slice-2.ensures.value ∙ c.in_ok-folders.ensures ∙ ap (folders_of (chars c.args.root.now)) c.as_slice.ensures)
    c.in_err-read_folders.ensures (is_failure _ _ c.from_residual-in_err-read_folders.ensures.1)

pub returns : goal.returns
returns g c =
    configuration_reached _ _ _ _ _ _ _ _ _ _ _ _ _ _ _ _ c.in_ok-configuration.ensures
    (ap (λ z. record { store = z; log = c.read_files.new.logs }) c.drop_members.ensures)
    (c.as_slice-2.ensures.value ∙ c.in_ok-folders.ensures ∙ ap (folders_of (chars c.args.root.now)) c.as_slice.ensures)
    c.in_ok-read_folders.ensures refl
