-- What the session reads of the shelf.
use Rattle.std.proofs.Common.{◌≡◌, false, refl, []}
use Rattle.std.specs.Str.{chars, is_utf8}
use Rattle.std.specs.Fmt.{digits}
use Rattle.serde_json.proofs.OnLiterals.{serde_json_on_literals}
use Rattle.json_view.specs.Texts.{reading}
use Rattle.member_paths.specs.Paths.{folder_of, file_name_of, member_name as member_of_file, folder_path}
use Rattle.document_store.specs.Store.{empty_store}
use Rattle.program_config.specs.Files.{group_in}
use Rattle.library_reading.specs.Log.{empty_log}
use Rattle.bulk_script.specs.Texts.{member_name, member_text, prototype}
use Rattle.bulk_session.specs.Shelf as shelf
use Rattle.bulk_session.specs.Shelf.{folders, files}
use Rattle.bulk_session.specs.Bulk.{member_files, member_paths}
use Rattle.bulk_session.specs.Inside.{configuration}
use Rattle.bulk_session.proofs.AnswerLaws.{configuration_here}

pub members_are_read : configuration_here shelf.root (record { store = empty_store; log = empty_log }) ≡ record {
  configuration = configuration;
  taking = record { store = record { documents = []; files = member_files; paths = member_paths }; log = empty_log };
}
unfolding files folders reading is_utf8 chars group_in serde_json_on_literals member_name member_text prototype digits folder_of file_name_of member_of_file folder_path
members_are_read = refl
