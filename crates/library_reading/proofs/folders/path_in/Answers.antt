use Rattle.library_reading.proofs.TextLaws.{path_spelled, slash_utf8}
use Rattle.library_reading.proofs.folders.path_in.Goals as goal

pub returns : goal.returns
returns c =
    path_spelled _ _ _ _ _ _ _ c.in_ok-path.ensures.bytes c.in_ok-push_str.ensures.bytes c.in_ok-push_str-2.ensures.bytes c.in_ok-push_str-3.ensures.bytes
    c.as_str-folder.utf8 slash_utf8 c.as_str-folder.ensures.characters
