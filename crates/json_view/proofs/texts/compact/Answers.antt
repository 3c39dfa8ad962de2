use Rattle.std.proofs.Common.{◌∙◌}
use Rattle.std.proofs.lemmas.Str.{IsUtf8-string_bytes}
use Rattle.json_view.proofs.ReadingLaws.{reading-utf8}
use Rattle.json_view.proofs.texts.compact.Goals as goal

pub returns-clause-reads_back : goal.returns-clause-reads_back
returns-clause-reads_back c is_shallow =
    let text = c.in_ok-to_string.field-0 in
    rw c.into_bytes.ensures.value
    (reading-utf8 _ (IsUtf8-string_bytes text) ∙ c.in_ok-to_string.ensures.reads_back is_shallow)
