use Rattle.std.proofs.Common.{refl}
use Rattle.file_uri.proofs.PathLaws.{text_of-read, text_of-refused}
use Rattle.file_uri.proofs.decoded.Goals as goal

pub returns-in-Ok-clause-path : goal.returns-in-Ok-clause-path
returns-in-Ok-clause-path c =
    text_of-read _ c.deref.result.now c.in-Ok.text.now _
    (simp (c.deref.ensures.value, c.in_ok-append_to.ensures.ok, c.new-bytes.ensures.items, c.percent_decode.ensures.bytes, c.as_bytes.ensures.value) refl)
    c.in-Ok.ensures.cases.1 c.in-Ok.ensures.cases.0 c.in_ok-of-in-Ok.ensures

pub returns-clause-refused : goal.returns-clause-refused
returns-clause-refused c _ =
    text_of-refused _ c.deref.result.now
    (simp (c.deref.ensures.value, c.in_ok-append_to.ensures.ok, c.new-bytes.ensures.items, c.percent_decode.ensures.bytes, c.as_bytes.ensures.value) refl)
    c.in-Err.ensures.cases.0
