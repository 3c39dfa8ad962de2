use Rattle.std.proofs.Common.{◌∙◌, ◌+◌, ◌-◌, length, take, drop, sym, ap, subst}
use Rattle.std.proofs.lemmas.List.{with_items_is}
use Rattle.std.specs.List.{copy_within}
use Rattle.std.proofs.lemmas.Str.{IsUtf8-append}
use Rattle.std.specs.Prelude.{IsUtf8}
use Rattle.document_store.proofs.SplitLemmas.{joined_is}
use Rattle.document_store.proofs.split_text.SplitText.joined.Goals as goal

pub from_utf8_unchecked-requires : goal.from_utf8_unchecked-requires
from_utf8_unchecked-requires c =
    let s = c.self.inside in
    subst IsUtf8 (sym (joined_is s.bytes.items c.move_bytes.new.bytes c.truncate.new.self.items s.end s.start c.self.invariant
    (c.move_bytes.ensures.after
    ∙ ap (λ bs. copy_within bs s.start (length c.as_slice-length.result.now) s.end) c.as_mut_slice.ensures.value
    ∙ ap (λ bs. copy_within s.bytes.items s.start (length bs) s.end) c.as_slice-length.ensures.value)
    (c.truncate.ensures.items
    ∙ ap (take (s.end + (length c.as_slice-length.result.now - s.start)))
    (with_items_is s.bytes c.move_bytes.new.bytes (c.move_bytes.ensures.len ∙ c.as_mut_slice.ensures.len))
    ∙ ap (λ bs. take (s.end + (length bs - s.start)) c.move_bytes.new.bytes) c.as_slice-length.ensures.value)))
    (IsUtf8-append (take s.end s.bytes.items) (drop s.start s.bytes.items) c.self.invariant.front c.self.invariant.back)
