use Rattle.std.proofs.Common.{◌∙◌, ap, refl}
use Rattle.std.specs.Ordering.{is_lt}
use Rattle.std.proofs.lemmas.Str.{encodes-chars}
use Rattle.group_members.proofs.gathering.is_before.Goals as goal

pub returns : goal.returns
returns c =
    c.is_lt.ensures
    ∙ ap is_lt (c.cmp.ensures ∙ rw (c.as_bytes.ensures.value, c.as_bytes-2.ensures.value, encodes-chars c.args.path.now c.utf8.path, encodes-chars c.args.other.now c.utf8.other) refl)
