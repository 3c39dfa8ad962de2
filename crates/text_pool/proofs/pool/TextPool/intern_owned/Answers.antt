use Rattle.std.proofs.Common.{sym, subst, ap, ◌∙◌}
use Rattle.std.specs.Str.{IsUtf8}
use Rattle.std.specs.Rc.{rc_str_bytes}
use Rattle.text_pool.proofs.pool.TextPool.intern_owned.Goals as goal

pub take_in-requires-clause-utf8 : goal.take_in-requires-clause-utf8
take_in-requires-clause-utf8 c =
    subst IsUtf8
    (c.as_str.ensures.value ∙ sym c.in_ok-from_string.ensures.ok ∙ sym (ap (λ k. rc_str_bytes k.text) c.of-key.ensures))
    c.as_str.utf8
