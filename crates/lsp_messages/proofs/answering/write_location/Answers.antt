use Rattle.std.proofs.Common.{append_assoc}
use Rattle.lsp_messages.proofs.answering.write_location.Goals as goal

pub returns-clause-tokens : goal.returns-clause-tokens
returns-clause-tokens c =
    rw (
      c.in_ok-end_object.ensures.ok,
      c.in_ok-string.ensures.ok,
      c.in_ok-key-2.ensures.ok,
      c.in_ok-write_span.ensures.tokens,
      c.in_ok-key.ensures.ok,
      c.in_ok-begin_object.ensures.ok,
      c.as_str.ensures.bytes,
    )
    (simp append_assoc)
