use Rattle.std.proofs.Common.{append_assoc}
use Rattle.lsp_messages.proofs.answering.write_symbol.Goals as goal

pub returns-clause-tokens : goal.returns-clause-tokens
returns-clause-tokens c =
    rw (
      c.in_ok-end_object.ensures.ok,
      c.in_ok-write_span-2.ensures.tokens,
      c.in_ok-key-3.ensures.ok,
      c.in_ok-write_span.ensures.tokens,
      c.in_ok-key-2.ensures.ok,
      c.in_ok-string.ensures.ok,
      c.in_ok-key.ensures.ok,
      c.in_ok-write_number.ensures.tokens,
      c.in_ok-begin_object.ensures.ok,
      c.as_str.ensures.bytes,
      c.kind_number.ensures,
    )
    (simp append_assoc)
