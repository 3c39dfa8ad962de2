use Rattle.std.proofs.Common.{◌∙◌}
use Rattle.lsp_messages.specs.Written.{reply_value, answer_value}
use Rattle.lsp_messages.proofs.TokenLaws.{text_of_tokens}
use Rattle.lsp_messages.proofs.answering.answer_text.Goals as goal

pub returns : goal.returns
returns c =
    text_of_tokens (reply_value c.args.id.now (answer_value c.args.answer.now)) _ _ _ _
    c.into_inner.ensures.items
    (c.in_ok-write_reply.ensures.before ∙ c.new-out.ensures.before ∙ c.new.ensures.items)
    c.in_ok-write_reply.ensures.tokens
    c.new-out.ensures.tokens
