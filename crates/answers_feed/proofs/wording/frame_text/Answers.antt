use Rattle.std.proofs.Common.{◌≡◌, [], ◌++◌, ap, sym, ◌∙◌}
use Rattle.std.specs.Prelude.{unwrap_or, chars}
use Rattle.std.proofs.lemmas.Str.{chars-append}
use Rattle.answers_feed.specs.Diagnostics.{kind_text}
use Rattle.answers_feed.proofs.wording.frame_text.Goals as goal

pub returns-in_ok-push_str-in-Some : goal.returns-in_ok-push_str-in-Some
returns-in_ok-push_str-in-Some c =
    c.in_ok-push_str-in-Some.ensures.ok
    ∙ ap (λ front. front ++ chars c.text.result.now) c.in_ok-text.ensures
    ∙ sym (chars-append c.kind_text.result.now c.text.result.now c.kind_text.utf8)
    ∙ ap (λ front. chars (front ++ c.text.result.now)) c.kind_text.ensures
    ∙ ap (λ name. chars (kind_text c.args.frame.now.kind ++ name)) (c.text.ensures ∙ sym (ap (λ name. unwrap_or name []) c.in-Some.is))
