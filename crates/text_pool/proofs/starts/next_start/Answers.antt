use Rattle.std.proofs.Common.{◌≡◌, ◌∙◌, drop, sym, ap}
use Rattle.std.specs.Prelude.{position, slice_index, Some}
use Rattle.hl_base.specs.Texts.{begins_crlf}
use Rattle.hl_base.specs.Remaining.{ends_line}
use Rattle.text_pool.proofs.StartLemmas.{BeginsAt-behind_crlf, BeginsAt-behind_end, take-behind}
use Rattle.text_pool.proofs.starts.next_start.Goals as goal

pub returns-then-is_crlf : goal.returns-then-is_crlf
returns-then-is_crlf c =
    let found : position ends_line (drop c.args.start c.args.text.now) ≡ Some c.in_ok-at.at =
    ap (position ends_line) (sym c.range_from-rest.ensures.value) ∙ sym c.end_of_line.ensures ∙ c.in_ok-at.was in
    let rest : drop c.args.start c.args.text.now ≡ c.as_bytes.result.now = sym (c.as_bytes.ensures.value ∙ c.range_from-rest.ensures.value) in
    BeginsAt-behind_crlf c.args.text.now c.args.start c.in_ok-at.at c.utf8.text c.requires.cut found
    (ap (λ bytes. begins_crlf (slice_index (drop c.in_ok-at.at bytes) 0) (drop 1 (drop c.in_ok-at.at bytes))) rest
    ∙ ap (λ back. begins_crlf (slice_index back 0) (drop 1 back)) (sym (take-behind c.as_bytes.result.now c.in_ok-at.at))
    ∙ sym c.is_crlf.ensures ∙ c.if-is_crlf.true)

pub returns-else-is_crlf : goal.returns-else-is_crlf
returns-else-is_crlf c =
    let found : position ends_line (drop c.args.start c.args.text.now) ≡ Some c.in_ok-at.at =
    ap (position ends_line) (sym c.range_from-rest.ensures.value) ∙ sym c.end_of_line.ensures ∙ c.in_ok-at.was in
    let rest : drop c.args.start c.args.text.now ≡ c.as_bytes.result.now = sym (c.as_bytes.ensures.value ∙ c.range_from-rest.ensures.value) in
    BeginsAt-behind_end c.args.text.now c.args.start c.in_ok-at.at c.utf8.text c.requires.cut found
    (ap (λ bytes. begins_crlf (slice_index (drop c.in_ok-at.at bytes) 0) (drop 1 (drop c.in_ok-at.at bytes))) rest
    ∙ ap (λ back. begins_crlf (slice_index back 0) (drop 1 back)) (sym (take-behind c.as_bytes.result.now c.in_ok-at.at))
    ∙ sym c.is_crlf.ensures ∙ c.if-is_crlf.false)
