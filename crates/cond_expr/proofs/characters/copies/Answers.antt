use Rattle.std.proofs.Common.{◌≡◌, ◌∙◌, ◌++◌, ◌/◌, ◌+◌, ℕ, List, min, ap, sym, length, arith}
use Rattle.cond_expr.specs.Characters.{limited, repeated}
use Rattle.cond_expr.proofs.CharacterLemmas.{repeated-empty, repeated-more, limited-enough}
use Rattle.cond_expr.proofs.characters.copies.Goals as goal

pub returns-then-length-eq0 : goal.returns-then-length-eq0
returns-then-length-eq0 c =
    let size : c.character_count-length.result ≡ length c.args.text.now =
    c.character_count-length.ensures ∙ ap (λ (text : List ℕ). length text) c.as_str.ensures.characters in
    ap limited (c.new-whole.ensures ∙ sym (repeated-empty c.args.count c.args.text.now (sym size ∙ c.if-length-eq0.true)))

pub loop-copy-init : goal.loop-copy-init
unfolding repeated
loop-copy-init c = c.new-whole.ensures

pub loop-copy-preserved : goal.loop-copy-preserved
loop-copy-preserved c =
    c.in_ok-push_str.ensures.ok
    ∙ ap (λ text. c.loop-copy.whole ++ text) c.as_str-in-loop-copy.ensures.characters
    ∙ ap (λ whole. whole ++ c.args.text.now) c.loop-copy.invariant
    ∙ sym (repeated-more c.loop-copy._copy c.args.text.now)

pub returns : goal.returns
returns c =
    let size : c.character_count-length.result ≡ length c.args.text.now =
    c.character_count-length.ensures ∙ ap (λ (text : List ℕ). length text) c.as_str.ensures.characters in
    let all : c.loop-copy._copy ≡ min c.args.count (1024 / length c.args.text.now + 1) =
    (let met : c.loop-copy._copy ≡ c.min-enough.result = omega arith in met)
    ∙ c.min-enough.ensures
    ∙ ap (λ n. min c.args.count (1024 / n + 1)) size in
    ap limited (c.loop-copy.invariant ∙ ap (λ n. repeated n c.args.text.now) all)
    ∙ limited-enough c.args.count c.args.text.now (λ none. c.if-length-eq0.false (size ∙ none))
