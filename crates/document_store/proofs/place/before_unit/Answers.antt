use Rattle.std.proofs.Common.{◌≡◌, ◌∙◌, ◌+◌, ◌<◌, ◌≤◌, length, sym, ap, arith, subst}
use Rattle.std.specs.Prelude.{ℕ, chars}
use Rattle.hl_base.specs.Texts.{unit_width}
use Rattle.std.proofs.lemmas.Iterator.{YieldsList-from_chars}
use Rattle.std.proofs.lemmas.Iterator.Consumers.{YieldsList-turn, YieldsList-end}
use Rattle.std.proofs.lemmas.List.{length_push}
use Rattle.document_store.specs.Places.{bytes_before}
use Rattle.document_store.proofs.PlaceLemmas.{unit_width_is, bytes_before-next, bytes_before-le, characters_before-next, characters_before-behind, characters_before-ended}
use Rattle.document_store.proofs.place.before_unit.Goals as goal

pub overflow_add-before-in-loop-c : goal.overflow_add-before-in-loop-c
overflow_add-before-in-loop-c c =
    let t = YieldsList-turn (YieldsList-from_chars c.args.line.now c.utf8.line cc) c.loop-c.yielded _ c.loop-c.yielded_by _ _ c.in-Some.c c.in-Some.is c.next.ensures.steps in
    let next = bytes_before-next (chars c.args.line.now) (length c.loop-c.yielded) c.in-Some.c t in
    omega (arith, next, c.loop-c.invariant.1, c.len_utf8.ensures.value, bytes_before-le c.args.line.now (length c.loop-c.yielded + 1) c.utf8.line)

pub loop-c-preserved : goal.loop-c-preserved
loop-c-preserved c =
    let t = YieldsList-turn (YieldsList-from_chars c.args.line.now c.utf8.line cc) c.loop-c.yielded _ c.loop-c.yielded_by _ _ c.in-Some.c c.in-Some.is c.next.ensures.steps in
    let n = length_push c.loop-c.yielded c.in-Some.c in
    let width : c.len_utf16-width.result ≡ unit_width c.in-Some.c = unit_width_is c.in-Some.c c.len_utf16-width.result c.len_utf16-width.ensures.bmp c.len_utf16-width.ensures.surrogate_pair in
    let bytes = bytes_before-next (chars c.args.line.now) (length c.loop-c.yielded) c.in-Some.c t in
    let reached : unit_width c.in-Some.c ≤ c.loop-c.left = let P : ℕ → Type 0 = λ w. w ≤ c.loop-c.left in subst P width c.if-left-width.false in
    let left = characters_before-next (chars c.args.line.now) (length c.loop-c.yielded) c.in-Some.c c.loop-c.left t reached in (
      omega (arith, n, c.loop-c.invariant.0),
      ap (λ k. k + c.len_utf8.result) c.loop-c.invariant.1 ∙ ap (λ k. bytes_before (chars c.args.line.now) (length c.loop-c.yielded) + k) c.len_utf8.ensures.value ∙ sym bytes ∙ ap (bytes_before (chars c.args.line.now)) (sym n),
      rw (n, width) (c.loop-c.invariant.2 ∙ omega (arith, left)),
    )

pub returns-in-None-clause-characters : goal.returns-in-None-clause-characters
returns-in-None-clause-characters c =
    let t = YieldsList-end (YieldsList-from_chars c.args.line.now c.utf8.line cc) c.loop-c.yielded _ c.loop-c.yielded_by _ _ c.in-None.is c.next.ensures.steps in
    let ended = characters_before-ended (chars c.args.line.now) (length c.loop-c.yielded) c.loop-c.left (omega (arith, t)) in
    omega (arith, ended, c.loop-c.invariant.0, c.loop-c.invariant.2)

pub returns-then-left-width-clause-characters : goal.returns-then-left-width-clause-characters
returns-then-left-width-clause-characters c =
    let t = YieldsList-turn (YieldsList-from_chars c.args.line.now c.utf8.line cc) c.loop-c.yielded _ c.loop-c.yielded_by _ _ c.in-Some.c c.in-Some.is c.next.ensures.steps in
    let width : c.len_utf16-width.result ≡ unit_width c.in-Some.c = unit_width_is c.in-Some.c c.len_utf16-width.result c.len_utf16-width.ensures.bmp c.len_utf16-width.ensures.surrogate_pair in
    let stopped = characters_before-behind (chars c.args.line.now) (length c.loop-c.yielded) c.in-Some.c c.loop-c.left t (let P : ℕ → Type 0 = λ w. c.loop-c.left < w in subst P width c.if-left-width.true) in
    omega (arith, stopped, c.loop-c.invariant.0, c.loop-c.invariant.2)
