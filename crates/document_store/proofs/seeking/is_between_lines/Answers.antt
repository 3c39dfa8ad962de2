use Rattle.std.proofs.Common.{◌∙◌, ◌<◌, ◌-◌, length, sym, ap, arith, get_or}
use Rattle.std.specs.Prelude.{slice_index}
use Rattle.document_store.proofs.SeekLemmas.{parted-bytes, parted-nothing}
use Rattle.document_store.proofs.seeking.is_between_lines.Goals as goal

pub returns-then-size-eq0 : goal.returns-then-size-eq0
returns-then-size-eq0 c = λ _. parted-nothing c.args.front.now c.args.back.now (omega (arith, c.if-size-eq0.true))

pub returns : goal.returns
returns c = λ yes.
    let front = c.args.front.now in
    let some : 0 < length front = omega (arith, c.if-size-eq0.false) in
    parted-bytes front c.args.back.now c.byte_at-last.result c.byte_at-next.result c.utf8.front c.utf8.back some
    (c.byte_at-last.ensures ∙ ap (λ bs. get_or bs (length front - 1) 0) c.as_bytes.ensures.value)
    (c.byte_at-next.ensures ∙ ap (λ bs. slice_index bs 0) c.as_bytes-2.ensures.value)
    (sym c.ends_at.ensures ∙ yes)
