use Rattle.std.proofs.Common.{◌≡◌, ◌∙◌, ◌<◌, ◌≤◌, ◌+◌, ℕ, true, List, length, get_or, sym, inl, inr, ap, subst, arith}
use Rattle.std.specs.Prelude.{slice_index}
use Rattle.std.proofs.lemmas.Bool.{cases_lt}
use Rattle.document_store.specs.Places.{is_plain}
use Rattle.document_store.proofs.place.are_plain.Goals as goal

pub loop-at-init : goal.loop-at-init
loop-at-init c = λ k below. absurd (omega (arith, below))

pub loop-at-preserved : goal.loop-at-preserved
loop-at-preserved c = λ k below. elim (cases_lt k c.loop-at.at) [
  | inl before ↦ c.loop-at.invariant k before
  | inr here ↦
      let same : k ≡ c.loop-at.at = omega (arith, below, here) in
      ap (λ n. is_plain (slice_index c.args.text.now n)) same
      ∙ ap (λ bs. is_plain (slice_index bs c.loop-at.at)) (sym c.as_bytes-bytes.ensures.value)
      ∙ sym c.if-not-is_plain.ensures
]

pub returns : goal.returns
returns c = λ _. record { within = omega (arith, c.if-bytes-first.false, ap length c.as_bytes-bytes.ensures.value); all = λ k below. c.loop-at.invariant k (omega (arith, below, c.loop-at-test.false)) }
