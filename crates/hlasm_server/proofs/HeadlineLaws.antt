-- Completeness follows from the headline and the causes.
use Rattle.std.proofs.Common.{◌≡◌, ℕ, Bool, List, ◌++◌, length, drop, Option, Some, None, inl, inr, refl, sym, ap, ◌∙◌, subst}
use Rattle.std.proofs.Math.Seq.{drop-append_seam}
use Rattle.io_edge.specs.Told.{Gives, Gains, HasRisen}
use Rattle.io_edge.specs.LibraryCall.{LibraryCall}
use Rattle.hlasm_server.specs.declared.status.Status.{Status}
use Rattle.hlasm_server.specs.declared.status.Status.TheVariants.{Done, NoShutdown, InputEnded, OutOfMemory, ReadFault, WriteFault, BadFrame, BadWords, InputTooLong}
use Rattle.bulk_session.specs.Step.{written}
use Rattle.hlasm_server.specs.Hearing.{beginning_with}
use Rattle.hlasm_server.specs.Headline.{Whole, IsPlainRun, HasStatusCause, Completes}
use Rattle.hlasm_server.proofs.OutputLaws.{one_out}

-- what is left behind what was taken
left_now : (before now : Option (List ℕ)) (taken bytes : List ℕ) → Gives before taken now → before ≡ Some bytes → now ≡ Some (drop (length taken) bytes)
left_now before None taken bytes gives told = let none : Some bytes ≡ None = sym told ∙ gives in cc
left_now before (Some rest) taken bytes gives told =
    let same : Some bytes ≡ Some (taken ++ rest) = sym told ∙ gives in
    let is : bytes ≡ taken ++ rest = cc in
    ap Some (sym (drop-append_seam taken rest) ∙ ap (drop (length taken)) (sym is))

-- a run whose answer is whole is the plain one of that input
whole_completes : (status : Status) (b : ℕ) (w0 w1 : Option (List Bool)) (c0 c1 : Option (List LibraryCall)) (l0 l1 h0 h1 : Option (List ℕ)) (plain : IsPlainRun b w0 w1 c0 c1 l0 l1 h0 h1 status)
    → ((bytes : List ℕ) → l0 ≡ Some bytes → Whole b plain.waits plain.calls bytes status (length plain.taken) plain.output) → Completes b w0 w1 c0 c1 l0 l1 h0 h1 status
whole_completes status b w0 w1 c0 c1 l0 l1 h0 h1 plain answer = (
  plain.waits,
  plain.calls,
  plain.asked,
  plain.made,
  λ bytes replies wanted count told out.
      let whole = answer bytes told in
      let same = one_out (beginning_with b plain.waits plain.calls) 0 bytes whole.replies replies (Some status) wanted (length plain.taken) count whole.out out in
      inr (
        sym same.1,
        subst (λ n. l1 ≡ Some (drop n bytes)) same.2 (left_now l0 l1 plain.taken bytes plain.read told),
        subst (λ z. Gains h0 z h1) (whole.all ∙ ap written same.0) plain.wrote,
      ),
)

pub completes : (status : Status) (b : ℕ) (w0 w1 : Option (List Bool)) (c0 c1 : Option (List LibraryCall)) (l0 l1 h0 h1 : Option (List ℕ)) (f0 f1 k0 k1 : ℕ) → IsPlainRun b w0 w1 c0 c1 l0 l1 h0 h1 status
    → HasStatusCause status f0 f1 k0 k1 → (HasRisen f0 f1 → ⊥) → (HasRisen k0 k1 → ⊥) → Completes b w0 w1 c0 c1 l0 l1 h0 h1 status
completes Done b w0 w1 c0 c1 l0 l1 h0 h1 f0 f1 k0 k1 plain cause no_read no_write = whole_completes Done b w0 w1 c0 c1 l0 l1 h0 h1 plain plain.answer
completes NoShutdown b w0 w1 c0 c1 l0 l1 h0 h1 f0 f1 k0 k1 plain cause no_read no_write = whole_completes NoShutdown b w0 w1 c0 c1 l0 l1 h0 h1 plain plain.answer
completes InputEnded b w0 w1 c0 c1 l0 l1 h0 h1 f0 f1 k0 k1 plain cause no_read no_write = whole_completes InputEnded b w0 w1 c0 c1 l0 l1 h0 h1 plain plain.answer
completes (BadFrame at) b w0 w1 c0 c1 l0 l1 h0 h1 f0 f1 k0 k1 plain cause no_read no_write = whole_completes (BadFrame at) b w0 w1 c0 c1 l0 l1 h0 h1 plain plain.answer
completes InputTooLong b w0 w1 c0 c1 l0 l1 h0 h1 f0 f1 k0 k1 plain cause no_read no_write = whole_completes InputTooLong b w0 w1 c0 c1 l0 l1 h0 h1 plain plain.answer
completes OutOfMemory b w0 w1 c0 c1 l0 l1 h0 h1 f0 f1 k0 k1 plain cause no_read no_write = (plain.waits, plain.calls, plain.asked, plain.made, λ bytes replies wanted count told out. inl refl)
completes ReadFault b w0 w1 c0 c1 l0 l1 h0 h1 f0 f1 k0 k1 plain cause no_read no_write = absurd (no_read cause)
completes WriteFault b w0 w1 c0 c1 l0 l1 h0 h1 f0 f1 k0 k1 plain cause no_read no_write = absurd (no_write cause)
completes BadWords b w0 w1 c0 c1 l0 l1 h0 h1 f0 f1 k0 k1 plain cause no_read no_write = (plain.waits, plain.calls, plain.asked, plain.made, λ bytes replies wanted count told out. absurd (plain.answer bytes told))
