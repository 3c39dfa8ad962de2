use Rattle.std.proofs.Common.{◌≡◌, ◌∙◌, ap, length, refl, arith}
use Rattle.std.proofs.lemmas.List.{length-map}
use Rattle.io_edge.specs.MemoryLibraryParts.{call_of}
use Rattle.io_edge.proofs.MemoryLibraryLemmas.{IsToFail-same}
use Rattle.io_edge.proofs.memory_library.MemoryLibraryLibrary.read.Goals as goal

-- the call was tried by the numbers and the calls that contracts see
pub returns-then-is_to_fail-clause-failed : goal.returns-then-is_to_fail-clause-failed
returns-then-is_to_fail-clause-failed c = λ _.
    let failing = c.deref.ensures.value ∙ ap (λ l. l.failing) c.self.view_is in
    let calls : c.len.result ≡ length c.args.self.now.calls =
    omega (arith, length-map c.self.inside.calls.items call_of, ap (λ l. length l.calls) c.self.view_is) in
    IsToFail-same _ _ _ _ failing calls (c.if-is_to_fail.ensures.0 refl)

pub returns-then-is_to_fail-clause-cause : goal.returns-then-is_to_fail-clause-cause
returns-then-is_to_fail-clause-cause c =
    record { later = c.in_ok-refuse_reading.ensures.later; failed = λ _. c.in_ok-refuse_reading.ensures.risen }
