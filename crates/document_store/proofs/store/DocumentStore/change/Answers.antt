use Rattle.std.proofs.Common.{ap, sym, subst, ◌∙◌, ℤ, ◌≡◌, Some, Ok}
use Rattle.std.specs.Prelude.{chars, position, OnOk}
use Rattle.std.specs.Int.{w32}
use Rattle.std.specs.String.{string_bytes}
use Rattle.std.proofs.lemmas.Int.{to_z-of_z}
use Rattle.document_store.specs.Store.{is_at}
use Rattle.document_store.specs.Edits.{after_edits, and_then}
use Rattle.document_store.specs.Changes.{with_text}
use Rattle.document_store.proofs.CallLemmas.{changed_none-seen, changed-seen, answers_fault, answers_taken, found_seen}
use Rattle.document_store.proofs.store.DocumentStore.change.Goals as goal

pub returns-in_default-clause-answer : goal.returns-in_default-clause-answer
returns-in_default-clause-answer c =
    changed_none-seen c.args.self.now.store (chars c.args.uri.now) c.in_ok-path.path c.args.version c.args.edits.now c.in_ok-path.ensures.path
    (found_seen _ _ _ _ _ c.find.ensures c.as_str.ensures.characters c.in_default.is)

pub returns-in-Ok-clause-answer : goal.returns-in-Ok-clause-answer
returns-in-Ok-clause-answer c =
    let store = c.args.self.now.store in
    let found : position (is_at c.in_ok-path.path) c.args.self.now.store.documents ≡ Some c.in-Some.at =
    found_seen _ _ _ _ _ c.find.ensures c.as_str.ensures.characters c.in-Some.is in
    answers_taken _ _ _ _
    (changed-seen store (chars c.args.uri.now) c.in_ok-path.path c.args.version c.args.edits.now c.in_ok-path.ensures.path c.in-Some.at found (chars c.text_at.result.now) c.text_at.ensures.text
    ∙ ap (and_then (λ t. Ok (with_text store c.in_ok-path.path c.args.version t))) c.in-Ok.ensures.given
    ∙ ap (λ p. Ok (with_text store p c.args.version (chars (string_bytes c.in-Ok.text)))) (sym c.as_str-in-Ok.ensures.characters))
    (subst (λ (v : ℤ). OnOk c.replace.result (c.replace.new.self.store ≡ with_text store (chars c.as_str-in-Ok.result.now) v (chars (string_bytes c.in-Ok.text))))
    (to_z-of_z w32 c.args.version c.ranges.version) c.replace.ensures.replaced)
    c.replace.ensures.memory

pub returns-clause-answer : goal.returns-clause-answer
returns-clause-answer c =
    let store = c.args.self.now.store in
    let found : position (is_at c.in_ok-path.path) c.args.self.now.store.documents ≡ Some c.in-Some.at =
    found_seen _ _ _ _ _ c.find.ensures c.as_str.ensures.characters c.in-Some.is in
    answers_fault _ (after_edits c.args.edits.now 0 (chars c.text_at.result.now)) c.in-Err.fault store c.in-Err.ensures.given
    (λ f e.
    changed-seen store (chars c.args.uri.now) c.in_ok-path.path c.args.version c.args.edits.now c.in_ok-path.ensures.path c.in-Some.at found (chars c.text_at.result.now) c.text_at.ensures.text
    ∙ ap (and_then (λ t. Ok (with_text store c.in_ok-path.path c.args.version t))) e)
