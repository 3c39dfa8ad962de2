use Rattle.std.proofs.Common.{ap, sym, subst, ◌∙◌, List, ◌≡◌, Some, Ok}
use Rattle.std.specs.Prelude.{chars, position}
use Rattle.document_store.specs.Inside.{is_kept_at, IsKept, holdings_of}
use Rattle.document_store.specs.declared.kept.KeptDocument.{KeptDocument}
use Rattle.document_store.proofs.OwnerLemmas.{IsLive-owned, IsReleased}
use Rattle.document_store.proofs.StoreLemmas.{owned_text, IsFound-from_position}
use Rattle.document_store.proofs.CallLemmas.{closed_none, closed_store, closed_within, found_place}
use Rattle.document_store.proofs.store.DocumentStore.close.Goals as goal

pub returns-in_default-clause-answer : goal.returns-in_default-clause-answer
returns-in_default-clause-answer c =
    closed_none _ c.self.inside.paths.keys c.self.inside.files.items c.self.inside.documents.items c.self.inside.pool (chars c.args.uri.now) c.in_ok-path.path c.self.view_is c.in_ok-path.ensures.path
    (found_place _ _ _ _ _ _ c.place_in.ensures c.as_str.ensures.characters c.as_slice.ensures.value c.in_default.is)

pub release-requires : goal.release-requires
release-requires c =
    let found : position (is_kept_at c.in_ok-path.path) c.self.inside.documents.items ≡ Some c.in-Some.at =
    found_place _ _ _ _ _ _ c.place_in.ensures c.as_str.ensures.characters c.as_slice.ensures.value c.in-Some.is in
    record {
      live = IsLive-owned _ _
          (owned_text c.in_ok-path.path c.self.inside.paths.keys c.self.inside.files.items c.self.inside.documents.items c.in-Some.at c.remove-document.result c.self.inside.pool c.self.invariant.0
          (IsFound-from_position c.in_ok-path.path c.self.inside.documents.items c.in-Some.at c.remove-document.result found c.remove-document.ensures.value));
    }

pub invariant_of-self : goal.invariant_of-self
invariant_of-self c =
    let found : position (is_kept_at c.in_ok-path.path) c.self.inside.documents.items ≡ Some c.in-Some.at =
    found_place _ _ _ _ _ _ c.place_in.ensures c.as_str.ensures.characters c.as_slice.ensures.value c.in-Some.is in
    let released : IsReleased c.self.inside.pool c.release.new.self c.remove-document.result.text.0 = record { last = c.release.ensures.last; others = c.release.ensures.others } in
    let kept = (closed_store _ c.self.inside.paths.keys c.self.inside.files.items c.self.inside.documents.items c.self.inside.pool (chars c.args.uri.now) c.in_ok-path.path c.in-Some.at c.remove-document.result
    c.self.invariant.0 c.self.view_is c.in_ok-path.ensures.path found c.remove-document.ensures.value c.release.new.self released).0 in (
      subst (λ (ks : List KeptDocument). IsKept c.self.inside.paths.keys c.self.inside.files.items ks c.release.new.self) (sym c.remove-document.ensures.items) kept,
      closed_within _ c.self.inside.paths.keys c.self.inside.files.items c.self.inside.documents.items c.self.inside.pool (chars c.args.uri.now) c.in_ok-path.path c.in-Some.at c.remove-document.result
          c.self.invariant.0 c.self.view_is c.in_ok-path.ensures.path found c.remove-document.ensures.value c.release.new.self released c.self.inside.totals c.self.invariant.1,
    )

pub returns-clause-answer : goal.returns-clause-answer
returns-clause-answer c =
    let found : position (is_kept_at c.in_ok-path.path) c.self.inside.documents.items ≡ Some c.in-Some.at =
    found_place _ _ _ _ _ _ c.place_in.ensures c.as_str.ensures.characters c.as_slice.ensures.value c.in-Some.is in
    let released : IsReleased c.self.inside.pool c.release.new.self c.remove-document.result.text.0 = record { last = c.release.ensures.last; others = c.release.ensures.others } in
    (closed_store _ c.self.inside.paths.keys c.self.inside.files.items c.self.inside.documents.items c.self.inside.pool (chars c.args.uri.now) c.in_ok-path.path c.in-Some.at c.remove-document.result
    c.self.invariant.0 c.self.view_is c.in_ok-path.ensures.path found c.remove-document.ensures.value c.release.new.self released).1
    ∙ ap (λ (ks : List KeptDocument). Ok (holdings_of c.self.inside.paths.keys c.self.inside.files.items ks c.release.new.self).store) (sym c.remove-document.ensures.items)
