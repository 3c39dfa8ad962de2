use Rattle.std.proofs.Common.{ap, ◌∙◌, ℤ}
use Rattle.std.specs.Prelude.{chars}
use Rattle.std.specs.Int.{w32}
use Rattle.std.specs.String.{string_bytes}
use Rattle.std.proofs.lemmas.Int.{to_z-of_z}
use Rattle.document_store.proofs.OwnerLemmas.{IsLive-owned, IsReleased, owned-interned}
use Rattle.document_store.proofs.CallLemmas.{replaced_owned, replaced_store}
use Rattle.document_store.proofs.store.DocumentStore.replace.Goals as goal

pub release-requires : goal.release-requires
release-requires c =
    record {
      live = IsLive-owned _ _ (owned-interned c.self.inside.pool c.intern_owned.new.self (chars (string_bytes c.args.text)) c.in_ok-new.new.0 c.index.result.now.text.0 c.in_ok-new.ensures.interned
          (replaced_owned c.args.self.now c.self.inside.paths.keys c.self.inside.files.items c.self.inside.documents.items c.self.inside.pool (chars c.args._path.now) c.args.at c.index.result.now
          c.self.invariant.0 c.self.view_is c.requires.found c.index.ensures));
    }

pub invariant_of-self-2 : goal.invariant_of-self-2
invariant_of-self-2 c =
    let released : IsReleased c.intern_owned.new.self c.release.new.self c.index.result.now.text.0 = record { last = c.release.ensures.last; others = c.release.ensures.others } in
    let parts = replaced_store c.args.self.now c.self.inside.paths.keys c.self.inside.files.items c.self.inside.documents.items c.self.inside.pool (chars c.args._path.now) c.args.at c.index.result.now
    c.self.invariant.0 c.self.view_is c.requires.found c.index.ensures
    c.args.version c.intern_owned.new.self c.release.new.self (chars (string_bytes c.args.text)) c.in_ok-new.new c.index_mut.result.now c.rewrite.new.self
    c.in_ok-new.ensures.interned released c.index_mut.ensures.value (c.rewrite.ensures ∙ ap (λ (v : ℤ). record c.index_mut.result.now { version = v; text = c.in_ok-new.new }) (to_z-of_z w32 c.args.version c.ranges.version)) in
    (parts.0, parts.2 c.self.inside.totals c.self.invariant.1)

pub returns-clause-replaced : goal.returns-clause-replaced
returns-clause-replaced c =
    let released : IsReleased c.intern_owned.new.self c.release.new.self c.index.result.now.text.0 = record { last = c.release.ensures.last; others = c.release.ensures.others } in
    (replaced_store c.args.self.now c.self.inside.paths.keys c.self.inside.files.items c.self.inside.documents.items c.self.inside.pool (chars c.args._path.now) c.args.at c.index.result.now
    c.self.invariant.0 c.self.view_is c.requires.found c.index.ensures
    c.args.version c.intern_owned.new.self c.release.new.self (chars (string_bytes c.args.text)) c.in_ok-new.new c.index_mut.result.now c.rewrite.new.self
    c.in_ok-new.ensures.interned released c.index_mut.ensures.value (c.rewrite.ensures ∙ ap (λ (v : ℤ). record c.index_mut.result.now { version = v; text = c.in_ok-new.new }) (to_z-of_z w32 c.args.version c.ranges.version))).1
