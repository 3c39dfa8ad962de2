use Rattle.std.proofs.Common.{ap, subst, ◌∙◌, ◌≡◌, ℕ, ℤ, List, [], ◌∷◌, ◌++◌, map, None}
use Rattle.std.specs.Prelude.{chars, find}
use Rattle.std.specs.Int.{w32}
use Rattle.std.proofs.lemmas.Int.{to_z-of_z}
use Rattle.document_store.specs.Store.{is_at}
use Rattle.document_store.specs.Holdings.{Holdings}
use Rattle.document_store.specs.Inside.{document_in, path_in, paths_in, IsPrepared}
use Rattle.document_store.specs.declared.kept.KeptDocument.{KeptDocument}
use Rattle.document_store.proofs.CallLemmas.{IsKept-admitted, AreWithin-admitted, admitted_store, sound_again, holdings_again, on_err}
use Rattle.document_store.proofs.store.DocumentStore.admit.Goals as goal

pub invariant_of-self-in_err-text : goal.invariant_of-self-in_err-text
invariant_of-self-in_err-text c =
    sound_again c.self.inside.paths.keys c.reserve-2.new.self.keys c.self.inside.files.items c.reserve-3.new.self.items c.self.inside.documents.items c.reserve.new.self.items
    c.self.inside.pool c.intern.new.self c.self.inside.totals
    c.reserve-2.ensures.keys c.reserve-3.ensures.items c.reserve.ensures.items c.in_err-text.ensures.kept c.self.invariant

pub returns-in_err-text-clause-kept : goal.returns-in_err-text-clause-kept
returns-in_err-text-clause-kept c =
    on_err _ (holdings_again c.self.inside.paths.keys c.reserve-2.new.self.keys c.self.inside.files.items c.reserve-3.new.self.items c.self.inside.documents.items c.reserve.new.self.items
    c.self.inside.pool c.intern.new.self
    c.reserve-2.ensures.keys c.reserve-3.ensures.items c.reserve.ensures.items c.in_err-text.ensures.kept
    ∙ c.self.view_is)

pub invariant_of-self-2 : goal.invariant_of-self-2
invariant_of-self-2 c =
    let path : List ℕ = chars c.args.path.now in
    let opening = c.in_ok-opening.opening in
    let kept : KeptDocument = record { path = opening.path; number = opening.number; uri = opening.uri; language = opening.language; version = opening.version; text = c.in_ok-text.text } in
    let absent : find (is_at path) (map (document_in c.self.inside.pool) c.self.inside.documents.items) ≡ None =
    ap (λ (h : Holdings). find (is_at path) h.store.documents) c.self.view_is ∙ c.requires.absent in
    let prepared : IsPrepared (paths_in c.self.inside.paths.keys) path (chars c.args.uri.now) (chars c.args.language.now) c.args.version opening =
    subst (λ (v : ℤ). IsPrepared (paths_in c.self.inside.paths.keys) path (chars c.args.uri.now) (chars c.args.language.now) v opening) (to_z-of_z w32 c.args.version c.ranges.version) c.in_ok-opening.ensures.prepared in (
      IsKept-admitted c.self.inside.paths.keys c.reserve-2.new.self.keys c.enter.new.paths.keys c.self.inside.files.items c.reserve-3.new.self.items c.enter.new.files.items
          c.self.inside.documents.items c.reserve.new.self.items c.append.new.documents.items kept
          c.self.inside.pool c.intern.new.self path (chars c.args.text.now) c.keep-key.result.0 c.self.invariant.0
          c.reserve-2.ensures.keys c.reserve-3.ensures.items c.reserve.ensures.items (ap path_in c.keep-key.ensures.key ∙ prepared.key) prepared.path_is c.enter.ensures.paths c.enter.ensures.files
          (c.append.ensures ∙ ap (λ k. c.reserve.new.self.items ++ k ∷ []) c.keep-key.ensures.kept)
          absent prepared.number_is prepared.few c.in_ok-text.ensures.interned,
      AreWithin-admitted c.self.inside.paths.keys c.reserve-2.new.self.keys c.enter.new.paths.keys c.self.inside.files.items c.reserve-3.new.self.items c.enter.new.files.items
          c.self.inside.documents.items c.reserve.new.self.items c.append.new.documents.items kept
          c.self.inside.pool c.intern.new.self path (chars c.args.text.now) c.keep-key.result.0 c.self.invariant.0
          c.reserve-2.ensures.keys c.reserve-3.ensures.items c.reserve.ensures.items (ap path_in c.keep-key.ensures.key ∙ prepared.key) prepared.path_is c.enter.ensures.paths c.enter.ensures.files
          (c.append.ensures ∙ ap (λ k. c.reserve.new.self.items ++ k ∷ []) c.keep-key.ensures.kept)
          absent prepared.number_is prepared.few c.in_ok-text.ensures.interned
          c.self.inside.totals c.self.invariant.1,
    )

pub returns-clause-taken : goal.returns-clause-taken
returns-clause-taken c =
    let path : List ℕ = chars c.args.path.now in
    let opening = c.in_ok-opening.opening in
    let kept : KeptDocument = record { path = opening.path; number = opening.number; uri = opening.uri; language = opening.language; version = opening.version; text = c.in_ok-text.text } in
    let absent : find (is_at path) (map (document_in c.self.inside.pool) c.self.inside.documents.items) ≡ None =
    ap (λ (h : Holdings). find (is_at path) h.store.documents) c.self.view_is ∙ c.requires.absent in
    let prepared : IsPrepared (paths_in c.self.inside.paths.keys) path (chars c.args.uri.now) (chars c.args.language.now) c.args.version opening =
    subst (λ (v : ℤ). IsPrepared (paths_in c.self.inside.paths.keys) path (chars c.args.uri.now) (chars c.args.language.now) v opening) (to_z-of_z w32 c.args.version c.ranges.version) c.in_ok-opening.ensures.prepared in
    admitted_store c.self.inside.paths.keys c.reserve-2.new.self.keys c.enter.new.paths.keys c.self.inside.files.items c.reserve-3.new.self.items c.enter.new.files.items
    c.self.inside.documents.items c.reserve.new.self.items c.append.new.documents.items kept
    c.self.inside.pool c.intern.new.self path (chars c.args.text.now) c.keep-key.result.0 c.self.invariant.0
    c.reserve-2.ensures.keys c.reserve-3.ensures.items c.reserve.ensures.items (ap path_in c.keep-key.ensures.key ∙ prepared.key) prepared.path_is c.enter.ensures.paths c.enter.ensures.files
    (c.append.ensures ∙ ap (λ k. c.reserve.new.self.items ++ k ∷ []) c.keep-key.ensures.kept)
    absent prepared.number_is prepared.few c.in_ok-text.ensures.interned
    c.args.self.now (chars c.args.uri.now) (chars c.args.language.now) c.args.version c.self.view_is prepared.uri_is prepared.language_is prepared.version_is
