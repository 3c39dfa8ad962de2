use Rattle.std.proofs.Common.{◌≡◌, ◌∙◌, None, refl, ap}
use Rattle.std.specs.Prelude.{chars}
use Rattle.document_store.specs.Store.{number_of}
use Rattle.document_store.specs.Holdings.{Holdings}
use Rattle.document_store.specs.Inside.{paths_in}
use Rattle.document_store.proofs.MemberLemmas.{IsKept-added, added_within, added_member, added_paths, added_beside}
use Rattle.document_store.proofs.CallLemmas.{sound_again}
use Rattle.document_store.proofs.store.DocumentStore.add_file.Goals as goal

pub invariant_of-self-in_err-file : goal.invariant_of-self-in_err-file
invariant_of-self-in_err-file c =
    sound_again c.self.inside.paths.keys c.reserve.new.self.keys c.self.inside.files.items c.reserve-2.new.self.items c.self.inside.documents.items c.self.inside.documents.items
    c.self.inside.pool c.take_in.new.pool c.self.inside.totals
    c.reserve.ensures.keys c.reserve-2.ensures.items refl c.in_err-file.ensures.kept c.self.invariant

pub invariant_of-self-2 : goal.invariant_of-self-2
invariant_of-self-2 c =
    let path = chars c.args.path.now in
    let none : number_of (paths_in c.self.inside.paths.keys) path ≡ None = ap (λ (h : Holdings). number_of h.store.paths path) c.self.view_is ∙ c.requires.absent in
    let entered = added_paths c.self.inside.paths.keys c.reserve.new.self.keys c.enter.new.paths.keys path c.in_ok-key.key c.reserve.ensures.keys (ap chars c.in_ok-key.ensures.ok) c.enter.ensures.paths in
    let beside = added_beside c.self.inside.paths.keys c.reserve.new.self.keys path c.in_ok-key.key c.self.inside.files.items c.reserve-2.new.self.items c.enter.new.files.items _
    c.reserve.ensures.keys (ap chars c.in_ok-key.ensures.ok) c.reserve-2.ensures.items c.enter.ensures.files in (
      IsKept-added c.self.inside.paths.keys c.enter.new.paths.keys c.self.inside.files.items c.enter.new.files.items c.self.inside.documents.items c.self.inside.pool c.take_in.new.pool
          path _ c.in_ok-file.file c.self.invariant.0 none c.in_ok-number.ensures.few entered beside c.in_ok-file.ensures.taken,
      added_within c.self.inside.paths.keys c.enter.new.paths.keys c.self.inside.files.items c.enter.new.files.items c.self.inside.documents.items c.self.inside.pool c.take_in.new.pool
          path _ c.in_ok-file.file c.self.invariant.0 none c.in_ok-number.ensures.few entered beside c.in_ok-file.ensures.taken
          c.args.self.now c.self.view_is c.args.totals c.requires.within,
    )

pub returns-clause-added : goal.returns-clause-added
returns-clause-added c =
    let path = chars c.args.path.now in
    let none : number_of (paths_in c.self.inside.paths.keys) path ≡ None = ap (λ (h : Holdings). number_of h.store.paths path) c.self.view_is ∙ c.requires.absent in
    let entered = added_paths c.self.inside.paths.keys c.reserve.new.self.keys c.enter.new.paths.keys path c.in_ok-key.key c.reserve.ensures.keys (ap chars c.in_ok-key.ensures.ok) c.enter.ensures.paths in
    let beside = added_beside c.self.inside.paths.keys c.reserve.new.self.keys path c.in_ok-key.key c.self.inside.files.items c.reserve-2.new.self.items c.enter.new.files.items _
    c.reserve.ensures.keys (ap chars c.in_ok-key.ensures.ok) c.reserve-2.ensures.items c.enter.ensures.files in
    added_member c.self.inside.paths.keys c.enter.new.paths.keys c.self.inside.files.items c.enter.new.files.items c.self.inside.documents.items c.self.inside.pool c.take_in.new.pool
    path _ c.in_ok-file.file c.self.invariant.0 none c.in_ok-number.ensures.few entered beside c.in_ok-file.ensures.taken
    c.args.self.now c.self.view_is
