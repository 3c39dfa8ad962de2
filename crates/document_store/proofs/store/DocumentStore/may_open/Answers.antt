use Rattle.std.proofs.Common.{ap, sym, ◌∙◌, true, false, refl, length}
use Rattle.std.specs.Prelude.{chars, nat_lt}
use Rattle.std.proofs.lemmas.Bool.{lt-ltb, le-ltb}
use Rattle.std.proofs.lemmas.Str.{encodes-chars}
use Rattle.text_pool.specs.declared.pool.TheConstants.{LONGEST_TEXT}
use Rattle.document_store.specs.Store.{is_at}
use Rattle.document_store.proofs.DocumentLemmas.{is_some-find}
use Rattle.document_store.proofs.StoreLemmas.{may_open_is, full_is, room_is}
use Rattle.document_store.proofs.store.DocumentStore.may_open.Goals as goal

pub returns-then-is_some : goal.returns-then-is_some
returns-then-is_some c =
    may_open_is c.args.self.now.store (chars c.args.path.now) (chars c.args.text.now) true _ _
    (is_some-find (is_at (chars c.args.path.now)) c.args.self.now.store.documents c.find.result c.find.ensures ∙ sym c.if-is_some.ensures)
    refl
    refl

pub returns-then-as_slice-ge-MOST_DOCUMENTS : goal.returns-then-as_slice-ge-MOST_DOCUMENTS
returns-then-as_slice-ge-MOST_DOCUMENTS c =
    may_open_is c.args.self.now.store (chars c.args.path.now) (chars c.args.text.now) false true _
    (is_some-find (is_at (chars c.args.path.now)) c.args.self.now.store.documents c.find.result c.find.ensures ∙ sym c.if-is_some.ensures)
    (full_is c.args.self.now c.self.inside.paths.keys c.self.inside.files.items c.self.inside.documents.items c.self.inside.pool c.self.view_is c.as_slice.result.now c.as_slice.ensures.value c.if-as_slice-ge-MOST_DOCUMENTS.true)
    refl

pub returns-then-text-gt-LONGEST_TEXT : goal.returns-then-text-gt-LONGEST_TEXT
returns-then-text-gt-LONGEST_TEXT c =
    may_open_is c.args.self.now.store (chars c.args.path.now) (chars c.args.text.now) false false true
    (is_some-find (is_at (chars c.args.path.now)) c.args.self.now.store.documents c.find.result c.find.ensures ∙ sym c.if-is_some.ensures)
    (room_is c.args.self.now c.self.inside.paths.keys c.self.inside.files.items c.self.inside.documents.items c.self.inside.pool c.self.view_is c.as_slice.result.now c.as_slice.ensures.value c.if-as_slice-ge-MOST_DOCUMENTS.false)
    (ap (λ t. nat_lt LONGEST_TEXT (length t)) (encodes-chars c.args.text.now c.utf8.text) ∙ lt-ltb LONGEST_TEXT (length c.args.text.now) c.if-text-gt-LONGEST_TEXT.true)

pub returns : goal.returns
returns c =
    may_open_is c.args.self.now.store (chars c.args.path.now) (chars c.args.text.now) false false false
    (is_some-find (is_at (chars c.args.path.now)) c.args.self.now.store.documents c.find.result c.find.ensures ∙ sym c.if-is_some.ensures)
    (room_is c.args.self.now c.self.inside.paths.keys c.self.inside.files.items c.self.inside.documents.items c.self.inside.pool c.self.view_is c.as_slice.result.now c.as_slice.ensures.value c.if-as_slice-ge-MOST_DOCUMENTS.false)
    (ap (λ t. nat_lt LONGEST_TEXT (length t)) (encodes-chars c.args.text.now c.utf8.text) ∙ le-ltb LONGEST_TEXT (length c.args.text.now) c.if-text-gt-LONGEST_TEXT.false)
