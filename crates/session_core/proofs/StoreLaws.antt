-- How many documents are open: at most so many, whatever is asked of the store; and which refusal a call gives.
use Rattle.std.proofs.Common.{◌≡◌, ◌≢◌, ℕ, ℤ, ◌≤◌, Bool, true, false, List, [], ◌∷◌, ◌++◌, length, Option, Some, None, Result, Ok, Err, refl, ap, arith, nat_le, filter, not, cond}
use Rattle.std.proofs.lemmas.Bool.{leb-false}
use Rattle.std.proofs.lemmas.List.{length-append, length-map}
use Rattle.std.proofs.lemmas.List.Filters.{length-filter_both}
use Rattle.hl_base.specs.declared.edit.Edit.{Edit}
use Rattle.file_uri.specs.Paths.{path_of}
use Rattle.document_store.specs.Store.{Store, OpenDocument, document_of, is_at}
use Rattle.document_store.specs.Changes.{opened, changed, closed, Answers, with_document, with_text, without}
use Rattle.document_store.specs.Edits.{and_then}
use Rattle.document_store.specs.declared.limits.TheConstants.{MOST_DOCUMENTS}
use Rattle.document_store.specs.declared.fault.StoreFault.{StoreFault}
use Rattle.document_store.specs.declared.fault.StoreFault.TheVariants.{AlreadyOpen, BadUri, NotOpen, OutOfMemory, TextTooLong, TooMany, BadRange, LibraryTooLarge}

-- what was asked is refused as the call says, but for want of memory
pub Answers-refused : (asked : Result Store StoreFault) (fault : StoreFault) (new : Store) → Answers {T = Unit {0}} asked (Err fault) new → fault ≢ OutOfMemory → asked ≡ Err fault
Answers-refused asked AlreadyOpen new answers other = answers
Answers-refused asked BadUri new answers other = answers
Answers-refused asked NotOpen new answers other = answers
Answers-refused asked TextTooLong new answers other = answers
Answers-refused asked TooMany new answers other = answers
Answers-refused asked (BadRange n) new answers other = answers
Answers-refused asked LibraryTooLarge new answers other = answers
Answers-refused asked OutOfMemory new answers other = absurd (other refl)

-- no more documents are open than may be
abbrev pub IsFew : Store → Type 0
IsFew store = length store.documents ≤ MOST_DOCUMENTS

few-room : (path text : List ℕ) (s new : Store) (document : OpenDocument) (taken full long : Bool) → nat_le MOST_DOCUMENTS (length s.documents) ≡ full
    → cond taken (Err AlreadyOpen) (cond full (Err TooMany) (cond long (Err TextTooLong) (Ok (with_document s document)))) ≡ Ok new → IsFew new
few-room path text s new document true full long fills is = cc
few-room path text s new document false true long fills is = cc
few-room path text s new document false false true fills is = cc
few-room path text s new document false false false fills is =
    let room = leb-false MOST_DOCUMENTS (length s.documents) fills in
    let same : with_document s document ≡ new = cc in
    let size : length (s.documents ++ document ∷ []) ≡ length new.documents = ap (λ (z : Store). length z.documents) same in
    omega (arith, length-append s.documents (document ∷ []))

-- opening a document leaves few open
pub few_opened : (s new : Store) (uri language : List ℕ) (version : ℤ) (text : List ℕ) → opened s uri language version text ≡ Ok new → IsFew new
few_opened s new uri language version text is = by_path (path_of uri) refl where
  by_path : (path : Option (List ℕ)) → path_of uri ≡ path → IsFew new
  by_path None e = let h = rw e at is in cc
  by_path (Some path) e = let h = rw e at is in few-room path text s new _ _ _ _ refl h

-- a change leaves as many open
length-with_text : (s : Store) (path : List ℕ) (version : ℤ) (text : List ℕ) → length (with_text s path version text).documents ≡ length s.documents
length-with_text s path version text = length-map s.documents _

few-text : (path : List ℕ) (version : ℤ) (s new : Store) (text : Result (List ℕ) StoreFault) → and_then (λ changed. Ok (with_text s path version changed)) text ≡ Ok new → IsFew s → IsFew new
few-text path version s new (Err fault) is few = cc
few-text path version s new (Ok text) is few =
    let same : with_text s path version text ≡ new = cc in
    let size : length (with_text s path version text).documents ≡ length new.documents = ap (λ (z : Store). length z.documents) same in
    omega (arith, length-with_text s path version text)

pub few_changed : (s new : Store) (uri : List ℕ) (version : ℤ) (edits : List Edit) → changed s uri version edits ≡ Ok new → IsFew s → IsFew new
few_changed s new uri version edits is few = by_path (path_of uri) refl where
  by_document : (path : List ℕ) (document : Option OpenDocument) → path_of uri ≡ Some path → document_of s path ≡ document → IsFew new
  by_document path None e f = let h = rw e at is in let k = rw f at h in cc
  by_document path (Some document) e f = let h = rw e at is in let k = rw f at h in few-text path version s new _ k few

  by_path : (path : Option (List ℕ)) → path_of uri ≡ path → IsFew new
  by_path None e = let h = rw e at is in cc
  by_path (Some path) e = by_document path (document_of s path) e refl

-- a document that leaves leaves fewer
length-kept : (p : OpenDocument → Bool) (documents : List OpenDocument) → length (filter p documents) ≤ length documents
length-kept p documents = omega (arith, length-filter_both p (λ d. not (p d)) (λ d. refl) documents)

few-left : (path : List ℕ) (s new : Store) (taken : Bool) → cond taken (Ok (without s path)) (Err NotOpen) ≡ Ok new → IsFew s → IsFew new
few-left path s new false is few = cc
few-left path s new true is few =
    let same : without s path ≡ new = cc in
    let size : length (without s path).documents ≡ length new.documents = ap (λ (z : Store). length z.documents) same in
    omega (arith, length-kept (λ d. not (is_at path d)) s.documents)

pub few_closed : (s new : Store) (uri : List ℕ) → closed s uri ≡ Ok new → IsFew s → IsFew new
few_closed s new uri is few = by_path (path_of uri) refl where
  by_path : (path : Option (List ℕ)) → path_of uri ≡ path → IsFew new
  by_path None e = let h = rw e at is in cc
  by_path (Some path) e = let h = rw e at is in few-left path s new _ h few
