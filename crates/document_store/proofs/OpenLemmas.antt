-- The open document at the path of a number, and that each path has one.
use Rattle.std.proofs.Common.{◌≡◌, ◌∙◌, ℕ, zero, suc, ◌<◌, List, [], ◌∷◌, Option, Some, None, refl, sym, ap, find, map, length, get_or, subst, arith}
use Rattle.std.specs.declared.string.String.{String}
use Rattle.std.specs.declared.alloc.Global.{Global}
use Rattle.text_pool.specs.Pool.{Pool}
use Rattle.document_store.specs.Holdings.{Holdings}
use Rattle.document_store.specs.Shown.{HaveNumbers}
use Rattle.document_store.specs.Inside.{AreNumbered, document_in, holdings_of, paths_in, IsKept}
use Rattle.document_store.specs.declared.document.MemberText.{MemberText}
use Rattle.document_store.specs.declared.kept.KeptDocument.{KeptDocument}
use Rattle.std.specs.Prelude.{position, slice_get}
use Rattle.std.specs.Option.{option_and_then}
use Rattle.std.proofs.lemmas.List.Folds.{find_at}
use Rattle.document_store.specs.Store.{OpenDocument, is_at, number_of}
use Rattle.document_store.proofs.DocumentLemmas.{find-None, position-first}

-- the document at the place of a path is the one of the path
pub found_at : (path : Option (List ℕ)) (documents : List OpenDocument) (at : ℕ) → option_and_then (λ p. position (is_at p) documents) path ≡ Some at
    → option_and_then (λ p. find (is_at p) documents) path ≡ slice_get documents at
found_at None documents at place = cc
found_at (Some path) [] at place = cc
found_at (Some path) (first ∷ others) at place =
    find_at (is_at path) (first ∷ others) ∙ ap (slice_get (first ∷ others)) (position-first (is_at path) (first ∷ others) at first place)

-- where a path has no place, none is open
pub none_at : (path : Option (List ℕ)) (documents : List OpenDocument) → option_and_then (λ p. position (is_at p) documents) path ≡ None
    → option_and_then (λ p. find (is_at p) documents) path ≡ None
none_at None documents none = refl
none_at (Some path) documents none = find-None (is_at path) documents none

-- the path of a document at a place has a number
number_at : (paths : List (List ℕ)) (pool : Pool) (xs : List KeptDocument) → AreNumbered paths xs → (document : OpenDocument) (i : ℕ) → i < length (map (document_in pool) xs)
    → get_or (map (document_in pool) xs) i document ≡ document → (n : ℕ) × (number_of paths document.path ≡ Some n)
number_at paths pool [] numbered document i within here = absurd (omega arith)
number_at paths pool (kept ∷ rest) numbered document zero within here =
    (kept.number.0, ap (λ (d : OpenDocument). number_of paths d.path) (sym here) ∙ numbered.0)
number_at paths pool (kept ∷ rest) numbered document (suc i) within here = number_at paths pool rest numbered.1 document i (omega arith) here

pub HaveNumbers-kept : (h : Holdings) (keys : List (String Global)) (files : List (Option MemberText)) (xs : List KeptDocument) (pool : Pool)
    → holdings_of keys files xs pool ≡ h → IsKept keys files xs pool → HaveNumbers h.store
HaveNumbers-kept h keys files xs pool view kept =
    subst (λ (g : Holdings). HaveNumbers g.store) view
    (λ document among. number_at (paths_in keys) pool xs kept.numbered document among.0 among.1 among.2)
