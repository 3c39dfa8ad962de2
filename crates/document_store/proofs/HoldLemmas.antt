-- The texts of the open documents and of files in the pool, and how many have each.
use Rattle.std.proofs.Common.{◌≡◌, ◌∙◌, ℕ, zero, suc, ◌+◌, ◌<◌, cond, Some, None, Option, List, [], ◌∷◌, length, get_or, map, refl, sym, inl, inr, ap, subst, arith}
use Rattle.std.specs.Prelude.{◌==◌, count_by}
use Rattle.std.specs.Str.{bytes_eq}
use Rattle.std.specs.declared.string.String.{String}
use Rattle.std.specs.declared.alloc.Global.{Global}
use Rattle.std.proofs.lemmas.Bool.{cases_eq, cases_Bool, eq-eqb, ne_eqb}
use Rattle.std.proofs.lemmas.List.Sums.{sum_by-cons}
use Rattle.std.proofs.lemmas.Slice.Eq.{bytes_eq-Decides}
use Rattle.text_pool.specs.Pool.{Pool, IsLive, text_of, TextsDiffer, AllOwned, HasText}
use Rattle.document_store.specs.Store.{OpenDocument, File, Readable}
use Rattle.document_store.specs.Holdings.{Holdings}
use Rattle.document_store.specs.Shown.{HasTexts, HasFileTexts, HasNoOtherTexts, IsOwnedByHolders, reads}
use Rattle.document_store.specs.Inside.{document_in, file_in, holdings_of, has_text, reads_text, IsKept}
use Rattle.document_store.specs.declared.document.MemberText.{MemberText}
use Rattle.document_store.specs.declared.document.MemberText.TheVariants as member
use Rattle.document_store.specs.declared.kept.KeptDocument.{KeptDocument}
use Rattle.document_store.proofs.OwnerLemmas.{IsLive-owned}
use Rattle.document_store.proofs.DocumentLemmas.{bit}
use Rattle.document_store.proofs.FileLemmas.{reads-cons, owner_by-own}

-- each document's text is live
AreLive : Pool → List KeptDocument → Type 0
AreLive pool [] = Unit {0}
AreLive pool (kept ∷ rest) = IsLive pool kept.text.0 × AreLive pool rest

count-cons : (id : ℕ) (kept : KeptDocument) (rest : List KeptDocument) →
    count_by (has_text id) (kept ∷ rest) ≡ bit (has_text id kept) + count_by (has_text id) rest
count-cons id kept rest = sum_by-cons (λ k. cond (has_text id k) 1 0) kept rest

-- where each text that a document has is live
AreLive-owned : (pool : Pool) (xs : List KeptDocument) → ((id : ℕ) → 0 < count_by (has_text id) xs → IsLive pool id) → AreLive pool xs
unfolding AreLive
AreLive-owned pool [] owned = tt
AreLive-owned pool (kept ∷ rest) owned =
    let itself : bit (has_text kept.text.0 kept) ≡ 1 = ap bit (eq-eqb kept.text.0 kept.text.0 refl) in (
      owned kept.text.0 (omega (arith, itself, count-cons kept.text.0 kept rest)),
      AreLive-owned pool rest (λ id some. owned id (omega (arith, some, count-cons id kept rest))),
    )

-- texts of live numbers are the same exactly where the numbers are
same_test : (pool : Pool) → TextsDiffer pool → (id other : ℕ) → IsLive pool id → IsLive pool other →
    bytes_eq (text_of pool id) (text_of pool other) ≡ (id == other)
same_test pool differ id other live other_live = elim (cases_eq id other) [
  | inl same ↦ (bytes_eq-Decides (text_of pool id) (text_of pool other)).1 (ap (text_of pool) same) ∙ sym (eq-eqb id other same)
  | inr apart ↦ elim (cases_Bool (bytes_eq (text_of pool id) (text_of pool other))) [
    | inl same ↦ absurd (apart ((differ id other live other_live).0 ((bytes_eq-Decides (text_of pool id) (text_of pool other)).0 same)))
    | inr unlike ↦ unlike ∙ sym (ne_eqb id other apart)
  ]
]

-- as many documents have a text as have its number
count_of-text : (pool : Pool) → TextsDiffer pool → (xs : List KeptDocument) → AreLive pool xs → (id : ℕ) → IsLive pool id →
    count_by (λ (d : OpenDocument). bytes_eq d.text (text_of pool id)) (map (document_in pool) xs) ≡ count_by (has_text id) xs
unfolding AreLive
count_of-text pool differ [] live id here = refl
count_of-text pool differ (kept ∷ rest) live id here =
    sum_by-cons (λ (d : OpenDocument). cond (bytes_eq d.text (text_of pool id)) 1 0) (document_in pool kept) (map (document_in pool) rest)
    ∙ ap (λ b. bit b + count_by (λ (d : OpenDocument). bytes_eq d.text (text_of pool id)) (map (document_in pool) rest)) (same_test pool differ kept.text.0 id live.0 here)
    ∙ ap (λ n. bit (has_text id kept) + n) (count_of-text pool differ rest live.1 id here)
    ∙ sym (count-cons id kept rest)

-- each document's text is in the pool
text_at : (pool : Pool) (xs : List KeptDocument) → AreLive pool xs → (document : OpenDocument) (i : ℕ) → i < length (map (document_in pool) xs) →
    get_or (map (document_in pool) xs) i document ≡ document → (id : ℕ) × HasText pool document.text id
unfolding AreLive
text_at pool [] live document i within here = absurd (omega arith)
text_at pool (kept ∷ rest) live document zero within here = (kept.text.0, record { live = live.0; is = ap (λ (d : OpenDocument). d.text) here })
text_at pool (kept ∷ rest) live document (suc i) within here = text_at pool rest live.1 document i (omega arith) here

-- ---- files

-- each file's text is live
AreFilesLive : Pool → List (Option MemberText) → Type 0
AreFilesLive pool [] = Unit {0}
AreFilesLive pool (None ∷ rest) = AreFilesLive pool rest
AreFilesLive pool (Some member.Unreadable ∷ rest) = AreFilesLive pool rest
AreFilesLive pool (Some (member.File id) ∷ rest) = IsLive pool id.0 × AreFilesLive pool rest

-- where each text that a file has is live
AreFilesLive-owned : (pool : Pool) (files : List (Option MemberText)) → ((id : ℕ) → 0 < count_by (reads_text id) files → IsLive pool id) → AreFilesLive pool files
unfolding AreFilesLive
AreFilesLive-owned pool [] owned = tt
AreFilesLive-owned pool (None ∷ rest) owned = AreFilesLive-owned pool rest (λ id some. owned id (omega (arith, some, reads-cons id None rest)))
AreFilesLive-owned pool (Some member.Unreadable ∷ rest) owned =
    AreFilesLive-owned pool rest (λ id some. owned id (omega (arith, some, reads-cons id (Some member.Unreadable) rest)))
AreFilesLive-owned pool (Some (member.File text) ∷ rest) owned = (
  owned text.0 (omega (arith, owner_by-own text, reads-cons text.0 (Some (member.File text)) rest)),
  AreFilesLive-owned pool rest (λ id some. owned id (omega (arith, some, reads-cons id (Some (member.File text)) rest))),
)

seen-cons : (text : List ℕ) (file : Option File) (rest : List (Option File)) → count_by (reads text) (file ∷ rest) ≡ bit (reads text file) + count_by (reads text) rest
seen-cons text file rest = sum_by-cons (λ f. cond (reads text f) 1 0) file rest

-- as many files have a text as have its number
count_of-read : (pool : Pool) → TextsDiffer pool → (files : List (Option MemberText)) → AreFilesLive pool files → (id : ℕ) → IsLive pool id →
    count_by (reads (text_of pool id)) (map (file_in pool) files) ≡ count_by (reads_text id) files
unfolding AreFilesLive
count_of-read pool differ [] live id here = refl
count_of-read pool differ (None ∷ rest) live id here =
    seen-cons (text_of pool id) None (map (file_in pool) rest)
    ∙ ap (λ n. bit (reads (text_of pool id) None) + n) (count_of-read pool differ rest live id here)
    ∙ sym (reads-cons id None rest)
count_of-read pool differ (Some member.Unreadable ∷ rest) live id here =
    seen-cons (text_of pool id) (file_in pool (Some member.Unreadable)) (map (file_in pool) rest)
    ∙ ap (λ n. bit (reads (text_of pool id) (file_in pool (Some member.Unreadable))) + n) (count_of-read pool differ rest live id here)
    ∙ sym (reads-cons id (Some member.Unreadable) rest)
count_of-read pool differ (Some (member.File text) ∷ rest) live id here =
    seen-cons (text_of pool id) (Some (Readable (text_of pool text.0))) (map (file_in pool) rest)
    ∙ ap (λ b. bit b + count_by (reads (text_of pool id)) (map (file_in pool) rest)) (same_test pool differ text.0 id live.0 here)
    ∙ ap (λ n. bit (reads_text id (Some (member.File text))) + n) (count_of-read pool differ rest live.1 id here)
    ∙ sym (reads-cons id (Some (member.File text)) rest)

-- each file's text is in the pool
file_text_at : (pool : Pool) (files : List (Option MemberText)) → AreFilesLive pool files → (text : List ℕ) (i : ℕ) → i < length (map (file_in pool) files) →
    get_or (map (file_in pool) files) i (Some (Readable text)) ≡ Some (Readable text) → (id : ℕ) × HasText pool text id
unfolding AreFilesLive
file_text_at pool [] live text i within here = absurd (omega arith)
file_text_at pool (None ∷ rest) live text zero within here = absurd cc
file_text_at pool (Some member.Unreadable ∷ rest) live text zero within here = absurd cc
file_text_at pool (Some (member.File id) ∷ rest) live text zero within here =
    let is : text_of pool id.0 ≡ text = cc in (id.0, record { live = live.0; is = is })
file_text_at pool (None ∷ rest) live text (suc i) within here = file_text_at pool rest live text i (omega arith) here
file_text_at pool (Some member.Unreadable ∷ rest) live text (suc i) within here = file_text_at pool rest live text i (omega arith) here
file_text_at pool (Some (member.File id) ∷ rest) live text (suc i) within here = file_text_at pool rest live.1 text i (omega arith) here

-- ---- both

module _ (h : Holdings) (keys : List (String Global)) (files : List (Option MemberText)) (xs : List KeptDocument) (pool : Pool) (view : holdings_of keys files xs pool ≡ h)
    (kept : IsKept keys files xs pool) where
  are_live : AreLive pool xs
  are_live = AreLive-owned pool xs (λ id some. IsLive-owned pool id (omega (arith, some, kept.owned id)))

  are_files_live : AreFilesLive pool files
  are_files_live = AreFilesLive-owned pool files (λ id some. IsLive-owned pool id (omega (arith, some, kept.owned id)))

  pub HasTexts-kept : HasTexts h
  HasTexts-kept = subst HasTexts view (λ document among. text_at pool xs are_live document among.0 among.1 among.2)

  pub HasFileTexts-kept : HasFileTexts h
  HasFileTexts-kept = subst HasFileTexts view (λ text among. file_text_at pool files are_files_live text among.0 among.1 among.2)

  module _ (differ : TextsDiffer pool) where
    held : (id : ℕ) → IsLive pool id →
        count_by (λ (d : OpenDocument). bytes_eq d.text (text_of pool id)) (map (document_in pool) xs) + count_by (reads (text_of pool id)) (map (file_in pool) files)
        ≡ count_by (has_text id) xs + count_by (reads_text id) files
    held id live =
        ap (λ n. n + count_by (reads (text_of pool id)) (map (file_in pool) files)) (count_of-text pool differ xs are_live id live)
        ∙ ap (λ n. count_by (has_text id) xs + n) (count_of-read pool differ files are_files_live id live)

    pub IsOwnedByHolders-kept : IsOwnedByHolders h
    IsOwnedByHolders-kept = subst IsOwnedByHolders view (λ id live. kept.owned id ∙ sym (held id live))

    pub HasNoOtherTexts-kept : AllOwned pool → HasNoOtherTexts h
    HasNoOtherTexts-kept owned =
        subst HasNoOtherTexts view (λ id live. subst (λ (n : ℕ). 0 < n) (kept.owned id ∙ sym (held id live)) (owned id live))

    pub TextsDiffer-kept : TextsDiffer h.pool
    TextsDiffer-kept = subst (λ (g : Holdings). TextsDiffer g.pool) view differ
