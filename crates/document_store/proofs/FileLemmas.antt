-- What is kept of files: their texts in the pool, how many they are, and how many bytes they have.
use Rattle.std.proofs.Common.{◌≡◌, ◌∙◌, ℕ, ◌+◌, ◌<◌, ◌≤◌, Bool, true, false, cond, List, [], ◌∷◌, ◌++◌, length, get_or, set, map, refl, sym, ap, subst, arith, Some, None, Option}
use Rattle.std.specs.Prelude.{is_some, count_by}
use Rattle.std.proofs.lemmas.Bool.{eq-eqb}
use Rattle.std.proofs.lemmas.List.Sums.{sum_by-cons, sum_by_push, sum_by-set, get_or-le-sum_by}
use Rattle.hl_base.specs.declared.place.TextId.{TextId}
use Rattle.text_pool.specs.Pool.{Pool, owners_of}
use Rattle.document_store.specs.Store.{File, Readable}
use Rattle.document_store.specs.Members.{size_kept, member_count, member_bytes}
use Rattle.document_store.specs.Inside.{file_in, reads_text, owner_by, has_text, AreOwned, AreWithin, IsOwnedIn, TextsStay}
use Rattle.document_store.specs.declared.document.MemberText.{MemberText}
use Rattle.document_store.specs.declared.document.MemberText.TheVariants as member
use Rattle.document_store.specs.declared.kept.KeptDocument.{KeptDocument}
use Rattle.document_store.specs.declared.members.Totals.{Totals}
use Rattle.document_store.proofs.DocumentLemmas.{bit}

-- ---- how many files have a text

pub reads-cons : (id : ℕ) (file : Option MemberText) (files : List (Option MemberText)) →
    count_by (reads_text id) (file ∷ files) ≡ owner_by id file + count_by (reads_text id) files
reads-cons id file files = sum_by-cons (λ f. cond (reads_text id f) 1 0) file files

pub reads-pushed : (id : ℕ) (files : List (Option MemberText)) (file : Option MemberText) →
    count_by (reads_text id) (files ++ file ∷ []) ≡ count_by (reads_text id) files + owner_by id file
reads-pushed id files file = sum_by_push (λ f. cond (reads_text id f) 1 0) files file

pub reads-set : (id : ℕ) (files : List (Option MemberText)) (at : ℕ) (file old : Option MemberText) → at < length files → old ≡ get_or files at old →
    count_by (reads_text id) (set files at file) + owner_by id old ≡ count_by (reads_text id) files + owner_by id file
reads-set id files at file old within here =
    ap (λ o. count_by (reads_text id) (set files at file) + owner_by id o) here
    ∙ sum_by-set (λ f. cond (reads_text id f) 1 0) files at file old within

-- a file has its own text
pub owner_by-own : (id : TextId) → owner_by id.0 (Some (member.File id)) ≡ 1
owner_by-own id = ap bit (eq-eqb id.0 id.0 refl)

-- nothing beside a new path has no text
pub reads-beside : (id : ℕ) (b : Bool) (files : List (Option MemberText)) → count_by (reads_text id) (cond b files (files ++ None ∷ [])) ≡ count_by (reads_text id) files
reads-beside id true files = refl
reads-beside id false files = let more = reads-pushed id files None in omega arith

-- the text of a file has an owner
pub IsOwnedIn-at : (pool : Pool) (files : List (Option MemberText)) (documents : List KeptDocument) → AreOwned pool files documents →
    (at : ℕ) (file : Option MemberText) → at < length files → file ≡ get_or files at file → IsOwnedIn pool file
IsOwnedIn-at pool files documents owned at None within here = tt
IsOwnedIn-at pool files documents owned at (Some member.Unreadable) within here = tt
IsOwnedIn-at pool files documents owned at (Some (member.File id)) within here =
    let file : Option MemberText = Some (member.File id) in
    let owners : owners_of pool id.0 ≡ count_by (has_text id.0) documents + count_by (reads_text id.0) files = owned id.0 in
    let one : owner_by id.0 (get_or files at file) ≤ count_by (reads_text id.0) files = get_or-le-sum_by (λ f. cond (reads_text id.0 f) 1 0) files at file within in
    let own : owner_by id.0 (get_or files at file) ≡ 1 = ap (owner_by id.0) (sym here) ∙ owner_by-own id in
    omega arith

-- ---- texts that stay

pub file_stays : (old new : Pool) (file : Option MemberText) → TextsStay old new (λ id. owner_by id file) → file_in new file ≡ file_in old file
file_stays old new None texts = refl
file_stays old new (Some member.Unreadable) texts = refl
file_stays old new (Some (member.File id)) texts =
    let own : owner_by id.0 (Some (member.File id)) ≡ 1 = owner_by-own id in
    ap (λ text. Some (Readable text)) (texts.stay id.0 (omega arith))

-- files whose texts stay are what they were
pub files_stay : (old new : Pool) (files : List (Option MemberText)) → TextsStay old new (λ id. count_by (reads_text id) files) →
    map (file_in new) files ≡ map (file_in old) files
files_stay old new [] texts = refl
files_stay old new (file ∷ files) texts =
    ap (λ f. f ∷ map (file_in new) files)
    (file_stays old new file (record { stay = λ id own. texts.stay id (omega (arith, own, reads-cons id file files)) }))
    ∙ ap (λ fs. file_in old file ∷ fs)
    (files_stay old new files (record { stay = λ id some. texts.stay id (omega (arith, some, reads-cons id file files)) }))

-- ---- totals

-- files are counted alike where they are the same
pub AreWithin-same : (totals : Totals) (files others : List (Option File)) → others ≡ files → AreWithin totals files → AreWithin totals others
AreWithin-same totals files others same within = subst (AreWithin totals) (sym same) within

-- nothing beside a new path counts for nothing
pub AreWithin-beside : (totals : Totals) (b : Bool) (files : List (Option File)) → AreWithin totals files → AreWithin totals (cond b files (files ++ None ∷ []))
AreWithin-beside totals true files within = within
AreWithin-beside totals false files within =
    let counted = within.counted in
    record {
      counted = record {
        files_are =
            let more : member_count (files ++ None ∷ []) ≡ member_count files + 0 = sum_by_push (λ f. cond (is_some f) 1 0) files None in
            let are : totals.files ≡ member_count files = counted.files_are in omega arith;
        bytes_are =
            let more : member_bytes (files ++ None ∷ []) ≡ member_bytes files + 0 = sum_by_push size_kept files None in
            let are : totals.bytes ≡ member_bytes files = counted.bytes_are in omega arith;
      };
      fit = within.fit;
    }
