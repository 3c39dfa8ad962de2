-- A store after a file was kept or dropped.
use Rattle.std.proofs.Common.{◌≡◌, ◌∙◌, ℕ, zero, suc, ◌+◌, ◌-◌, ◌<◌, ◌≤◌, ◌^◌, Bool, true, false, cond, List, [], ◌∷◌, ◌++◌, length, get_or, set, take, drop, map, refl, sym, ap, subst, arith, Some, None, Option}
use Rattle.std.specs.Prelude.{◌&&◌, nat_le, IfSome, is_some, count_by, Ok, Err}
use Rattle.std.specs.declared.string.String.{String}
use Rattle.std.specs.declared.alloc.Global.{Global}
use Rattle.std.proofs.lemmas.Bool.{leb-true, le-leb}
use Rattle.std.proofs.lemmas.List.{map-append, map-set, set-set, length-set, length-map, length_push, get_or-map, get_or-set_same}
use Rattle.std.proofs.lemmas.List.Sums.{sum_by_push, sum_by-set}
use Rattle.hl_base.specs.declared.place.TextId.{TextId}
use Rattle.text_pool.specs.Pool.{Pool, text_of, owners_of, IsInterned}
use Rattle.text_pool.proofs.CallerLemmas.{IsInterned-text}
use Rattle.document_store.specs.Store.{Store, File, Readable, Unreadable, number_of}
use Rattle.document_store.specs.Holdings.{Holdings}
use Rattle.document_store.specs.Changes.{with_path, beside_path}
use Rattle.document_store.specs.Members.{most_members, most_bytes, size_of, size_kept, member_count, member_bytes, may_keep, fits, placed, with_file, file_set, file_dropped, files_dropped}
use Rattle.document_store.specs.Shown.{PathsDiffer}
use Rattle.document_store.specs.Inside.{document_in, file_in, path_in, paths_in, holdings_of, reads_text, owner_by, has_text, AreNumbered, AreOwned, AreCounted, AreWithin, IsKept, IsOwnedIn, IsTakenIn, IsLetGo}
use Rattle.document_store.specs.declared.document.MemberText.{MemberText}
use Rattle.document_store.specs.declared.document.MemberText.TheVariants as member
use Rattle.document_store.specs.declared.kept.KeptDocument.{KeptDocument}
use Rattle.document_store.specs.declared.members.Totals.{Totals}
use Rattle.document_store.specs.declared.fault.StoreFault.TheVariants.{LibraryTooLarge}
use Rattle.document_store.proofs.OwnerLemmas.{IsReleased, owners_of-interned, owners_of-released, text_of-interned, text_of-released}
use Rattle.document_store.proofs.DocumentLemmas.{bit, with_path-known, beside_path-new}
use Rattle.document_store.proofs.PathLemmas.{PathsDiffer-with_path, length-paths_in}
use Rattle.document_store.proofs.FileLemmas.{reads-set, reads-pushed, file_stays, files_stay}
use Rattle.document_store.proofs.StoreLemmas.{documents_stay, with_path-numbered}

-- ---- the pool

-- a text that was read was taken in
pub taken_from : (old new : Pool) (read : File) (text : List ℕ) (id : TextId) → read ≡ Readable text → IsInterned old new text id.0 → IsTakenIn old new read (member.File id)
taken_from old new read text id reads interned = record {
  is = ap (λ t. Some (Readable t)) (IsInterned-text old new text id.0 interned) ∙ ap Some (sym reads);
  owned = owners_of-interned old new text id.0 interned;
  stays = record { stay = text_of-interned old new text id.0 interned };
}

-- and one that was kept was let go
pub let_go_from : (old new : Pool) (file : MemberText) (id : TextId) → file ≡ member.File id → IsOwnedIn old (Some file) → IsReleased old new id.0 → IsLetGo old new (Some file)
let_go_from old new file id is owned released =
    let owners : 0 < owners_of old id.0 = subst (λ f. IsOwnedIn old (Some f)) is owned in
    subst (λ f. IsLetGo old new (Some f)) (sym is) (record {
      owned = owners_of-released old new id.0 released owners;
      stays = record { stay = text_of-released old new id.0 released owners };
    })

-- ---- a file that is kept in place of another, or dropped

module _ (keys : List (String Global)) (files : List (Option MemberText)) (xs : List KeptDocument) (pool : Pool) (old : IsKept keys files xs pool)
    (at : ℕ) (was : Option MemberText) (within : at < length files) (here : was ≡ get_or files at was) where
  no_owner : (id : ℕ) → owner_by id None ≡ 0
  no_owner id = refl

  -- how many files have a text once this one is another
  other_reads : (id : ℕ) (file : Option MemberText) → count_by (reads_text id) (set files at file) + owner_by id was ≡ count_by (reads_text id) files + owner_by id file
  other_reads id file = reads-set id files at file was within here

  -- ---- kept in place of another
  module _ (middle new : Pool) (read : File) (file : MemberText) (taken : IsTakenIn pool middle read file) (gone : IsLetGo middle new was) where
    replaced_owned : AreOwned new (set files at (Some file)) xs
    replaced_owned id =
        let left : owners_of new id + owner_by id was ≡ owners_of middle id = gone.owned id in
        let more : owners_of middle id ≡ owners_of pool id + owner_by id (Some file) = taken.owned id in
        let before : owners_of pool id ≡ count_by (has_text id) xs + count_by (reads_text id) files = old.owned id in
        let reads : count_by (reads_text id) (set files at (Some file)) + owner_by id was ≡ count_by (reads_text id) files + owner_by id (Some file) = other_reads id (Some file) in
        omega arith

    replaced_stays : (id : ℕ) → 0 < owners_of pool id → 0 < owners_of new id → text_of new id ≡ text_of pool id
    replaced_stays id before now = gone.stays.stay id now ∙ taken.stays.stay id before

    replaced_documents : map (document_in new) xs ≡ map (document_in pool) xs
    replaced_documents = documents_stay pool new xs (record {
      stay = λ id some.
          let before : owners_of pool id ≡ count_by (has_text id) xs + count_by (reads_text id) files = old.owned id in
          let now : owners_of new id ≡ count_by (has_text id) xs + count_by (reads_text id) (set files at (Some file)) = replaced_owned id in
          replaced_stays id (omega arith) (omega arith);
    })

    -- the others are what they were
    others_stay : map (file_in new) (set files at None) ≡ map (file_in pool) (set files at None)
    others_stay = files_stay pool new (set files at None) (record {
      stay = λ id some.
          let before : owners_of pool id ≡ count_by (has_text id) xs + count_by (reads_text id) files = old.owned id in
          let now : owners_of new id ≡ count_by (has_text id) xs + count_by (reads_text id) (set files at (Some file)) = replaced_owned id in
          let none : count_by (reads_text id) (set files at None) + owner_by id was ≡ count_by (reads_text id) files + owner_by id None = other_reads id None in
          let one : count_by (reads_text id) (set files at (Some file)) + owner_by id was ≡ count_by (reads_text id) files + owner_by id (Some file) = other_reads id (Some file) in
          let zero : owner_by id None ≡ 0 = no_owner id in
          replaced_stays id (omega arith) (omega arith);
    })

    -- and this one has what was read
    read_stays : file_in new (Some file) ≡ Some read
    read_stays =
        file_stays middle new (Some file) (record {
          stay = λ id own.
              let now : owners_of new id ≡ count_by (has_text id) xs + count_by (reads_text id) (set files at (Some file)) = replaced_owned id in
              let none : count_by (reads_text id) (set files at None) + owner_by id was ≡ count_by (reads_text id) files + owner_by id None = other_reads id None in
              let one : count_by (reads_text id) (set files at (Some file)) + owner_by id was ≡ count_by (reads_text id) files + owner_by id (Some file) = other_reads id (Some file) in
              let zero : owner_by id None ≡ 0 = no_owner id in
              gone.stays.stay id (omega (arith, own));
        })
        ∙ taken.is

    pub replaced_files : map (file_in new) (set files at (Some file)) ≡ set (map (file_in pool) files) at (Some read)
    replaced_files =
        ap (map (file_in new)) (sym (set-set files at None (Some file)))
        ∙ map-set (file_in new) (set files at None) at (Some file)
        ∙ ap (λ fs. set fs at (file_in new (Some file))) (others_stay ∙ map-set (file_in pool) files at None)
        ∙ set-set (map (file_in pool) files) at None (file_in new (Some file))
        ∙ ap (set (map (file_in pool) files) at) read_stays

    pub IsKept-replaced : IsKept keys (set files at (Some file)) xs new
    IsKept-replaced = record {
      numbered = old.numbered;
      apart = old.apart;
      owned = replaced_owned;
      few = old.few;
      differ = old.differ;
      filed = length-set files at (Some file) ∙ old.filed;
    }

    module _ (h : Holdings) (view : holdings_of keys files xs pool ≡ h) where
      pub replaced_within : (totals : Totals) → AreWithin totals (placed h.store.files (Some at) read) → AreWithin totals (map (file_in new) (set files at (Some file)))
      replaced_within totals are_within =
          subst (AreWithin totals) (sym (replaced_files ∙ ap (λ (g : Holdings). placed g.store.files (Some at) read) view)) are_within

      pub replaced_member : (holdings_of keys (set files at (Some file)) xs new).store ≡ record h.store { files = placed h.store.files (Some at) read }
      replaced_member =
          let store : (holdings_of keys (set files at (Some file)) xs new).store
          ≡ record (holdings_of keys files xs pool).store { files = placed (holdings_of keys files xs pool).store.files (Some at) read } =
          λ i. record { documents = replaced_documents i; files = replaced_files i; paths = paths_in keys } in
          store ∙ ap (λ (g : Holdings). record g.store { files = placed g.store.files (Some at) read }) view

  -- ---- dropped
  module _ (new : Pool) (gone : IsLetGo pool new was) where
    dropped_owned : AreOwned new (set files at None) xs
    dropped_owned id =
        let left : owners_of new id + owner_by id was ≡ owners_of pool id = gone.owned id in
        let before : owners_of pool id ≡ count_by (has_text id) xs + count_by (reads_text id) files = old.owned id in
        let none : count_by (reads_text id) (set files at None) + owner_by id was ≡ count_by (reads_text id) files + owner_by id None = other_reads id None in
        let zero : owner_by id None ≡ 0 = no_owner id in
        omega arith

    dropped_documents : map (document_in new) xs ≡ map (document_in pool) xs
    dropped_documents = documents_stay pool new xs (record {
      stay = λ id some.
          let now : owners_of new id ≡ count_by (has_text id) xs + count_by (reads_text id) (set files at None) = dropped_owned id in
          gone.stays.stay id (omega arith);
    })

    pub dropped_files : map (file_in new) (set files at None) ≡ set (map (file_in pool) files) at None
    dropped_files =
        files_stay pool new (set files at None) (record {
          stay = λ id some.
              let now : owners_of new id ≡ count_by (has_text id) xs + count_by (reads_text id) (set files at None) = dropped_owned id in
              gone.stays.stay id (omega arith);
        })
        ∙ map-set (file_in pool) files at None

    pub IsKept-dropped : IsKept keys (set files at None) xs new
    IsKept-dropped = record {
      numbered = old.numbered;
      apart = old.apart;
      owned = dropped_owned;
      few = old.few;
      differ = old.differ;
      filed = length-set files at None ∙ old.filed;
    }

    module _ (h : Holdings) (view : holdings_of keys files xs pool ≡ h) where
      pub dropped_counted : (totals : Totals) → AreCounted totals (set h.store.files at None) → AreCounted totals (map (file_in new) (set files at None))
      dropped_counted totals counted =
          subst (AreCounted totals) (sym (dropped_files ∙ ap (λ (g : Holdings). set g.store.files at None) view)) counted

      pub dropped_member : (holdings_of keys (set files at None) xs new).store ≡ file_dropped h.store at
      dropped_member =
          let store : (holdings_of keys (set files at None) xs new).store ≡ file_dropped (holdings_of keys files xs pool).store at =
          λ i. record { documents = dropped_documents i; files = dropped_files i; paths = paths_in keys } in
          store ∙ ap (λ (g : Holdings). file_dropped g.store at) view

-- ---- a file that is kept under a new path

module _ (keys later : List (String Global)) (files after : List (Option MemberText)) (xs : List KeptDocument) (pool new : Pool) (path : List ℕ) (read : File) (file : MemberText)
    (old : IsKept keys files xs pool) (none : number_of (paths_in keys) path ≡ None) (few : length (with_path (paths_in keys) path) ≤ 2 ^ 32)
    (entered : paths_in later ≡ with_path (paths_in keys) path) (beside : after ≡ beside_path (paths_in keys) path files (Some file))
    (taken : IsTakenIn pool new read file) where
  added_last : after ≡ files ++ Some file ∷ []
  added_last = beside ∙ beside_path-new (paths_in keys) path none files (Some file)

  added_owned : AreOwned new after xs
  added_owned id =
      let more : owners_of new id ≡ owners_of pool id + owner_by id (Some file) = taken.owned id in
      let before : owners_of pool id ≡ count_by (has_text id) xs + count_by (reads_text id) files = old.owned id in
      let reads : count_by (reads_text id) after ≡ count_by (reads_text id) files + owner_by id (Some file) = ap (count_by (reads_text id)) added_last ∙ reads-pushed id files (Some file) in
      omega arith

  added_documents : map (document_in new) xs ≡ map (document_in pool) xs
  added_documents = documents_stay pool new xs (record {
    stay = λ id some.
        let before : owners_of pool id ≡ count_by (has_text id) xs + count_by (reads_text id) files = old.owned id in
        taken.stays.stay id (omega arith);
  })

  pub added_files : map (file_in new) after ≡ map (file_in pool) files ++ Some read ∷ []
  added_files =
      let stay : map (file_in new) files ≡ map (file_in pool) files = files_stay pool new files (record {
        stay = λ id some.
            let before : owners_of pool id ≡ count_by (has_text id) xs + count_by (reads_text id) files = old.owned id in
            taken.stays.stay id (omega arith);
      }) in
      ap (map (file_in new)) added_last
      ∙ map-append (file_in new) files (Some file ∷ [])
      ∙ ap (λ fs. fs ++ file_in new (Some file) ∷ []) stay
      ∙ ap (λ f. map (file_in pool) files ++ f ∷ []) taken.is

  longer : length (with_path (paths_in keys) path) ≡ length later
  longer = ap length (sym entered) ∙ length-paths_in later

  pub IsKept-added : IsKept later after xs new
  IsKept-added = record {
    numbered = subst (λ (ps : List (List ℕ)). AreNumbered ps xs) (sym entered) (with_path-numbered _ (paths_in keys) path xs old.numbered);
    apart = old.apart;
    owned = added_owned;
    few = subst (λ (n : ℕ). n ≤ 2 ^ 32) longer few;
    differ = subst PathsDiffer (sym entered) (PathsDiffer-with_path (paths_in keys) path old.differ);
    filed =
        ap length added_last
        ∙ length_push files (Some file)
        ∙ ap (λ n. n + 1) (old.filed ∙ sym (length-paths_in keys))
        ∙ sym (length_push (paths_in keys) path)
        ∙ ap length (sym (beside_path-new (paths_in keys) path none (paths_in keys) path))
        ∙ longer;
  }

  module _ (h : Holdings) (view : holdings_of keys files xs pool ≡ h) where
    pub added_within : (totals : Totals) → AreWithin totals (placed h.store.files None read) → AreWithin totals (map (file_in new) after)
    added_within totals are_within =
        subst (AreWithin totals) (sym (added_files ∙ ap (λ (g : Holdings). placed g.store.files None read) view)) are_within

    pub added_member : (holdings_of later after xs new).store ≡ with_file h.store path read
    added_member =
        let before : Store = (holdings_of keys files xs pool).store in
        let store : (holdings_of later after xs new).store ≡ record before { files = placed before.files None read; paths = with_path before.paths path } =
        λ i. record { documents = added_documents i; files = added_files i; paths = entered i } in
        store
        ∙ ap (λ (o : Option ℕ). record before { files = placed before.files o read; paths = with_path before.paths path }) (sym none)
        ∙ ap (λ (g : Holdings). with_file g.store path read) view

-- the paths and what stands beside them, where there is room for one more
pub added_paths : (keys middle later : List (String Global)) (path : List ℕ) (key : String Global) → middle ≡ keys → path_in key ≡ path →
    paths_in later ≡ with_path (paths_in middle) (path_in key) → paths_in later ≡ with_path (paths_in keys) path
added_paths keys middle later path key same key_is entered =
    entered ∙ ap (λ ks. with_path (paths_in ks) (path_in key)) same ∙ ap (with_path (paths_in keys)) key_is

pub added_beside : (keys middle : List (String Global)) (path : List ℕ) (key : String Global) (files among after : List (Option MemberText)) (file : Option MemberText) →
    middle ≡ keys → path_in key ≡ path → among ≡ files → after ≡ beside_path (paths_in middle) (path_in key) among file → after ≡ beside_path (paths_in keys) path files file
added_beside keys middle path key files among after file same key_is files_same beside =
    beside
    ∙ ap (λ ks. beside_path (paths_in ks) (path_in key) among file) same
    ∙ ap (λ p. beside_path (paths_in keys) p among file) key_is
    ∙ ap (λ fs. beside_path (paths_in keys) path fs file) files_same

-- ---- totals

module _ (files : List (Option File)) (at : ℕ) (was : Option File) (within : at < length files) (here : get_or files at None ≡ was) where
  count-without : member_count (set files at None) + bit (is_some was) ≡ member_count files
  count-without =
      let is : member_count (set files at None) + bit (is_some (get_or files at None)) ≡ member_count files + 0 = sum_by-set (λ f. cond (is_some f) 1 0) files at None None within in
      let same : bit (is_some (get_or files at None)) ≡ bit (is_some was) = ap (λ f. bit (is_some f)) here in
      omega arith

  bytes-without : member_bytes (set files at None) + size_kept was ≡ member_bytes files
  bytes-without =
      let is : member_bytes (set files at None) + size_kept (get_or files at None) ≡ member_bytes files + 0 = sum_by-set size_kept files at None None within in
      let same : size_kept (get_or files at None) ≡ size_kept was = ap size_kept here in
      omega arith

  module _ (totals : Totals) (counted : AreCounted totals files) where
    -- a file that is kept is counted, and so are its bytes
    pub some_file : (file : File) → was ≡ Some file → 1 ≤ totals.files
    some_file file is =
        let one : bit (is_some was) ≡ 1 = ap (λ f. bit (is_some f)) is in
        omega (arith, counted.files_are, count-without)

    pub few_bytes : size_kept was ≤ totals.bytes
    few_bytes = omega (arith, counted.bytes_are, bytes-without)

    pub counted_without : (file : File) → was ≡ Some file → (less : Totals) → less ≡ record { files = totals.files - 1; bytes = totals.bytes - size_kept was } →
        AreCounted less (set files at None)
    counted_without file is less less_is = record {
      files_are =
          let one : bit (is_some was) ≡ 1 = ap (λ f. bit (is_some f)) is in
          ap (λ (t : Totals). t.files) less_is ∙ omega (arith, counted.files_are, count-without);
      bytes_are = ap (λ (t : Totals). t.bytes) less_is ∙ omega (arith, counted.bytes_are, bytes-without);
    }

    pub counted_none : was ≡ None → AreCounted totals (set files at None)
    counted_none is = record {
      files_are =
          let zero : bit (is_some was) ≡ 0 = ap (λ f. bit (is_some f)) is in
          omega (arith, counted.files_are, count-without);
      bytes_are =
          let zero : size_kept was ≡ 0 = ap size_kept is in
          omega (arith, counted.bytes_are, bytes-without);
    }

-- one file more
pub counted_pushed : (files : List (Option File)) (file : File) (totals more : Totals) → AreCounted totals files →
    more ≡ record { files = totals.files + 1; bytes = totals.bytes + size_of file } → AreCounted more (files ++ Some file ∷ [])
counted_pushed files file totals more counted is = record {
  files_are =
      let one : member_count (files ++ Some file ∷ []) ≡ member_count files + 1 = sum_by_push (λ f. cond (is_some f) 1 0) files (Some file) in
      ap (λ (t : Totals). t.files) is ∙ omega (arith, counted.files_are);
  bytes_are =
      let one : member_bytes (files ++ Some file ∷ []) ≡ member_bytes files + size_of file = sum_by_push size_kept files (Some file) in
      ap (λ (t : Totals). t.bytes) is ∙ omega (arith, counted.bytes_are);
}

-- one file in a place where there is none
pub counted_placed : (files : List (Option File)) (at : ℕ) (file : File) (totals more : Totals) → at < length files → AreCounted totals (set files at None) →
    more ≡ record { files = totals.files + 1; bytes = totals.bytes + size_of file } → AreCounted more (set files at (Some file))
counted_placed files at file totals more within counted is =
    let emptied : List (Option File) = set files at None in
    let same : set emptied at (Some file) ≡ set files at (Some file) = set-set files at None (Some file) in
    let inside : at < length emptied = omega (arith, within, length-set files at None) in
    let empty : get_or emptied at None ≡ None = get_or-set_same files at None None within in
    subst (AreCounted more) same (record {
      files_are =
          let one : member_count (set emptied at (Some file)) + bit (is_some (get_or emptied at None)) ≡ member_count emptied + 1 =
          sum_by-set (λ f. cond (is_some f) 1 0) emptied at (Some file) None inside in
          let zero : bit (is_some (get_or emptied at None)) ≡ 0 = ap (λ f. bit (is_some f)) empty in
          ap (λ (t : Totals). t.files) is ∙ omega (arith, counted.files_are);
      bytes_are =
          let one : member_bytes (set emptied at (Some file)) + size_kept (get_or emptied at None) ≡ member_bytes emptied + size_of file =
          sum_by-set size_kept emptied at (Some file) None inside in
          let zero : size_kept (get_or emptied at None) ≡ 0 = ap size_kept empty in
          ap (λ (t : Totals). t.bytes) is ∙ omega (arith, counted.bytes_are);
    })

-- what stands at a place, as contracts see it
pub file_seen : (h : Holdings) (keys : List (String Global)) (files : List (Option MemberText)) (xs : List KeptDocument) (pool : Pool) → holdings_of keys files xs pool ≡ h →
    (at : ℕ) (file : Option MemberText) → at < length files → file ≡ get_or files at file → get_or h.store.files at None ≡ file_in pool file
file_seen h keys files xs pool view at file within here =
    ap (λ (g : Holdings). get_or g.store.files at None) (sym view)
    ∙ get_or-map (file_in pool) files at file None within
    ∙ ap (file_in pool) (sym here)

pub length_seen : (h : Holdings) (keys : List (String Global)) (files : List (Option MemberText)) (xs : List KeptDocument) (pool : Pool) → holdings_of keys files xs pool ≡ h →
    length h.store.files ≡ length files
length_seen h keys files xs pool view = ap (λ (g : Holdings). length g.store.files) (sym view) ∙ length-map files (file_in pool)

-- the totals are those of the files as contracts see them
pub counted_seen : (h : Holdings) (keys : List (String Global)) (files : List (Option MemberText)) (xs : List KeptDocument) (pool : Pool) → holdings_of keys files xs pool ≡ h →
    (totals : Totals) → AreWithin totals (map (file_in pool) files) → AreCounted totals h.store.files
counted_seen h keys files xs pool view totals within = subst (λ (g : Holdings). AreCounted totals g.store.files) view within.counted

pub within_seen : (h : Holdings) (keys : List (String Global)) (files : List (Option MemberText)) (xs : List KeptDocument) (pool : Pool) → holdings_of keys files xs pool ≡ h →
    (at : ℕ) → at < length h.store.files → at < length files
within_seen h keys files xs pool view at within = subst (λ (n : ℕ). at < n) (length_seen h keys files xs pool view) within

pub are_seen : (h : Holdings) (keys : List (String Global)) (files : List (Option MemberText)) (xs : List KeptDocument) (pool : Pool) → holdings_of keys files xs pool ≡ h →
    (totals : Totals) → AreWithin totals (map (file_in pool) files) → AreWithin totals h.store.files
are_seen h keys files xs pool view totals within = subst (λ (g : Holdings). AreWithin totals g.store.files) view within

-- what is said of something that is there
pub if_some : {X : Type 0} (o : Option X) (x : X) (P : X → Type 0) → o ≡ Some x → IfSome o P → P x
if_some o x P is holds = subst (λ found. IfSome found P) is holds

-- what is kept of a file is something as contracts see it
pub some_seen : (pool : Pool) (file : Option MemberText) (text : MemberText) → file ≡ Some text → (read : File) × (file_in pool file ≡ Some read)
some_seen pool file (member.File id) is = (Readable (text_of pool id.0), ap (file_in pool) is)
some_seen pool file member.Unreadable is = (Unreadable, ap (file_in pool) is)

both : (a b : Bool) → (a && b) ≡ true → (a ≡ true) × (b ≡ true)
both true b is = (refl, is)
both false b is = absurd cc

-- totals that may stand are not great
pub fit_bounds : (totals : Totals) → may_keep totals.files totals.bytes ≡ true → (totals.files ≤ 16000) × (totals.bytes ≤ 67108864)
fit_bounds totals fit =
    let parts = both (nat_le totals.files most_members) (nat_le totals.bytes most_bytes) fit in
    (leb-true totals.files most_members parts.0, leb-true totals.bytes most_bytes parts.1)

fit_from : (totals : Totals) → totals.files ≤ 16000 → totals.bytes ≤ 67108864 → may_keep totals.files totals.bytes ≡ true
fit_from totals files bytes =
    ap (λ b. b && nat_le totals.bytes most_bytes) (le-leb totals.files most_members files) ∙ le-leb totals.bytes most_bytes bytes

-- nor are those of fewer files
module _ (files : List (Option File)) (at : ℕ) (within : at < length files) (totals less : Totals) (are : AreWithin totals files) (fewer : AreCounted less (set files at None)) where
  pub less_bounds : (less.files ≤ 16000) × (less.bytes ≤ 67108864)
  less_bounds =
      let counted = are.counted in
      let bounds = fit_bounds totals are.fit in
      let count = count-without files at (get_or files at None) within refl in
      let bytes = bytes-without files at (get_or files at None) within refl in
      (omega (arith, bounds.0, counted.files_are, fewer.files_are, count), omega (arith, bounds.1, counted.bytes_are, fewer.bytes_are, bytes))

  pub less_within : AreWithin less (set files at None)
  less_within = record { counted = fewer; fit = fit_from less less_bounds.0 less_bounds.1 }

-- ---- a call to keep a file

-- where so many files may be kept, the file is
module _ (store : Store) (path : List ℕ) (file : File) (totals : Totals) (fit : may_keep totals.files totals.bytes ≡ true) where
  pub set_answer : AreCounted totals (placed store.files (number_of store.paths path) file) → file_set store path file ≡ Ok (with_file store path file)
  set_answer counted =
      let fits_is : fits (with_file store path file).files ≡ true =
      ap (λ n. may_keep n (member_bytes (with_file store path file).files)) (sym counted.files_are)
      ∙ ap (may_keep totals.files) (sym counted.bytes_are)
      ∙ fit in
      ap (λ b. cond b (Ok (with_file store path file)) (Err LibraryTooLarge)) fits_is

  -- at the number of a path that has one
  pub set_known : (at : ℕ) → number_of store.paths path ≡ Some at → AreCounted totals (placed store.files (Some at) file) →
      file_set store path file ≡ Ok (record store { files = placed store.files (Some at) file })
  set_known at known counted =
      set_answer (subst (λ (o : Option ℕ). AreCounted totals (placed store.files o file)) (sym known) counted)
      ∙ ap (λ (o : Option ℕ). Ok (record store { files = placed store.files o file; paths = with_path store.paths path })) known
      ∙ ap (λ ps. Ok (record store { files = placed store.files (Some at) file; paths = ps })) (with_path-known store.paths path at known)

-- ---- files dropped in turn

-- the store without the first so many files
abbrev pub emptied_to : ℕ → Store → Store
emptied_to n store = record store { files = map (λ _. None) (take n store.files) ++ drop n store.files }

emptied-step : (files : List (Option File)) (n : ℕ) → n < length files →
    set (map (λ _. None) (take n files) ++ drop n files) n None ≡ map (λ _. None) (take (suc n) files) ++ drop (suc n) files
emptied-step [] n within = absurd (omega arith)
emptied-step (file ∷ files) zero within = refl
emptied-step (file ∷ files) (suc n) within = ap (λ fs. None ∷ fs) (emptied-step files n (omega arith))

emptied-end : (files : List (Option File)) (n : ℕ) → length files ≤ n → map (λ _. None) (take n files) ++ drop n files ≡ map (λ _. None) files
emptied-end [] zero past = refl
emptied-end [] (suc n) past = refl
emptied-end (file ∷ files) zero past = absurd (omega arith)
emptied-end (file ∷ files) (suc n) past = ap (λ fs. None ∷ fs) (emptied-end files n (omega arith))

emptied-length : (files : List (Option File)) (n : ℕ) → length (map (λ _. None) (take n files) ++ drop n files) ≡ length files
emptied-length [] zero = refl
emptied-length [] (suc n) = refl
emptied-length (file ∷ files) zero = refl
emptied-length (file ∷ files) (suc n) = ap suc (emptied-length files n)

pub emptied_none : (store : Store) → store ≡ emptied_to 0 store
emptied_none store = refl

pub emptied_more : (store now new : Store) (n : ℕ) → now ≡ emptied_to n store → n < length store.files → new ≡ file_dropped now n → new ≡ emptied_to (n + 1) store
emptied_more store now new n is within dropped =
    let more : suc n ≡ n + 1 = omega arith in
    dropped
    ∙ ap (λ s. file_dropped s n) is
    ∙ ap (λ fs. record store { files = fs }) (emptied-step store.files n within)
    ∙ ap (λ m. emptied_to m store) more

pub emptied_all : (store now : Store) (n : ℕ) → now ≡ emptied_to n store → length store.files ≤ n → now ≡ files_dropped store
emptied_all store now n is past = is ∙ ap (λ fs. record store { files = fs }) (emptied-end store.files n past)

pub emptied_long : (store now : Store) (n : ℕ) → now ≡ emptied_to n store → length now.files ≡ length store.files
emptied_long store now n is = ap (λ (s : Store). length s.files) is ∙ emptied-length store.files n
