-- Documents outside the folders: opening, changing and closing them leaves the members of the folders.
use Rattle.std.proofs.Common.{◌≡◌, ◌∙◌, ℕ, ℤ, ◌+◌, ◌≤◌, Bool, true, false, not, cond, ◌&&◌, List, [], ◌∷◌, ◌++◌, length, map, get_or, Option, Some, None, refl, sym, ap, arith, append-nil, zero, suc, if◌then◌else◌}
use Rattle.std.specs.Prelude.{filter, find, is_some, nat_lt}
use Rattle.std.specs.List.{AllByRecursion, list_any, position_or_len}
use Rattle.std.specs.Option.{option_and_then, option_or}
use Rattle.std.specs.Str.{bytes_eq}
use Rattle.std.proofs.lemmas.Bool.{true≢false, ltb-false, eq-eqb, false_from_ne_true}
use Rattle.std.proofs.lemmas.List.{length_push}
use Rattle.std.proofs.lemmas.List.Folds.{find-append, position_or_len_push}
use Rattle.std.proofs.lemmas.List.Sums.{prefix_len-le-length}
use Rattle.std.proofs.lemmas.Option.{none-some}
use Rattle.std.proofs.lemmas.Slice.Eq.{bytes_eq-Decides}
use Rattle.document_store.specs.Store.{Store, OpenDocument, is_at, document_of, file_of, number_of, present_in, present}
use Rattle.document_store.specs.Changes.{with_path, with_document, with_text, without}
use Rattle.document_store.proofs.DocumentLemmas.{number_of-behind, position-past}
use Rattle.group_members.specs.Members.{member_of}
use Rattle.group_members.specs.Agreement.{lies_in, IsSameIn}
use Rattle.group_members.proofs.AgreementLaws.{member_of-same}

-- ---- what is present

-- the same is present where the document and the file are the same
present-from : (old new : Store) (path : List ℕ) → document_of new path ≡ document_of old path → file_of new path ≡ file_of old path → present new path ≡ present old path
present-from old new path document file = ap (present_in new path) document ∙ by (document_of old path)
  where
    by : (o : Option OpenDocument) → present_in new path o ≡ present_in old path o
    by None = file
    by (Some d) = refl

-- a path in the folders is not one outside
apart : (folders : List (List ℕ)) (path outside : List ℕ) → lies_in folders path ≡ true → lies_in folders outside ≡ false → bytes_eq path outside ≡ false
apart folders path outside lies none = false_from_ne_true (bytes_eq path outside) (λ same.
    let is : path ≡ outside = (bytes_eq-Decides path outside).0 same in
    true≢false (sym lies ∙ ap (lies_in folders) is ∙ none))

turned : (path outside : List ℕ) → bytes_eq path outside ≡ false → bytes_eq outside path ≡ false
turned path outside e = false_from_ne_true (bytes_eq outside path) (λ same.
    true≢false (sym ((bytes_eq-Decides path outside).1 (sym ((bytes_eq-Decides outside path).0 same))) ∙ e))

-- ---- a path more

none_past : (n m : ℕ) (b : Bool) → nat_lt n m ≡ b → cond b (Some n) None ≡ None → m ≤ n
none_past n m true is none = absurd (none-some n (sym none))
none_past n m false is none = ltb-false n m is

-- the number of another path stays
number_of-apart : (paths : List (List ℕ)) (path other : List ℕ) → bytes_eq path other ≡ false → number_of (paths ++ other ∷ []) path ≡ number_of paths path
number_of-apart paths path other apart = by (number_of paths path) refl
  where
    by : (o : Option ℕ) → number_of paths path ≡ o → number_of (paths ++ other ∷ []) path ≡ number_of paths path
    by (Some n) is = number_of-behind paths (other ∷ []) path n is ∙ sym is
    by None none =
        let past : length paths ≤ position_or_len (bytes_eq path) paths = none_past _ _ _ refl none in
        let below : position_or_len (bytes_eq path) paths ≤ length paths = prefix_len-le-length (λ p. not (bytes_eq path p)) paths in
        let end : position_or_len (bytes_eq path) paths ≡ length paths = omega arith in
        let place : position_or_len (bytes_eq path) (paths ++ other ∷ []) ≡ length paths + 1 =
        position_or_len_push (bytes_eq path) paths other
        ∙ ap (λ b. cond b (length paths + cond (bytes_eq path other) 0 1) (position_or_len (bytes_eq path) paths)) (eq-eqb (position_or_len (bytes_eq path) paths) (length paths) end)
        ∙ ap (λ b. length paths + cond b 0 1) apart in
        position-past (bytes_eq path) (paths ++ other ∷ []) (omega (arith, place, length_push paths other)) ∙ sym none

get_or-push_default : {X : Type 0} (xs : List X) (d : X) (n : ℕ) → get_or (xs ++ d ∷ []) n d ≡ get_or xs n d
get_or-push_default [] d zero = refl
get_or-push_default [] d (suc n) = refl
get_or-push_default (x ∷ xs) d zero = refl
get_or-push_default (x ∷ xs) d (suc n) = get_or-push_default xs d n

-- ---- the laws

or_none : {X : Type 0} (o : Option X) → option_or o None ≡ o
or_none None = refl
or_none (Some x) = refl

module _ (folders : List (List ℕ)) (store : Store) where
  module _ (document : OpenDocument) (outside : lies_in folders document.path ≡ false) where
    entered_paths : (b : Bool) → list_any (bytes_eq document.path) store.paths ≡ b → with_path store.paths document.path ≡ store.paths ++ cond b [] (document.path ∷ [])
    entered_paths true is = ap (λ b. if b then store.paths else store.paths ++ document.path ∷ []) is ∙ sym (append-nil store.paths)
    entered_paths false is = ap (λ b. if b then store.paths else store.paths ++ document.path ∷ []) is

    entered_outside : (b : Bool) → AllByRecursion (λ path. (lies_in folders path && is_some (present (with_document store document) path)) ≡ false) (cond b [] (document.path ∷ []))
    entered_outside true = tt
    entered_outside false = (ap (λ b. b && is_some (present (with_document store document) document.path)) outside, tt)

    opened_document : (path : List ℕ) → lies_in folders path ≡ true → document_of (with_document store document) path ≡ document_of store path
    opened_document path lies =
        find-append (is_at path) store.documents (document ∷ [])
        ∙ ap (λ b. option_or (find (is_at path) store.documents) (cond b (Some document) None)) (turned path document.path (apart folders path document.path lies outside))
        ∙ or_none (find (is_at path) store.documents)

    opened_file : (path : List ℕ) → lies_in folders path ≡ true → file_of (with_document store document) path ≡ file_of store path
    opened_file path lies = by (list_any (bytes_eq document.path) store.paths)
      where
        by : (b : Bool) →
            option_and_then (λ n. get_or (if b then store.files else store.files ++ None ∷ []) n None) (number_of (if b then store.paths else store.paths ++ document.path ∷ []) path)
            ≡ option_and_then (λ n. get_or store.files n None) (number_of store.paths path)
        by true = refl
        by false =
            ap (option_and_then (λ n. get_or (store.files ++ None ∷ []) n None)) (number_of-apart store.paths path document.path (apart folders path document.path lies outside))
            ∙ (λ i. option_and_then (λ n. get_or-push_default store.files None n i) (number_of store.paths path))

    -- a document is opened outside the folders
    pub IsSameIn-with_document : IsSameIn folders store (with_document store document)
    IsSameIn-with_document = record {
      more = cond (list_any (bytes_eq document.path) store.paths) [] (document.path ∷ []);
      paths = entered_paths (list_any (bytes_eq document.path) store.paths) refl;
      outside = entered_outside (list_any (bytes_eq document.path) store.paths);
      same = λ path lies. present-from store (with_document store document) path (opened_document path lies) (opened_file path lies);
    }

    pub member_of-with_document : (name : List ℕ) → member_of (with_document store document) folders name ≡ member_of store folders name
    member_of-with_document name = member_of-same folders store (with_document store document) IsSameIn-with_document name

  module _ (at : List ℕ) (outside : lies_in folders at ≡ false) where
    -- ---- a changed document

    module _ (version : ℤ) (text : List ℕ) where
      changed_in : (documents : List OpenDocument) (path : List ℕ) → bytes_eq path at ≡ false →
          find (is_at path) (map (λ d. if is_at at d then record d { version = version; text = text } else d) documents) ≡ find (is_at path) documents
      changed_in [] path other = refl
      changed_in (d ∷ rest) path other = by (is_at path d) (is_at at d) refl refl (changed_in rest path other)
        where
          by : (here there : Bool) → is_at path d ≡ here → is_at at d ≡ there →
              find (is_at path) (map (λ d. if is_at at d then record d { version = version; text = text } else d) rest) ≡ find (is_at path) rest →
              find (is_at path) ((if is_at at d then record d { version = version; text = text } else d) ∷ map (λ d. if is_at at d then record d { version = version; text = text } else d) rest)
              ≡ find (is_at path) (d ∷ rest)
          by here false eh et later =
              ap (λ b. find (is_at path) ((if b then record d { version = version; text = text } else d) ∷ map (λ d. if is_at at d then record d { version = version; text = text } else d) rest)) et
              ∙ ap (cond (is_at path d) (Some d)) later
          by true true eh et later =
              let same : path ≡ at = sym ((bytes_eq-Decides d.path path).0 eh) ∙ (bytes_eq-Decides d.path at).0 et in
              absurd (true≢false (sym ((bytes_eq-Decides path at).1 same) ∙ other))
          by false true eh et later =
              ap (λ b. find (is_at path) ((if b then record d { version = version; text = text } else d) ∷ map (λ d. if is_at at d then record d { version = version; text = text } else d) rest)) et
              ∙ ap (λ b. cond b (Some (record d { version = version; text = text })) (find (is_at path) (map (λ d. if is_at at d then record d { version = version; text = text } else d) rest))) eh
              ∙ later
              ∙ sym (ap (λ b. cond b (Some d) (find (is_at path) rest)) eh)

      -- a document outside the folders gets another text
      pub IsSameIn-with_text : IsSameIn folders store (with_text store at version text)
      IsSameIn-with_text = record {
        more = [];
        paths = sym (append-nil store.paths);
        outside = tt;
        same = λ path lies. present-from store (with_text store at version text) path (changed_in store.documents path (apart folders path at lies outside)) refl;
      }

      pub member_of-with_text : (name : List ℕ) → member_of (with_text store at version text) folders name ≡ member_of store folders name
      member_of-with_text name = member_of-same folders store (with_text store at version text) IsSameIn-with_text name

    -- ---- a closed document

    closed_in : (documents : List OpenDocument) (path : List ℕ) → bytes_eq path at ≡ false → find (is_at path) (filter (λ d. not (is_at at d)) documents) ≡ find (is_at path) documents
    closed_in [] path other = refl
    closed_in (d ∷ rest) path other = by (is_at path d) (is_at at d) refl refl (closed_in rest path other)
      where
        by : (here there : Bool) → is_at path d ≡ here → is_at at d ≡ there → find (is_at path) (filter (λ d. not (is_at at d)) rest) ≡ find (is_at path) rest →
            find (is_at path) (cond (not (is_at at d)) (d ∷ filter (λ d. not (is_at at d)) rest) (filter (λ d. not (is_at at d)) rest)) ≡ find (is_at path) (d ∷ rest)
        by here false eh et later =
            ap (λ b. find (is_at path) (cond (not b) (d ∷ filter (λ d. not (is_at at d)) rest) (filter (λ d. not (is_at at d)) rest))) et
            ∙ ap (cond (is_at path d) (Some d)) later
        by true true eh et later =
            let same : path ≡ at = sym ((bytes_eq-Decides d.path path).0 eh) ∙ (bytes_eq-Decides d.path at).0 et in
            absurd (true≢false (sym ((bytes_eq-Decides path at).1 same) ∙ other))
        by false true eh et later =
            ap (λ b. find (is_at path) (cond (not b) (d ∷ filter (λ d. not (is_at at d)) rest) (filter (λ d. not (is_at at d)) rest))) et
            ∙ later
            ∙ sym (ap (λ b. cond b (Some d) (find (is_at path) rest)) eh)

    -- a document outside the folders is closed
    pub IsSameIn-without : IsSameIn folders store (without store at)
    IsSameIn-without = record {
      more = [];
      paths = sym (append-nil store.paths);
      outside = tt;
      same = λ path lies. present-from store (without store at) path (closed_in store.documents path (apart folders path at lies outside)) refl;
    }

    pub member_of-without : (name : List ℕ) → member_of (without store at) folders name ≡ member_of store folders name
    member_of-without name = member_of-same folders store (without store at) IsSameIn-without name
