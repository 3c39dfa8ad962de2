-- The numbers by text stay those of the entries, and tell equal texts.
use Rattle.std.proofs.Common.{◌≤◌, length, ◌≡◌, ◌≢◌, ◌⊎◌, ◌<◌, ℕ, Bool, true, false, cond, List, [], ◌∷◌, Option, Some, None, refl, sym, ap, subst, ◌∙◌, inl, inr}
use Rattle.std.specs.Ordering.{nat_cmp, is_eq}
use Rattle.std.specs.Str.{chars, IsUtf8}
use Rattle.std.specs.Rc.{rc_str_bytes}
use Rattle.std.specs.Cmp.Lexicographic.{slice_cmp}
use Rattle.std.specs.Prelude.{encode_utf8_all, slice_index_or}
use Rattle.std.specs.Map.{lookup}
use Rattle.std.specs.BTreeMap.{BTreeMap, is_at}
use Rattle.std.proofs.lemmas.Bool.{cases_eq}
use Rattle.std.proofs.lemmas.Option.{same_Some}
use Rattle.std.proofs.lemmas.Str.{encodes-chars}
use Rattle.std.proofs.lemmas.Slice.Eq.{bytes_eq-Decides}
use Rattle.std.proofs.lemmas.Map.Text.{is_eq-slice_cmp}
use Rattle.slab.specs.Slab.{Slab, get, Updates}
use Rattle.text_pool.specs.Marks.{mark_of}
use Rattle.text_pool.specs.Starts.{AreStarts}
use Rattle.text_pool.specs.Entries.{stamp, number_of, IsIndexed}
use Rattle.text_pool.specs.declared.entry.Entry.{Entry}
use Rattle.text_pool.specs.declared.entry.Key.{Key}
use Rattle.text_pool.specs.declared.pool.TheConstants.{LONGEST_TEXT}

-- two texts in UTF-8 of the same characters are the same bytes
pub same_bytes : (a b : List ℕ) → IsUtf8 a → IsUtf8 b → chars a ≡ chars b → a ≡ b
same_bytes a b one two same = sym (encodes-chars a one) ∙ ap encode_utf8_all same ∙ encodes-chars b two

-- two keys that compare as one have the same bytes
pub same_text : (a b : Key) → stamp a ≡ stamp b → rc_str_bytes a.text ≡ rc_str_bytes b.text
same_text a b same = cc

-- two keys of the same bytes, each with its mark, compare as one
pub same_stamp : (a b : Key) → a.mark ≡ mark_of (rc_str_bytes a.text) → b.mark ≡ mark_of (rc_str_bytes b.text) →
    rc_str_bytes a.text ≡ rc_str_bytes b.text → stamp a ≡ stamp b
same_stamp a b one two same =
    let marks : a.mark ≡ b.mark = one ∙ ap mark_of same ∙ sym two in λ i. marks i ∷ same i

-- whether two texts tie in the order of the keys
abbrev pub ties : List ℕ → List ℕ → Bool
ties a b = is_eq (slice_cmp nat_cmp a b)

same_from_ties : (a b : List ℕ) → ties a b ≡ true → a ≡ b
same_from_ties a b tied = (bytes_eq-Decides a b).0 (sym (is_eq-slice_cmp a b) ∙ tied)

ties-same : (a b : List ℕ) → a ≡ b → ties a b ≡ true
ties-same a b same = is_eq-slice_cmp a b ∙ (bytes_eq-Decides a b).1 same

pub none_is_some : {A : Type 0} (found : Option A) (a : A) → found ≡ None → found ≡ Some a → ⊥
none_is_some found a none some = cc

true_is_false : (b : Bool) → b ≡ true → b ≡ false → ⊥
true_is_false b first second = cc

-- the number under the bytes of a text
abbrev pub number_at : BTreeMap Key ℕ → List ℕ → Option ℕ
number_at numbers bytes = lookup (is_at (λ key. slice_cmp nat_cmp bytes (stamp key))) numbers.entries

key_by_test : (bytes : List ℕ) (entry : Key × ℕ) (rest : Option ℕ) (id : ℕ) (test : Bool) →
    ties bytes (stamp entry.0) ≡ test → cond test (Some entry.1) rest ≡ Some id →
    (rest ≡ Some id → (key : Key) × (stamp key ≡ bytes)) → (key : Key) × (stamp key ≡ bytes)
key_by_test bytes entry rest id true is found later = (entry.0, sym (same_from_ties _ _ is))
key_by_test bytes entry rest id false is found later = later found

-- where a text is found, some key has its bytes
key_found : (bytes : List ℕ) (entries : List (Key × ℕ)) (id : ℕ) →
    lookup (is_at (λ key. slice_cmp nat_cmp bytes (stamp key))) entries ≡ Some id →
    (key : Key) × (stamp key ≡ bytes)
key_found bytes [] id found = absurd (cc)
key_found bytes (entry ∷ rest) id found = key_by_test bytes entry _ id _ refl found (key_found bytes rest id)

module _ (slab : Slab Entry) (numbers : BTreeMap Key ℕ) (indexed : IsIndexed slab numbers) where
  -- what is found under bytes is the number of an entry with these bytes
  pub found_entry : (bytes : List ℕ) (id : ℕ) → number_at numbers bytes ≡ Some id →
      (entry : Entry) × (get slab id ≡ Some entry) × (stamp entry.key ≡ bytes)
  found_entry bytes id found =
      let key = key_found bytes numbers.entries id found in
      let entry = indexed.found key.0 id (ap (number_at numbers) key.1 ∙ found) in
      (entry.0, entry.1, entry.2 ∙ key.1)

  -- where bytes are not found, no entry has them
  pub absent_entry : (bytes : List ℕ) (id : ℕ) (entry : Entry) → number_at numbers bytes ≡ None → get slab id ≡ Some entry →
      stamp entry.key ≢ bytes
  absent_entry bytes id entry absent found same =
      none_is_some (number_at numbers bytes) id absent (sym (ap (number_at numbers) same) ∙ indexed.listed id entry found)

  -- entries of the same bytes have the same number
  pub same_number : (one two : ℕ) (first second : Entry) → get slab one ≡ Some first → get slab two ≡ Some second →
      stamp first.key ≡ stamp second.key → one ≡ two
  same_number one two first second one_has two_has same =
      same_Some one two (sym (indexed.listed one first one_has) ∙ ap (number_at numbers) same ∙ indexed.listed two second two_has)

-- what stands under a number after a write of one number
pub after_update : (old new : Slab Entry) (id : ℕ) (slot : Option Entry) → Updates old new id slot →
    (other : ℕ) (entry : Entry) → get new other ≡ Some entry →
    ((other ≡ id) × (slot ≡ Some entry)) ⊎ ((other ≢ id) × (get old other ≡ Some entry))
after_update old new id slot updates other entry found =
    elim (cases_eq other id) [
      | inl same ↦ inl (same, sym updates.changed ∙ ap (get new) (sym same) ∙ found)
      | inr differ ↦ inr (differ, sym (updates.others other differ) ∙ found)
    ]

-- where lines begin is known of one text, whatever it is called
pub started_as : (entry written : Entry) → written.key ≡ entry.key → written.starts ≡ entry.starts →
    AreStarts (rc_str_bytes entry.key.text) entry.starts.items → AreStarts (rc_str_bytes written.key.text) written.starts.items
started_as entry written same kept started =
    subst (λ bytes. AreStarts bytes written.starts.items) (ap (λ (k : Key). rc_str_bytes k.text) (sym same))
    (subst (AreStarts (rc_str_bytes entry.key.text)) (ap (λ s. s.items) (sym kept)) started)

-- another count of owners moves no text
pub IsIndexed-recounted : (old new : Slab Entry) (numbers : BTreeMap Key ℕ) (id : ℕ) (entry written : Entry) →
    IsIndexed old numbers → get old id ≡ Some entry → Updates old new id (Some written) → written.key ≡ entry.key →
    written.starts ≡ entry.starts → 0 < written.owners → IsIndexed new numbers
IsIndexed-recounted old new numbers id entry written indexed was updates same kept owned = record {
  listed = λ other now found. elim (after_update old new id _ updates other now found) [
    | inl here ↦
        let is : written ≡ now = same_Some _ _ here.1 in
        ap (number_of numbers) (ap (λ e. e.key) (sym is) ∙ same) ∙ indexed.listed id entry was ∙ ap Some (sym here.0)
    | inr there ↦ indexed.listed other now there.1
  ];
  found = λ text other at.
      let before = indexed.found text other at in
      elim (cases_eq other id) [
        | inl here ↦
            let is : entry ≡ before.0 = same_Some _ _ (sym was ∙ ap (get old) (sym here) ∙ before.1) in
            (written, ap (get new) here ∙ updates.changed, ap stamp (same ∙ ap (λ e. e.key) is) ∙ before.2)
        | inr there ↦ (before.0, updates.others other there ∙ before.1, before.2)
      ];
  marked = λ other now found. elim (after_update old new id _ updates other now found) [
    | inl here ↦
        let is : written ≡ now = same_Some _ _ here.1 in
        subst (λ (k : Key). k.mark ≡ mark_of (rc_str_bytes k.text)) (sym same ∙ ap (λ e. e.key) is) (indexed.marked id entry was)
    | inr there ↦ indexed.marked other now there.1
  ];
  utf8 = λ other now found. elim (after_update old new id _ updates other now found) [
    | inl here ↦
        let is : written ≡ now = same_Some _ _ here.1 in
        subst (λ (k : Key). IsUtf8 (rc_str_bytes k.text)) (sym same ∙ ap (λ e. e.key) is) (indexed.utf8 id entry was)
    | inr there ↦ indexed.utf8 other now there.1
  ];
  short = λ other now found. elim (after_update old new id _ updates other now found) [
    | inl here ↦
        let is : written ≡ now = same_Some _ _ here.1 in
        subst (λ (k : Key). length (rc_str_bytes k.text) ≤ LONGEST_TEXT) (sym same ∙ ap (λ e. e.key) is) (indexed.short id entry was)
    | inr there ↦ indexed.short other now there.1
  ];
  started = λ other now found. elim (after_update old new id _ updates other now found) [
    | inl here ↦
        subst (λ (e : Entry). AreStarts (rc_str_bytes e.key.text) e.starts.items) (same_Some _ _ here.1)
        (started_as entry written same kept (indexed.started id entry was))
    | inr there ↦ indexed.started other now there.1
  ];
  owned = λ other now found. elim (after_update old new id _ updates other now found) [
    | inl here ↦ subst (λ (e : Entry). 0 < e.owners) (same_Some _ _ here.1) owned
    | inr there ↦ indexed.owned other now there.1
  ];
}

-- a look-up after one text was set or taken out
abbrev pub ChangesAt : BTreeMap Key ℕ → BTreeMap Key ℕ → List ℕ → Option ℕ → Type 0
ChangesAt old new bytes number = (text : Key) →
    number_of new text ≡ cond (ties bytes (stamp text)) number (number_of old text)

changed_here : (old new : BTreeMap Key ℕ) (bytes : List ℕ) (number : Option ℕ) → ChangesAt old new bytes number →
    (text : Key) → ties bytes (stamp text) ≡ true → number_of new text ≡ number
changed_here old new bytes number changes text tied =
    changes text ∙ ap (λ b. cond b number (number_of old text)) tied

changed_there : (old new : BTreeMap Key ℕ) (bytes : List ℕ) (number : Option ℕ) → ChangesAt old new bytes number →
    (text : Key) → ties bytes (stamp text) ≡ false → number_of new text ≡ number_of old text
changed_there old new bytes number changes text apart =
    changes text ∙ ap (λ b. cond b number (number_of old text)) apart

either : (b : Bool) → (b ≡ true) ⊎ (b ≡ false)
either true = inl refl
either false = inr refl

-- a new text stands under a number that was free
pub IsIndexed-admitted : (old new : Slab Entry) (numbers later : BTreeMap Key ℕ) (id : ℕ) (entry : Entry) (bytes : List ℕ) →
    IsIndexed old numbers → Updates old new id (Some entry) → get old id ≡ None → stamp entry.key ≡ bytes →
    number_at numbers bytes ≡ None → ChangesAt numbers later bytes (Some id) →
    entry.key.mark ≡ mark_of (rc_str_bytes entry.key.text) → IsUtf8 (rc_str_bytes entry.key.text) →
    length (rc_str_bytes entry.key.text) ≤ LONGEST_TEXT → AreStarts (rc_str_bytes entry.key.text) entry.starts.items →
    0 < entry.owners → IsIndexed new later
IsIndexed-admitted old new numbers later id entry bytes indexed updates free is absent changes marked utf8 short started owned = record {
  listed = λ other now found. elim (after_update old new id _ updates other now found) [
    | inl here ↦
        let same : bytes ≡ stamp now.key = sym is ∙ ap (λ e. stamp e.key) (same_Some _ _ here.1) in
        changed_here numbers later bytes (Some id) changes now.key (ties-same _ _ same) ∙ ap Some (sym here.0)
    | inr there ↦ elim (either (ties bytes (stamp now.key))) [
      | inl tied ↦ absurd (absent_entry old numbers indexed bytes other now absent there.1 (sym (same_from_ties _ _ tied)))
      | inr apart ↦ changed_there numbers later bytes (Some id) changes now.key apart ∙ indexed.listed other now there.1
    ]
  ];
  found = λ text other at. elim (either (ties bytes (stamp text))) [
    | inl tied ↦
        let same : id ≡ other = same_Some _ _ (sym (changed_here numbers later bytes (Some id) changes text tied) ∙ at) in
        (entry, ap (get new) (sym same) ∙ updates.changed, is ∙ same_from_ties _ _ tied)
    | inr apart ↦
        let before = indexed.found text other (sym (changed_there numbers later bytes (Some id) changes text apart) ∙ at) in
        let differ : other ≢ id = λ same. none_is_some (get old id) before.0 free (ap (get old) (sym same) ∙ before.1) in
        (before.0, updates.others other differ ∙ before.1, before.2)
  ];
  marked = λ other now found. elim (after_update old new id _ updates other now found) [
    | inl here ↦ subst (λ (e : Entry). e.key.mark ≡ mark_of (rc_str_bytes e.key.text)) (same_Some _ _ here.1) marked
    | inr there ↦ indexed.marked other now there.1
  ];
  utf8 = λ other now found. elim (after_update old new id _ updates other now found) [
    | inl here ↦ subst (λ (e : Entry). IsUtf8 (rc_str_bytes e.key.text)) (same_Some _ _ here.1) utf8
    | inr there ↦ indexed.utf8 other now there.1
  ];
  short = λ other now found. elim (after_update old new id _ updates other now found) [
    | inl here ↦ subst (λ (e : Entry). length (rc_str_bytes e.key.text) ≤ LONGEST_TEXT) (same_Some _ _ here.1) short
    | inr there ↦ indexed.short other now there.1
  ];
  started = λ other now found. elim (after_update old new id _ updates other now found) [
    | inl here ↦ subst (λ (e : Entry). AreStarts (rc_str_bytes e.key.text) e.starts.items) (same_Some _ _ here.1) started
    | inr there ↦ indexed.started other now there.1
  ];
  owned = λ other now found. elim (after_update old new id _ updates other now found) [
    | inl here ↦ subst (λ (e : Entry). 0 < e.owners) (same_Some _ _ here.1) owned
    | inr there ↦ indexed.owned other now there.1
  ];
}

-- a text and its number are gone
pub IsIndexed-removed : (old new : Slab Entry) (numbers later : BTreeMap Key ℕ) (id : ℕ) (entry : Entry) →
    IsIndexed old numbers → get old id ≡ Some entry → Updates old new id None →
    ChangesAt numbers later (stamp entry.key) None → IsIndexed new later
IsIndexed-removed old new numbers later id entry indexed was updates changes = record {
  listed = λ other now found. elim (after_update old new id _ updates other now found) [
    | inl here ↦ absurd (none_is_some None now refl here.1)
    | inr there ↦ elim (either (ties (stamp entry.key) (stamp now.key))) [
      | inl tied ↦ absurd (there.0 (sym (same_number old numbers indexed id other entry now was there.1 (same_from_ties _ _ tied))))
      | inr apart ↦ changed_there numbers later (stamp entry.key) None changes now.key apart ∙ indexed.listed other now there.1
    ]
  ];
  found = λ text other at. elim (either (ties (stamp entry.key) (stamp text))) [
    | inl tied ↦ absurd (none_is_some (number_of later text) other (changed_here numbers later (stamp entry.key) None changes text tied) at)
    | inr apart ↦
        let before = indexed.found text other (sym (changed_there numbers later (stamp entry.key) None changes text apart) ∙ at) in
        let differ : other ≢ id = λ same.
        let is : entry ≡ before.0 = same_Some _ _ (sym was ∙ ap (get old) (sym same) ∙ before.1) in
        true_is_false _ (ties-same _ _ (ap (λ e. stamp e.key) is ∙ before.2)) apart in
        (before.0, updates.others other differ ∙ before.1, before.2)
  ];
  marked = λ other now found. elim (after_update old new id _ updates other now found) [
    | inl here ↦ absurd (none_is_some None now refl here.1)
    | inr there ↦ indexed.marked other now there.1
  ];
  utf8 = λ other now found. elim (after_update old new id _ updates other now found) [
    | inl here ↦ absurd (none_is_some None now refl here.1)
    | inr there ↦ indexed.utf8 other now there.1
  ];
  short = λ other now found. elim (after_update old new id _ updates other now found) [
    | inl here ↦ absurd (none_is_some None now refl here.1)
    | inr there ↦ indexed.short other now there.1
  ];
  started = λ other now found. elim (after_update old new id _ updates other now found) [
    | inl here ↦ absurd (none_is_some None now refl here.1)
    | inr there ↦ indexed.started other now there.1
  ];
  owned = λ other now found. elim (after_update old new id _ updates other now found) [
    | inl here ↦ absurd (none_is_some None now refl here.1)
    | inr there ↦ indexed.owned other now there.1
  ];
}

-- room for more, and a look-up that failed for want of memory, move nothing
pub IsIndexed-kept : (old new : Slab Entry) (numbers later : BTreeMap Key ℕ) → new.slots ≡ old.slots →
    later.entries ≡ numbers.entries → IsIndexed old numbers → IsIndexed new later
IsIndexed-kept old new numbers later slots listed indexed =
    let there : (id : ℕ) → get old id ≡ get new id = λ id. ap (λ s. slice_index_or s id None) (sym slots) in
    let at : (text : Key) → number_of later text ≡ number_of numbers text =
    λ text. ap (lookup (is_at (λ key. slice_cmp nat_cmp (stamp text) (stamp key)))) listed in
    record {
      listed = λ id entry found. at entry.key ∙ indexed.listed id entry (there id ∙ found);
      found = λ text id found.
          let entry = indexed.found text id (sym (at text) ∙ found) in
          (entry.0, sym (there id) ∙ entry.1, entry.2);
      marked = λ id entry found. indexed.marked id entry (there id ∙ found);
      utf8 = λ id entry found. indexed.utf8 id entry (there id ∙ found);
      short = λ id entry found. indexed.short id entry (there id ∙ found);
      started = λ id entry found. indexed.started id entry (there id ∙ found);
      owned = λ id entry found. indexed.owned id entry (there id ∙ found);
    }
