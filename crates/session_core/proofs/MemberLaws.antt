-- The members of a program are those of library folders, so they are as they were where the library is.
use Rattle.std.proofs.Common.{◌≡◌, ℕ, ℤ, Bool, true, false, cond, ◌&&◌, List, [], ◌∷◌, map, filter, find, Option, Some, None, refl, sym, ap, ◌∙◌}
use Rattle.std.proofs.Math.Path.{fun_ext}
use Rattle.std.specs.Prelude.{is_some}
use Rattle.std.specs.Option.{option_and_then}
use Rattle.document_store.specs.Store.{Store, OpenDocument, document_of, is_at, number_of, present, present_in}
use Rattle.document_store.specs.Changes.{with_text}
use Rattle.library_folders.specs.declared.configuration.Configuration.{Configuration}
use Rattle.library_folders.specs.Folders.{is_member, folders_for}
use Rattle.library_folders.proofs.GroupLaws.{folders_for-library}
use Rattle.member_paths.specs.Paths.{folder_of}
use Rattle.group_members.specs.Agreement.{IsSameIn, lies_in}
use Rattle.group_members.specs.Members.{Indexes, is_there, is_file_of, member_number, first_path}
use Rattle.group_members.specs.declared.index.MemberIndex.{MemberIndex}
use Rattle.group_members.proofs.AgreementLaws.{member_of-same}
use Rattle.session_core.specs.Diagnostics.{members_of}
use Rattle.session_core.specs.Inside.{libraries_in}
use Rattle.session_core.specs.State.{Around, libraries_of}
use Rattle.session_core.proofs.FreshLaws.{not_both}

-- a path in a folder of a program stands in a library folder
member_known : (root : Option (List ℕ)) (configuration : Configuration) (program path : List ℕ) → lies_in (folders_for root configuration program) path ≡ true
    → is_member (libraries_of root configuration) path ≡ true
member_known None configuration program path is = cc
member_known (Some root) configuration program path is = folders_for-library root configuration program (folder_of path) is

-- so one outside of the library stands in no folder of a program
pub member_outside : (around : Around) (program : OpenDocument) (path : List ℕ) → is_member (libraries_in around) path ≡ false
    → lies_in (folders_for around.root around.configuration program.path) path ≡ false
member_outside around program path outside = by_test (lies_in (folders_for around.root around.configuration program.path) path) refl where
  by_test : (b : Bool) → lies_in (folders_for around.root around.configuration program.path) path ≡ b → b ≡ false
  by_test true is = absurd (not_both (is_member (libraries_in around) path) (member_known around.root around.configuration program.path path is) outside)
  by_test false is = refl

-- what each program finds in its folders is as it was
abbrev pub AreSameMembers : Around → (old new : Store) → Type 0
AreSameMembers around old new = (program : OpenDocument) → IsSameIn (folders_for around.root around.configuration program.path) old new

-- so its members are
pub members_same : (around : Around) (old new : Store) (program : OpenDocument) → AreSameMembers around old new
    → members_of around.root around.configuration new program ≡ members_of around.root around.configuration old program
members_same around old new program same =
    fun_ext (λ name. member_of-same (folders_for around.root around.configuration program.path) old new (same program) name)

-- ---- the index of members, where a document has another text

-- a document with another version and text, where it is the one of a path
abbrev rewritten : (path : List ℕ) → ℤ → List ℕ → OpenDocument → OpenDocument
rewritten path version text document = cond (is_at path document) (record document { version = version; text = text }) document

open_still : (path : List ℕ) (version : ℤ) (text other : List ℕ) (documents : List OpenDocument)
    → is_some (find (is_at other) (map (rewritten path version text) documents)) ≡ is_some (find (is_at other) documents)
open_still path version text other [] = refl
open_still path version text other (first ∷ documents) = by_path (is_at path first) (open_still path version text other documents) where
  rest : Option OpenDocument
  rest = find (is_at other) (map (rewritten path version text) documents)

  by_other : (b : Bool) (one two : OpenDocument) → is_some rest ≡ is_some (find (is_at other) documents)
      → is_some (cond b (Some one) rest) ≡ is_some (cond b (Some two) (find (is_at other) documents))
  by_other true one two later = refl
  by_other false one two later = later

  by_path : (b : Bool) → is_some rest ≡ is_some (find (is_at other) documents)
      → is_some (cond (is_at other (cond b (record first { version = version; text = text }) first)) (Some (cond b (record first { version = version; text = text }) first)) rest)
      ≡ is_some (cond (is_at other first) (Some first) (find (is_at other) documents))
  by_path true later = by_other (is_at other first) (record first { version = version; text = text }) first later
  by_path false later = by_other (is_at other first) first first later

-- the same paths have something present
present_still : (s : Store) (path : List ℕ) (version : ℤ) (text other : List ℕ) → is_some (present (with_text s path version text) other) ≡ is_some (present s other)
present_still s path version text other =
    by_open (document_of (with_text s path version text) other) (document_of s other) (open_still path version text other s.documents) where
      by_open : (now before : Option OpenDocument) → is_some now ≡ is_some before
          → is_some (present_in (with_text s path version text) other now) ≡ is_some (present_in s other before)
      by_open None None same = refl
      by_open (Some now) (Some before) same = refl
      by_open None (Some before) same = cc
      by_open (Some now) None same = cc

number_still : (s : Store) (path : List ℕ) (version : ℤ) (text folder name : List ℕ) → member_number (with_text s path version text) folder name ≡ member_number s folder name
number_still s path version text folder name =
    let there : is_there (with_text s path version text) folder name ≡ is_there s folder name =
    fun_ext (λ other. ap (λ b. is_file_of folder name other && b) (present_still s path version text other)) in
    ap (λ p. option_and_then (number_of s.paths) (first_path (filter p s.paths))) there

-- so an index of members is one still
pub index_kept : (index : MemberIndex) (s : Store) (path : List ℕ) (version : ℤ) (text : List ℕ) → Indexes s index → Indexes (with_text s path version text) index
index_kept index s path version text is folder name = is folder name ∙ sym (number_still s path version text folder name)
