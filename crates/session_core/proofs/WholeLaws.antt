-- What opening, changing and closing leave of what is true of the parts of a session.
use Rattle.std.proofs.Common.{◌≡◌, ℕ, ℤ, Bool, cond, List, [], Option, Some, None, Result, Ok, Err, sym, ap, ◌∙◌, subst}
use Rattle.std.specs.Prelude.{IfSome}
use Rattle.file_uri.specs.Paths.{path_of}
use Rattle.hl_base.specs.declared.edit.Edit.{Edit}
use Rattle.hl_base.specs.declared.place.PathId.{PathId}
use Rattle.document_store.specs.Store.{Store, OpenDocument, document_of}
use Rattle.document_store.specs.Changes.{opened, changed, changed_at, changed_document, closed, with_text}
use Rattle.document_store.specs.Edits.{after_edits, and_then}
use Rattle.document_store.specs.declared.fault.StoreFault.{StoreFault}
use Rattle.library_folders.specs.declared.folders.Folder.{Folder}
use Rattle.library_folders.specs.Folders.{is_member}
use Rattle.group_members.specs.Members.{Indexes}
use Rattle.group_members.specs.declared.index.MemberIndex.{MemberIndex}
use Rattle.waiting_requests.specs.Names.{Names}
use Rattle.session_core.specs.declared.state.LastList.{LastList}
use Rattle.session_core.specs.Inside.{IsSound, IsWhole, libraries_in}
use Rattle.session_core.specs.State.{Around, number_named, without, published_without}
use Rattle.session_core.proofs.MemberLaws.{index_kept}
use Rattle.session_core.proofs.ListedLaws.{TellsMember, sound_opened, sound_changed, sound_closed}

-- whether a URI names a member, as the code has it: by folders that are the library folders
abbrev pub TellsOf : (folders : List Folder) → (uri : List ℕ) → Bool → Type 0
TellsOf folders uri member = (path : List ℕ) → path_of uri ≡ Some path → member ≡ is_member folders path

-- the same of the same URI
pub tells_same : (folders : List Folder) (uri other : List ℕ) (member : Bool) → uri ≡ other → TellsOf folders uri member → TellsOf folders other member
tells_same folders uri other member same tells path is = tells path (ap path_of same ∙ is)

tells_member : (around : Around) (folders shown : List Folder) (uri : List ℕ) (member : Bool) → folders ≡ libraries_in around → shown ≡ folders → TellsOf shown uri member
    → TellsMember around (path_of uri) member
tells_member around folders shown uri member are same tells path is = tells path is ∙ ap (λ z. is_member z path) (same ∙ are)

-- ---- opening

pub whole_opened : (listed fewer : List PathId) (folders shown : List Folder) (index : Option MemberIndex) (names : Option (List Names)) (around : Around) (s new : Store)
    (published : List LastList)
    (uri language : List ℕ) (version : ℤ) (text : List ℕ) (member : Bool) (n : Option PathId)
    → opened s uri language version text ≡ Ok new → shown ≡ folders → TellsOf shown uri member → n ≡ number_named s uri → fewer ≡ cond member [] (without listed n)
    → IsWhole listed folders index names around s published → IsWhole fewer folders None None around new published
whole_opened listed fewer folders shown index names around s new published uri language version text member n is same tells named left whole = record {
  sound = subst (λ l. IsSound l around new published) (sym (left ∙ ap (λ z. cond member [] (without listed z)) named))
      (sound_opened listed around s new published uri language version text member is (tells_member around folders shown uri member whole.folders_are same tells) whole.sound);
  folders_are = whole.folders_are;
  index_is = tt;
  names_are = tt;
}

-- ---- changing

-- a store with another version and text of the document of a path
record IsRewritten (s new : Store) : Type 0 where
  path : List ℕ
  version : ℤ
  text : List ℕ
  is : with_text s path version text ≡ new

rewritten_text : (s new : Store) (path : List ℕ) (version : ℤ) (text : Result (List ℕ) StoreFault) → and_then (λ changed. Ok (with_text s path version changed)) text ≡ Ok new → IsRewritten s new
rewritten_text s new path version (Err fault) is = cc
rewritten_text s new path version (Ok text) is = record { path = path; version = version; text = text; is = cc }

rewritten_document : (s new : Store) (path : List ℕ) (document : Option OpenDocument) (version : ℤ) (edits : List Edit) → changed_document s path document version edits ≡ Ok new → IsRewritten s new
rewritten_document s new path None version edits is = cc
rewritten_document s new path (Some document) version edits is = rewritten_text s new path version (after_edits edits 0 document.text) is

rewritten_at : (s new : Store) (path : Option (List ℕ)) (version : ℤ) (edits : List Edit) → changed_at s path version edits ≡ Ok new → IsRewritten s new
rewritten_at s new None version edits is = cc
rewritten_at s new (Some path) version edits is = rewritten_document s new path (document_of s path) version edits is

-- paths and which of them have something present are as they were, so an index of members is one still
index_changed : (index : Option MemberIndex) (s new : Store) → IsRewritten s new → IfSome index (Indexes s) → IfSome index (Indexes new)
index_changed None s new rewritten is = tt
index_changed (Some known) s new rewritten is =
    subst (λ z. Indexes z known) rewritten.is (index_kept known s rewritten.path rewritten.version rewritten.text is)

pub whole_changed : (listed fewer : List PathId) (folders shown : List Folder) (index : Option MemberIndex) (names : Option (List Names)) (around : Around) (s new : Store)
    (published : List LastList)
    (uri : List ℕ) (version : ℤ) (edits : List Edit) (member : Bool) (n : Option PathId)
    → changed s uri version edits ≡ Ok new → shown ≡ folders → TellsOf shown uri member → n ≡ number_named s uri → fewer ≡ cond member [] (without listed n)
    → IsWhole listed folders index names around s published → IsWhole fewer folders index None around new published
whole_changed listed fewer folders shown index names around s new published uri version edits member n is same tells named left whole = record {
  sound = subst (λ l. IsSound l around new published) (sym (left ∙ ap (λ z. cond member [] (without listed z)) named))
      (sound_changed listed around s new published uri version edits member is (tells_member around folders shown uri member whole.folders_are same tells) whole.sound);
  folders_are = whole.folders_are;
  index_is = index_changed index s new (rewritten_at s new (path_of uri) version edits is) whole.index_is;
  names_are = tt;
}

-- ---- closing

pub whole_closed : (listed fewer : List PathId) (folders shown : List Folder) (index : Option MemberIndex) (names : Option (List Names)) (around : Around) (s new : Store)
    (published others : List LastList)
    (uri : List ℕ) (member : Bool) (n : Option PathId)
    → closed s uri ≡ Ok new → shown ≡ folders → TellsOf shown uri member → n ≡ number_named s uri → fewer ≡ cond member [] (without listed n) → others ≡ published_without published n
    → IsWhole listed folders index names around s published → IsWhole fewer folders None None around new others
whole_closed listed fewer folders shown index names around s new published others uri member n is same tells named left kept whole = record {
  sound = subst (λ l. IsSound l around new others) (sym (left ∙ ap (λ z. cond member [] (without listed z)) named))
      (subst (λ p. IsSound (cond member [] (without listed (number_named s uri))) around new p) (sym (kept ∙ ap (published_without published) named))
      (sound_closed listed around s new published uri member is (tells_member around folders shown uri member whole.folders_are same tells) whole.sound));
  folders_are = whole.folders_are;
  index_is = tt;
  names_are = tt;
}
