-- What is written for documents that are no programs any more.
use Rattle.std.proofs.Common.{◌≡◌, ℕ, ◌+◌, Bool, true, false, not, cond, List, [], ◌∷◌, ◌++◌, drop, filter, Some, refl, sym, ap, ◌∙◌, slice_get, append_assoc}
use Rattle.std.specs.List.{flat_map}
use Rattle.std.proofs.lemmas.List.{append-nil}
use Rattle.hl_base.specs.declared.place.PathId.{PathId}
use Rattle.document_store.specs.Store.{OpenDocument}
use Rattle.document_store.specs.Shown.{IsShown, Shows}
use Rattle.document_store.specs.declared.document.Document.{Document}
use Rattle.session_core.specs.Inside.{farewell_unless}
use Rattle.session_core.specs.Message.{farewell, farewells}
use Rattle.session_core.specs.State.{State, libraries, number_at, is_program, with_programs, last_list}
use Rattle.session_core.proofs.ListLaws.{drop_some}
use Rattle.session_core.proofs.ProgramLaws.{shows_at, number_shown}

-- what is written for those of these documents that are no programs
abbrev farewells_of : State → List OpenDocument → List (List ℕ)
farewells_of s documents =
    flat_map (λ document. farewell (Some document) (last_list s.published (number_at s.store document)))
    (filter (λ document. not (is_program (libraries s) document)) documents)

farewells_next : (s : State) (document : OpenDocument) (rest : List OpenDocument)
    → farewells_of s (document ∷ rest) ≡ farewell_unless s document (number_at s.store document) ++ farewells_of s rest
farewells_next s document rest = by_program (is_program (libraries s) document) where
  behind : List OpenDocument
  behind = filter (λ other. not (is_program (libraries s) other)) rest

  said : OpenDocument → List (List ℕ)
  said other = farewell (Some other) (last_list s.published (number_at s.store other))

  by_program : (b : Bool) → flat_map said (cond (not b) (document ∷ behind) behind) ≡ cond b [] (said document) ++ flat_map said behind
  by_program true = refl
  by_program false = refl

-- what is written so far, and what is left, are all
pub record IsLeaving (s : State) (bodies : List (List ℕ)) (i : ℕ) : Type 0 where
  pub rest : bodies ++ farewells_of s (drop i s.store.documents) ≡ farewells s

pub leaving_begins : (s : State) (bodies : List (List ℕ)) → bodies ≡ [] → IsLeaving s bodies 0
leaving_begins s bodies none = record { rest = ap (λ z. z ++ farewells s) none }

pub leaving_goes_on : (s : State) (bodies next : List (List ℕ)) (i : ℕ) (shown : Document) → IsLeaving s bodies i
    → IsShown s.store.paths (slice_get s.store.documents i) (Some shown)
    → ((document : OpenDocument) → Shows s.store.paths document shown → next ≡ bodies ++ farewell_unless s document shown.path)
    → IsLeaving s next (i + 1)
leaving_goes_on s bodies next i shown leaving is grown =
    let at = shows_at s.store i shown is in
    let rest = farewells_of s (drop (i + 1) s.store.documents) in
    let number = number_shown s.store at.document shown at.shows in
    record {
      rest = ap (λ z. z ++ rest) (grown at.document at.shows ∙ ap (λ n. bodies ++ farewell_unless s at.document n) (sym number))
          ∙ append_assoc bodies (farewell_unless s at.document (number_at s.store at.document)) rest
          ∙ ap (λ z. bodies ++ z) (sym (farewells_next s at.document (drop (i + 1) s.store.documents)))
          ∙ ap (λ z. bodies ++ farewells_of s z) (sym (drop_some s.store.documents i at.document at.is))
          ∙ leaving.rest;
    }

pub leaving_ends : (s : State) (bodies : List (List ℕ)) (i : ℕ) → IsLeaving s bodies i
    → drop i s.store.documents ≡ [] → bodies ≡ farewells s
leaving_ends s bodies i leaving none = sym (append-nil bodies) ∙ ap (λ z. bodies ++ farewells_of s z) (sym none) ∙ leaving.rest

-- where none was queued, these programs are all that are
pub programs_only : (others : List PathId) → with_programs [] others ≡ others
programs_only [] = refl
programs_only (n ∷ others) = ap (λ z. n ∷ z) (programs_only others)
