-- The figures of a program are those that are told of its document as it is shown (this project).
use Rattle.std.proofs.Common.{◌≡◌, ℕ, Bool, true, false, cond, List, Option, Some, None, refl, sym, ap, ◌∙◌}
use Rattle.std.specs.Prelude.{option_and_then}
use Rattle.hl_base.specs.declared.place.PathId.{PathId}
use Rattle.document_store.specs.Store.{OpenDocument}
use Rattle.document_store.specs.Shown.{IsShown}
use Rattle.document_store.specs.declared.document.Document.{Document}
use Rattle.program_names.specs.DeclaredFigures.{Figures}
use Rattle.session_core.specs.Figures.{figures_told, is_assembled, figures_at, figures_named, TellsFigures}
use Rattle.session_core.specs.State.{State, number_named, document_at}

-- it is no assembled program
pub figures_other : (s : State) (n : PathId) (told : Bool) → told ≡ is_assembled s n → told ≡ false → None ≡ figures_at s n
figures_other s n told is other = ap (λ b. cond b (figures_told s n (document_at s.store n)) None) (sym other ∙ is)

-- no document is open
pub figures_absent : (s : State) (n : PathId) → IsShown s.store.paths (document_at s.store n) None → None ≡ figures_at s n
figures_absent s n is = by_document (document_at s.store n) (is_assembled s n) is where
  by_document : (found : Option OpenDocument) (assembled : Bool) → IsShown s.store.paths found None → None ≡ cond assembled (figures_told s n found) None
  by_document None true is = refl
  by_document None false is = refl
  by_document (Some document) assembled is = absurd is

-- it is one, whose figures were found
pub figures_found : (s : State) (n : PathId) (shown : Document) (told : Bool) (figures : Figures) → told ≡ is_assembled s n → told ≡ true
    → IsShown s.store.paths (document_at s.store n) (Some shown) → TellsFigures s n shown figures → Some figures ≡ figures_at s n
figures_found s n shown told figures is holds shows made =
    by_document (document_at s.store n) refl shows ∙ ap (λ b. cond b (figures_told s n (document_at s.store n)) None) (sym holds ∙ is) where
      by_document : (found : Option OpenDocument) → document_at s.store n ≡ found → IsShown s.store.paths found (Some shown) → Some figures ≡ figures_told s n found
      by_document None e shows = absurd shows
      by_document (Some document) e shows = ap (λ f. Some f) (made document e shows)

-- what a URI names has a number, or none
pub named_found : (s : State) (uri : List ℕ) (n : PathId) (figures : Option Figures) → Some n ≡ number_named s.store uri → figures ≡ figures_at s n → figures ≡ figures_named s uri
named_found s uri n figures found is = is ∙ ap (option_and_then (figures_at s)) found

pub named_absent : (s : State) (uri : List ℕ) → None ≡ number_named s.store uri → None ≡ figures_named s uri
named_absent s uri absent = ap (option_and_then (figures_at s)) absent
