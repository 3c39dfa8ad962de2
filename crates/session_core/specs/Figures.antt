-- The figures of an assembled program (this project).
use Rattle.std.specs.Prelude.{◌≡◌, ◌&&◌, ℕ, ℤ, Bool, not, List, Option, Some, None, is_some, option_map, option_and_then, if◌then◌else◌}
use Rattle.hl_base.specs.declared.place.PathId.{PathId}
use Rattle.document_store.specs.Store.{Store, OpenDocument}
use Rattle.document_store.specs.Shown.{Shows}
use Rattle.document_store.specs.declared.document.Document.{Document}
use Rattle.library_folders.specs.declared.configuration.Configuration.{Configuration}
use Rattle.library_folders.specs.Folders.{parm_for}
use Rattle.program_names.specs.DeclaredFigures.{Figures}
use Rattle.program_names.specs.DeclaredSummary.{Summary}
use Rattle.program_names.specs.Figures.{figures_of}
use Rattle.program_names.specs.Globals.{number_of}
use Rattle.session_core.specs.Diagnostics.{members_of}
use Rattle.session_core.specs.State.{State, number_named, document_at, is_queued, last_list}

-- The figures of a program: of an assembly of its text, with the SYSPARM and the members of its group, where it may be given so many
-- statements.
unfoldable pub figures_over : (root : Option (List ℕ)) → Configuration → Store → (budget : ℕ) → PathId → OpenDocument → Figures
figures_over root configuration store budget n document =
    figures_of n.0 document.text (parm_for root configuration document.path) (members_of root configuration store document) budget

-- A program is assembled where its list was published and it is not queued: then its last assembly is that of its text as it is now,
-- since it is queued wherever its text, a member or the configuration changes.
abbrev pub is_assembled : State → PathId → Bool
is_assembled s n = is_some (last_list s.published n) && not (is_queued s.queue n)

-- the figures of an open document
abbrev pub figures_in : State → PathId → OpenDocument → Figures
figures_in s n document = figures_over s.root s.configuration s.store s.budget n document

abbrev pub figures_told : State → PathId → Option OpenDocument → Option Figures
figures_told s n None = None
figures_told s n (Some document) = Some (figures_in s n document)

-- those of the document of a number, if it is an assembled program
abbrev pub figures_at : State → PathId → Option Figures
figures_at s n = if is_assembled s n then figures_told s n (document_at s.store n) else None

-- those of the program that a URI names
abbrev pub figures_named : State → (uri : List ℕ) → Option Figures
figures_named s uri = option_and_then (figures_at s) (number_named s.store uri)

-- its points, symbols and notes
abbrev pub summary_named : State → (uri : List ℕ) → Option Summary
summary_named s uri = option_map (λ (f : Figures). f.summary) (figures_named s uri)

-- the number that the global SETA symbol of a name holds at its end
abbrev pub global_named : State → (uri name : List ℕ) → Option ℤ
global_named s uri name = option_and_then (λ (f : Figures). number_of name f.globals) (figures_named s uri)

-- these are the figures of the document of a number, as it is shown
abbrev pub TellsFigures : State → PathId → (shown : Document) → Figures → Type 0
TellsFigures s n shown figures = (document : OpenDocument) → document_at s.store n ≡ Some document → Shows s.store.paths document shown
    → figures ≡ figures_in s n document
