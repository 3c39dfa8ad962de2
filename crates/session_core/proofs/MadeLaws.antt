-- The list of a program, as it is made of what is reported of it.
use Rattle.std.proofs.Common.{◌≡◌, ℕ, List, Option, Some, ap, ◌∙◌}
use Rattle.hl_base.specs.declared.note.Note.{Note}
use Rattle.hl_base.specs.declared.place.PathId.{PathId}
use Rattle.lsp_messages.specs.declared.outgoing.Diagnostic.{Diagnostic}
use Rattle.document_store.specs.Store.{Store, OpenDocument}
use Rattle.document_store.specs.Shown.{Shows}
use Rattle.document_store.specs.declared.document.Document.{Document}
use Rattle.library_folders.specs.declared.configuration.Configuration.{Configuration}
use Rattle.library_folders.specs.declared.folders.Folder.{Folder}
use Rattle.library_folders.specs.Folders.{parm_for}
use Rattle.program_names.specs.Assembly.{assembly_notes}
use Rattle.answers_feed.specs.Diagnostics.{published}
use Rattle.answers_feed.specs.Sites.{IsOpen, sites_of}
use Rattle.session_core.specs.Diagnostics.{diagnostics_of, members_of}
use Rattle.session_core.specs.State.{document_at, libraries_of}
use Rattle.session_core.proofs.TextLaws.{numbered, found_of}

-- a document that is found by its number and shown is the one that is open at that number's path
pub open_at : (store : Store) (n : PathId) (document : OpenDocument) (shown : Document) → document_at store n ≡ Some document
    → Shows store.paths document shown → IsOpen store n.0 document
open_at store n document shown found shows =
    let is = numbered store n document shown found shows in
    record { path = is.path; is_open = found_of store n document found is }

-- so its list is the one of what is reported
pub list_made : (root : Option (List ℕ)) (configuration : Configuration) (store : Store) (budget : ℕ) (n : PathId)
    (document : OpenDocument) (folders : List Folder)
    (notes : List Note) (list : List Diagnostic) → folders ≡ libraries_of root configuration
    → notes ≡ assembly_notes n.0 document.text (parm_for root configuration document.path)
    (members_of root configuration store document) budget
    → list ≡ published n.0 (sites_of folders store n.0 document) notes → list ≡ diagnostics_of root configuration store budget n document
unfolding diagnostics_of
list_made root configuration store budget n document folders notes list are made is =
    is ∙ ap (λ f. published n.0 (sites_of f store n.0 document) notes) are
    ∙ ap (published n.0 (sites_of (libraries_of root configuration) store n.0 document)) made
