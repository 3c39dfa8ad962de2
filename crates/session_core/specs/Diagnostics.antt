-- The list of diagnostics of a program (this project).
use Rattle.std.specs.Prelude.{ℕ, List, Option}
use Rattle.hl_base.specs.declared.place.PathId.{PathId}
use Rattle.lsp_messages.specs.declared.outgoing.Diagnostic.{Diagnostic}
use Rattle.text_pool.specs.Members.{Member}
use Rattle.document_store.specs.Store.{Store, OpenDocument}
use Rattle.library_folders.specs.declared.configuration.Configuration.{Configuration}
use Rattle.library_folders.specs.Folders.{parm_for, folders_for}
use Rattle.group_members.specs.Members.{member_of}
use Rattle.program_names.specs.Assembly.{assembly_notes}
use Rattle.answers_feed.specs.Diagnostics.{published}
use Rattle.answers_feed.specs.Sites.{sites_of}
use Rattle.session_core.specs.State.{State, libraries_of}

-- what a program finds under a name is what its group finds
abbrev pub members_of : (root : Option (List ℕ)) → Configuration → Store → OpenDocument → (name : List ℕ) → Member
members_of root configuration store document = member_of store (folders_for root configuration document.path)

-- The diagnostics of a program: those of the notes of an assembly of its text, with the SYSPARM and the members of its group,
-- where it may be given so many statements. Frames stand in the program or in a member of a library folder.
unfoldable pub diagnostics_of : (root : Option (List ℕ)) → Configuration → Store → (budget : ℕ) → PathId → OpenDocument → List Diagnostic
diagnostics_of root configuration store budget n document =
    published n.0 (sites_of (libraries_of root configuration) store n.0 document)
    (assembly_notes n.0 document.text (parm_for root configuration document.path) (members_of root configuration store document) budget)

-- the diagnostics of a program of a session
abbrev pub list_of : State → PathId → OpenDocument → List Diagnostic
list_of s n document = diagnostics_of s.root s.configuration s.store s.budget n document
