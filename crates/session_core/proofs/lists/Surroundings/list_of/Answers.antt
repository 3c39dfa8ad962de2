use Rattle.std.proofs.Common.{ap, ◌∙◌}
use Rattle.std.specs.Option.{option_copied}
use Rattle.answers_feed.specs.Diagnostics.{published}
use Rattle.answers_feed.specs.Sites.{sites_of}
use Rattle.session_core.proofs.ListLaws.{if_ok}
use Rattle.session_core.proofs.MadeLaws.{open_at, list_made}
use Rattle.session_core.proofs.TextLaws.{numbered}
use Rattle.session_core.proofs.lists.Surroundings.list_of.Goals as goal

pub returns : goal.returns
returns g c =
    let around = c.args.self.now in
    let store = around.store.now.store in
    let n = c.args.path in
    if_ok c.published.result (λ list made. λ document found shows.
    let is = numbered store n document c.args.document.now found shows in
    let notes = c.in_ok-notes.ensures document is.path (c.in_ok-text.ensures document found is.path is.number) in
    list_made (option_copied around.root) around.configuration.now store around.budget n document around.folders.now c.in_ok-notes.notes list
    c.requires.folders notes
    (made document (open_at store n document c.args.document.now found shows)
    ∙ ap (published n.0 (sites_of around.folders.now store n.0 document)) c.as_slice.ensures))
    c.published.ensures
