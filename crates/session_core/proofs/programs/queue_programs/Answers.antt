use Rattle.std.proofs.Common.{◌++◌, ◌∙◌, ap, take, length}
use Rattle.session_core.specs.Inside.{wanted_of}
use Rattle.session_core.proofs.ProgramLaws.{shows_at, queuing_goes_on, queuing_ends, nothing_behind}
use Rattle.session_core.proofs.programs.queue_programs.Goals as goal

pub returns-in_default : goal.returns-in_default
returns-in_default c =
    queuing_ends c.args.folders.now c.args.store.now.store c.args.queue.now.items c.loop-index.queue.items c.loop-index.index c.loop-index.invariant
    (nothing_behind c.args.store.now.store c.loop-index.index c.in_default.ensures)

pub queue_document-requires : goal.queue_document-requires
queue_document-requires c =
    let at = shows_at c.args.store.now.store c.loop-index.index c.in-Some.document c.in-Some.ensures in
    record { shown = (at.document, at.shows) }

pub loop-index-preserved : goal.loop-index-preserved
loop-index-preserved c =
    let now = c.loop-index.queue.items in
    queuing_goes_on c.args.folders.now c.args.store.now.store c.args.queue.now.items now _ c.loop-index.index c.in-Some.document c.loop-index.invariant c.in-Some.ensures
    (λ document shows. c.in_ok-queue_document.ensures document shows
    ∙ ap (λ xs. now ++ wanted_of c.args.folders.now (take (length xs) now) document c.in-Some.document.path) c.as_slice-kept.ensures.value)
