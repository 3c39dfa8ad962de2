use Rattle.std.proofs.Common.{ap, ◌∙◌, map, take}
use Rattle.answers_feed.specs.Diagnostics.{diagnostic_of_note, published}
use Rattle.answers_feed.specs.Sites.{shelf, site_at}
use Rattle.answers_feed.proofs.ListLaws.{map_all_shown, map_next}
use Rattle.answers_feed.proofs.diagnostics.published.Goals as goal

pub loop-note-preserved : goal.loop-note-preserved
loop-note-preserved c =
    let note = c.note-item.result in
    let made =
    c.in_ok-diagnostic_of_note.ensures.diagnostic
    ∙ ap (λ members. diagnostic_of_note c.args.program.0 (site_at c.args.program.0 c.in_ok-own.own members) note) c.loop-note.invariant.1 in (
      map_next (diagnostic_of_note c.args.program.0 (site_at c.args.program.0 c.in_ok-own.own (shelf c.args.folders.now c.args.store.now.store))) (take c.min.result c.args.notes.now)
          c.loop-note.list c.push.new.self c.loop-note.note-index note c.in_ok-diagnostic_of_note.field-0 c.loop-note.invariant.0 c.loop-note-test.true c.note-item.is made
          c.in_ok-push.ensures.ok,
      c.in_ok-diagnostic_of_note.ensures.same ∙ c.loop-note.invariant.1,
    )

pub returns : goal.returns
unfolding published
returns c = λ document is_open.
    map_all_shown _ c.args.notes.now _ 1000 c.min.result c.loop-note.note-index c.loop-note.invariant.0 c.loop-note-test.false c.min.ensures
    ∙ ap (λ own. map (diagnostic_of_note c.args.program.0 (site_at c.args.program.0 own (shelf c.args.folders.now c.args.store.now.store))) (take 1000 c.args.notes.now))
    (c.in_ok-own.ensures document is_open)
