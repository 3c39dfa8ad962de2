use Rattle.std.proofs.Common.{◌≡◌, ◌==◌, true, false}
use Rattle.session_core.proofs.ProgramLaws.{search_finds, search_goes_on, search_fails}
use Rattle.session_core.proofs.programs.document_at.Goals as goal

pub returns-in-Some : goal.returns-in-Some
returns-in-Some c =
    let same : (c.in-Some.document.path.0 == c.args.path.0) ≡ true = cc in
    search_finds c.args.store.now.store c.args.path c.loop-index.index c.in-Some.document c.loop-index.invariant c.in-Some.ensures same

pub returns-in-None : goal.returns-in-None
returns-in-None c = search_fails c.args.store.now.store c.args.path c.loop-index.index c.loop-index.invariant c.in-None.ensures

pub loop-index-preserved : goal.loop-index-preserved
loop-index-preserved c =
    let other : (c.in-Some.document.path.0 == c.args.path.0) ≡ false = cc in
    search_goes_on c.args.store.now.store c.args.path c.loop-index.index c.in-Some.document c.loop-index.invariant c.in-Some.ensures other
