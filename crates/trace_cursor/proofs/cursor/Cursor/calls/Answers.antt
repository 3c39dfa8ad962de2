use Rattle.trace_cursor.proofs.CursorLemmas.{calls_are}
use Rattle.trace_cursor.proofs.cursor.Cursor.calls.Goals as goal

pub returns : goal.returns
returns c nodes stands = calls_are nodes c.args.self.now stands
