use Rattle.std.proofs.Common.{ap, sym, ◌∙◌}
use Rattle.bulk_session.specs.SessionView.{SessionView, beginning}
use Rattle.hlasm_server.proofs.ServeLaws.{ends_at_once}
use Rattle.hlasm_server.proofs.serving.serve.Goals as goal

pub returns-in-Err-clause-plain : goal.returns-in-Err-clause-plain
returns-in-Err-clause-plain g c = ends_at_once _ _ _ _ _

pub serve_session-requires-clause-session : goal.serve_session-requires-clause-session
serve_session-requires-clause-session g c = c.in-Ok.ensures ∙ ap beginning (sym (ap (λ (z : SessionView). z.state.budget) c.in-Ok.ensures))

pub returns-clause-plain : goal.returns-clause-plain
returns-clause-plain g c = rw (ap (λ (z : SessionView). z.state.budget) c.in-Ok.ensures) at c.serve_session.ensures.plain
