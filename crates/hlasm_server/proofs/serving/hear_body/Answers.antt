use Rattle.hlasm_server.proofs.serving.hear_body.Goals as goal

pub returns-clause-hears : goal.returns-clause-hears
returns-clause-hears g c = rw c.deref.ensures.value at c.hear_and_send.ensures.hears
