use Rattle.hlasm_server.proofs.OutputLaws.{either_out, never_both, some_out}
use Rattle.hlasm_server.proofs.laws.some_output.Goals as goal

pub returns-clause-either : goal.returns-clause-either
returns-clause-either c = either_out

pub returns-clause-never_both : goal.returns-clause-never_both
returns-clause-never_both c = never_both

pub returns-clause-none_to_come : goal.returns-clause-none_to_come
returns-clause-none_to_come c = λ from before bytes none room.
    let o = some_out from before bytes none room in (o.replies, o.status, o.taken, o.out)
