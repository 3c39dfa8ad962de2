use Rattle.hlasm_server.proofs.OutputLaws.{one_course, some_course}
use Rattle.hlasm_server.proofs.laws.one_course.Goals as goal

pub returns-clause-some : goal.returns-clause-some
returns-clause-some c = λ from before bytes room.
    let o = some_course from before bytes room in (o.replies, o.end, o.taken, o.course)

pub returns-clause-one : goal.returns-clause-one
returns-clause-one c = one_course
