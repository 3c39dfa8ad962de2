use Rattle.std.proofs.Common.{sym}
use Rattle.program_assembly.proofs.LineLaws.{FollowOn-last, FollowOn-none}
use Rattle.program_assembly.proofs.column_notes.last_line.Goals as goal

pub returns-in-Some : goal.returns-in-Some
returns-in-Some c = λ end follows some. FollowOn-last _ 0 end c.in-Some.statement.now follows some (sym c.in-Some.ensures.value)

pub returns-in-None : goal.returns-in-None
returns-in-None c = λ end follows some. absurd (FollowOn-none _ 0 end follows some (sym c.in-None.ensures.value))
