use Rattle.std.proofs.Common.{◌≡◌, drop}
use Rattle.asked_definitions.proofs.AnswerLaws.{noted_at}
use Rattle.asked_definitions.proofs.member.known_at.Given as goal

-- what is left has what all have
abbrev pub invariant-loop-noted : goal.invariant-loop-noted
invariant-loop-noted l = noted_at l.answers l.key ≡ noted_at (drop l.noted-index l.answers) l.key
