use Rattle.bulk_session.specs.Inside.{IsListed}
use Rattle.bulk_session.proofs.running.make_edits.Given as goal

-- the list was made behind the edits so far
abbrev pub invariant-loop-edit : goal.invariant-loop-edit
invariant-loop-edit g l = IsListed l.session.state l.count l.edit
