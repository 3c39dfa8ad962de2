use Rattle.std.proofs.Common.{◌≡◌, ◌∙◌, Some, None, ap, sym}
use Rattle.std.specs.Prelude.{position}
use Rattle.debug_sessions.specs.State.{has_number}
use Rattle.debug_sessions.specs.Answers.{seq_for, counted}
use Rattle.debug_sessions.proofs.PlaceLemmas.{found_at, none_found}
use Rattle.debug_sessions.proofs.SessionLemmas.{counts_there}
use Rattle.debug_sessions.proofs.sessions.count.Goals as goal

pub returns-in-Some-clause-seq : goal.returns-in-Some-clause-seq
returns-in-Some-clause-seq c =
    c.count_at.ensures.seq ∙ ap seq_for (found_at (has_number c.args.number) c.args.sessions.now c.in-Some.at (sym c.in-Some.ensures))

pub returns-in-Some-clause-counted : goal.returns-in-Some-clause-counted
returns-in-Some-clause-counted c =
    counts_there c.args.sessions.now c.count_at.new.sessions c.args.number c.in-Some.at (sym c.in-Some.ensures) c.count_at.ensures.counted

pub returns-in-None-clause-seq : goal.returns-in-None-clause-seq
returns-in-None-clause-seq c =
    sym (ap seq_for (none_found (has_number c.args.number) c.args.sessions.now (sym c.in-None.ensures)))

pub returns-in-None-clause-counted : goal.returns-in-None-clause-counted
returns-in-None-clause-counted c =
    sym (ap (λ found. counted c.args.number found c.args.sessions.now) (none_found (has_number c.args.number) c.args.sessions.now (sym c.in-None.ensures)))
