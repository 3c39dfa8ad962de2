use Rattle.bulk_session.proofs.ProgramLaws.{on_ok, may_turn, is_listed}
use Rattle.bulk_session.proofs.running.make_list.Goals as goal

pub make_turn-requires : goal.make_turn-requires
make_turn-requires g c = record { work = may_turn c.args.session.now.state c.args.count c.args.edits c.requires.queued }

pub returns : goal.returns
returns g c =
    on_ok c.make_turn.result _ _ (is_listed c.args.session.now.state c.make_turn.new.session.state c.args.count c.args.edits c.requires.queued) c.make_turn.ensures
