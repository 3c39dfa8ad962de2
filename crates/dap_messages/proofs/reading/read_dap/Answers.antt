use Rattle.std.proofs.Common.{Ok, sym, ap, ◌∙◌}
use Rattle.std.proofs.lemmas.Result.{IfOk-at_ok}
use Rattle.serde_json.specs.View.{view}
use Rattle.dap_messages.proofs.NameLaws.{Names, IfOk-command_of, or_not_dap-Ok}
use Rattle.dap_messages.proofs.reading.read_dap.Goals as goal

pub returns-clause-named : goal.returns-clause-named
returns-clause-named c =
    or_not_dap-Ok _ _ (sym c.in_ok-name.ensures)
    ∙ ap Ok (IfOk-at_ok (Names c.in_ok-name.name.now) c.in_ok-command.ensures (IfOk-command_of _ c.in_ok-name.name.now (view c.args.v.now)))
