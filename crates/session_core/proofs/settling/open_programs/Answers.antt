use Rattle.std.proofs.Common.{ap, ◌∙◌}
use Rattle.session_core.specs.State.{programs, with_programs}
use Rattle.session_core.proofs.SettlingLaws.{programs_only}
use Rattle.session_core.proofs.settling.open_programs.Goals as goal

pub returns : goal.returns
returns c =
    let all = programs c.args.folders.now c.args.store.now.store in
    c.in_ok-queue_programs.ensures ∙ ap (λ queue. with_programs queue all) c.new-programs.ensures.items ∙ programs_only all
