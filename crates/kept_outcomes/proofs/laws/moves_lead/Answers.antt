use Rattle.kept_outcomes.proofs.Steps.{leads_ask, leads_put, leads_count, leads_bump, leads_emit, leads_at, leads_deepen, leads_no_frame, leads_no_call, leads_rise, comes_leave, comes_end, comes_spent}
use Rattle.kept_outcomes.proofs.laws.moves_lead.Goals as goal

pub returns : goal.returns
returns g c = λ fuel depth a.
    let M = g.M.AskMachine.model in
    let W = g.W.World.model in
    let rebased = g.M.AskMachine.rebased in
    record {
      asks = leads_ask M W rebased fuel depth a;
      puts = leads_put M W rebased fuel depth a;
      counts = leads_count M W rebased fuel depth a;
      bumps = leads_bump M W rebased fuel depth a;
      emits = leads_emit M W rebased fuel depth a;
      says_at = leads_at M W rebased fuel depth a;
      deepens = leads_deepen M W rebased fuel depth a;
      no_frame = leads_no_frame M W rebased fuel depth a;
      no_call = leads_no_call M W rebased fuel depth a;
      rises = leads_rise M W rebased fuel depth a;
      leaves = comes_leave M W rebased fuel depth a;
      ends = comes_end M W rebased fuel depth a;
      finds_none = comes_spent M W rebased fuel depth a;
    }
