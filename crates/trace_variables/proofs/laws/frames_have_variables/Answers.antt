use Rattle.trace_variables.proofs.FrameLemmas.{frames_have}
use Rattle.trace_variables.proofs.laws.frames_have_variables.Goals as goal

pub returns : goal.returns
returns c trace index frame = frames_have trace index frame
