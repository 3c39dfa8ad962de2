-- The frames of one call at one of its statements (this project).
use Rattle.std.specs.Prelude.{List, [], ◌∷◌, ◌++◌}
use Rattle.hl_base.specs.declared.place.Frame.{Frame}
use Rattle.hl_base.specs.declared.place.Origin.{Origin}

-- the innermost frame, which the statement stands in, and those round it, outermost first
pub record CallFrames : Type 0 where
  pub outer : List Frame
  pub innermost : Frame

-- all of them, outermost first: there is at least one
abbrev pub frames_of : CallFrames → List Frame
frames_of frames = frames.outer ++ frames.innermost ∷ []

-- the same frames at another statement of the innermost one
abbrev pub at_statement : CallFrames → Origin → CallFrames
at_statement frames place = record frames { innermost = record frames.innermost { origin = place } }
