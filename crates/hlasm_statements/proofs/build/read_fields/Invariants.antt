use Rattle.std.proofs.Common.{◌≡◌, ◌+◌, ◌∷◌, take}
use Rattle.std.specs.Prelude.{chars}
use Rattle.hlasm_statements.specs.Reading.{IsRead, whole_source, bodies_of}
use Rattle.hlasm_statements.proofs.build.read_fields.Given as goal

-- the lines so far are read
abbrev pub invariant-loop-body : goal.invariant-loop-body
invariant-loop-body l = IsRead l.reader l.alternate (whole_source l.number (chars l.first ∷ bodies_of (take l.body-index l.rest))) × (l.line ≡ l.number + l.body-index)
