use Rattle.std.proofs.Common.{◌≡◌, length}
use denote.Shadow.{shadow}
use denote.Text.{Utf8}
use Rattle.std.specs.Str.{chars}
use Rattle.macro_library.specs.Variables.{joined, named_from, named_in}
use Rattle.macro_library.proofs.variables.named_in.Given as goal

-- those so far, and those of what is left
abbrev pub invariant-loop-c : goal.invariant-loop-c
invariant-loop-c l = (named_in (chars l.text) ≡ joined l.named (named_from (chars l.left) l.after)) × shadow (Utf8 l.left)

abbrev pub decreases-loop-c : goal.decreases-loop-c
decreases-loop-c l = length (chars l.left)
