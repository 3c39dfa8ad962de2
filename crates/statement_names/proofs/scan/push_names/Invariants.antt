use Rattle.std.proofs.Common.{◌++◌, length}
use denote.Text.{Utf8}
use denote.Shadow.{shadow}
use Rattle.std.specs.Str.{chars}
use Rattle.statement_names.specs.Names.{names}
use Rattle.statement_names.specs.Scans.{IsScanned}
use Rattle.statement_names.proofs.scan.push_names.Given as goal

-- the names so far and those of what is left are the names of the text
abbrev pub invariant-loop-c : goal.invariant-loop-c
invariant-loop-c l =
    shadow (Utf8 l.left)
    × IsScanned l.sought l.field l.at l.marks l.place l.found (chars l.left) (l.initial.found ++ names l.sought l.field l.at (chars l.text))

abbrev pub decreases-loop-c : goal.decreases-loop-c
decreases-loop-c l = length (chars l.left)
