-- What an expression of a call is told, where answers to keys were noted: of each key the first answer. This project.
use Rattle.std.specs.Prelude.{List}
use Rattle.hl_base.specs.declared.set.Key.{Key}
use Rattle.kept_values.specs.Trees.{look_up}
use Rattle.kept_values.specs.Keys.{key_tree}
use Rattle.asking_core.specs.declared.footprint.Noted.{Noted}
use Rattle.asking_core.specs.Places.{pairs_of}
use Rattle.cond_expr.specs.Asking.{Answers}
use Rattle.cond_expr.specs.Told.{Told}
use Rattle.question_trees.specs.Bridge.{answers_in}
use Rattle.call_sites.specs.Values.{known_tree}
use Rattle.call_sites.specs.declared.known.Known.{Known}
use Rattle.call_knowledge.specs.Knowledge.{Knowledge}
use Rattle.call_knowledge.specs.Standing.{told_by}

-- the answers that were noted
abbrev pub answers_of : List (Noted Key Known) → Answers
answers_of noted = answers_in (look_up (pairs_of key_tree known_tree noted))

abbrev pub told_of : Knowledge → List (Noted Key Known) → Told
told_of k noted = told_by k (answers_of noted)
