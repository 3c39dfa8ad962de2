use Rattle.std.proofs.Common.{◌≡◌, map}
use Rattle.ordinary_symbols.specs.Shown.{table_of}
use Rattle.section_layout.specs.Layout.{judged}
use Rattle.section_layout.specs.Views.{met_of}
use Rattle.section_layout.proofs.Judgments.{so_far}
use Rattle.section_layout.proofs.judge.judge_all.Given as goal

-- the statements that were judged, and then those that are left
abbrev pub invariant-loop-one : goal.invariant-loop-one
invariant-loop-one l = so_far (table_of l.symbols) l.all l.one-index ≡ map (judged (table_of l.symbols)) (map met_of l.initial.all)
