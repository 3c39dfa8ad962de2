-- How many statements there are.
use Rattle.std.proofs.Common.{◌≡◌, ◌∙◌, suc, List, [], ◌∷◌, length, map, refl, ap}
use Rattle.std.proofs.lemmas.List.{length-map}
use Rattle.hl_base.specs.declared.set.Line.{Line}
use Rattle.note_rows.specs.declared.row.Row.{Row}
use Rattle.ordinary_symbols.specs.Rounds.{resolved}
use Rattle.section_steps.specs.States.{State}
use Rattle.section_layout.specs.Layout.{layout_of, ended, settled, judged}
use Rattle.section_layout.specs.Walks.{Met, all_met, also_said_of_last}

length-all_met : (lines : List Line) (state : State) → length (all_met lines state) ≡ length lines
length-all_met [] state = refl
length-all_met (line ∷ lines) state = ap suc (length-all_met lines _)

length-also_said : (rows : List Row) (all : List Met) → length (also_said_of_last rows all) ≡ length all
length-also_said rows [] = refl
length-also_said rows (one ∷ []) = refl
length-also_said rows (one ∷ two ∷ all) = ap suc (length-also_said rows (two ∷ all))

length-settled : (all : List Met) (state : State) → length (settled all state).statements ≡ length all
unfolding settled
length-settled all state = length-map all (judged (resolved state.symbols))

length-ended : (all : List Met) (state : State) → length (ended all state).statements ≡ length all
unfolding ended
length-ended all state = length-settled _ _ ∙ length-also_said _ all

pub length-layout_of : (lines : List Line) → length (layout_of lines).statements ≡ length lines
unfolding layout_of
length-layout_of lines = length-ended _ _ ∙ length-all_met lines _
