-- What an assembly by the machine that expands HLASM says is what plain expansion says.
use Rattle.std.proofs.Common.{◌≡◌, ℕ, List, [], ◌∷◌, length, map, refl, sym, ap, subst, ◌∙◌}
use Rattle.std.proofs.Math.Logic.{∥∥₁_elim}
use Rattle.std.proofs.Props.{props}
use Rattle.kept_values.specs.Lists.{list_tree}
use Rattle.hl_base.specs.declared.note.Note.{Note}
use Rattle.trace_values.specs.declared.item.TraceItem.{TraceItem}
use Rattle.trace_arena.specs.Nodes.{Node}
use Rattle.trace_arena.specs.Points.{Point, points}
use Rattle.asking_core.specs.Machines.{Nothing}
use Rattle.asking_core.specs.Runs.{Run, Plain}
use Rattle.plain_expansion.specs.Expansion.{expansion}
use Rattle.plain_expansion.specs.Laws.{Gives}
use Rattle.call_sites.specs.Calls.{Call, open_code, open_code_tree, call_of, text_in}
use Rattle.call_sites.specs.Rules.{rebased}
use Rattle.text_pool.specs.Members.{Member}
use Rattle.program_world.specs.World.{ProgramState, program_world, first_world}
use Rattle.macro_expand.specs.Language.{hlasm}
use Rattle.program_assembly.specs.declared.assembly.Assembly.{Assembly}
use Rattle.program_assembly.specs.Notes.{Ran, notes_of}
use Rattle.program_assembly.specs.Runs.{ran_of, IsReport, IsAssembly}
use Rattle.trace_paths.specs.Touched.{AreTouched}
use Rattle.program_assembly.specs.Assembly.{open_code_run, open_code_machine, assembly_notes, IsPlain}
use Rattle.trace_variables.specs.Globals.{globals_after}
use Rattle.trace_arena.specs.declared.node.NodeId.{NodeId}
use Rattle.program_assembly.proofs.PlainRuns.{map_same, point_same, plain_run, points_are, ended_is, unpaid_are}

-- the call of open code is read back from its tree
text_in-list_tree : (xs : List ℕ) → text_in (list_tree xs) ≡ xs
text_in-list_tree [] = refl
text_in-list_tree (x ∷ xs) = ap (λ ys. x ∷ ys) (text_in-list_tree xs)

call_is : (path : ℕ) (text : List ℕ) → call_of (open_code_tree path text) ≡ open_code path text
call_is path text = ap (open_code path) (text_in-list_tree text)

abbrev pub GivesExpansions : Type 0
GivesExpansions = (call : Call) (s : ProgramState) (fuel depth : ℕ) (run : Run Call TraceItem) →
    Plain open_code_machine program_world s (open_code_machine.start call) Nothing fuel depth 0 run →
    Gives open_code_machine program_world [] (open_code_machine.start call) Nothing s 0 run (expansion hlasm program_world call s fuel depth)

ran_as : (one other : Ran) → one.points ≡ other.points → one.ended ≡ other.ended → one.unpaid ≡ other.unpaid → one ≡ other
ran_as one other points_is ended_is unpaid_is = λ i. record { points = points_is i; ended = ended_is i; unpaid = unpaid_is i }

module _ (runs : GivesExpansions) (path : ℕ) (text parm : List ℕ) (members : List ℕ → Member) (budget : ℕ) (nodes : List (Node TraceItem)) (root : NodeId) (notes : List Note)
    (is : IsReport open_code_machine rebased call_of (λ item. item) (λ frames. frames) path text parm members budget nodes root notes) where
  abbrev s : ProgramState
  s = first_world text parm members

  abbrev ran_at : Call → Ran
  ran_at c = let x = expansion hlasm program_world c s budget 0 in record { points = x.points; ended = x.ended; unpaid = x.unpaid }

  -- the run is the plain expansion's
  ran_is : ran_of nodes is.outcome ≡ open_code_run path text parm members budget
  ran_is = ∥∥₁_elim is.comes.comes (hlevel props) (λ comes.
      let call = call_of (open_code_tree path text) in
      let e = expansion hlasm program_world call s budget 0 in
      let gives = runs call s budget 0 comes.run (plain_run open_code_machine program_world rebased budget 0 call s _ comes) in
      let points_is : points nodes is.outcome.node.0 ≡ e.points =
      sym (map_same _ point_same (points nodes is.outcome.node.0))
      ∙ points_are open_code_machine program_world rebased budget 0 call s _ comes e gives in
      let unpaid_is : is.outcome.unpaid.items ≡ e.unpaid =
      sym (map_same (λ frames. frames) (λ frames. refl) is.outcome.unpaid.items)
      ∙ unpaid_are open_code_machine program_world rebased budget 0 call s _ comes e gives in
      let ran : ran_of nodes is.outcome ≡ record { points = e.points; ended = e.ended; unpaid = e.unpaid } =
      ran_as _ _ points_is (ended_is open_code_machine program_world rebased budget 0 call s _ comes e gives) unpaid_is in
      ran ∙ ap ran_at (call_is path text))

  -- so the root has its points, and the notes are those of it
  pub root_points : points nodes root.0 ≡ (open_code_run path text parm members budget).points
  root_points = ap (λ (n : NodeId). points nodes n.0) is.root_is ∙ ap (λ (r : Ran). r.points) ran_is

  pub report_is_plain : notes ≡ assembly_notes path text parm members budget
  unfolding assembly_notes
  report_is_plain = is.notes_are ∙ ap (notes_of path text) ran_is

module _ (runs : GivesExpansions) (path : ℕ) (text parm : List ℕ) (members : List ℕ → Member) (budget : ℕ) (nodes : List (Node TraceItem)) (a : Assembly)
    (is : IsAssembly open_code_machine rebased call_of (λ item. item) (λ frames. frames) path text parm members budget nodes a) where
  pub assembly_is_plain : IsPlain path text parm members budget nodes a
  assembly_is_plain =
      let points_is = root_points runs path text parm members budget nodes a.root a.notes is.reported in
      record {
        points_are = points_is;
        count_is = is.points_are ∙ ap length points_is;
        notes_are = report_is_plain runs path text parm members budget nodes a.root a.notes is.reported;
        globals_are = is.globals_are ∙ ap (λ (ps : List (Point TraceItem)). globals_after (map (λ p. p.item) ps)) points_is;
        touched_are = subst (λ (ps : List (Point TraceItem)). AreTouched ps a.touched) points_is is.touched_are;
      }
