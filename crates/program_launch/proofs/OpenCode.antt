-- A run of open code has the points of its plain expansion (this project).
use Rattle.std.proofs.Common.{◌≡◌, ℕ, ◌-◌, List, [], ◌∷◌, map, refl, sym, ap, subst, ◌∙◌, arith}
use Rattle.std.proofs.Math.Logic.{∥∥₁_elim}
use Rattle.std.proofs.Props.{props}
use Rattle.hl_base.specs.declared.place.Frame.{Frame}
use Rattle.kept_values.specs.Lists.{list_tree}
use Rattle.trace_values.specs.declared.item.TraceItem.{TraceItem}
use Rattle.trace_arena.specs.Nodes.{Node}
use Rattle.trace_arena.specs.Points.{Point, points}
use Rattle.asking_core.specs.Machines.{MachineModel, Nothing}
use Rattle.asking_core.specs.Runs.{Run, Plain}
use Rattle.plain_expansion.specs.Expansion.{expansion}
use Rattle.plain_expansion.specs.Laws.{Gives, careful_expander}
use Rattle.kept_outcomes.specs.Moments.{Finish, PlainRunTo, begun}
use Rattle.expansion_step.specs.Watch.{most_actions}
use Rattle.expansion_memo.specs.Kept.{point_by}
use Rattle.expansion_memo.specs.Reuse.{ComesTo}
use Rattle.expansion_memo.specs.declared.outcome.Outcome.{Outcome}
use Rattle.call_sites.specs.Calls.{Call, open_code, open_code_tree, call_of, text_in}
use Rattle.call_sites.specs.Rules.{is_moving, is_writable, rebased}
use Rattle.text_pool.specs.Members.{Member}
use Rattle.program_world.specs.World.{ProgramState, program_world, first_world}
use Rattle.macro_expand.specs.Language.{hlasm}
use Rattle.program_launch.specs.Traces.{trace_of}

-- the machine that expands open code
abbrev pub machine : MachineModel
machine = careful_expander hlasm most_actions is_moving is_writable

-- points whose items are read as they are
map_same : {A : Type 0} (f : A → A) → ((x : A) → f x ≡ x) → (xs : List A) → map f xs ≡ xs
map_same f same [] = refl
map_same f same (x ∷ xs) = ap (λ y. y ∷ map f xs) (same x) ∙ ap (λ ys. x ∷ ys) (map_same f same xs)

point_same : (p : Point TraceItem) → point_by (λ item. item) p ≡ p
point_same p = ap (λ calls. record { calls = calls; item = p.item }) (map_same (λ item. item) (λ item. refl) p.calls)

-- the call of open code is read back from its tree
text_in-list_tree : (xs : List ℕ) → text_in (list_tree xs) ≡ xs
text_in-list_tree [] = refl
text_in-list_tree (x ∷ xs) = ap (λ ys. x ∷ ys) (text_in-list_tree xs)

call_is : (path : ℕ) (text : List ℕ) → call_of (open_code_tree path text) ≡ open_code path text
call_is path text = ap (open_code path) (text_in-list_tree text)

-- each plain run gives the plain expansion
abbrev pub GivesExpansions : Type 0
GivesExpansions = (call : Call) (s : ProgramState) (fuel depth : ℕ) (run : Run Call TraceItem) →
    Plain machine program_world s (machine.start call) Nothing fuel depth 0 run →
    Gives machine program_world [] (machine.start call) Nothing s 0 run (expansion hlasm program_world call s fuel depth)

-- the run of a call that begins is a plain run of it
plain_run : (fuel : ℕ) (call : Call) (s : ProgramState) (z : Finish machine program_world) →
    (comes : PlainRunTo machine program_world rebased fuel 0 (begun machine program_world call s) z) →
    Plain machine program_world s (machine.start call) Nothing fuel 0 0 comes.run
plain_run fuel call s z comes =
    let same : fuel - 0 ≡ fuel = omega arith in
    subst (λ f. Plain machine program_world s (machine.start call) Nothing f 0 0 comes.run) same comes.plain

module _ (runs : GivesExpansions) (path : ℕ) (text parm : List ℕ) (members : List ℕ → Member) (budget : ℕ) (nodes : List (Node TraceItem))
    (t : ProgramState) (o : Outcome (List Frame))
    (is : ComesTo machine program_world rebased (λ item. item) (λ frames. frames) budget 0 (call_of (open_code_tree path text)) (first_world text parm members) t nodes o) where
  abbrev s : ProgramState
  s = first_world text parm members

  pub run_is_trace : points nodes o.node.0 ≡ trace_of path text parm members budget
  unfolding trace_of
  run_is_trace = ∥∥₁_elim is.comes (hlevel props) (λ comes.
      let call = call_of (open_code_tree path text) in
      let gives = runs call s budget 0 comes.run (plain_run budget call s _ comes) in
      sym (map_same _ point_same (points nodes o.node.0))
      ∙ comes.points_are
      ∙ gives.points
      ∙ ap (λ (c : Call). (expansion hlasm program_world c s budget 0).points) (call_is path text))
