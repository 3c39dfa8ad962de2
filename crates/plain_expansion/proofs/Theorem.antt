-- Runs and plain expansions are one thing.
use Rattle.std.proofs.Common.{◌≡◌, ◌<◌, ℕ, ◌+◌, List, [], sym, ◌∙◌, subst, arith, length}
use Rattle.trace_arena.specs.Points.{Point}
use Rattle.asking_core.specs.Worlds.{WorldModel}
use Rattle.asking_core.specs.Machines.{MachineModel, Told, Nothing}
use Rattle.asking_core.specs.Runs.{Run, Plain, Ending}
use Rattle.plain_expansion.specs.Language.{Language}
use Rattle.plain_expansion.specs.Expansion.{Expansion, answers_of, expand, expansion, first_stack}
use Rattle.plain_expansion.specs.Engine.{Doing, Performing, GoingOn, Standing, expander}
use Rattle.plain_expansion.specs.Marks.{is_quiet}
use Rattle.plain_expansion.specs.Laws.{Gives, HasRun, EachCallRuns, RunsAreExpansions, GasIsFree, CarefulRunsAreExpansions, careful_expander}
use Rattle.asking_core.proofs.OnePlainRun.{same_run}
use Rattle.plain_expansion.proofs.Joining.{expand-runs, s_opens}
use Rattle.plain_expansion.proofs.Guarded.{plain_own, gives_own}

pub each_call_runs : (L : Language) (W : WorldModel) → EachCallRuns L W
each_call_runs L W c s f d =
    let enough : f < f + 1 = omega arith in
    s_opens L W c (L.entry_keys c) [] s f d (expansion L W c s f d)
    (expand-runs L W (f + 1) (first_stack L c (answers_of W s (L.entry_keys c))) s f d enough) [] Nothing

-- what one run gives, each does
given : (M : MachineModel) (W : WorldModel) (last : List M.Item) (p : M.Place) (g : Told) (s : W.State) (f d o : ℕ) (e : Expansion M.Item M.Frames W.State)
    (t : Run M.Call M.Item) →
    HasRun M W last p g s f d o e → Plain M W s p g f d o t → Gives M W last p g s o t e
given M W last p g s f d o e t r plain =
    let same : r.run ≡ t = same_run M W r.run t s p g f d o r.plain.follows plain.follows r.plain.agrees plain.agrees r.plain.within
    plain.within in
    let Gives_so : Run M.Call M.Item → Type 0 = λ x. Gives M W last p g s o x e in
    subst Gives_so same r.gives

pub runs_are_expansions : (L : Language) (W : WorldModel) → RunsAreExpansions L W
runs_are_expansions L W c s f d t plain =
    given (expander L) W [] ((expander L).start c) Nothing s f d 0 (expansion L W c s f d) t (each_call_runs L W c s f d) plain

same_fields : {I F A : Type 0} (points others : List (Point I)) (world other : A) (cost_is more : ℕ) (ended end : Ending) (nested deep : ℕ)
    (unpaid_is owed : List F) →
    points ≡ others → world ≡ other → cost_is ≡ more → ended ≡ end → nested ≡ deep → unpaid_is ≡ owed →
    (let a : Expansion I F A = record {
      points = points;
      world = world;
      cost = cost_is;
      ended = ended;
      nested = nested;
      unpaid = unpaid_is;
    } in
    let b : Expansion I F A = record { points = others; world = other; cost = more; ended = end; nested = deep; unpaid = owed } in a ≡ b)
same_fields points others world other cost_is more ended end nested deep unpaid_is owed a b c d e f = cc

one_expansion : (M : MachineModel) (W : WorldModel) (last : List M.Item) (p : M.Place) (g : Told) (s : W.State) (o : ℕ) (t : Run M.Call M.Item)
    (a b : Expansion M.Item M.Frames W.State) →
    Gives M W last p g s o t a → Gives M W last p g s o t b → a ≡ b
one_expansion M W last p g s o t a b x y =
    same_fields a.points b.points a.world b.world a.cost b.cost a.ended b.ended a.nested b.nested a.unpaid b.unpaid
    (sym x.points ∙ y.points) (sym x.world ∙ y.world) (sym x.cost_is ∙ y.cost_is) (sym x.ended ∙ y.ended) (sym x.nested ∙ y.nested)
    (sym x.unpaid_is ∙ y.unpaid_is)

pub gas_is_free : (L : Language) (W : WorldModel) → GasIsFree L W
gas_is_free L W gas other x s f d enough plenty =
    let one = expand-runs L W gas x s f d enough [] Nothing in
    let two = expand-runs L W other x s f d plenty [] Nothing in
    one_expansion (expander L) W [] (Standing (Doing (Performing (GoingOn x)))) Nothing s (length x.below) two.run (expand gas L W x s f d)
    (expand other L W x s f d)
    (given (expander L) W [] (Standing (Doing (Performing (GoingOn x)))) Nothing s f d (length x.below)
    (expand gas L W x s f d) two.run one two.plain) two.gives

pub careful_runs_are_expansions : (L : Language) (W : WorldModel) → CarefulRunsAreExpansions L W
careful_runs_are_expansions L W full moving writable c s f d t plain =
    gives_own (expander L) full moving writable is_quiet W [] s ((careful_expander L full moving writable).start c) Nothing 0 t
    (expansion L W c s f d)
    (runs_are_expansions L W c s f d t
    (plain_own (expander L) full moving writable is_quiet W s
    ((careful_expander L full moving writable).start c) Nothing f d 0 t plain))
