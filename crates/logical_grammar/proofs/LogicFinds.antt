-- What the reading of a logical expression finds: its tree, or where no logical expression goes on.
use Rattle.std.proofs.Common.{◌≡◌, ℕ, ◌+◌, ◌<◌, ◌&&◌, drop, false, List, [], ◌++◌, length, take, get_or, refl, subst, arith}
use Rattle.std.specs.Prelude.{MatchResult, Result, Ok, Err, ◌==◌, is_some, nat_le, Option, Some, None, option_and_then, if◌then◌else◌}
use Rattle.expression_grammar.specs.declared.fault.SyntaxFault.{SyntaxFault}
use Rattle.expression_grammar.specs.declared.fault.SyntaxFault.TheVariants.{At, OutOfMemory}
use Rattle.expression_grammar.specs.Trees.{Tree, size}
use Rattle.expression_grammar.specs.Spelling.{Placed, placed, IsExpression, IsAt, most_parts}
use Rattle.expression_grammar.specs.Answers.{IsFault}
use Rattle.expression_grammar.specs.declared.tree.Expr.{Expr}
use Rattle.expression_grammar.specs.Fronts.{IsClosed}
use Rattle.expression_grammar.specs.Readings.{Front, Tells, TellsFront, front_by}
use Rattle.expression_grammar.specs.Views.{tree_of}
use Rattle.expression_grammar.proofs.FrontLaws.{front_stop}
use Rattle.expression_grammar.proofs.ReadLaws.{Finds, FindsFront, finds, front-finds, read-tree, read-fault}
use Rattle.logical_grammar.specs.LogicReadings.{read_logic, read_logic_front}
use Rattle.logical_grammar.specs.Logics.{IsTruth, SpellsLogic}
use Rattle.logical_grammar.specs.LogicAnswers.{LogicStops}
use Rattle.logical_grammar.specs.LogicReading.{Want, LogicState, at_point, logic_step, logic_run, logic_accept, logic_weight, logic_advance, LogicReaches}
use Rattle.logical_grammar.specs.LogicStanding.{LogicHolds}
use Rattle.logical_grammar.proofs.LogicWeights.{logic_run-least, logic_accept-size}
use Rattle.logical_grammar.proofs.LogicOperands.{AllLogicHold}
use Rattle.logical_grammar.proofs.LogicSteps.{logic_runs, logic_starts, logic_accept-spells}
use Rattle.logical_grammar.proofs.LogicLeads.{logic_accepted}
use Rattle.logical_grammar.proofs.LogicCompletions.{logic_completes}
use Rattle.character_grammar.proofs.Automata as automata
use Rattle.character_grammar.proofs.Automata.{Automaton, Reached, placed-more}

-- what holds of the state that a text leads to
reached-holds : (text : List ℕ) (state : LogicState) → logic_run (at_point [] (Want false)) (placed 0 text) ≡ Some state → LogicHolds state (placed 0 text)
reached-holds text state e = subst (λ (s : Option LogicState). AllLogicHold s (placed 0 text)) e (logic_runs (placed 0 text) (at_point [] (Want false)) [] logic_starts)

logic-advances : (limit : ℕ) (state : LogicState) (p : Placed) → logic_advance limit state p ≡ option_and_then (λ next. if nat_le (logic_weight next) limit then Some next else None) (logic_step state p)
unfolding logic_advance
logic-advances limit state p = refl

logic-completed : (text : List ℕ) (state : LogicState) → logic_run (at_point [] (Want false)) (placed 0 text) ≡ Some state → (rest : List ℕ) × (tree : Tree) × SpellsLogic (text ++ rest) tree × (size tree ≡ logic_weight state)
logic-completed text state r =
    let c = logic_completes state (length text) (placed 0 text) (reached-holds text state r) in
    (c.rest, c.tree, subst (IsTruth c.tree) (placed-more text c.rest) c.is, c.exact)

-- the reader of logical expressions
abbrev logic_automaton : Automaton SpellsLogic LogicState
logic_automaton =
    record {
      start = at_point [] (Want false);
      step = logic_step;
      run = logic_run;
      accept = logic_accept;
      weight = logic_weight;
      advance = logic_advance;
      ends = λ state. refl;
      goes = λ state p ps. refl;
      advances = logic-advances;
      least = logic_run-least;
      exact = logic_accept-size;
      accepted = λ text tree s. let a = logic_accepted tree (placed 0 text) s in (a.last, a.runs, a.accepts);
      spells = λ text state tree r a. logic_accept-spells (placed 0 text) state tree (reached-holds text state r) a;
      completes = logic-completed;
    }

reached : (limit : ℕ) (text : List ℕ) (state : LogicState) → LogicReaches limit text state → Reached logic_automaton limit text state
reached limit text state r = record { runs = r.runs; small = r.small }

-- a text has one tree
pub one_logic-tree : (text : List ℕ) (tree other : Tree) → SpellsLogic text tree → SpellsLogic text other → tree ≡ other
one_logic-tree text tree other s t = automata.one-tree logic_automaton text tree other s t

-- what is read of a text, and of its front
pub read_logic-finds : (text : List ℕ) → Finds SpellsLogic text (read_logic text)
read_logic-finds text = finds (automata.reader logic_automaton) [] text (at_point [] (Want false)) (record { runs = refl; small = omega arith })

pub read_logic_front-finds : (text : List ℕ) → FindsFront SpellsLogic (IsClosed SpellsLogic text) text (read_logic_front text)
read_logic_front-finds text =
    front-finds (automata.reader logic_automaton) text [] text (at_point [] (Want false)) refl (record { runs = refl; small = omega arith }) (λ earlier tree less closed. absurd (omega arith))

-- the same answer, by the function
pub tells : (text : List ℕ) (r : Result Expr SyntaxFault) → MatchResult r (λ e. IsExpression SpellsLogic most_parts text (tree_of e)) (IsFault SpellsLogic text) → Tells (read_logic text) r
tells text (Ok e) m = (read-tree SpellsLogic text (read_logic text) (read_logic-finds text) one_logic-tree (tree_of e)).1 m
tells text (Err (At count)) m = (read-fault SpellsLogic text (read_logic text) (read_logic-finds text) count).1 m
tells text (Err OutOfMemory) m = tt

-- the text goes no further
pub stops_front : (all : List ℕ) (n c at : ℕ) (state : LogicState) (whole : Result Front ℕ) (fault : SyntaxFault) → n < length all → c ≡ get_or all n c → at ≡ n →
    whole ≡ front_by (logic_advance most_parts) logic_accept state n (drop n all) → ((c == 41) && is_some (logic_accept state)) ≡ false → LogicStops state (record { at = at; code = c }) fault → TellsFront whole (Err fault)
stops_front all n c at state whole (At count) h e a w not s = front_stop (logic_advance most_parts) logic_accept all n c at state whole count h e a w not s.0 s.1
stops_front all n c at state whole OutOfMemory h e a w not s = tt

-- In the words of the reader.

pub logic_starts_here : (all : List ℕ) → LogicReaches most_parts (take 0 all) (at_point [] (Want false))
logic_starts_here all = record { runs = refl; small = omega arith }

-- no state follows here
pub logic_stop_here : (all : List ℕ) (n c at : ℕ) (state : LogicState) (fault : SyntaxFault) → n < length all → c ≡ get_or all n c → at ≡ n → LogicReaches most_parts (take n all) state →
    LogicStops state (record { at = at; code = c }) fault → IsFault SpellsLogic all fault
logic_stop_here all n c at state (At count) h e a r s = automata.stop_here logic_automaton all n c at count state h e a (reached most_parts (take n all) state r) s.0 s.1
logic_stop_here all n c at state OutOfMemory h e a r s = tt

-- a state follows here
pub logic_go_on_here : (all : List ℕ) (n c at m : ℕ) (state next : LogicState) → n < length all → c ≡ get_or all n c → at ≡ n → m ≡ n + 1 → LogicReaches most_parts (take n all) state →
    logic_advance most_parts state (record { at = at; code = c }) ≡ Some next → LogicReaches most_parts (take m all) next
logic_go_on_here all n c at m state next h e a f r s =
    let x = automata.go_on_here logic_automaton all n c at m state next h e a f (reached most_parts (take n all) state r) s in
    record { runs = x.runs; small = x.small }

pub logic_end_some : (all : List ℕ) (n : ℕ) (state : LogicState) (tree : Tree) → n ≡ length all → LogicReaches most_parts (take n all) state → Some tree ≡ logic_accept state → IsExpression SpellsLogic most_parts all tree
logic_end_some all n state tree e r a = automata.end_some logic_automaton all n state tree e (reached most_parts (take n all) state r) a

pub logic_end_none : (all : List ℕ) (n at : ℕ) (state : LogicState) → n ≡ length all → at ≡ n → LogicReaches most_parts (take n all) state → None ≡ logic_accept state → IsAt SpellsLogic most_parts all at
logic_end_none all n at state e f r a = automata.end_none logic_automaton all n at state e f (reached most_parts (take n all) state r) a
