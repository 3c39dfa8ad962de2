use Rattle.std.proofs.Common.{◌+◌, List, [], subst}
use Rattle.std.specs.Prelude.{IfOk, None, false, option_map}
use Rattle.expression_grammar.specs.declared.character.Grammar.TheVariants.{Arithmetic}
use Rattle.expression_grammar.specs.declared.pending.Pending.{Pending}
use Rattle.expression_grammar.specs.Reading.{Want, step, layers_size}
use Rattle.expression_grammar.specs.Spelling.{Placed}
use Rattle.expression_grammar.specs.Stacks.{stack_of}
use Rattle.logical_grammar.specs.LogicReading.{Open, on_number, open_size, relation_size}
use Rattle.logical_grammar.specs.LogicViews.{LogicMoves, relation_of}
use Rattle.logical_grammar.proofs.logic_reader.begin_number.Goals as goal

pub returns : goal.returns
returns c =
    let side = option_map relation_of c.args.relation in
    let p : Placed = record { at = c.args.at; code = c.args.c } in
    subst (λ (xs : List Pending). IfOk c.step_number.result (λ found. (layers : List Open) →
    LogicMoves (on_number side (step Arithmetic (Want (stack_of xs [])) p) None false p layers) (open_size layers + (relation_size side + (layers_size (stack_of xs []) + 1))) found layers))
    c.new.ensures.items c.step_number.ensures.moves
