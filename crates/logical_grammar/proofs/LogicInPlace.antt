-- Characters that are taken where the reader of logical expressions stands.
use Rattle.std.proofs.Common.{◌≡◌, ℕ, ◌+◌, ◌≤◌, Bool, true, false, List, refl, sym, ap, ◌∙◌, arith}
use Rattle.std.specs.Prelude.{Option, Some, None, nat_le, option_and_then}
use Rattle.hl_base.specs.Symbols.{is_symbol_character}
use Rattle.expression_grammar.specs.declared.character.Kind.TheVariants as kind
use Rattle.expression_grammar.specs.Characters.{kind_of}
use Rattle.expression_grammar.specs.Spelling.{Placed, most_parts}
use Rattle.character_grammar.specs.TextReading.{TextState}
use Rattle.character_grammar.specs.TextViews.{Takes}
use Rattle.logical_grammar.specs.LogicReading as logic
use Rattle.logical_grammar.specs.LogicReading.{Open, OpenRelation, LogicState, at_point, on_text, open_size, text_relation_size, logic_step, logic_weight, logic_kept, logic_advance}
use Rattle.logical_grammar.specs.LogicViews.{LogicTakes}
use Rattle.expression_grammar.proofs.Completions.{if-true}
use Rattle.logical_grammar.proofs.LogicMoveLaws.{fits-test}

-- one of a quoted text that stands for itself
pub text_takes : (relation : Option OpenRelation) (inner next : TextState) (touch : Bool) (c : ℕ) → Takes inner c next true →
    LogicTakes (logic.Text relation inner touch) c (logic.Text relation next (is_symbol_character c)) true
text_takes relation inner next touch c t at layers = (
  ap (λ found. on_text relation found (logic.settled (logic.Text relation inner touch)) touch (record { at = at; code = c }) layers) (t at).0,
  ap (λ n. text_relation_size relation + n) (t at).1,
)

-- a blank behind another where a truth is wanted
pub blank_takes : (c : ℕ) → kind_of c ≡ kind.Blank → LogicTakes (logic.Want false) c (logic.Want false) true
blank_takes c e at layers = (ap (λ k. logic.truth_apart k (record { at = at; code = c }) layers) e, refl)

-- a point that is no larger
pub logic_advance_same : (before after : logic.Point) (layers : List Open) (p : Placed) (w : ℕ) → logic.point_step before p layers ≡ Some (at_point layers after) →
    logic.point_weight after ≡ logic.point_weight before → w ≡ logic_weight (at_point layers before) → w ≤ most_parts →
    (logic_advance most_parts (at_point layers before) p ≡ Some (at_point layers after)) × (w ≡ logic_weight (at_point layers after)) × (w ≤ most_parts)
unfolding logic_advance logic_step
logic_advance_same before after layers p w s same e f =
    let next : LogicState = at_point layers after in
    let exact : w ≡ logic_weight next = e ∙ ap (λ n. open_size layers + n) (sym same) in (
      ap (option_and_then (logic_kept most_parts)) s ∙ if-true (nat_le (logic_weight next) most_parts) (Some next) None (fits-test (logic_weight next) most_parts (omega arith)),
      exact,
      f,
    )
