-- Where AGO and AIF branch to, as it is written and as it is read.
use Rattle.std.proofs.Common.{◌≡◌, ◌∙◌, ◌+◌, ℕ, Bool, true, false, List, [], ◌∷◌, inl, inr, drop, refl, sym, ap, if◌then◌else◌}
use Rattle.std.specs.Prelude.{◌==◌, ◌⊎◌, Result, Ok, Err, slice_index}
use Rattle.expression_grammar.specs.declared.character.Grammar.TheVariants.{Arithmetic}
use Rattle.expression_grammar.specs.declared.fault.SyntaxFault.{SyntaxFault}
use Rattle.expression_grammar.specs.declared.fault.SyntaxFault.TheVariants.{At, OutOfMemory}
use Rattle.expression_grammar.specs.Fronts.{IsClosed}
use Rattle.expression_grammar.specs.Readings.{Front, read_front}
use Rattle.expression_grammar.specs.Spelling.{Spells}
use Rattle.expression_grammar.specs.Trees.{Tree}
use Rattle.expression_grammar.specs.Views.{tree_of}
use Rattle.expression_grammar.proofs.Finds.{one-tree}
use Rattle.expression_grammar.proofs.FrontLaws.{read_front-finds}
use Rattle.expression_grammar.proofs.ReadLaws.{FindsFront, front-tree, front-fault, one-closed}
use Rattle.conditional_fields.specs.LogicReadings.{read_logic_front}
use Rattle.conditional_fields.specs.Logics.{SpellsLogic}
use Rattle.conditional_fields.proofs.LogicFinds.{one_logic-tree, read_logic_front-finds}
use Rattle.conditional_fields.specs.Split.{operands_of}
use Rattle.conditional_fields.specs.declared.branch.Goto.{Goto}
use Rattle.conditional_fields.specs.declared.branch.Goto.TheVariants.{To, Among}
use Rattle.conditional_fields.specs.declared.branch.Selector.{Selector}
use Rattle.conditional_fields.specs.declared.front.Sought.{Sought}
use Rattle.conditional_fields.specs.declared.front.Sought.TheVariants.{Number, Condition}
use Rattle.conditional_fields.specs.Answers.{Says, each}
use Rattle.conditional_fields.specs.Branches as written
use Rattle.conditional_fields.specs.Branches.{IsAmong, IsChoice, IsChoiceRead, IsGoto, IsGotoWith, IsInnerFault, IsLabelFault}
use Rattle.conditional_fields.specs.Fronts.{IsFirstClosed, IsNeverClosed, IsReach}
use Rattle.conditional_fields.specs.Sequences.{sequence}
use Rattle.statement_reading.specs.Branches.{Branch, IsChosen, behind_front, choice, computed, front, goto, labelled, pair, plain, with_others}
use Rattle.statement_reading.specs.Views.{branch_of, choice_of}

-- what is read at the front of a text stands there
abbrev IsFrontRead : Sought → List ℕ → Result Front ℕ → Type 0
IsFrontRead sought text (Ok front) = IsFirstClosed sought text front.before front.tree
IsFrontRead sought text (Err count) = IsNeverClosed sought text × IsReach sought text count

-- what is sought at the front of a text is read there as it is written
record IsRead (sought : Sought) : Type 0 where
  right : (text : List ℕ) (before : ℕ) (tree : Tree) → IsFirstClosed sought text before tree → front sought text ≡ Ok (record { tree = tree; before = before })
  wrong : (text : List ℕ) (count : ℕ) → IsNeverClosed sought text → IsReach sought text count → front sought text ≡ Err count
  is : (text : List ℕ) → IsFrontRead sought text (front sought text)

number-stands : (text : List ℕ) (found : Result Front ℕ) → FindsFront (Spells Arithmetic) (IsClosed (Spells Arithmetic) text) text found → IsFrontRead Number text found
number-stands text (Ok front) finds = record {
  closed = record { closes = finds.here.closes; within = record { expression = finds.here.within; accepted = refl } };
  first = λ earlier other less closed. finds.first earlier other less (record { closes = closed.closes; within = closed.within.expression });
}
number-stands text (Err count) finds = (
  λ before tree closed. finds.never before tree (record { closes = closed.closes; within = closed.within.expression }),
  record { within = finds.reach.within; viable = finds.reach.viable; longest = finds.reach.longest },
)

condition-stands : (text : List ℕ) (found : Result Front ℕ) → FindsFront SpellsLogic (IsClosed SpellsLogic text) text found → IsFrontRead Condition text found
condition-stands text (Ok front) finds = record {
  closed = record { closes = finds.here.closes; within = record { expression = finds.here.within; accepted = refl } };
  first = λ earlier other less closed. finds.first earlier other less (record { closes = closed.closes; within = closed.within.expression });
}
condition-stands text (Err count) finds = (
  λ before tree closed. finds.never before tree (record { closes = closed.closes; within = closed.within.expression }),
  record { within = finds.reach.within; viable = finds.reach.viable; longest = finds.reach.longest },
)

number-read : IsRead Number
number-read = record {
  right = λ text before tree f.
      (front-tree (Spells Arithmetic) (IsClosed (Spells Arithmetic) text) text (read_front Arithmetic text) (read_front-finds Arithmetic text) (one-closed (Spells Arithmetic) text (one-tree Arithmetic)) (record { tree = tree; before = before })).1
      (record {
        here = record { closes = f.closed.closes; within = f.closed.within.expression };
        first = λ earlier other less closes. f.first earlier other less (record { closes = closes.closes; within = record { expression = closes.within; accepted = refl } });
      });
  wrong = λ text count never reach.
      (front-fault (Spells Arithmetic) (IsClosed (Spells Arithmetic) text) text (read_front Arithmetic text) (read_front-finds Arithmetic text) count).1
      (record {
        never = λ before tree closes. never before tree (record { closes = closes.closes; within = record { expression = closes.within; accepted = refl } });
        reach = record { within = reach.within; viable = reach.viable; longest = reach.longest };
      });
  is = λ text. number-stands text (read_front Arithmetic text) (read_front-finds Arithmetic text);
}

condition-read : IsRead Condition
condition-read = record {
  right = λ text before tree f.
      (front-tree SpellsLogic (IsClosed SpellsLogic text) text (read_logic_front text) (read_logic_front-finds text) (one-closed SpellsLogic text one_logic-tree) (record { tree = tree; before = before })).1
      (record {
        here = record { closes = f.closed.closes; within = f.closed.within.expression };
        first = λ earlier other less closes. f.first earlier other less (record { closes = closes.closes; within = record { expression = closes.within; accepted = refl } });
      });
  wrong = λ text count never reach.
      (front-fault SpellsLogic (IsClosed SpellsLogic text) text (read_logic_front text) (read_logic_front-finds text) count).1
      (record {
        never = λ before tree closes. never before tree (record { closes = closes.closes; within = record { expression = closes.within; accepted = refl } });
        reach = record { within = reach.within; viable = reach.viable; longest = reach.longest };
      });
  is = λ text. condition-stands text (read_logic_front text) (read_logic_front-finds text);
}

-- ---- a number, or a condition, and a sequence symbol

choice-right : (sought : Sought) (operand : List ℕ) (tree : Tree) (name : List ℕ) → IsRead sought → IsChoice sought operand tree name → choice sought operand ≡ Ok (record { tree = tree; label = name })
choice-right sought operand tree name reads is =
    ap (behind_front operand) (reads.right (drop 1 operand) is.before tree is.inner) ∙ ap (labelled tree (is.before + 2)) is.label

choice-wrong : (sought : Sought) (operand : List ℕ) (at : ℕ) → IsRead sought → IsInnerFault sought operand at ⊎ IsLabelFault sought operand at → choice sought operand ≡ Err at
choice-wrong sought operand at reads (inl is) =
    ap (behind_front operand) (reads.wrong (drop 1 operand) is.inside is.none is.reach) ∙ ap Err (sym is.place)
choice-wrong sought operand at reads (inr is) =
    ap (behind_front operand) (reads.right (drop 1 operand) is.before is.tree is.inner) ∙ ap (labelled is.tree (is.before + 2)) is.label ∙ ap Err (sym is.place)

labelled-stands : (sought : Sought) (operand : List ℕ) (found : Front) → IsFirstClosed sought (drop 1 operand) found.before found.tree → (o : Result (List ℕ) ℕ) → sequence (drop (found.before + 2) operand) ≡ o →
    IsChosen sought operand (labelled found.tree (found.before + 2) o)
labelled-stands sought operand found first (Ok name) e = record { before = found.before; inner = first; label = e }
labelled-stands sought operand found first (Err inside) e = inr (record { before = found.before; tree = found.tree; inner = first; inside = inside; label = e; place = refl })

choice-stands : (sought : Sought) (operand : List ℕ) (found : Result Front ℕ) → IsFrontRead sought (drop 1 operand) found → IsChosen sought operand (behind_front operand found)
choice-stands sought operand (Ok found) is = labelled-stands sought operand found is (sequence (drop (found.before + 2) operand)) refl
choice-stands sought operand (Err count) is = inl (record { none = is.0; inside = count; reach = is.1; place = refl })

-- what is read of an operand stands there
pub number-chosen : (operand : List ℕ) → IsChosen Number operand (choice Number operand)
number-chosen operand = choice-stands Number operand (front Number (drop 1 operand)) (number-read.is (drop 1 operand))

pub condition-chosen : (operand : List ℕ) → IsChosen Condition operand (choice Condition operand)
condition-chosen operand = choice-stands Condition operand (front Condition (drop 1 operand)) (condition-read.is (drop 1 operand))

says_choice : (sought : Sought) (operand : List ℕ) (r : Result Selector SyntaxFault) → IsRead sought → IsChoiceRead sought operand r → Says choice_of (choice sought operand) r
says_choice sought operand (Ok found) reads is = choice-right sought operand (tree_of found.tree) found.label reads is
says_choice sought operand (Err (At at)) reads is = choice-wrong sought operand at reads is
says_choice sought operand (Err OutOfMemory) reads is = tt

-- an operand of AIF
pub says_pair : (operand : List ℕ) (r : Result Selector SyntaxFault) → (slice_index operand 0 == 40) ≡ true → IsChoiceRead Condition operand r → Says choice_of (pair operand) r
says_pair operand r begins is = rw begins (says_choice Condition operand r condition-read is)

-- ---- AGO

-- a place to branch to, seen as it is read
abbrev seen : Result Goto ℕ → Result Branch ℕ
seen (Ok goto) = Ok (branch_of goto)
seen (Err at) = Err at

from-plain : (o : Result (List ℕ) ℕ) (r : Result Goto ℕ) → written.plain o ≡ r → plain o ≡ seen r
from-plain (Ok name) r e = ap seen e
from-plain (Err at) r e = ap seen e

says_plain : (o : Result (List ℕ) ℕ) (r : Result Goto SyntaxFault) → Says (λ (goto : Goto). goto) (written.plain o) r → Says branch_of (plain o) r
says_plain o (Ok found) is = from-plain o (Ok found) is
says_plain o (Err (At at)) is = from-plain o (Err at) is
says_plain o (Err OutOfMemory) is = tt

first-wrong : (first : List ℕ) (others : List (List ℕ)) (at : ℕ) → choice Number first ≡ Err at → computed (first ∷ others) ≡ Err at
first-wrong first others at e = ap (λ o. with_others o (each sequence others)) e

says_computed : (operands : List (List ℕ)) (r : Result Goto SyntaxFault) → IsAmong operands r → Says branch_of (computed operands) r
says_computed [] (Ok found) is = absurd is
says_computed [] (Err (At at)) is = ap Err (sym is)
says_computed [] (Err OutOfMemory) is = tt
says_computed (first ∷ others) (Ok (To label)) is = absurd is
says_computed (first ∷ others) (Ok (Among tree label labels)) is =
    ap (λ o. with_others o (each sequence others)) (choice-right Number first (tree_of tree) label number-read is.0) ∙ ap (with_others (Ok (record { tree = tree_of tree; label = label }))) is.1
says_computed (first ∷ others) (Err (At at)) (inl is) = first-wrong first others at (choice-wrong Number first at number-read is)
says_computed (first ∷ others) (Err (At at)) (inr is) =
    ap (λ o. with_others o (each sequence others)) (choice-right Number first is.tree is.name number-read is.choice) ∙ ap (with_others (Ok (record { tree = is.tree; label = is.name }))) is.names
says_computed (first ∷ others) (Err OutOfMemory) is = tt

says_goto_with : (b : Bool) (field : List ℕ) (r : Result Goto SyntaxFault) → IsGotoWith b field r → Says branch_of (if b then computed (operands_of field) else plain (sequence field)) r
says_goto_with true field r is = says_computed (operands_of field) r is
says_goto_with false field r is = says_plain (sequence field) r is

-- the operand field of AGO
pub says_goto : (field : List ℕ) (r : Result Goto SyntaxFault) → IsGoto field r → Says branch_of (goto field) r
says_goto field r is = says_goto_with (slice_index field 0 == 40) field r is
