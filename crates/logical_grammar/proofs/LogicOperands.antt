-- What a character does behind an operand of a logical expression keeps what is known of the text.
use Rattle.std.proofs.Common.{◌≡◌, ℕ, ◌≤◌, Bool, true, false, List, [], ◌∷◌, ◌++◌, refl, sym, ap, ◌∙◌, subst, arith, append_assoc, inl, inr}
use Rattle.std.specs.Prelude.{◌==◌, nat_le, Option, Some, None, IsTrue, if◌then◌else◌}
use Rattle.std.specs.Char.{to_ascii_uppercase}
use Rattle.expression_grammar.specs.declared.character.Grammar.TheVariants.{Arithmetic}
use Rattle.expression_grammar.specs.declared.character.Kind.{Kind}
use Rattle.expression_grammar.specs.declared.character.Kind.TheVariants as kind
use Rattle.expression_grammar.specs.declared.tree.Operator.{Operator}
use Rattle.expression_grammar.specs.declared.tree.Operator.TheVariants.{And, Or, Xor}
use Rattle.expression_grammar.specs.Characters.{kind_of, strength}
use Rattle.expression_grammar.specs.Trees.{Tree, Pair, Paren, Not}
use Rattle.expression_grammar.specs.Spelling.{Placed, Gap, One, Reads, spell, rank}
use Rattle.logical_grammar.specs.Logics.{IsNumber, IsCharacters, IsTruth, IsLogical, operator_word, is_logical, touches_behind}
use Rattle.logical_grammar.specs.LogicReading.{Open, Negation, LeftOperand, Group, BehindText, Comparing, Closed, BehindTruth, LogicState, at_point, Operand, NumberOne, TruthOne, TextOne, truth_of, LogicFolded, logic_fold, blanked, grouped, closing, pushed, joining, compares, comparing, lettered, behind_one}
use Rattle.logical_grammar.specs.LogicStanding.{AreOpen, Opened, Under, behind_word, Partly, PointReads, LogicHolds}
use Rattle.expression_grammar.proofs.Appends.{spell-over}
use Rattle.expression_grammar.proofs.Pieces.{reads-join, reads-kind, one_of}
use Rattle.character_grammar.proofs.TextPlain.{test}
use Rattle.logical_grammar.proofs.LogicUnder.{blank-apart, close-apart, ahead-apart, ahead-kept, behind-last, opened-some, under-grows, under-became, innermost, takes-high, logical-strength}
use Rattle.logical_grammar.proofs.LogicFolds.{number-some, characters-some, truth-some, logical-blank, characters-blank, number-rank, Ends, Folds, fold-logical, fold-not, fold-pair, fold-truth}

-- what holds of a state, if there is one
abbrev pub AllLogicHold : Option LogicState → List Placed → Type 0
AllLogicHold None text = Unit {0}
AllLogicHold (Some state) text = LogicHolds state text

-- a text is an operand
abbrev pub OperandReads : Operand → List Placed → Type 0
OperandReads (NumberOne tree) text = IsNumber tree text
OperandReads (TruthOne tree) text = IsLogical tree text × (4 ≤ rank tree)
OperandReads (TextOne tree) text = IsCharacters tree text

-- and what is known of its last character
abbrev pub Whole : Operand → Bool → List Placed → Type 0
Whole operand touch text = OperandReads operand text × (touches_behind false text ≡ touch)

-- A blank. Numbers take theirs.

abbrev pub TakesBlank : Operand → Type 0
TakesBlank (NumberOne tree) = ⊥
TakesBlank (TruthOne tree) = Unit {0}
TakesBlank (TextOne tree) = Unit {0}

blank-holds : (operand : Operand) (touch : Bool) (layers : List Open) (p : Placed) (text : List Placed) → TakesBlank operand → AreOpen layers → kind_of p.code ≡ kind.Blank →
    Under layers (Whole operand touch) text → LogicHolds (at_point layers (blanked operand)) (text ++ p ∷ [])
blank-holds (NumberOne tree) touch layers p text n a e r = absurd n
blank-holds (TruthOne tree) touch layers p text n a e r =
    record {
      ordered = a;
      reads = under-grows layers (Whole (TruthOne tree) touch) (PointReads (behind_word layers) (BehindTruth tree)) text (p ∷ []) a
          (λ u w. (logical-blank tree u p e w.0.0, w.0.1, behind-last u p ∙ blank-apart p.code e)) (λ b u w t. ahead-apart u p (blank-apart p.code e) t) r;
    }
blank-holds (TextOne tree) touch layers p text n a e r =
    record {
      ordered = a;
      reads = under-grows layers (Whole (TextOne tree) touch) (PointReads (behind_word layers) (BehindText tree)) text (p ∷ []) a
          (λ u w. (characters-blank tree u p e w.0, behind-last u p ∙ blank-apart p.code e)) (λ b u w t. ahead-apart u p (blank-apart p.code e) t) r;
    }

-- A closing parenthesis.

grouped-holds : (tree : Tree) (touch : Bool) (layers : List Open) (p : Placed) (text : List Placed) → AreOpen layers → kind_of p.code ≡ kind.Close →
    Under layers (λ part. IsLogical tree part × (touches_behind false part ≡ touch)) text → AllLogicHold (grouped tree layers) (text ++ p ∷ [])
grouped-holds tree touch [] p text a e r = tt
grouped-holds tree touch (Negation ∷ layers) p text a e r = tt
grouped-holds tree touch (LeftOperand operator left ∷ layers) p text a e r = tt
grouped-holds tree touch (Group ∷ layers) p text a e r =
    record {
      ordered = a;
      reads = under-grows layers (Opened (Ends IsLogical tree touch)) (PointReads (behind_word layers) (BehindTruth (Paren tree))) text (p ∷ []) a
          (λ u o. (
            record {
              before = o.before;
              opening = o.opening;
              inner = o.inner;
              closing = p;
              behind = [];
              all = ap (λ xs. xs ++ p ∷ []) o.all ∙ append_assoc o.before (o.opening ∷ o.inner) (p ∷ []);
              blank_before = o.blank;
              blank_behind = tt;
              opens = o.opens;
              closes = e;
              is = o.is.0;
            },
            omega arith,
            behind-last u p ∙ close-apart p.code e,
          ))
          (λ b u o t. ahead-kept u (p ∷ []) (opened-some (Ends IsLogical tree touch) u o) t) r;
    }

closed-holds : (tree : Tree) (touch : Bool) (layers : List Open) (p : Placed) (text : List Placed) → AreOpen layers → kind_of p.code ≡ kind.Close →
    Under layers (Opened (λ part. IsNumber tree part × (touches_behind false part ≡ touch))) text → LogicHolds (at_point layers (Closed tree)) (text ++ p ∷ [])
closed-holds tree touch layers p text a e r =
    record {
      ordered = a;
      reads = under-grows layers (Opened (Ends IsNumber tree touch)) (PointReads (behind_word layers) (Closed tree)) text (p ∷ []) a
          (λ u o. (
            record {
              before = o.before;
              core = o.opening ∷ (o.inner ++ p ∷ []);
              all = ap (λ xs. xs ++ p ∷ []) o.all ∙ append_assoc o.before (o.opening ∷ o.inner) (p ∷ []);
              blank = o.blank;
              fits = o.is.0.fits;
              reads = (
                o.opening ∷ [],
                o.inner ++ p ∷ [],
                refl,
                one_of kind.Open o.opening o.opens,
                subst (λ ks. Reads Arithmetic (Gap ∷ ks) (o.inner ++ p ∷ [])) (sym (spell-over tree (Gap ∷ []) (One kind.Close ∷ [])))
                    (reads-join Arithmetic (Gap ∷ spell tree (Gap ∷ [])) (One kind.Close ∷ []) o.inner (p ∷ []) o.is.0.reads (reads-kind Arithmetic kind.Close p e)),
              );
            },
            behind-last u p ∙ close-apart p.code e,
          ))
          (λ b u o t. ahead-kept u (p ∷ []) (opened-some (Ends IsNumber tree touch) u o) t) r;
    }

-- how strongly a number and another truth that stand above others bind
pub number-high : (tree : Tree) (touch : Bool) (layers : List Open) (text : List Placed) → AreOpen layers → Under layers (λ part. IsNumber tree part × (touches_behind false part ≡ touch)) text → 4 ≤ rank tree
number-high tree touch layers text a r = let i = innermost layers (Ends IsNumber tree touch) text a r in omega (arith, number-rank tree i.part i.is.0)

pub truth-high : (tree : Tree) (touch : Bool) (layers : List Open) (text : List Placed) → AreOpen layers → Under layers (Whole (TruthOne tree) touch) text → 4 ≤ rank tree
truth-high tree touch layers text a r = let i = innermost layers (Whole (TruthOne tree) touch) text a r in i.is.0.1

closes-left-operand : (operator : Operator) (left tree : Tree) (touch : Bool) (layers : List Open) (p : Placed) (text : List Placed) → AreOpen (LeftOperand operator left ∷ layers) → kind_of p.code ≡ kind.Close →
    Under (LeftOperand operator left ∷ layers) (λ part. IsNumber tree part × (touches_behind false part ≡ touch)) text →
    AllLogicHold (grouped (logic_fold 0 tree (LeftOperand operator left ∷ layers)).tree (logic_fold 0 tree (LeftOperand operator left ∷ layers)).layers) (text ++ p ∷ [])
closes-left-operand operator left tree touch layers p text a e r =
    let otherwise : LogicFolded = record { tree = tree; layers = LeftOperand operator left ∷ layers } in
    let whole : LogicFolded = logic_fold 0 (Pair operator left tree) layers in
    let high = number-high tree touch (LeftOperand operator left ∷ layers) text a r in
    let t = under-became (LeftOperand operator left ∷ layers) (Ends IsNumber tree touch) (Ends IsTruth tree touch) text (λ u w. (inl w.0, w.1)) r in
    let f = fold-pair 0 operator left tree layers touch text (omega arith) (omega arith) (omega (arith, logical-strength operator a.0)) a t in
    let go : (b : Bool) → nat_le 0 (strength operator) ≡ b → AllLogicHold (grouped (if b then whole else otherwise).tree (if b then whole else otherwise).layers) (text ++ p ∷ []) =
    elim [ true ↦ λ s. grouped-holds whole.tree touch whole.layers p text f.ordered e f.reads | false ↦ λ s. tt ] in
    go (nat_le 0 (strength operator)) refl

closing-holds : (operand : Operand) (touch : Bool) (layers : List Open) (p : Placed) (text : List Placed) → AreOpen layers → kind_of p.code ≡ kind.Close →
    Under layers (Whole operand touch) text → AllLogicHold (closing operand layers) (text ++ p ∷ [])
closing-holds (NumberOne tree) touch [] p text a e r = tt
closing-holds (NumberOne tree) touch (Negation ∷ layers) p text a e r =
    let whole : LogicFolded = logic_fold 0 (Not tree) layers in
    let high = number-high tree touch (Negation ∷ layers) text a r in
    let t = under-became (Negation ∷ layers) (Ends IsNumber tree touch) (Ends IsTruth tree touch) text (λ u w. (inl w.0, w.1)) r in
    let f = fold-not 0 tree layers touch text (omega arith) (omega arith) a t in
    grouped-holds whole.tree touch whole.layers p text f.ordered e f.reads
closing-holds (NumberOne tree) touch (LeftOperand operator left ∷ layers) p text a e r = closes-left-operand operator left tree touch layers p text a e r
closing-holds (NumberOne tree) touch (Group ∷ layers) p text a e r = closed-holds tree touch layers p text a e r
closing-holds (TruthOne tree) touch layers p text a e r =
    let whole : LogicFolded = logic_fold 0 tree layers in
    let high = truth-high tree touch layers text a r in
    let f = fold-logical 0 tree layers touch text (omega arith) (omega arith) (takes-high layers (rank tree) (omega arith) a) a
    (under-became layers (Whole (TruthOne tree) touch) (Ends IsLogical tree touch) text (λ u w. (w.0.0, w.1)) r) in
    grouped-holds whole.tree touch whole.layers p text f.ordered e f.reads
closing-holds (TextOne tree) touch layers p text a e r = tt

-- The first letter of an operator.

pushed-holds : (operator : Operator) (rest : List ℕ) (p : Placed) (text : List Placed) (folded : LogicFolded) → IsTrue (is_logical operator) → to_ascii_uppercase p.code ∷ rest ≡ operator_word operator →
    Folds IsTruth (strength operator) false text folded → LogicHolds (pushed operator rest folded) (text ++ p ∷ [])
pushed-holds operator rest p text folded i e f =
    record {
      ordered = (i, f.high, f.takes, f.ordered);
      reads = under-grows folded.layers (Ends IsTruth folded.tree false) (Partly (Ends IsTruth folded.tree false) (operator_word operator) rest) text (p ∷ []) f.ordered
          (λ u t. record { left = u; letters = p ∷ []; all = refl; first = t; some = refl; named = e })
          (λ b u t h. ahead-kept u (p ∷ []) (truth-some folded.tree u t.0) h) f.reads;
    }

joins : (operator : Operator) (rest : List ℕ) (tree : Tree) (layers : List Open) (p : Placed) (text : List Placed) → 4 ≤ rank tree → AreOpen layers → IsTrue (is_logical operator) →
    to_ascii_uppercase p.code ∷ rest ≡ operator_word operator → Under layers (λ part. IsTruth tree part × (touches_behind false part ≡ false)) text →
    LogicHolds (pushed operator rest (logic_fold (strength operator) tree layers)) (text ++ p ∷ [])
joins operator rest tree layers p text h a i e r =
    let most = logical-strength operator i in
    pushed-holds operator rest p text (logic_fold (strength operator) tree layers) i e
    (fold-truth (strength operator) tree layers false text (omega arith) (omega arith) (takes-high layers (rank tree) (omega arith) a) a r)

joining-holds : (operator : Operator) (rest : List ℕ) (operand : Operand) (layers : List Open) (p : Placed) (text : List Placed) → AreOpen layers → IsTrue (is_logical operator) →
    to_ascii_uppercase p.code ∷ rest ≡ operator_word operator → Under layers (Whole operand false) text → AllLogicHold (joining operator rest (truth_of operand) layers) (text ++ p ∷ [])
joining-holds operator rest (NumberOne tree) layers p text a i e r =
    joins operator rest tree layers p text (number-high tree false layers text a r) a i e
    (under-became layers (Ends IsNumber tree false) (Ends IsTruth tree false) text (λ u w. (inl w.0, w.1)) r)
joining-holds operator rest (TruthOne tree) layers p text a i e r =
    joins operator rest tree layers p text (truth-high tree false layers text a r) a i e
    (under-became layers (Whole (TruthOne tree) false) (Ends IsTruth tree false) text (λ u w. (inr w.0.0, w.1)) r)
joining-holds operator rest (TextOne tree) layers p text a i e r = tt

-- The first letter of a comparison.

comparing-holds : (operand : Operand) (layers : List Open) (p : Placed) (text : List Placed) → AreOpen layers → Under layers (Whole operand false) text →
    AllLogicHold (comparing operand (to_ascii_uppercase p.code) layers) (text ++ p ∷ [])
comparing-holds (NumberOne tree) layers p text a r =
    let letter : ℕ = to_ascii_uppercase p.code in
    let go : (b : Bool) → compares letter ≡ b → AllLogicHold (if b then Some (at_point layers (Comparing letter false tree)) else None) (text ++ p ∷ []) =
    elim [
      | true ↦ λ t. record {
        ordered = a;
        reads = under-grows layers (Ends IsNumber tree false) (PointReads (behind_word layers) (Comparing letter false tree)) text (p ∷ []) a
            (λ u w. (t, record { side = u; first = p; all = refl; is = w.0; apart = w.1; named = refl })) (λ b u w h. ahead-kept u (p ∷ []) (number-some tree u w.0) h) r;
      }
      | false ↦ λ t. tt
    ] in
    go (compares letter) refl
comparing-holds (TextOne tree) layers p text a r =
    let letter : ℕ = to_ascii_uppercase p.code in
    let go : (b : Bool) → compares letter ≡ b → AllLogicHold (if b then Some (at_point layers (Comparing letter true tree)) else None) (text ++ p ∷ []) =
    elim [
      | true ↦ λ t. record {
        ordered = a;
        reads = under-grows layers (Ends IsCharacters tree false) (PointReads (behind_word layers) (Comparing letter true tree)) text (p ∷ []) a
            (λ u w. (t, record { side = u; first = p; all = refl; is = w.0; apart = w.1; named = refl })) (λ b u w h. ahead-kept u (p ∷ []) (characters-some tree u w.0) h) r;
      }
      | false ↦ λ t. tt
    ] in
    go (compares letter) refl
comparing-holds (TruthOne tree) layers p text a r = tt

-- A letter.

lettered-holds : (operand : Operand) (layers : List Open) (p : Placed) (text : List Placed) → AreOpen layers → Under layers (Whole operand false) text →
    AllLogicHold (lettered operand (to_ascii_uppercase p.code) layers) (text ++ p ∷ [])
lettered-holds operand layers p text a r =
    let letter : ℕ = to_ascii_uppercase p.code in
    let truth : Option Tree = truth_of operand in
    let by_x : (b : Bool) → (letter == 88) ≡ b → AllLogicHold (if b then joining Xor (79 ∷ 82 ∷ []) truth layers else comparing operand letter layers) (text ++ p ∷ []) =
    elim [
      | true ↦ λ t. joining-holds Xor (79 ∷ 82 ∷ []) operand layers p text a refl (ap (λ c. c ∷ 79 ∷ 82 ∷ []) (test letter 88 t)) r
      | false ↦ λ t. comparing-holds operand layers p text a r
    ] in
    let by_o : (b : Bool) → (letter == 79) ≡ b →
    AllLogicHold (if b then joining Or (82 ∷ []) truth layers else (if letter == 88 then joining Xor (79 ∷ 82 ∷ []) truth layers else comparing operand letter layers)) (text ++ p ∷ []) =
    elim [
      | true ↦ λ t. joining-holds Or (82 ∷ []) operand layers p text a refl (ap (λ c. c ∷ 82 ∷ []) (test letter 79 t)) r
      | false ↦ λ t. by_x (letter == 88) refl
    ] in
    let by_a : (b : Bool) → (letter == 65) ≡ b →
    AllLogicHold
    (if b then joining And (78 ∷ 68 ∷ []) truth layers
    else (if letter == 79 then joining Or (82 ∷ []) truth layers else (if letter == 88 then joining Xor (79 ∷ 82 ∷ []) truth layers else comparing operand letter layers))) (text ++ p ∷ []) =
    elim [
      | true ↦ λ t. joining-holds And (78 ∷ 68 ∷ []) operand layers p text a refl (ap (λ c. c ∷ 78 ∷ 68 ∷ []) (test letter 65 t)) r
      | false ↦ λ t. by_o (letter == 79) refl
    ] in
    by_a (letter == 65) refl

letter-holds : (operand : Operand) (touch : Bool) (layers : List Open) (p : Placed) (text : List Placed) → AreOpen layers → Under layers (Whole operand touch) text →
    AllLogicHold (if touch then None else lettered operand (to_ascii_uppercase p.code) layers) (text ++ p ∷ [])
letter-holds operand true layers p text a r = tt
letter-holds operand false layers p text a r = lettered-holds operand layers p text a r

-- Any character.

pub behind_one-holds : (operand : Operand) (touch : Bool) (k : Kind) (layers : List Open) (p : Placed) (text : List Placed) → (k ≡ kind.Blank → TakesBlank operand) → AreOpen layers → kind_of p.code ≡ k →
    Under layers (Whole operand touch) text → AllLogicHold (behind_one operand touch k p.code layers) (text ++ p ∷ [])
behind_one-holds operand touch kind.Blank layers p text n a e r = blank-holds operand touch layers p text (n refl) a e r
behind_one-holds operand touch kind.Close layers p text n a e r = closing-holds operand touch layers p text a e r
behind_one-holds operand touch kind.Letter layers p text n a e r = letter-holds operand touch layers p text a r
behind_one-holds operand touch _ layers p text n a e r = tt
