-- Each character keeps what is known of the text of a logical expression so far.
use Rattle.std.proofs.Common.{◌≡◌, ℕ, Bool, true, false, List, [], ◌∷◌, ◌++◌, refl, sym, ap, ◌∙◌, subst, arith, append_assoc, inl, inr}
use Rattle.std.specs.Prelude.{◌==◌, ◌&&◌, Option, Some, None, option_map, option_and_then, if◌then◌else◌}
use Rattle.std.specs.Char.{to_ascii_uppercase}
use Rattle.hl_base.specs.Symbols.{is_symbol_character}
use Rattle.expression_grammar.specs.declared.character.Grammar.TheVariants.{Arithmetic}
use Rattle.expression_grammar.specs.declared.character.Kind.{Kind}
use Rattle.expression_grammar.specs.declared.character.Kind.TheVariants as kind
use Rattle.expression_grammar.specs.declared.tree.Comparison.{Comparison}
use Rattle.expression_grammar.specs.declared.tree.Comparison.TheVariants.{Eq, Ne, Lt, Le, Gt, Ge}
use Rattle.expression_grammar.specs.declared.tree.Operator.{Operator}
use Rattle.expression_grammar.specs.Characters.{kind_of}
use Rattle.expression_grammar.specs.Trees.{Tree, Paren}
use Rattle.expression_grammar.specs.Spelling.{Placed, Gap, IsGap, Reads, rank, spell}
use Rattle.expression_grammar.specs.Reading as reading
use Rattle.expression_grammar.specs.Reading.{State, Want as WantTerm, Have, Holds}
use Rattle.logical_grammar.specs.Logics.{IsTruth, Joined, Negated, operator_word, comparison_word, not_word, capitals, touches_behind, touches_ahead}
use Rattle.logical_grammar.specs.LogicReading.{Open, Negation, LeftOperand, Group, OpenRelation, Point, Want, NotOrAttribute, Letters, Number, Text, BehindText, Comparing, Right, Closed, BehindTruth, LogicState, at_point, Operand, NumberOne, TruthOne, TextOne, number_side, text_side, settled, truth_of, LogicFolded, logic_fold, on_number, on_text, letter_begun, touching, truth_apart, truth_begun, right_apart, right_begun, text_begun, number_begun, after_first, spelling, after_letters, least_or, comparison_of, after_comparing, after_closed, point_step, logic_step, whole_over, whole, logic_accept, logic_run}
use Rattle.logical_grammar.specs.LogicStanding.{AreOpen, Opened, Under, behind_word, is_empty, Parenthesized, IsSide, Initial, PointReads, Partly, WordReads, StateReads, LogicHolds}
use Rattle.character_grammar.specs.TextReading.{TextState, WantQuote, text_step, text_accept}
use Rattle.character_grammar.specs.TextStanding.{TextHolds}
use Rattle.expression_grammar.proofs.Appends.{spell-over}
use Rattle.expression_grammar.proofs.Pieces.{append-nil, reads-join, gap-longer}
use Rattle.expression_grammar.proofs.Steps.{AllHold, runs}
use Rattle.character_grammar.proofs.TextPlain.{test, and-last}
use Rattle.logical_grammar.proofs.LogicUnder.{open-apart, blank-apart, ahead-apart, ahead-kept, behind-last, some-left, some-right, some-last, capitals-append, comparison-some, joined-some, partly-some, joined-more, under-grows, under-became, takes-high}
use Rattle.logical_grammar.proofs.LogicFolds.{Ends, Folds, fold-truth}
use Rattle.logical_grammar.proofs.LogicOperands.{AllLogicHold, Whole, behind_one-holds, number-high, truth-high}
use Rattle.logical_grammar.proofs.LogicPoints.{gap-holds, begun-next, number-holds, text-holds, number_begun-holds, text_begun-holds, number-first, part-first, number-of, side-reads, text_side-reads, NumberPart, TextPart}

-- Where a truth is wanted.

-- a character that does not touch the word before it
want-apart : (word touch : Bool) (p : Placed) (u : List Placed) → touching touch p ≡ false → touch ≡ (word && is_empty u) → word ≡ true → touches_ahead u ≡ false → touches_ahead (u ++ p ∷ []) ≡ false
want-apart word touch p [] n t w h =
    let e : touch ≡ true = t ∙ ap (λ b. b && true) w in
    ap (λ b. b && is_symbol_character p.code) (sym e) ∙ n
want-apart word touch p (q ∷ u) n t w h = h

want-number : (touch : Bool) (layers : List Open) (p : Placed) (text : List Placed) → touching touch p ≡ false → AreOpen layers →
    Under layers (PointReads (behind_word layers) (Want touch)) text → AllLogicHold (number_begun None p layers) (text ++ p ∷ [])
want-number touch layers p text n a r =
    number_begun-holds None (PointReads (behind_word layers) (Want touch)) layers p text a (λ next s u w. number-first next u p s w.0)
    (λ b u w h. want-apart (behind_word layers) touch p u n w.1 b h) r

want-text : (touch : Bool) (layers : List Open) (p : Placed) (text : List Placed) → touching touch p ≡ false → AreOpen layers →
    Under layers (PointReads (behind_word layers) (Want touch)) text → AllLogicHold (text_begun None p layers) (text ++ p ∷ [])
want-text touch layers p text n a r =
    text_begun-holds None (PointReads (behind_word layers) (Want touch)) layers p text a (λ next s u w. part-first next u p s w.0)
    (λ b u w h. want-apart (behind_word layers) touch p u n w.1 b h) r

want-letter : (touch : Bool) (layers : List Open) (p : Placed) (text : List Placed) → touching touch p ≡ false → AreOpen layers →
    Under layers (PointReads (behind_word layers) (Want touch)) text → AllLogicHold (letter_begun (to_ascii_uppercase p.code) p layers) (text ++ p ∷ [])
want-letter touch layers p text n a r =
    let letter : ℕ = to_ascii_uppercase p.code in
    let by_t : (b : Bool) → (letter == 84) ≡ b → AllLogicHold (if b then text_begun None p layers else number_begun None p layers) (text ++ p ∷ []) =
    elim [ true ↦ λ t. want-text touch layers p text n a r | false ↦ λ t. want-number touch layers p text n a r ] in
    let by_n : (b : Bool) → (letter == 78) ≡ b →
    AllLogicHold (if b then Some (at_point layers (NotOrAttribute p)) else (if letter == 84 then text_begun None p layers else number_begun None p layers)) (text ++ p ∷ []) =
    elim [
      | true ↦ λ t. record {
        ordered = a;
        reads = under-grows layers (PointReads (behind_word layers) (Want touch)) (PointReads (behind_word layers) (NotOrAttribute p)) text (p ∷ []) a
            (λ u w. (u, refl, w.0, test letter 78 t)) (λ b u w h. want-apart (behind_word layers) touch p u n w.1 b h) r;
      }
      | false ↦ λ t. by_t (letter == 84) refl
    ] in
    by_n (letter == 78) refl

want-holds : (touch : Bool) (k : Kind) (layers : List Open) (p : Placed) (text : List Placed) → touching touch p ≡ false → AreOpen layers → kind_of p.code ≡ k →
    Under layers (PointReads (behind_word layers) (Want touch)) text → AllLogicHold (truth_apart k p layers) (text ++ p ∷ [])
want-holds touch kind.Blank layers p text n a e r =
    record {
      ordered = a;
      reads = under-grows layers (PointReads (behind_word layers) (Want touch)) (PointReads (behind_word layers) (Want false)) text (p ∷ []) a
          (λ u w. (gap-longer Arithmetic p refl e u w.0, sym (and-last (behind_word layers) (is_empty (u ++ p ∷ [])) (some-last u p))))
          (λ b u w h. ahead-apart u p (blank-apart p.code e) h) r;
    }
want-holds touch kind.Open layers p text n a e r =
    record {
      ordered = a;
      reads = under-grows layers (PointReads (behind_word layers) (Want touch)) (Opened (PointReads false (Want false))) text (p ∷ []) a
          (λ u w. record { before = u; opening = p; inner = []; all = refl; blank = w.0; opens = e; is = (tt, refl) })
          (λ b u w h. ahead-apart u p (open-apart p.code e) h) r;
    }
want-holds touch kind.Quote layers p text n a e r = want-text touch layers p text n a r
want-holds touch kind.Letter layers p text n a e r = want-letter touch layers p text n a r
want-holds touch _ layers p text n a e r = want-number touch layers p text n a r

truth-holds : (touch : Bool) (layers : List Open) (p : Placed) (text : List Placed) → AreOpen layers →
    Under layers (PointReads (behind_word layers) (Want touch)) text → AllLogicHold (truth_begun touch p layers) (text ++ p ∷ [])
truth-holds touch layers p text a r =
    let go : (b : Bool) → touching touch p ≡ b → AllLogicHold (if b then None else truth_apart (kind_of p.code) p layers) (text ++ p ∷ []) =
    elim [ true ↦ λ t. tt | false ↦ λ t. want-holds touch (kind_of p.code) layers p text t a refl r ] in
    go (touching touch p) refl

-- Behind an N.

first-cut : (first p : Placed) (u before : List Placed) → u ≡ before ++ first ∷ [] → u ++ p ∷ [] ≡ before ++ first ∷ p ∷ []
first-cut first p u before e = ap (λ xs. xs ++ p ∷ []) e ∙ append_assoc before (first ∷ []) (p ∷ [])

first-some : (first : Placed) (u before : List Placed) → u ≡ before ++ first ∷ [] → is_empty u ≡ false
first-some first u before e = ap is_empty e ∙ some-last before first

first-number : (first : Placed) (next : State) (before : List Placed) (p : Placed) → reading.run Arithmetic (WantTerm []) (first ∷ p ∷ []) ≡ Some next → IsGap Arithmetic before →
    Holds Arithmetic next (before ++ first ∷ p ∷ [])
first-number first next before p s i =
    subst (λ (found : Option State). AllHold Arithmetic found (before ++ first ∷ p ∷ [])) s (runs Arithmetic (first ∷ p ∷ []) (WantTerm []) before (gap-holds before i))

begins-attribute : (first : Placed) (layers : List Open) (p : Placed) (text : List Placed) → AreOpen layers → Under layers (PointReads (behind_word layers) (NotOrAttribute first)) text →
    (found : Option State) → reading.run Arithmetic (WantTerm []) (first ∷ p ∷ []) ≡ found → AllLogicHold (on_number None found None false p layers) (text ++ p ∷ [])
begins-attribute first layers p text a r None s = tt
begins-attribute first layers p text a r (Some next) s =
    record {
      ordered = a;
      reads = under-grows layers (PointReads (behind_word layers) (NotOrAttribute first)) (PointReads (behind_word layers) (Number None next (is_symbol_character p.code))) text (p ∷ []) a
          (λ u m. ((subst (Holds Arithmetic next) (sym (first-cut first p u m.0 m.1)) (first-number first next m.0 p s m.2), some-last u p), sym (behind-last u p)))
          (λ b u m h. ahead-kept u (p ∷ []) (first-some first u m.0 m.1) h) r;
    }

begins-not : (first : Placed) (layers : List Open) (p : Placed) (text : List Placed) → AreOpen layers → Under layers (PointReads (behind_word layers) (NotOrAttribute first)) text →
    (b : Bool) → (to_ascii_uppercase p.code == 79) ≡ b → AllLogicHold (if b then Some (at_point (Negation ∷ layers) (Letters (84 ∷ []))) else None) (text ++ p ∷ [])
begins-not first layers p text a r false t = tt
begins-not first layers p text a r true t =
    record {
      ordered = a;
      reads = under-grows layers (PointReads (behind_word layers) (NotOrAttribute first)) (Partly (IsGap Arithmetic) not_word (84 ∷ [])) text (p ∷ []) a
          (λ u m. record {
            left = m.0;
            letters = first ∷ p ∷ [];
            all = first-cut first p u m.0 m.1;
            first = m.2;
            some = refl;
            named = ap (λ c. c ∷ to_ascii_uppercase p.code ∷ 84 ∷ []) m.3 ∙ ap (λ c. 78 ∷ c ∷ 84 ∷ []) (test (to_ascii_uppercase p.code) 79 t);
          })
          (λ b u m h. ahead-kept u (p ∷ []) (first-some first u m.0 m.1) h) r;
    }

first-holds : (first : Placed) (k : Kind) (layers : List Open) (p : Placed) (text : List Placed) → AreOpen layers → Under layers (PointReads (behind_word layers) (NotOrAttribute first)) text →
    AllLogicHold (after_first first k p layers) (text ++ p ∷ [])
first-holds first kind.Quote layers p text a r = begins-attribute first layers p text a r (reading.run Arithmetic (WantTerm []) (first ∷ p ∷ [])) refl
first-holds first kind.Letter layers p text a r = begins-not first layers p text a r (to_ascii_uppercase p.code == 79) refl
first-holds first _ layers p text a r = tt

-- Within a word.

partly-grows : (IsLeft : List Placed → Type 0) (word rest : List ℕ) (wanted : ℕ) (text : List Placed) (p : Placed) → to_ascii_uppercase p.code ≡ wanted → Partly IsLeft word (wanted ∷ rest) text →
    Partly IsLeft word rest (text ++ p ∷ [])
partly-grows IsLeft word rest wanted text p e q =
    record {
      left = q.left;
      letters = q.letters ++ p ∷ [];
      all = ap (λ xs. xs ++ p ∷ []) q.all ∙ append_assoc q.left q.letters (p ∷ []);
      first = q.first;
      some = some-last q.letters p;
      named = ap (λ cs. cs ++ rest) (capitals-append q.letters (p ∷ [])) ∙ append_assoc (capitals q.letters) (to_ascii_uppercase p.code ∷ []) rest
          ∙ ap (λ c. capitals q.letters ++ c ∷ rest) e ∙ q.named;
    }

-- a whole NOT, and a whole operator
not-whole : (text : List Placed) → Partly (IsGap Arithmetic) not_word [] text → Negated (PointReads true (Want true)) text
not-whole text q =
    record { before = q.left; letters = q.letters; operand = []; all = q.all ∙ sym (append-nil (q.left ++ q.letters)); blank = q.first; named = sym (append-nil (capitals q.letters)) ∙ q.named; is = (tt, refl); apart = refl }

left-operand-whole : (operator : Operator) (left : Tree) (text : List Placed) → Partly (Ends IsTruth left false) (operator_word operator) [] text →
    Joined (IsTruth left) (operator_word operator) (PointReads true (Want true)) text
left-operand-whole operator left text q =
    record {
      left = q.left;
      letters = q.letters;
      right = [];
      all = q.all ∙ sym (append-nil (q.left ++ q.letters));
      first = q.first.0;
      second = (tt, refl);
      named = sym (append-nil (capitals q.letters)) ∙ q.named;
      apart_left = q.first.1;
      apart_right = refl;
    }

not-letters : (rest : List ℕ) (wanted : ℕ) (layers : List Open) (p : Placed) (text : List Placed) → AreOpen layers → to_ascii_uppercase p.code ≡ wanted →
    Under layers (Partly (IsGap Arithmetic) not_word (wanted ∷ rest)) text → LogicHolds (at_point (Negation ∷ layers) (spelling rest)) (text ++ p ∷ [])
not-letters [] wanted layers p text a e r =
    record {
      ordered = a;
      reads = under-grows layers (Partly (IsGap Arithmetic) not_word (wanted ∷ [])) (Negated (PointReads true (Want true))) text (p ∷ []) a
          (λ u q. not-whole (u ++ p ∷ []) (partly-grows (IsGap Arithmetic) not_word [] wanted u p e q))
          (λ b u q h. ahead-kept u (p ∷ []) (partly-some (IsGap Arithmetic) not_word (wanted ∷ []) u q) h) r;
    }
not-letters (c ∷ rest) wanted layers p text a e r =
    record {
      ordered = a;
      reads = under-grows layers (Partly (IsGap Arithmetic) not_word (wanted ∷ c ∷ rest)) (Partly (IsGap Arithmetic) not_word (c ∷ rest)) text (p ∷ []) a
          (λ u q. partly-grows (IsGap Arithmetic) not_word (c ∷ rest) wanted u p e q)
          (λ b u q h. ahead-kept u (p ∷ []) (partly-some (IsGap Arithmetic) not_word (wanted ∷ c ∷ rest) u q) h) r;
    }

left-operand-letters : (rest : List ℕ) (wanted : ℕ) (operator : Operator) (left : Tree) (layers : List Open) (p : Placed) (text : List Placed) → AreOpen (LeftOperand operator left ∷ layers) → to_ascii_uppercase p.code ≡ wanted →
    Under layers (Partly (λ part. IsTruth left part × (touches_behind false part ≡ false)) (operator_word operator) (wanted ∷ rest)) text →
    LogicHolds (at_point (LeftOperand operator left ∷ layers) (spelling rest)) (text ++ p ∷ [])
left-operand-letters [] wanted operator left layers p text a e r =
    record {
      ordered = a;
      reads = under-grows layers (Partly (Ends IsTruth left false) (operator_word operator) (wanted ∷ [])) (Joined (IsTruth left) (operator_word operator) (PointReads true (Want true))) text (p ∷ []) a.3
          (λ u q. left-operand-whole operator left (u ++ p ∷ []) (partly-grows (Ends IsTruth left false) (operator_word operator) [] wanted u p e q))
          (λ b u q h. ahead-kept u (p ∷ []) (partly-some (Ends IsTruth left false) (operator_word operator) (wanted ∷ []) u q) h) r;
    }
left-operand-letters (c ∷ rest) wanted operator left layers p text a e r =
    record {
      ordered = a;
      reads = under-grows layers (Partly (Ends IsTruth left false) (operator_word operator) (wanted ∷ c ∷ rest)) (Partly (Ends IsTruth left false) (operator_word operator) (c ∷ rest)) text (p ∷ []) a.3
          (λ u q. partly-grows (Ends IsTruth left false) (operator_word operator) (c ∷ rest) wanted u p e q)
          (λ b u q h. ahead-kept u (p ∷ []) (partly-some (Ends IsTruth left false) (operator_word operator) (wanted ∷ c ∷ rest) u q) h) r;
    }

word-letters : (rest : List ℕ) (wanted : ℕ) (layers : List Open) (p : Placed) (text : List Placed) → AreOpen layers → to_ascii_uppercase p.code ≡ wanted → WordReads layers (wanted ∷ rest) text →
    LogicHolds (at_point layers (spelling rest)) (text ++ p ∷ [])
word-letters rest wanted (Negation ∷ layers) p text a e r = not-letters rest wanted layers p text a e r
word-letters rest wanted (LeftOperand operator left ∷ layers) p text a e r = left-operand-letters rest wanted operator left layers p text a e r
word-letters rest wanted [] p text a e r = absurd r
word-letters rest wanted (Group ∷ layers) p text a e r = absurd r

letters-hold : (rest : List ℕ) (layers : List Open) (p : Placed) (text : List Placed) → AreOpen layers → WordReads layers rest text →
    AllLogicHold (after_letters rest (to_ascii_uppercase p.code) layers) (text ++ p ∷ [])
letters-hold [] layers p text a r = tt
letters-hold (wanted ∷ rest) layers p text a r =
    let go : (b : Bool) → (to_ascii_uppercase p.code == wanted) ≡ b → AllLogicHold (if b then Some (at_point layers (spelling rest)) else None) (text ++ p ∷ []) =
    elim [ true ↦ λ t. word-letters rest wanted layers p text a (test (to_ascii_uppercase p.code) wanted t) r | false ↦ λ t. tt ] in
    go (to_ascii_uppercase p.code == wanted) refl

-- Comparisons.

named-by : (comparison wanted : Comparison) (first second a b : ℕ) → first ≡ a → second ≡ b → comparison_word wanted ≡ a ∷ b ∷ [] → Some wanted ≡ Some comparison → first ∷ second ∷ [] ≡ comparison_word comparison
named-by comparison wanted first second a b f s w e =
    let same : wanted ≡ comparison = cc in
    ap (λ c. c ∷ second ∷ []) f ∙ ap (λ c. a ∷ c ∷ []) s ∙ sym w ∙ ap comparison_word same

one-named : (comparison wanted : Comparison) (first second a b : ℕ) → first ≡ a → comparison_word wanted ≡ a ∷ b ∷ [] → (t : Bool) → (second == b) ≡ t → (if t then Some wanted else None) ≡ Some comparison →
    first ∷ second ∷ [] ≡ comparison_word comparison
one-named comparison wanted first second a b f w true t e = named-by comparison wanted first second a b f (test second b t) w e
one-named comparison wanted first second a b f w false t e = cc

least-named : (comparison strict wide : Comparison) (first second a : ℕ) → first ≡ a → comparison_word strict ≡ a ∷ 84 ∷ [] → comparison_word wide ≡ a ∷ 69 ∷ [] → (t : Bool) → (second == 84) ≡ t →
    (if t then Some strict else (if second == 69 then Some wide else None)) ≡ Some comparison → first ∷ second ∷ [] ≡ comparison_word comparison
least-named comparison strict wide first second a f v w true t e = named-by comparison strict first second a 84 f (test second 84 t) v e
least-named comparison strict wide first second a f v w false t e = one-named comparison wide first second a 69 f w (second == 69) refl e

greater-named : (comparison : Comparison) (first second : ℕ) (t : Bool) → (first == 71) ≡ t → (if t then least_or Gt Ge second else None) ≡ Some comparison → first ∷ second ∷ [] ≡ comparison_word comparison
greater-named comparison first second true t e = least-named comparison Gt Ge first second 71 (test first 71 t) refl refl (second == 84) refl e
greater-named comparison first second false t e = cc

less-named : (comparison : Comparison) (first second : ℕ) (t : Bool) → (first == 76) ≡ t → (if t then least_or Lt Le second else (if first == 71 then least_or Gt Ge second else None)) ≡ Some comparison →
    first ∷ second ∷ [] ≡ comparison_word comparison
less-named comparison first second true t e = least-named comparison Lt Le first second 76 (test first 76 t) refl refl (second == 84) refl e
less-named comparison first second false t e = greater-named comparison first second (first == 71) refl e

unequal-named : (comparison : Comparison) (first second : ℕ) (t : Bool) → (first == 78) ≡ t →
    (if t then (if second == 69 then Some Ne else None) else (if first == 76 then least_or Lt Le second else (if first == 71 then least_or Gt Ge second else None))) ≡ Some comparison →
    first ∷ second ∷ [] ≡ comparison_word comparison
unequal-named comparison first second true t e = one-named comparison Ne first second 78 69 (test first 78 t) refl (second == 69) refl e
unequal-named comparison first second false t e = less-named comparison first second (first == 76) refl e

equal-named : (comparison : Comparison) (first second : ℕ) (t : Bool) → (first == 69) ≡ t →
    (if t then (if second == 81 then Some Eq else None)
    else (if first == 78 then (if second == 69 then Some Ne else None) else (if first == 76 then least_or Lt Le second else (if first == 71 then least_or Gt Ge second else None)))) ≡ Some comparison →
    first ∷ second ∷ [] ≡ comparison_word comparison
equal-named comparison first second true t e = one-named comparison Eq first second 69 81 (test first 69 t) refl (second == 81) refl e
equal-named comparison first second false t e = unequal-named comparison first second (first == 78) refl e

comparison-named : (comparison : Comparison) (first second : ℕ) → comparison_of first second ≡ Some comparison → first ∷ second ∷ [] ≡ comparison_word comparison
comparison-named comparison first second e = equal-named comparison first second (first == 69) refl e

-- the two letters of a comparison
initial-whole : (comparison : Comparison) (letter : ℕ) (is_text : Bool) (left : Tree) (p : Placed) (u : List Placed) → comparison_of letter (to_ascii_uppercase p.code) ≡ Some comparison → Initial letter is_text left u →
    Joined (IsSide is_text left) (comparison_word comparison) (λ part. IsGap Arithmetic part × (true ≡ is_empty part)) (u ++ p ∷ [])
initial-whole comparison letter is_text left p u e i =
    record {
      left = i.side;
      letters = i.first ∷ p ∷ [];
      right = [];
      all = first-cut i.first p u i.side i.all ∙ sym (append-nil (i.side ++ i.first ∷ p ∷ []));
      first = i.is;
      second = (tt, refl);
      named = ap (λ c. c ∷ to_ascii_uppercase p.code ∷ []) i.named ∙ comparison-named comparison letter (to_ascii_uppercase p.code) e;
      apart_left = i.apart;
      apart_right = refl;
    }

comparing-goes : (letter : ℕ) (is_text : Bool) (left : Tree) (layers : List Open) (p : Placed) (text : List Placed) → AreOpen layers →
    Under layers (PointReads (behind_word layers) (Comparing letter is_text left)) text →
    (found : Option Comparison) → comparison_of letter (to_ascii_uppercase p.code) ≡ found → AllLogicHold (after_comparing found is_text left layers) (text ++ p ∷ [])
comparing-goes letter is_text left layers p text a r None e = tt
comparing-goes letter is_text left layers p text a r (Some comparison) e =
    record {
      ordered = a;
      reads = under-grows layers (PointReads (behind_word layers) (Comparing letter is_text left)) (PointReads (behind_word layers) (Right is_text (record { comparison = comparison; left = left }) true)) text (p ∷ []) a
          (λ u i. initial-whole comparison letter is_text left p u e i.1) (λ b u i h. ahead-kept u (p ∷ []) (first-some i.1.first u i.1.side i.1.all) h) r;
    }

-- Where the right side of a comparison is wanted.

abbrev pub RightPart : Bool → List Placed → Type 0
RightPart touch part = IsGap Arithmetic part × (touch ≡ is_empty part)

right-ahead : (touch : Bool) (p : Placed) (u : List Placed) → touching touch p ≡ false → touch ≡ is_empty u → touches_ahead u ≡ false → touches_ahead (u ++ p ∷ []) ≡ false
right-ahead touch p [] n t h = ap (λ b. b && is_symbol_character p.code) (sym t) ∙ n
right-ahead touch p (q ∷ u) n t h = h

right-some : (is_text : Bool) (relation : OpenRelation) (touch : Bool) (u : List Placed) → Joined (IsSide is_text relation.left) (comparison_word relation.comparison) (RightPart touch) u → is_empty u ≡ false
right-some is_text relation touch u j =
    joined-some (IsSide is_text relation.left) (RightPart touch) (comparison_word relation.comparison) u j (comparison-some relation.comparison j.letters j.named)

right-blank : (is_text : Bool) (relation : OpenRelation) (touch : Bool) (layers : List Open) (p : Placed) (text : List Placed) → AreOpen layers → kind_of p.code ≡ kind.Blank →
    Under layers (PointReads (behind_word layers) (Right is_text relation touch)) text → LogicHolds (at_point layers (Right is_text relation false)) (text ++ p ∷ [])
right-blank is_text relation touch layers p text a e r =
    record {
      ordered = a;
      reads = under-grows layers (PointReads (behind_word layers) (Right is_text relation touch)) (PointReads (behind_word layers) (Right is_text relation false)) text (p ∷ []) a
          (λ u j. joined-more (IsSide is_text relation.left) (RightPart touch) (RightPart false) (comparison_word relation.comparison) u (p ∷ []) j
          (gap-longer Arithmetic p refl e j.right j.second.0, sym (some-last j.right p)) (ahead-apart j.right p (blank-apart p.code e)))
          (λ b u j h. ahead-kept u (p ∷ []) (right-some is_text relation touch u j) h) r;
    }

right-operand : (is_text : Bool) (relation : OpenRelation) (touch : Bool) (layers : List Open) (p : Placed) (text : List Placed) → touching touch p ≡ false → AreOpen layers →
    Under layers (PointReads (behind_word layers) (Right is_text relation touch)) text →
    AllLogicHold (if is_text then text_begun (Some relation) p layers else number_begun (Some relation) p layers) (text ++ p ∷ [])
right-operand false relation touch layers p text n a r =
    number_begun-holds (Some relation) (PointReads (behind_word layers) (Right false relation touch)) layers p text a
    (λ next s u j. joined-more (IsSide false relation.left) (RightPart touch) (NumberPart next) (comparison_word relation.comparison) u (p ∷ []) j
    (number-first next j.right p s j.second.0) (right-ahead touch p j.right n j.second.1))
    (λ b u j h. ahead-kept u (p ∷ []) (right-some false relation touch u j) h) r
right-operand true relation touch layers p text n a r =
    text_begun-holds (Some relation) (PointReads (behind_word layers) (Right true relation touch)) layers p text a
    (λ next s u j. joined-more (IsSide true relation.left) (RightPart touch) (TextPart next) (comparison_word relation.comparison) u (p ∷ []) j
    (part-first next j.right p s j.second.0) (right-ahead touch p j.right n j.second.1))
    (λ b u j h. ahead-kept u (p ∷ []) (right-some true relation touch u j) h) r

right_apart-holds : (is_text : Bool) (relation : OpenRelation) (touch : Bool) (k : Kind) (layers : List Open) (p : Placed) (text : List Placed) → touching touch p ≡ false → AreOpen layers → kind_of p.code ≡ k →
    Under layers (PointReads (behind_word layers) (Right is_text relation touch)) text → AllLogicHold (right_apart is_text relation k p layers) (text ++ p ∷ [])
right_apart-holds is_text relation touch kind.Blank layers p text n a e r = right-blank is_text relation touch layers p text a e r
right_apart-holds is_text relation touch _ layers p text n a e r = right-operand is_text relation touch layers p text n a r

right-holds : (is_text : Bool) (relation : OpenRelation) (touch : Bool) (layers : List Open) (p : Placed) (text : List Placed) → AreOpen layers →
    Under layers (PointReads (behind_word layers) (Right is_text relation touch)) text → AllLogicHold (right_begun is_text relation touch p layers) (text ++ p ∷ [])
right-holds is_text relation touch layers p text a r =
    let go : (b : Bool) → touching touch p ≡ b → AllLogicHold (if b then None else right_apart is_text relation (kind_of p.code) p layers) (text ++ p ∷ []) =
    elim [ true ↦ λ t. tt | false ↦ λ t. right_apart-holds is_text relation touch (kind_of p.code) layers p text t a refl r ] in
    go (touching touch p) refl

-- Behind a number in parentheses.

paren-some : (inner : Tree) (u : List Placed) → Parenthesized inner u → is_empty u ≡ false
paren-some inner u c =
    let r = c.reads in
    let core : is_empty c.core ≡ false = ap is_empty r.2 ∙ some-left r.0 r.1 (ap is_empty r.3.only) in
    ap is_empty c.all ∙ some-right c.before c.core core

paren-holds : (inner : Tree) (u : List Placed) → Parenthesized inner u → Holds Arithmetic (Have (Paren inner) []) u
paren-holds inner u c =
    let gapped : Reads Arithmetic (spell (Paren inner) [] ++ Gap ∷ []) c.core =
    subst (Reads Arithmetic (spell (Paren inner) [] ++ Gap ∷ [])) (append-nil c.core) (reads-join Arithmetic (spell (Paren inner) []) (Gap ∷ []) c.core [] c.reads ([], [], refl, tt, refl)) in
    record {
      stands = (c.fits, refl, tt);
      reads = (c.before, c.core, c.all, c.blank, subst (λ ks. Reads Arithmetic ks c.core) (sym (spell-over (Paren inner) [] (Gap ∷ []))) gapped);
    }

quote-holds : (inner : Tree) (u : List Placed) (c : Parenthesized inner u) → TextHolds (WantQuote None inner) c.core
quote-holds inner u c = record { front = c.core; back = []; both = sym (append-nil c.core); stands = (tt, c.fits); reads = c.reads; rests = refl }

closed-quote : (inner : Tree) (layers : List Open) (p : Placed) (text : List Placed) → AreOpen layers → Under layers (PointReads (behind_word layers) (Closed inner)) text →
    (found : Option TextState) → text_step (WantQuote None inner) p ≡ found → AllLogicHold (on_text None found None false p layers) (text ++ p ∷ [])
closed-quote inner layers p text a r None s = tt
closed-quote inner layers p text a r (Some next) s =
    record {
      ordered = a;
      reads = under-grows layers (PointReads (behind_word layers) (Closed inner)) (PointReads (behind_word layers) (Text None next (is_symbol_character p.code))) text (p ∷ []) a
          (λ u c. (
            (
              begun-next (WantQuote None inner) next u p s
                  (record { before = c.0.before; core = c.0.core; all = c.0.all; blank = c.0.blank; holds = quote-holds inner u c.0 }),
              some-last u p,
            ),
            sym (behind-last u p),
          ))
          (λ b u c h. ahead-kept u (p ∷ []) (paren-some inner u c.0) h) r;
    }

paren-settled : (inner : Tree) → settled (Number None (Have (Paren inner) []) false) ≡ Some (NumberOne (Paren inner))
unfolding reading.accept
paren-settled inner = refl

closed-number : (inner : Tree) (layers : List Open) (p : Placed) (text : List Placed) → AreOpen layers → Under layers (PointReads (behind_word layers) (Closed inner)) text →
    AllLogicHold (on_number None (reading.step Arithmetic (Have (Paren inner) []) p) (Some (NumberOne (Paren inner))) false p layers) (text ++ p ∷ [])
closed-number inner layers p text a r =
    subst (λ (found : Option Operand). AllLogicHold (on_number None (reading.step Arithmetic (Have (Paren inner) []) p) found false p layers) (text ++ p ∷ [])) (paren-settled inner)
    (number-holds None (Have (Paren inner) []) false layers p text a
    (under-became layers (PointReads (behind_word layers) (Closed inner)) (PointReads (behind_word layers) (Number None (Have (Paren inner) []) false)) text
    (λ u c. ((paren-holds inner u c.0, paren-some inner u c.0), sym c.1)) r)
    (reading.step Arithmetic (Have (Paren inner) []) p) refl)

closed-goes : (inner : Tree) (k : Kind) (layers : List Open) (p : Placed) (text : List Placed) → AreOpen layers → Under layers (PointReads (behind_word layers) (Closed inner)) text →
    AllLogicHold (after_closed inner k p layers) (text ++ p ∷ [])
closed-goes inner kind.Quote layers p text a r = closed-quote inner layers p text a r (text_step (WantQuote None inner) p) refl
closed-goes inner _ layers p text a r = closed-number inner layers p text a r

-- All points.

point-holds : (layers : List Open) (point : Point) (p : Placed) (text : List Placed) → AreOpen layers → StateReads layers point text → AllLogicHold (point_step point p layers) (text ++ p ∷ [])
point-holds layers (Want touch) p text a r = truth-holds touch layers p text a r
point-holds layers (NotOrAttribute first) p text a r = first-holds first (kind_of p.code) layers p text a r
point-holds layers (Letters rest) p text a r = letters-hold rest layers p text a r
point-holds layers (Number relation inner touch) p text a r = number-holds relation inner touch layers p text a r (reading.step Arithmetic inner p) refl
point-holds layers (Text relation inner touch) p text a r = text-holds relation inner touch layers p text a r (text_step inner p) refl
point-holds layers (BehindText tree) p text a r = behind_one-holds (TextOne tree) false (kind_of p.code) layers p text (λ k. tt) a refl r
point-holds layers (Comparing letter is_text left) p text a r = comparing-goes letter is_text left layers p text a r (comparison_of letter (to_ascii_uppercase p.code)) refl
point-holds layers (Right is_text relation touch) p text a r = right-holds is_text relation touch layers p text a r
point-holds layers (Closed inner) p text a r = closed-goes inner (kind_of p.code) layers p text a r
point-holds layers (BehindTruth tree) p text a r =
    behind_one-holds (TruthOne tree) false (kind_of p.code) layers p text (λ k. tt) a refl
    (under-became layers (PointReads (behind_word layers) (BehindTruth tree)) (Whole (TruthOne tree) false) text (λ u w. ((w.0, w.1), w.2)) r)

pub logic_steps : (state : LogicState) (p : Placed) (text : List Placed) → LogicHolds state text → AllLogicHold (logic_step state p) (text ++ p ∷ [])
unfolding logic_step
logic_steps state p text h = point-holds state.layers state.point p text h.ordered h.reads

logic_runs-on : (ps : List Placed) (p : Placed) (text : List Placed) (found : Option LogicState) → AllLogicHold found (text ++ p ∷ []) →
    ((state : LogicState) (ds : List Placed) → LogicHolds state ds → AllLogicHold (logic_run state ps) (ds ++ ps)) → AllLogicHold (option_and_then (λ next. logic_run next ps) found) (text ++ p ∷ ps)
logic_runs-on ps p text None h go = tt
logic_runs-on ps p text (Some state) h go = subst (AllLogicHold (logic_run state ps)) (append_assoc text (p ∷ []) ps) (go state (text ++ p ∷ []) h)

pub logic_runs : (ps : List Placed) (state : LogicState) (text : List Placed) → LogicHolds state text → AllLogicHold (logic_run state ps) (text ++ ps)
logic_runs [] state text h = subst (LogicHolds state) (sym (append-nil text)) h
logic_runs (p ∷ ps) state text h = logic_runs-on ps p text (logic_step state p) (logic_steps state p text h) (λ next ds i. logic_runs ps next ds i)

pub logic_starts : LogicHolds (at_point [] (Want false)) []
logic_starts = record { ordered = tt; reads = (tt, refl) }

-- The tree of a whole text.

abbrev touch_of : Point → Bool
touch_of (Number relation inner touch) = touch
touch_of (Text relation inner touch) = touch
touch_of point = false

number-settled : (relation : Option OpenRelation) (inner : State) (touch : Bool) (operand : Operand) (u : List Placed) (word : Bool) → PointReads word (Number relation inner touch) u →
    (found : Option Tree) → reading.accept Arithmetic inner ≡ found → option_map (number_side relation) found ≡ Some operand → Whole operand touch u
number-settled relation inner touch operand u word b None e s = cc
number-settled relation inner touch operand u word b (Some tree) e s =
    let same : number_side relation tree ≡ operand = cc in
    subst (λ (o : Operand). Whole o touch u) same (side-reads relation inner tree u e b.0, sym b.1)

text-settled : (relation : Option OpenRelation) (inner : TextState) (touch : Bool) (operand : Operand) (u : List Placed) (word : Bool) → PointReads word (Text relation inner touch) u →
    (found : Option Tree) → text_accept inner ≡ found → option_map (text_side relation) found ≡ Some operand → Whole operand touch u
text-settled relation inner touch operand u word b None e s = cc
text-settled relation inner touch operand u word b (Some tree) e s =
    let same : text_side relation tree ≡ operand = cc in
    subst (λ (o : Operand). Whole o touch u) same (text_side-reads relation inner tree u e b.0, sym b.1)

paren-number : (inner : Tree) → reading.accept Arithmetic (Have (Paren inner) []) ≡ Some (Paren inner)
unfolding reading.accept
paren-number inner = refl

settled-reads : (word : Bool) (point : Point) (operand : Operand) (u : List Placed) → PointReads word point u → settled point ≡ Some operand → Whole operand (touch_of point) u
settled-reads word (Number relation inner touch) operand u b s = number-settled relation inner touch operand u word b (reading.accept Arithmetic inner) refl s
settled-reads word (Text relation inner touch) operand u b s = text-settled relation inner touch operand u word b (text_accept inner) refl s
settled-reads word (BehindText tree) operand u b s = let same : TextOne tree ≡ operand = cc in subst (λ (o : Operand). Whole o false u) same (b.0, b.1)
settled-reads word (Closed inner) operand u b s =
    let same : NumberOne (Paren inner) ≡ operand = cc in
    subst (λ (o : Operand). Whole o false u) same (number-of (Have (Paren inner) []) (Paren inner) u (paren-number inner) (paren-holds inner u b.0), b.1)
settled-reads word (BehindTruth tree) operand u b s = let same : TruthOne tree ≡ operand = cc in subst (λ (o : Operand). Whole o false u) same ((b.0, b.1), b.2)
settled-reads word _ operand u b s = cc

whole_over-some : (found : Tree) (layers : List Open) (tree : Tree) → whole_over found layers ≡ Some tree → (layers ≡ []) × (found ≡ tree)
whole_over-some found [] tree e = (refl, cc)
whole_over-some found (layer ∷ layers) tree e = cc

-- what is closed over nothing else is the truth of the text
folded-truth : (touch : Bool) (folded : LogicFolded) (tree : Tree) (text : List Placed) → Folds IsTruth 0 touch text folded → whole_over folded.tree folded.layers ≡ Some tree → IsTruth tree text
folded-truth touch folded tree text f e =
    let s = whole_over-some folded.tree folded.layers tree e in
    let reads : Ends IsTruth folded.tree touch text = subst (λ (xs : List Open). Under xs (Ends IsTruth folded.tree touch) text) s.0 f.reads in
    subst (λ (x : Tree). IsTruth x text) s.1 reads.0

operand-truth : (operand : Operand) (touch : Bool) (layers : List Open) (tree : Tree) (text : List Placed) → AreOpen layers → Under layers (Whole operand touch) text →
    option_and_then (whole layers) (truth_of operand) ≡ Some tree → IsTruth tree text
operand-truth (NumberOne one) touch layers tree text a r e =
    let high = number-high one touch layers text a r in
    folded-truth touch (logic_fold 0 one layers) tree text
    (fold-truth 0 one layers touch text (omega arith) (omega arith) (takes-high layers (rank one) (omega arith) a) a
    (under-became layers (Whole (NumberOne one) touch) (Ends IsTruth one touch) text (λ u w. (inl w.0, w.1)) r)) e
operand-truth (TruthOne one) touch layers tree text a r e =
    let high = truth-high one touch layers text a r in
    folded-truth touch (logic_fold 0 one layers) tree text
    (fold-truth 0 one layers touch text (omega arith) (omega arith) (takes-high layers (rank one) (omega arith) a) a
    (under-became layers (Whole (TruthOne one) touch) (Ends IsTruth one touch) text (λ u w. (inr w.0.0, w.1)) r)) e
operand-truth (TextOne one) touch layers tree text a r e = cc

settled-truth : (layers : List Open) (point : Point) (tree : Tree) (text : List Placed) → AreOpen layers → Under layers (PointReads (behind_word layers) point) text →
    (found : Option Operand) → settled point ≡ found → option_and_then (whole layers) (option_and_then truth_of found) ≡ Some tree → IsTruth tree text
settled-truth layers point tree text a r None s e = cc
settled-truth layers point tree text a r (Some operand) s e =
    operand-truth operand (touch_of point) layers tree text a
    (under-became layers (PointReads (behind_word layers) point) (Whole operand (touch_of point)) text (λ u b. settled-reads (behind_word layers) point operand u b s) r) e

point-truth : (layers : List Open) (point : Point) (tree : Tree) (text : List Placed) → AreOpen layers → StateReads layers point text →
    option_and_then (whole layers) (option_and_then truth_of (settled point)) ≡ Some tree → IsTruth tree text
point-truth layers (Letters rest) tree text a r e = cc
point-truth layers point tree text a r e = settled-truth layers point tree text a r (settled point) refl e

pub logic_accept-spells : (text : List Placed) (state : LogicState) (tree : Tree) → LogicHolds state text → logic_accept state ≡ Some tree → IsTruth tree text
unfolding logic_accept
logic_accept-spells text state tree h e = point-truth state.layers state.point tree text h.ordered h.reads e
