-- Each state of a logical expression has a rest that makes it one of exactly its weight.
use Rattle.std.proofs.Common.{◌≡◌, ℕ, ◌+◌, ◌≤◌, Bool, true, false, List, [], ◌∷◌, ◌++◌, inl, inr, length, refl, sym, ap, ◌∙◌, subst, arith, append_assoc}
use Rattle.std.specs.Prelude.{◌==◌, ◌*◌, ◌&&◌, Option, Some, None, map, if◌then◌else◌}
use Rattle.std.specs.Char.{digit_value, to_ascii_uppercase}
use Rattle.expression_grammar.specs.declared.character.Grammar.TheVariants.{Arithmetic}
use Rattle.expression_grammar.specs.declared.character.Kind.TheVariants as kind
use Rattle.expression_grammar.specs.declared.tree.Attribute.TheVariants as attribute
use Rattle.expression_grammar.specs.declared.tree.Form.TheVariants.{Decimal}
use Rattle.expression_grammar.specs.declared.tree.Reference.TheVariants.{Of}
use Rattle.expression_grammar.specs.declared.tree.Comparison.{Comparison}
use Rattle.expression_grammar.specs.declared.tree.Comparison.TheVariants.{Eq, Ne, Lt, Gt}
use Rattle.expression_grammar.specs.declared.tree.Operator.{Operator}
use Rattle.expression_grammar.specs.declared.tree.Operator.TheVariants.{And, Or, Xor}
use Rattle.expression_grammar.specs.Characters.{kind_of}
use Rattle.expression_grammar.specs.Spelling.{Placed, placed, Piece, Gap, One, IsGap, IsDigits, is_figure, Reads, rank, spell}
use Rattle.expression_grammar.specs.Trees.{Tree, Number as NumberTree, Variable, Pair, Paren, Not, Compared, Quoted, NoTrees, NoItems, size}
use Rattle.expression_grammar.specs.Parts.{symbol_at}
use Rattle.expression_grammar.specs.Reading as reading
use Rattle.expression_grammar.specs.Reading.{State}
use Rattle.character_grammar.specs.Texts.{spell_text}
use Rattle.character_grammar.specs.TextReading.{TextState, text_weight}
use Rattle.logical_grammar.specs.Logics.{IsNumber, IsCharacters, IsLogical, IsTruth, Joined, Negated, operator_word, comparison_word, not_word, capitals, touches_behind, touches_ahead}
use Rattle.logical_grammar.specs.LogicReading.{Open, Negation, LeftOperand, Group, OpenRelation, Point, Want, NotOrAttribute, Letters, Number, Text, BehindText, Comparing, Right, Closed, BehindTruth, LogicState, open_size, point_weight, logic_weight}
use Rattle.logical_grammar.specs.LogicStanding.{Takes, AreOpen, Opened, Under, Begun, Parenthesized, IsSide, Initial, Partly, PointReads, StateReads, LogicHolds, behind_word, is_empty}
use Rattle.expression_grammar.proofs.Pieces.{append-nil, reads-join, reads-kind_gap, one_of, gap-longer}
use Rattle.expression_grammar.proofs.Appends.{spell-over}
use Rattle.expression_grammar.proofs.Steps.{have-join}
use Rattle.expression_grammar.proofs.Completions.{completes, placed-append}
use Rattle.character_grammar.proofs.TextPlain.{test}
use Rattle.character_grammar.proofs.TextFinds.{text_completes}
use Rattle.logical_grammar.proofs.LogicUnder.{behind-last, some-last, ahead-kept, capitals-append, comparison-some, joined-some, opened-some, partly-some, under-became, takes-high, joined-more, Innermost, innermost}
use Rattle.logical_grammar.proofs.LogicFolds.{number-rank, characters-blank}

-- a rest, and the tree of the whole
pub record LogicCompletes (at : ℕ) (text : List Placed) (wanted : ℕ) : Type 0 where
  pub rest : List ℕ
  pub tree : Tree
  pub is : IsTruth tree (text ++ placed at rest)
  pub exact : size tree ≡ wanted

same-size : (at : ℕ) (text : List Placed) (wanted same : ℕ) → wanted ≡ same → LogicCompletes at text wanted → LogicCompletes at text same
same-size at text wanted same e c = record { rest = c.rest; tree = c.tree; is = c.is; exact = c.exact ∙ e }

-- a rest, and then what completes the text with it
more-completes : (at : ℕ) (text : List Placed) (rest : List ℕ) (wanted : ℕ) → LogicCompletes (at + length rest) (text ++ placed at rest) wanted → LogicCompletes at text wanted
more-completes at text rest wanted c =
    record {
      rest = rest ++ c.rest;
      tree = c.tree;
      is = subst (IsTruth c.tree) (append_assoc text (placed at rest) (placed (at + length rest) c.rest) ∙ ap (λ ps. text ++ ps) (sym (placed-append at rest c.rest))) c.is;
      exact = c.exact;
    }

-- Characters of a rest.

kind-32 : kind_of 32 ≡ kind.Blank
unfolding kind_of
kind-32 = refl

kind-38 : kind_of 38 ≡ kind.Ampersand
unfolding kind_of
kind-38 = refl

kind-39 : kind_of 39 ≡ kind.Quote
unfolding kind_of
kind-39 = refl

kind-41 : kind_of 41 ≡ kind.Close
unfolding kind_of
kind-41 = refl

-- What is open is closed.

-- a closing parenthesis behind a truth
paren-truth : (tree : Tree) (text : List Placed) (p : Placed) → kind_of p.code ≡ kind.Close → Opened (IsTruth tree) text → IsTruth (Paren tree) (text ++ p ∷ [])
paren-truth tree text p e o =
    let all : text ++ p ∷ [] ≡ o.before ++ o.opening ∷ (o.inner ++ p ∷ []) = ap (λ xs. xs ++ p ∷ []) o.all ∙ append_assoc o.before (o.opening ∷ o.inner) (p ∷ []) in
    let go : IsTruth tree o.inner → IsTruth (Paren tree) (text ++ p ∷ []) =
    elim [
      | inl n ↦ inl (record {
        fits = n.fits;
        reads = (
          o.before,
          o.opening ∷ (o.inner ++ p ∷ []),
          all,
          o.blank,
          (
            o.opening ∷ [],
            o.inner ++ p ∷ [],
            refl,
            one_of kind.Open o.opening o.opens,
            have-join Arithmetic [] tree (One kind.Close ∷ Gap ∷ []) o.inner (p ∷ []) n.reads (reads-kind_gap Arithmetic kind.Close p e),
          ),
        );
      })
      | inr l ↦ inr (record { before = o.before; opening = o.opening; inner = o.inner; closing = p; behind = []; all = all; blank_before = o.blank; blank_behind = tt; opens = o.opens; closes = e; is = l })
    ] in
    go o.is

truth-completes : (layers : List Open) (at : ℕ) (tree : Tree) (text : List Placed) → Takes layers (rank tree) → AreOpen layers → Under layers (IsTruth tree) text →
    LogicCompletes at text (open_size layers + size tree)
truth-completes [] at tree text t a h = record { rest = []; tree = tree; is = subst (IsTruth tree) (sym (append-nil text)) h; exact = omega arith }
truth-completes (Negation ∷ layers) at tree text t a h =
    same-size at text (open_size layers + (1 + size tree)) (1 + open_size layers + size tree) (omega arith)
    (truth-completes layers at (Not tree) text (takes-high layers 3 (omega arith) a) a (under-became layers (Negated (IsTruth tree)) (IsTruth (Not tree)) text (λ part n. inr (t, n)) h))
truth-completes (LeftOperand operator left ∷ layers) at tree text t a h =
    same-size at text (open_size layers + (size left + 1 + size tree)) (size left + 1 + open_size layers + size tree) (omega arith)
    (truth-completes layers at (Pair operator left tree) text a.2 a.3
    (under-became layers (Joined (IsTruth left) (operator_word operator) (IsTruth tree)) (IsTruth (Pair operator left tree)) text (λ part j. inr (a.0, a.1, t, j)) h))
truth-completes (Group ∷ layers) at tree text t a h =
    let p : Placed = record { at = at; code = 41 } in
    let i = innermost layers (Opened (IsTruth tree)) text a h in
    same-size at text (open_size layers + (1 + size tree)) (1 + open_size layers + size tree) (omega arith)
    (more-completes at text (41 ∷ []) (open_size layers + (1 + size tree))
    (truth-completes layers (at + 1) (Paren tree) (text ++ p ∷ []) (takes-high layers 7 (omega arith) a) a
    (i.back (IsTruth (Paren tree)) (p ∷ []) (paren-truth tree i.part p kind-41 i.is) (λ w. ahead-kept i.part (p ∷ []) (opened-some (IsTruth tree) i.part i.is)))))

-- what stands innermost becomes a truth with a rest
grown-completes : (layers : List Open) (IsPart : List Placed → Type 0) (at : ℕ) (text : List Placed) (i : Innermost layers IsPart text) (rest : List ℕ) (tree : Tree) (wanted : ℕ) → AreOpen layers →
    IsTruth tree (i.part ++ placed at rest) → (touches_ahead i.part ≡ false → touches_ahead (i.part ++ placed at rest) ≡ false) → 3 ≤ rank tree → size tree ≡ wanted →
    LogicCompletes at text (open_size layers + wanted)
grown-completes layers IsPart at text i rest tree wanted a t k r e =
    same-size at text (open_size layers + size tree) (open_size layers + wanted) (ap (λ n. open_size layers + n) e)
    (more-completes at text rest (open_size layers + size tree)
    (truth-completes layers (at + length rest) tree (text ++ placed at rest) (takes-high layers (rank tree) r a) a (i.back (IsTruth tree) (placed at rest) t (λ w. k))))

-- What is to come where an operand is wanted: a blank, and a number or a text.

-- nothing that touches a word comes first
keeps-apart : (front back : List Placed) → touches_ahead back ≡ false → touches_ahead front ≡ false → touches_ahead (front ++ back) ≡ false
keeps-apart [] back e k = e
keeps-apart (p ∷ front) back e k = k

abbrev side_rest : Bool → List ℕ
side_rest false = 32 ∷ 48 ∷ []
side_rest true = 32 ∷ 39 ∷ 39 ∷ []

abbrev side_tree : Bool → Tree
side_tree false = NumberTree Decimal 0
side_tree true = Quoted NoItems

zero-digit : (p : Placed) → p.code ≡ 48 → IsDigits Decimal 0 (p ∷ [])
zero-digit p e = record { count = 1; some = omega arith; few = omega arith; small = omega arith; run = record { all = ap (λ c. is_figure Decimal c && true) e; counted = refl; valued = ap (λ c. 0 * 10 + digit_value c) e } }

-- a blank behind a gap
gap-blank : (before : List Placed) (at : ℕ) → IsGap Arithmetic before → IsGap Arithmetic (before ++ record { at = at; code = 32 } ∷ [])
gap-blank before at g = gap-longer Arithmetic (record { at = at; code = 32 }) refl kind-32 before g

zero-number : (before : List Placed) (at : ℕ) → IsGap Arithmetic before → IsNumber (NumberTree Decimal 0) (before ++ placed at (32 ∷ 48 ∷ []))
zero-number before at g =
    let blank : Placed = record { at = at; code = 32 } in
    let digit : Placed = record { at = at + 1; code = 48 } in
    record {
      fits = tt;
      reads = (
        before ++ blank ∷ [],
        digit ∷ [],
        sym (append_assoc before (blank ∷ []) (digit ∷ [])),
        gap-blank before at g,
        (digit ∷ [], [], refl, zero-digit digit refl, ([], [], refl, tt, refl)),
      );
    }

empty-text : (p q : Placed) → kind_of p.code ≡ kind.Quote → kind_of q.code ≡ kind.Quote → Reads Arithmetic (spell_text (Quoted NoItems) []) (p ∷ q ∷ [])
empty-text p q e f = (p ∷ [], q ∷ [], refl, one_of kind.Quote p e, (q ∷ [], [], refl, one_of kind.Quote q f, refl))

empty-characters : (before : List Placed) (at : ℕ) → IsGap Arithmetic before → IsCharacters (Quoted NoItems) (before ++ placed at (32 ∷ 39 ∷ 39 ∷ []))
empty-characters before at g =
    let blank : Placed = record { at = at; code = 32 } in
    let opening : Placed = record { at = at + 1; code = 39 } in
    let closing : Placed = record { at = at + 1 + 1; code = 39 } in
    record {
      before = before ++ blank ∷ [];
      core = opening ∷ closing ∷ [];
      behind = [];
      all = sym (append_assoc before (blank ∷ []) (opening ∷ closing ∷ [])) ∙ sym (append-nil ((before ++ blank ∷ []) ++ opening ∷ closing ∷ []));
      blank_before = gap-blank before at g;
      blank_behind = tt;
      fits = tt;
      reads = empty-text opening closing kind-39 kind-39;
    }

side-is : (is_text : Bool) (before : List Placed) (at : ℕ) → IsGap Arithmetic before → IsSide is_text (side_tree is_text) (before ++ placed at (side_rest is_text))
side-is false before at g = zero-number before at g
side-is true before at g = empty-characters before at g

side-size : (is_text : Bool) → size (side_tree is_text) ≡ 1
side-size false = refl
side-size true = refl

side-apart : (is_text : Bool) (at : ℕ) → touches_ahead (placed at (side_rest is_text)) ≡ false
side-apart false at = refl
side-apart true at = refl

compared-logical : (is_text : Bool) (comparison : Comparison) (left right : Tree) (text : List Placed) → Joined (IsSide is_text left) (comparison_word comparison) (IsSide is_text right) text →
    IsLogical (Compared comparison left right) text
compared-logical false comparison left right text j = inl j
compared-logical true comparison left right text j = inr j

compared-some : (IsLeft IsPart : List Placed → Type 0) (comparison : Comparison) (text : List Placed) → Joined IsLeft (comparison_word comparison) IsPart text → is_empty text ≡ false
compared-some IsLeft IsPart comparison text j = joined-some IsLeft IsPart (comparison_word comparison) text j (comparison-some comparison j.letters j.named)

-- A truth, or an N, is wanted.

want-completes : (layers : List Open) (touch : Bool) (at : ℕ) (text : List Placed) → AreOpen layers → Under layers (PointReads (behind_word layers) (Want touch)) text → LogicCompletes at text (open_size layers + 1)
want-completes layers touch at text a h =
    let i = innermost layers (PointReads (behind_word layers) (Want touch)) text a h in
    grown-completes layers (PointReads (behind_word layers) (Want touch)) at text i (32 ∷ 48 ∷ []) (NumberTree Decimal 0) 1 a (inl (zero-number i.part at i.is.0))
    (keeps-apart i.part (placed at (32 ∷ 48 ∷ [])) refl) (omega arith) refl

count-number : (before : List Placed) (first : Placed) (at : ℕ) → IsGap Arithmetic before → to_ascii_uppercase first.code ≡ 78 →
    IsNumber (Variable (Of attribute.Number) (symbol_at (at + 1) (65 ∷ [])) NoTrees) (before ++ first ∷ placed at (39 ∷ 38 ∷ 65 ∷ []))
count-number before first at g e =
    let quote : Placed = record { at = at; code = 39 } in
    let sign : Placed = record { at = at + 1; code = 38 } in
    let letter : Placed = record { at = at + 1 + 1; code = 65 } in
    record {
      fits = (refl, tt);
      reads = (
        before,
        first ∷ quote ∷ sign ∷ letter ∷ [],
        refl,
        g,
        (
          first ∷ [],
          quote ∷ sign ∷ letter ∷ [],
          refl,
          record { one = first; only = refl; upper = e },
          (
            quote ∷ [],
            sign ∷ letter ∷ [],
            refl,
            one_of kind.Quote quote kind-39,
            (
              sign ∷ [],
              letter ∷ [],
              refl,
              record { one = sign; only = refl; kind = kind-38; here = refl },
              (letter ∷ [], [], refl, refl, ([], [], refl, tt, refl)),
            ),
          ),
        ),
      );
    }

not-or-attribute-completes : (layers : List Open) (first : Placed) (at : ℕ) (text : List Placed) → AreOpen layers → Under layers (PointReads (behind_word layers) (NotOrAttribute first)) text → LogicCompletes at text (open_size layers + 1)
not-or-attribute-completes layers first at text a h =
    let i = innermost layers (PointReads (behind_word layers) (NotOrAttribute first)) text a h in
    let rest : List ℕ = 39 ∷ 38 ∷ 65 ∷ [] in
    let tree : Tree = Variable (Of attribute.Number) (symbol_at (at + 1) (65 ∷ [])) NoTrees in
    let e : i.part ++ placed at rest ≡ i.is.0 ++ first ∷ placed at rest = ap (λ xs. xs ++ placed at rest) i.is.1 ∙ append_assoc i.is.0 (first ∷ []) (placed at rest) in
    grown-completes layers (PointReads (behind_word layers) (NotOrAttribute first)) at text i rest tree 1 a (inl (subst (IsNumber tree) (sym e) (count-number i.is.0 first at i.is.2 i.is.3)))
    (ahead-kept i.part (placed at rest) (ap is_empty i.is.1 ∙ some-last i.is.0 first)) (omega arith) refl

-- Letters of an operator word are to come.

upper-tail : (front back : List ℕ) → map to_ascii_uppercase (front ++ back) ≡ front ++ back → map to_ascii_uppercase back ≡ back
upper-tail [] back e = e
upper-tail (c ∷ front) back e = upper-tail front back cc

operator-upper : (operator : Operator) → map to_ascii_uppercase (operator_word operator) ≡ operator_word operator
operator-upper And = refl
operator-upper Or = refl
operator-upper Xor = refl
operator-upper _ = refl

capitals-placed : (at : ℕ) (rest : List ℕ) → capitals (placed at rest) ≡ map to_ascii_uppercase rest
capitals-placed at [] = refl
capitals-placed at (c ∷ rest) = ap (λ cs. to_ascii_uppercase c ∷ cs) (capitals-placed (at + 1) rest)

-- the rest of a word behind its first letters
whole-word : (word : List ℕ) (letters : List Placed) (rest : List ℕ) (at : ℕ) → map to_ascii_uppercase word ≡ word → capitals letters ++ rest ≡ word → capitals (letters ++ placed at rest) ≡ word
whole-word word letters rest at u e =
    let same : map to_ascii_uppercase rest ≡ rest = upper-tail (capitals letters) rest (ap (map to_ascii_uppercase) e ∙ u ∙ sym e) in
    capitals-append letters (placed at rest) ∙ ap (λ cs. capitals letters ++ cs) (capitals-placed at rest ∙ same) ∙ e

-- letters, and then an operand behind a blank
partly-all : (IsLeft : List Placed → Type 0) (word rest : List ℕ) (at : ℕ) (text : List Placed) (l : Partly IsLeft word rest text) →
    text ++ placed at (rest ++ 32 ∷ 48 ∷ []) ≡ l.left ++ (l.letters ++ placed at rest) ++ placed (at + length rest) (32 ∷ 48 ∷ [])
partly-all IsLeft word rest at text l =
    ap (λ xs. xs ++ placed at (rest ++ 32 ∷ 48 ∷ [])) l.all
    ∙ ap (λ xs. (l.left ++ l.letters) ++ xs) (placed-append at rest (32 ∷ 48 ∷ []))
    ∙ sym (append_assoc (l.left ++ l.letters) (placed at rest) (placed (at + length rest) (32 ∷ 48 ∷ [])))
    ∙ ap (λ xs. xs ++ placed (at + length rest) (32 ∷ 48 ∷ [])) (append_assoc l.left l.letters (placed at rest))

partly-negated : (rest : List ℕ) (at : ℕ) (text : List Placed) → Partly (IsGap Arithmetic) not_word rest text → Negated (IsTruth (NumberTree Decimal 0)) (text ++ placed at (rest ++ 32 ∷ 48 ∷ []))
partly-negated rest at text l =
    record {
      before = l.left;
      letters = l.letters ++ placed at rest;
      operand = placed (at + length rest) (32 ∷ 48 ∷ []);
      all = partly-all (IsGap Arithmetic) not_word rest at text l;
      blank = l.first;
      named = whole-word not_word l.letters rest at refl l.named;
      is = inl (zero-number [] (at + length rest) tt);
      apart = refl;
    }

partly-joined : (operator : Operator) (left : Tree) (rest : List ℕ) (at : ℕ) (text : List Placed) → Partly (λ part. IsTruth left part × (touches_behind false part ≡ false)) (operator_word operator) rest text →
    Joined (IsTruth left) (operator_word operator) (IsTruth (NumberTree Decimal 0)) (text ++ placed at (rest ++ 32 ∷ 48 ∷ []))
partly-joined operator left rest at text l =
    record {
      left = l.left;
      letters = l.letters ++ placed at rest;
      right = placed (at + length rest) (32 ∷ 48 ∷ []);
      all = partly-all (λ part. IsTruth left part × (touches_behind false part ≡ false)) (operator_word operator) rest at text l;
      first = l.first.0;
      second = inl (zero-number [] (at + length rest) tt);
      named = whole-word (operator_word operator) l.letters rest at (operator-upper operator) l.named;
      apart_left = l.first.1;
      apart_right = refl;
    }

letters-completes : (layers : List Open) (rest : List ℕ) (at : ℕ) (text : List Placed) → AreOpen layers → StateReads layers (Letters rest) text → LogicCompletes at text (open_size layers + 1)
letters-completes [] rest at text a h = absurd h
letters-completes (Group ∷ layers) rest at text a h = absurd h
letters-completes (Negation ∷ layers) rest at text a h =
    let i = innermost layers (Partly (IsGap Arithmetic) not_word rest) text a h in
    let more : List ℕ = rest ++ 32 ∷ 48 ∷ [] in
    more-completes at text more (open_size (Negation ∷ layers) + 1)
    (truth-completes (Negation ∷ layers) (at + length more) (NumberTree Decimal 0) (text ++ placed at more) (omega arith) a
    (i.back (Negated (IsTruth (NumberTree Decimal 0))) (placed at more) (partly-negated rest at i.part i.is) (λ w. ahead-kept i.part (placed at more) (partly-some (IsGap Arithmetic) not_word rest i.part i.is))))
letters-completes (LeftOperand operator left ∷ layers) rest at text a h =
    let IsLeft : List Placed → Type 0 = λ part. IsTruth left part × (touches_behind false part ≡ false) in
    let i = innermost layers (Partly IsLeft (operator_word operator) rest) text a.3 h in
    let more : List ℕ = rest ++ 32 ∷ 48 ∷ [] in
    more-completes at text more (open_size (LeftOperand operator left ∷ layers) + 1)
    (truth-completes (LeftOperand operator left ∷ layers) (at + length more) (NumberTree Decimal 0) (text ++ placed at more) (takes-high (LeftOperand operator left ∷ layers) 7 (omega arith) a) a
    (i.back (Joined (IsTruth left) (operator_word operator) (IsTruth (NumberTree Decimal 0))) (placed at more) (partly-joined operator left rest at i.part i.is)
    (λ w. ahead-kept i.part (placed at more) (partly-some IsLeft (operator_word operator) rest i.part i.is))))

-- Within a number.

number-completes : (layers : List Open) (relation : Option OpenRelation) (inner : State) (touch : Bool) (at : ℕ) (text : List Placed) → AreOpen layers →
    Under layers (PointReads (behind_word layers) (Number relation inner touch)) text → LogicCompletes at text (open_size layers + point_weight (Number relation inner touch))
number-completes layers None inner touch at text a h =
    let IsPart : List Placed → Type 0 = PointReads (behind_word layers) (Number None inner touch) in
    let i = innermost layers IsPart text a h in
    let c = completes Arithmetic inner at i.part i.is.0.0 in
    let n : IsNumber c.tree (i.part ++ placed at c.rest) = record { fits = c.fits; reads = c.reads } in
    let exact = c.exact in
    grown-completes layers IsPart at text i c.rest c.tree (0 + reading.weight inner) a (inl n) (ahead-kept i.part (placed at c.rest) i.is.0.1) (omega (arith, number-rank c.tree (i.part ++ placed at c.rest) n)) (omega arith)
number-completes layers (Some relation) inner touch at text a h =
    let IsPart : List Placed → Type 0 = PointReads (behind_word layers) (Number (Some relation) inner touch) in
    let i = innermost layers IsPart text a h in
    let j = i.is.0 in
    let c = completes Arithmetic inner at j.right j.second.0 in
    let n : IsNumber c.tree (j.right ++ placed at c.rest) = record { fits = c.fits; reads = c.reads } in
    let IsInner : List Placed → Type 0 = λ part. reading.Holds Arithmetic inner part × (is_empty part ≡ false) in
    let word : List ℕ = comparison_word relation.comparison in
    grown-completes layers IsPart at text i c.rest (Compared relation.comparison relation.left c.tree) (size relation.left + 1 + reading.weight inner) a
    (inr (inl (joined-more (IsNumber relation.left) IsInner (IsNumber c.tree) word i.part (placed at c.rest) j n (ahead-kept j.right (placed at c.rest) j.second.1))))
    (ahead-kept i.part (placed at c.rest) (compared-some (IsNumber relation.left) IsInner relation.comparison i.part j)) (omega arith) (ap (λ k. size relation.left + 1 + k) c.exact)

-- Texts.

-- a text with a rest that ends it
record CharactersEnd (at : ℕ) (part : List Placed) (wanted : ℕ) : Type 0 where
  rest : List ℕ
  tree : Tree
  is : IsCharacters tree (part ++ placed at rest)
  exact : size tree ≡ wanted

characters-end : (inner : TextState) (at : ℕ) (part : List Placed) → Begun inner part → CharactersEnd at part (text_weight inner)
characters-end inner at part b =
    let c = text_completes inner at b.core b.holds in
    record {
      rest = c.rest;
      tree = c.tree;
      is = record {
        before = b.before;
        core = b.core ++ placed at c.rest;
        behind = [];
        all = ap (λ xs. xs ++ placed at c.rest) b.all ∙ append_assoc b.before b.core (placed at c.rest) ∙ sym (append-nil (b.before ++ (b.core ++ placed at c.rest)));
        blank_before = b.blank;
        blank_behind = tt;
        fits = c.fits;
        reads = c.reads;
      };
      exact = c.exact;
    }

-- a comparison of a text and a text that is empty
text-compared : (tree : Tree) (part : List Placed) (at : ℕ) → IsCharacters tree part → IsLogical (Compared Eq tree (Quoted NoItems)) (part ++ placed at (32 ∷ 69 ∷ 81 ∷ 32 ∷ 39 ∷ 39 ∷ []))
text-compared tree part at c =
    let blank : Placed = record { at = at; code = 32 } in
    let letters : List Placed = record { at = at + 1; code = 69 } ∷ record { at = at + 1 + 1; code = 81 } ∷ [] in
    let right : List Placed = placed (at + 1 + 1 + 1) (32 ∷ 39 ∷ 39 ∷ []) in
    inr (record {
      left = part ++ blank ∷ [];
      letters = letters;
      right = right;
      all = sym (append_assoc part (blank ∷ []) (letters ++ right)) ∙ sym (append_assoc (part ++ blank ∷ []) letters right);
      first = characters-blank tree part blank kind-32 c;
      second = empty-characters [] (at + 1 + 1 + 1) tt;
      named = refl;
      apart_left = behind-last part blank;
      apart_right = refl;
    })

text-completes : (layers : List Open) (relation : Option OpenRelation) (inner : TextState) (touch : Bool) (at : ℕ) (text : List Placed) → AreOpen layers →
    Under layers (PointReads (behind_word layers) (Text relation inner touch)) text → LogicCompletes at text (open_size layers + point_weight (Text relation inner touch))
text-completes layers None inner touch at text a h =
    let IsPart : List Placed → Type 0 = PointReads (behind_word layers) (Text None inner touch) in
    let i = innermost layers IsPart text a h in
    let c = characters-end inner at i.part i.is.0.0 in
    let last : List ℕ = 32 ∷ 69 ∷ 81 ∷ 32 ∷ 39 ∷ 39 ∷ [] in
    let tree : Tree = Compared Eq c.tree (Quoted NoItems) in
    let same : (i.part ++ placed at c.rest) ++ placed (at + length c.rest) last ≡ i.part ++ placed at (c.rest ++ last) =
    append_assoc i.part (placed at c.rest) (placed (at + length c.rest) last) ∙ ap (λ ps. i.part ++ ps) (sym (placed-append at c.rest last)) in
    let exact = c.exact in
    grown-completes layers IsPart at text i (c.rest ++ last) tree (2 + text_weight inner) a
    (inr (subst (IsLogical tree) same (text-compared c.tree (i.part ++ placed at c.rest) (at + length c.rest) c.is)))
    (ahead-kept i.part (placed at (c.rest ++ last)) i.is.0.1) (omega arith) (omega arith)
text-completes layers (Some relation) inner touch at text a h =
    let IsPart : List Placed → Type 0 = PointReads (behind_word layers) (Text (Some relation) inner touch) in
    let i = innermost layers IsPart text a h in
    let j = i.is.0 in
    let c = characters-end inner at j.right j.second.0 in
    let IsInner : List Placed → Type 0 = λ part. Begun inner part × (is_empty part ≡ false) in
    let word : List ℕ = comparison_word relation.comparison in
    grown-completes layers IsPart at text i c.rest (Compared relation.comparison relation.left c.tree) (size relation.left + 1 + text_weight inner) a
    (inr (inr (joined-more (IsCharacters relation.left) IsInner (IsCharacters c.tree) word i.part (placed at c.rest) j c.is (ahead-kept j.right (placed at c.rest) j.second.1))))
    (ahead-kept i.part (placed at c.rest) (compared-some (IsCharacters relation.left) IsInner relation.comparison i.part j)) (omega arith) (ap (λ k. size relation.left + 1 + k) c.exact)

behind-text-completes : (layers : List Open) (tree : Tree) (at : ℕ) (text : List Placed) → AreOpen layers → Under layers (PointReads (behind_word layers) (BehindText tree)) text → LogicCompletes at text (open_size layers + (size tree + 2))
behind-text-completes layers tree at text a h =
    let IsPart : List Placed → Type 0 = PointReads (behind_word layers) (BehindText tree) in
    let i = innermost layers IsPart text a h in
    let last : List ℕ = 32 ∷ 69 ∷ 81 ∷ 32 ∷ 39 ∷ 39 ∷ [] in
    grown-completes layers IsPart at text i last (Compared Eq tree (Quoted NoItems)) (size tree + 2) a (inr (text-compared tree i.part at i.is.0)) (keeps-apart i.part (placed at last) refl) (omega arith) (omega arith)

-- Comparisons.

-- the letter behind the first of a comparison
record Second (letter : ℕ) : Type 0 where
  comparison : Comparison
  second : ℕ
  named : comparison_word comparison ≡ letter ∷ second ∷ []
  upper : to_ascii_uppercase second ≡ second

second-of : (letter : ℕ) (a b c d : Bool) → (letter == 69) ≡ a → (letter == 78) ≡ b → (letter == 76) ≡ c → (letter == 71) ≡ d →
    (if a then true else (if b then true else (if c then true else d))) ≡ true → Second letter
second-of letter true b c d p q r s e = record { comparison = Eq; second = 81; named = ap (λ x. x ∷ 81 ∷ []) (sym (test letter 69 p)); upper = refl }
second-of letter false true c d p q r s e = record { comparison = Ne; second = 69; named = ap (λ x. x ∷ 69 ∷ []) (sym (test letter 78 q)); upper = refl }
second-of letter false false true d p q r s e = record { comparison = Lt; second = 84; named = ap (λ x. x ∷ 84 ∷ []) (sym (test letter 76 r)); upper = refl }
second-of letter false false false true p q r s e = record { comparison = Gt; second = 84; named = ap (λ x. x ∷ 84 ∷ []) (sym (test letter 71 s)); upper = refl }
second-of letter false false false false p q r s e = cc

initial-joined : (letter : ℕ) (is_text : Bool) (left : Tree) (part : List Placed) (at : ℕ) (s : Second letter) → Initial letter is_text left part →
    Joined (IsSide is_text left) (comparison_word s.comparison) (IsSide is_text (side_tree is_text)) (part ++ placed at (s.second ∷ side_rest is_text))
initial-joined letter is_text left part at s n =
    let p : Placed = record { at = at; code = s.second } in
    let right : List Placed = placed (at + 1) (side_rest is_text) in
    record {
      left = n.side;
      letters = n.first ∷ p ∷ [];
      right = right;
      all = ap (λ xs. xs ++ p ∷ right) n.all ∙ append_assoc n.side (n.first ∷ []) (p ∷ right) ∙ sym (append_assoc n.side (n.first ∷ p ∷ []) right);
      first = n.is;
      second = side-is is_text [] (at + 1) tt;
      named = ap (λ x. x ∷ to_ascii_uppercase s.second ∷ []) n.named ∙ ap (λ x. letter ∷ x ∷ []) s.upper ∙ sym s.named;
      apart_left = n.apart;
      apart_right = side-apart is_text (at + 1);
    }

comparing-completes : (layers : List Open) (letter : ℕ) (is_text : Bool) (left : Tree) (at : ℕ) (text : List Placed) → AreOpen layers →
    Under layers (PointReads (behind_word layers) (Comparing letter is_text left)) text → LogicCompletes at text (open_size layers + (size left + 2))
comparing-completes layers letter is_text left at text a h =
    let IsPart : List Placed → Type 0 = PointReads (behind_word layers) (Comparing letter is_text left) in
    let i = innermost layers IsPart text a h in
    let n = i.is.1 in
    let s = second-of letter (letter == 69) (letter == 78) (letter == 76) (letter == 71) refl refl refl refl i.is.0 in
    let rest : List ℕ = s.second ∷ side_rest is_text in
    let one = side-size is_text in
    grown-completes layers IsPart at text i rest (Compared s.comparison left (side_tree is_text)) (size left + 2) a
    (inr (compared-logical is_text s.comparison left (side_tree is_text) (i.part ++ placed at rest) (initial-joined letter is_text left i.part at s n)))
    (ahead-kept i.part (placed at rest) (ap is_empty n.all ∙ some-last n.side n.first)) (omega arith) (omega arith)

right-completes : (layers : List Open) (is_text : Bool) (relation : OpenRelation) (touch : Bool) (at : ℕ) (text : List Placed) → AreOpen layers →
    Under layers (PointReads (behind_word layers) (Right is_text relation touch)) text → LogicCompletes at text (open_size layers + (size relation.left + 2))
right-completes layers is_text relation touch at text a h =
    let IsPart : List Placed → Type 0 = PointReads (behind_word layers) (Right is_text relation touch) in
    let IsBlank : List Placed → Type 0 = λ part. IsGap Arithmetic part × (touch ≡ is_empty part) in
    let i = innermost layers IsPart text a h in
    let j = i.is in
    let rest : List ℕ = side_rest is_text in
    let tree : Tree = side_tree is_text in
    let one = side-size is_text in
    grown-completes layers IsPart at text i rest (Compared relation.comparison relation.left tree) (size relation.left + 2) a
    (inr (compared-logical is_text relation.comparison relation.left tree (i.part ++ placed at rest)
    (joined-more (IsSide is_text relation.left) IsBlank (IsSide is_text tree) (comparison_word relation.comparison) i.part (placed at rest) j (side-is is_text j.right at j.second.0) (keeps-apart j.right (placed at rest) (side-apart is_text at)))))
    (ahead-kept i.part (placed at rest) (compared-some (IsSide is_text relation.left) IsBlank relation.comparison i.part j)) (omega arith) (omega arith)

-- What is whole.

parenthesized-number : (inner : Tree) (text : List Placed) → Parenthesized inner text → IsNumber (Paren inner) text
parenthesized-number inner text p =
    let before : List Piece = One kind.Open ∷ Gap ∷ spell inner (Gap ∷ One kind.Close ∷ []) in
    let longer : Reads Arithmetic (before ++ Gap ∷ []) p.core =
    subst (Reads Arithmetic (before ++ Gap ∷ [])) (append-nil p.core) (reads-join Arithmetic before (Gap ∷ []) p.core [] p.reads ([], [], refl, tt, refl)) in
    record {
      fits = p.fits;
      reads = (
        p.before,
        p.core,
        p.all,
        p.blank,
        subst (λ ks. Reads Arithmetic (One kind.Open ∷ Gap ∷ ks) p.core) (sym (spell-over inner (Gap ∷ One kind.Close ∷ []) (Gap ∷ []))) longer,
      );
    }

-- nothing is to come
whole-completes : (layers : List Open) (IsPart : List Placed → Type 0) (tree : Tree) (at : ℕ) (text : List Placed) → AreOpen layers → 3 ≤ rank tree → ((part : List Placed) → IsPart part → IsTruth tree part) →
    Under layers IsPart text → LogicCompletes at text (open_size layers + size tree)
whole-completes layers IsPart tree at text a r turn h = truth-completes layers at tree text (takes-high layers (rank tree) r a) a (under-became layers IsPart (IsTruth tree) text turn h)

behind-truth-completes : (layers : List Open) (tree : Tree) (at : ℕ) (text : List Placed) → AreOpen layers → Under layers (PointReads (behind_word layers) (BehindTruth tree)) text → LogicCompletes at text (open_size layers + size tree)
behind-truth-completes layers tree at text a h =
    let i = innermost layers (PointReads (behind_word layers) (BehindTruth tree)) text a h in
    let r = i.is.1 in
    whole-completes layers (PointReads (behind_word layers) (BehindTruth tree)) tree at text a (omega arith) (λ part x. inr x.0) h

point-completes : (layers : List Open) (point : Point) (at : ℕ) (text : List Placed) → AreOpen layers → StateReads layers point text → LogicCompletes at text (open_size layers + point_weight point)
point-completes layers (Want touch) at text a h = want-completes layers touch at text a h
point-completes layers (NotOrAttribute first) at text a h = not-or-attribute-completes layers first at text a h
point-completes layers (Letters rest) at text a h = letters-completes layers rest at text a h
point-completes layers (Number relation inner touch) at text a h = number-completes layers relation inner touch at text a h
point-completes layers (Text relation inner touch) at text a h = text-completes layers relation inner touch at text a h
point-completes layers (BehindText tree) at text a h = behind-text-completes layers tree at text a h
point-completes layers (Comparing letter is_text left) at text a h = comparing-completes layers letter is_text left at text a h
point-completes layers (Right is_text relation touch) at text a h = right-completes layers is_text relation touch at text a h
point-completes layers (Closed inner) at text a h =
    whole-completes layers (PointReads (behind_word layers) (Closed inner)) (Paren inner) at text a (omega arith) (λ part x. inl (parenthesized-number inner part x.0)) h
point-completes layers (BehindTruth tree) at text a h = behind-truth-completes layers tree at text a h

-- whatever was read can be completed
pub logic_completes : (state : LogicState) (at : ℕ) (text : List Placed) → LogicHolds state text → LogicCompletes at text (logic_weight state)
logic_completes state at text h = point-completes state.layers state.point at text h.ordered h.reads
