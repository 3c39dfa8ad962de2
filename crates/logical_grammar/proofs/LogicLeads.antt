-- Each text of a truth leads to its tree.
use Rattle.std.proofs.Common.{◌≡◌, ℕ, ◌≤◌, Bool, true, false, List, [], ◌∷◌, ◌++◌, ◌⊎◌, inl, inr, refl, sym, ap, ◌∙◌, subst, append_assoc, arith}
use Rattle.std.specs.Prelude.{◌<◌, ◌&&◌, ◌==◌, Some, None, IsTrue, option_and_then, if◌then◌else◌}
use Rattle.hl_base.specs.Symbols.{is_letter}
use Rattle.expression_grammar.specs.declared.character.Kind.TheVariants as kind
use Rattle.expression_grammar.specs.declared.tree.Operator.{Operator}
use Rattle.expression_grammar.specs.declared.tree.Operator.TheVariants.{And, Or, Xor}
use Rattle.expression_grammar.specs.declared.tree.Comparison.{Comparison}
use Rattle.expression_grammar.specs.declared.tree.Comparison.TheVariants.{Eq, Ne, Lt, Le, Gt, Ge}
use Rattle.expression_grammar.specs.Characters.{strength}
use Rattle.expression_grammar.specs.Spelling.{Placed, rank}
use Rattle.expression_grammar.specs.Trees.{Tree, Pair, Paren, Not, Compared}
use Rattle.logical_grammar.specs.Logics.{not_word, operator_word, is_logical, comparison_word, capitals, touches_behind, touches_ahead, Enclosed, IsNumber, IsLogical, IsTruth}
use Rattle.logical_grammar.specs.LogicReading.{Open, Negation, LeftOperand, Group, Point, Want, NotOrAttribute, Letters, Comparing, Right, BehindTruth, LogicState, at_point, Operand, NumberOne, TruthOne, TextOne, settled, truth_of, LogicFolded, logic_fold, grouped, closing, pushed, joining, lettered, letter_begun, truth_apart, after_first, after_comparing, comparison_of, logic_run, whole_over, whole, logic_accept}
use Rattle.logical_grammar.specs.LogicStanding.{Takes, behind_word}
use Rattle.logical_grammar.proofs.LogicLaws.{point-steps, logic_run-append, kind-apart, touches-all, want-apart, want-gap, word-runs, capital-kind, first-letter, logic_fold-none, takes-more, logical-strength, pair-folds}
use Rattle.logical_grammar.proofs.LogicStands.{Standing, behind-truth-stands, behind-truth-blank, OperandLead, gap-behind}
use Rattle.logical_grammar.proofs.LogicNumbers.{number-lead, right_number-lead}
use Rattle.logical_grammar.proofs.LogicTexts.{text-lead, right_text-lead}

-- what a parenthesis closes as a group, and not as a number
abbrev pub IsLogicalOne : Operand → List Open → Type 0
IsLogicalOne (TruthOne tree) layers = Unit {0}
IsLogicalOne (NumberOne tree) (Negation ∷ layers) = Unit {0}
IsLogicalOne (NumberOne tree) (LeftOperand operator left ∷ layers) = Unit {0}
IsLogicalOne other layers = ⊥

-- A text leads to a truth, which stands above what is open, and folds to a tree.
pub record TruthLead (layers : List Open) (touch : Bool) (tree : Tree) (before : Bool) (text : List Placed) : Type 0 where
  pub above : List Open
  pub last : Point
  pub operand : Operand
  pub top : Tree
  pub runs : logic_run (at_point layers (Want touch)) text ≡ Some (at_point above last)
  pub stands : Standing last (touches_behind before text) operand
  pub is : truth_of operand ≡ Some top
  pub folds : (floor : ℕ) → floor ≤ rank tree → logic_fold floor top above ≡ logic_fold floor tree layers
  pub logical : behind_word layers ≡ true → IsLogicalOne operand above

record LogicalLead (layers : List Open) (tree : Tree) (before : Bool) (text : List Placed) : Type 0 where
  lead : TruthLead layers false tree before text
  logical : IsLogicalOne lead.operand lead.above

-- where no truth began no operand stands
want-truth : (layers : List Open) (tree : Tree) (before touch : Bool) (text : List Placed) → (touch && touches_ahead text) ≡ false → TruthLead layers false tree before text → TruthLead layers touch tree before text
want-truth layers tree before touch [] e l =
    let runs : Some (at_point layers (Want false)) ≡ Some (at_point l.above l.last) = l.runs in
    let states : at_point layers (Want false) ≡ at_point l.above l.last = cc in
    let same : Want false ≡ l.last = ap (λ (s : LogicState). s.point) states in
    let none : None ≡ Some l.operand = ap settled same ∙ l.stands.settles in
    cc
want-truth layers tree before touch (p ∷ ps) e l =
    record {
      above = l.above;
      last = l.last;
      operand = l.operand;
      top = l.top;
      runs = want-apart layers touch p ps e ∙ l.runs;
      stands = l.stands;
      is = l.is;
      folds = l.folds;
      logical = l.logical;
    }

number-logical : (tree : Tree) (layers : List Open) → behind_word layers ≡ true → IsLogicalOne (NumberOne tree) layers
number-logical tree [] w = cc
number-logical tree (Negation ∷ layers) w = tt
number-logical tree (LeftOperand operator left ∷ layers) w = tt
number-logical tree (Group ∷ layers) w = cc

number-truth : (layers : List Open) (tree : Tree) (before touch : Bool) (text : List Placed) → OperandLead (Want touch) layers (NumberOne tree) before text → TruthLead layers touch tree before text
number-truth layers tree before touch text l =
    record { above = layers; last = l.last; operand = NumberOne tree; top = tree; runs = l.runs; stands = l.stands; is = refl; folds = λ floor h. refl; logical = number-logical tree layers }

-- a number, or what is known of a logical expression
either-truth : (layers : List Open) (tree : Tree) (before touch : Bool) (text : List Placed) → (touch && touches_ahead text) ≡ false → IsNumber tree text ⊎ IsLogical tree text →
    (IsLogical tree text → LogicalLead layers tree before text) → TruthLead layers touch tree before text
either-truth layers tree before touch text e (inl i) go = number-truth layers tree before touch text (number-lead tree text layers before touch e i)
either-truth layers tree before touch text e (inr i) go = let l = go i in want-truth layers tree before touch text e l.lead

-- Operators.

joins : (operator : Operator) (rest : List ℕ) (tree : Tree) (operand : Operand) (top : Tree) (layers above : List Open) → truth_of operand ≡ Some top → IsTrue (is_logical operator) →
    strength operator ≤ rank tree → Takes layers (strength operator) → ((floor : ℕ) → floor ≤ rank tree → logic_fold floor top above ≡ logic_fold floor tree layers) →
    joining operator rest (truth_of operand) above ≡ Some (at_point (LeftOperand operator tree ∷ layers) (Letters rest))
joins operator rest tree operand top layers above is i h t folds =
    ap (λ found. joining operator rest found above) is
    ∙ ap (λ folded. Some (pushed operator rest folded)) (folds (strength operator) h ∙ logic_fold-none (strength operator) tree layers (logical-strength operator i) t)

-- the word of an operator behind a truth
word-joins : (operator : Operator) (tree : Tree) (point : Point) (operand : Operand) (top : Tree) (layers above : List Open) (letters back : List Placed) → Standing point false operand →
    truth_of operand ≡ Some top → IsTrue (is_logical operator) → strength operator ≤ rank tree → Takes layers (strength operator) →
    ((floor : ℕ) → floor ≤ rank tree → logic_fold floor top above ≡ logic_fold floor tree layers) → capitals letters ≡ operator_word operator →
    logic_run (at_point above point) (letters ++ back) ≡ logic_run (at_point (LeftOperand operator tree ∷ layers) (Want true)) back
word-joins And tree point operand top layers above letters back s is i h t folds e =
    let f = first-letter 65 (78 ∷ 68 ∷ []) letters e in
    ap (λ xs. logic_run (at_point above point) (xs ++ back)) f.both
    ∙ point-steps point above (at_point (LeftOperand And tree ∷ layers) (Letters (78 ∷ 68 ∷ []))) f.first (f.others ++ back)
    (s.spells refl f.first above (capital-kind f.first.code 65 f.upper refl) ∙ ap (λ u. lettered operand u above) f.upper ∙ joins And (78 ∷ 68 ∷ []) tree operand top layers above is i h t folds)
    ∙ word-runs (LeftOperand And tree ∷ layers) f.others back (78 ∷ 68 ∷ []) f.named
word-joins Or tree point operand top layers above letters back s is i h t folds e =
    let f = first-letter 79 (82 ∷ []) letters e in
    ap (λ xs. logic_run (at_point above point) (xs ++ back)) f.both
    ∙ point-steps point above (at_point (LeftOperand Or tree ∷ layers) (Letters (82 ∷ []))) f.first (f.others ++ back)
    (s.spells refl f.first above (capital-kind f.first.code 79 f.upper refl) ∙ ap (λ u. lettered operand u above) f.upper ∙ joins Or (82 ∷ []) tree operand top layers above is i h t folds)
    ∙ word-runs (LeftOperand Or tree ∷ layers) f.others back (82 ∷ []) f.named
word-joins Xor tree point operand top layers above letters back s is i h t folds e =
    let f = first-letter 88 (79 ∷ 82 ∷ []) letters e in
    ap (λ xs. logic_run (at_point above point) (xs ++ back)) f.both
    ∙ point-steps point above (at_point (LeftOperand Xor tree ∷ layers) (Letters (79 ∷ 82 ∷ []))) f.first (f.others ++ back)
    (s.spells refl f.first above (capital-kind f.first.code 88 f.upper refl) ∙ ap (λ u. lettered operand u above) f.upper ∙ joins Xor (79 ∷ 82 ∷ []) tree operand top layers above is i h t folds)
    ∙ word-runs (LeftOperand Xor tree ∷ layers) f.others back (79 ∷ 82 ∷ []) f.named
word-joins _ tree point operand top layers above letters back s is i h t folds e = cc

-- Comparisons.

abbrev first_of : Comparison → ℕ
first_of Eq = 69
first_of Ne = 78
first_of Lt = 76
first_of Le = 76
first_of Gt = 71
first_of Ge = 71

abbrev second_of : Comparison → ℕ
second_of Eq = 81
second_of Ne = 69
second_of Lt = 84
second_of Le = 69
second_of Gt = 84
second_of Ge = 69

word-of : (comparison : Comparison) → comparison_word comparison ≡ first_of comparison ∷ second_of comparison ∷ []
word-of Eq = refl
word-of Ne = refl
word-of Lt = refl
word-of Le = refl
word-of Gt = refl
word-of Ge = refl

first-is : (comparison : Comparison) → is_letter (first_of comparison) ≡ true
first-is Eq = refl
first-is Ne = refl
first-is Lt = refl
first-is Le = refl
first-is Gt = refl
first-is Ge = refl

comparison-is : (comparison : Comparison) → comparison_of (first_of comparison) (second_of comparison) ≡ Some comparison
comparison-is Eq = refl
comparison-is Ne = refl
comparison-is Lt = refl
comparison-is Le = refl
comparison-is Gt = refl
comparison-is Ge = refl

abbrev side : Bool → Tree → Operand
side false tree = NumberOne tree
side true tree = TextOne tree

first-compares : (comparison : Comparison) (is_text : Bool) (left : Tree) (layers : List Open) →
    lettered (side is_text left) (first_of comparison) layers ≡ Some (at_point layers (Comparing (first_of comparison) is_text left))
first-compares Eq false left layers = refl
first-compares Ne false left layers = refl
first-compares Lt false left layers = refl
first-compares Le false left layers = refl
first-compares Gt false left layers = refl
first-compares Ge false left layers = refl
first-compares Eq true left layers = refl
first-compares Ne true left layers = refl
first-compares Lt true left layers = refl
first-compares Le true left layers = refl
first-compares Gt true left layers = refl
first-compares Ge true left layers = refl

no-letters : (letters : List Placed) → capitals letters ≡ [] → letters ≡ []
no-letters [] e = refl
no-letters (p ∷ letters) e = cc

-- the word of a comparison behind its left side
word-compares : (comparison : Comparison) (is_text : Bool) (left : Tree) (layers : List Open) (last : Point) (letters back : List Placed) → Standing last false (side is_text left) →
    capitals letters ≡ comparison_word comparison →
    logic_run (at_point layers last) (letters ++ back) ≡ logic_run (at_point layers (Right is_text (record { comparison = comparison; left = left }) true)) back
word-compares comparison is_text left layers last letters back s e =
    let u : ℕ = first_of comparison in
    let v : ℕ = second_of comparison in
    let f = first-letter u (v ∷ []) letters (e ∙ word-of comparison) in
    let g = first-letter v [] f.others f.named in
    let none : g.others ≡ [] = no-letters g.others g.named in
    ap (λ xs. logic_run (at_point layers last) (xs ++ back)) (f.both ∙ ap (λ xs. f.first ∷ xs) (g.both ∙ ap (λ xs. g.first ∷ xs) none))
    ∙ point-steps last layers (at_point layers (Comparing u is_text left)) f.first (g.first ∷ back)
    (s.spells refl f.first layers (capital-kind f.first.code u f.upper (first-is comparison)) ∙ ap (λ x. lettered (side is_text left) x layers) f.upper ∙ first-compares comparison is_text left layers)
    ∙ point-steps (Comparing u is_text left) layers (at_point layers (Right is_text (record { comparison = comparison; left = left }) true)) g.first back
    (ap (λ x. after_comparing (comparison_of u x) is_text left layers) g.upper ∙ ap (λ x. after_comparing x is_text left layers) (comparison-is comparison))

-- The four forms of a logical expression.

pair-lead : (operator : Operator) (left right : Tree) (layers : List Open) (before : Bool) (text : List Placed) → Takes layers (strength operator) → IsLogical (Pair operator left right) text →
    ((b : Bool) (part : List Placed) → IsLogical left part → LogicalLead layers left b part) →
    ((b : Bool) (part : List Placed) → IsLogical right part → LogicalLead (LeftOperand operator left ∷ layers) right b part) → LogicalLead layers (Pair operator left right) before text
pair-lead operator left right layers before text t i go more =
    let j = i.3 in
    let whole_text : text ≡ j.left ++ (j.letters ++ j.right) = j.all ∙ append_assoc j.left j.letters j.right in
    let start : LogicState = at_point layers (Want false) in
    let touched : Bool = touches_behind (touches_behind before j.left) j.letters in
    let l = either-truth layers left false false j.left refl j.first (go false j.left) in
    let m = either-truth (LeftOperand operator left ∷ layers) right touched true j.right j.apart_right j.second (more touched j.right) in
    let high : strength operator < rank right = i.2 in
    record {
      lead = record {
        above = m.above;
        last = m.last;
        operand = m.operand;
        top = m.top;
        runs = ap (logic_run start) whole_text ∙ logic_run-append j.left (j.letters ++ j.right) start (at_point l.above l.last) l.runs
            ∙ word-joins operator left l.last l.operand l.top layers l.above j.letters j.right (subst (λ b. Standing l.last b l.operand) j.apart_left l.stands) l.is i.0 i.1 t l.folds j.named
            ∙ m.runs;
        stands = subst (λ b. Standing m.last b m.operand) (sym (touches-all before text j.left j.letters j.right whole_text)) m.stands;
        is = m.is;
        folds = λ floor h. m.folds floor (omega arith) ∙ pair-folds floor operator left right layers h;
        logical = λ w. m.logical refl;
      };
      logical = m.logical refl;
    }

not-runs : (layers : List Open) (letters back : List Placed) → capitals letters ≡ not_word →
    logic_run (at_point layers (Want false)) (letters ++ back) ≡ logic_run (at_point (Negation ∷ layers) (Want true)) back
not-runs layers letters back e =
    let f = first-letter 78 (79 ∷ 84 ∷ []) letters e in
    let g = first-letter 79 (84 ∷ []) f.others f.named in
    ap (λ xs. logic_run (at_point layers (Want false)) (xs ++ back)) (f.both ∙ ap (λ xs. f.first ∷ xs) g.both)
    ∙ point-steps (Want false) layers (at_point layers (NotOrAttribute f.first)) f.first (g.first ∷ (g.others ++ back))
    (ap (λ k. truth_apart k f.first layers) (capital-kind f.first.code 78 f.upper refl) ∙ ap (λ u. letter_begun u f.first layers) f.upper)
    ∙ point-steps (NotOrAttribute f.first) layers (at_point (Negation ∷ layers) (Letters (84 ∷ []))) g.first (g.others ++ back)
    (ap (λ k. after_first f.first k g.first layers) (capital-kind g.first.code 79 g.upper refl)
    ∙ ap (λ u. if u == 79 then Some (at_point (Negation ∷ layers) (Letters (84 ∷ []))) else None) g.upper)
    ∙ word-runs (Negation ∷ layers) g.others back (84 ∷ []) g.named

not-lead : (operand : Tree) (layers : List Open) (before : Bool) (text : List Placed) → IsLogical (Not operand) text →
    ((b : Bool) (part : List Placed) → IsLogical operand part → LogicalLead (Negation ∷ layers) operand b part) → LogicalLead layers (Not operand) before text
not-lead operand layers before text i go =
    let j = i.1 in
    let whole_text : text ≡ j.before ++ (j.letters ++ j.operand) = j.all ∙ append_assoc j.before j.letters j.operand in
    let start : LogicState = at_point layers (Want false) in
    let touched : Bool = touches_behind (touches_behind before j.before) j.letters in
    let m = either-truth (Negation ∷ layers) operand touched true j.operand j.apart j.is (go touched j.operand) in
    let high : 3 ≤ rank operand = i.0 in
    record {
      lead = record {
        above = m.above;
        last = m.last;
        operand = m.operand;
        top = m.top;
        runs = ap (logic_run start) whole_text ∙ want-gap layers j.before (j.letters ++ j.operand) j.blank ∙ not-runs layers j.letters j.operand j.named ∙ m.runs;
        stands = subst (λ b. Standing m.last b m.operand) (sym (touches-all before text j.before j.letters j.operand whole_text)) m.stands;
        is = m.is;
        folds = λ floor h. m.folds floor (omega arith);
        logical = λ w. m.logical refl;
      };
      logical = m.logical refl;
    }

truth-one : (layers : List Open) (tree : Tree) (before : Bool) (text : List Placed) → OperandLead (Want false) layers (TruthOne tree) before text → LogicalLead layers tree before text
truth-one layers tree before text l =
    record {
      lead = record { above = layers; last = l.last; operand = TruthOne tree; top = tree; runs = l.runs; stands = l.stands; is = refl; folds = λ floor h. refl; logical = λ w. tt };
      logical = tt;
    }

compared-lead : (comparison : Comparison) (is_text : Bool) (left right : Tree) (layers : List Open) (before : Bool) (text left_text letters right_text : List Placed) → text ≡ left_text ++ letters ++ right_text →
    touches_behind false left_text ≡ false → capitals letters ≡ comparison_word comparison → OperandLead (Want false) layers (side is_text left) false left_text →
    OperandLead (Right is_text (record { comparison = comparison; left = left }) true) layers (TruthOne (Compared comparison left right)) (touches_behind (touches_behind before left_text) letters) right_text →
    LogicalLead layers (Compared comparison left right) before text
compared-lead comparison is_text left right layers before text left_text letters right_text all apart named l r =
    let start : LogicState = at_point layers (Want false) in
    let whole_text : text ≡ left_text ++ (letters ++ right_text) = all ∙ append_assoc left_text letters right_text in
    let whole_one : Operand = TruthOne (Compared comparison left right) in
    truth-one layers (Compared comparison left right) before text (record {
      last = r.last;
      runs = ap (logic_run start) whole_text ∙ logic_run-append left_text (letters ++ right_text) start (at_point layers l.last) l.runs
          ∙ word-compares comparison is_text left layers l.last letters right_text (subst (λ b. Standing l.last b (side is_text left)) apart l.stands) named ∙ r.runs;
      stands = subst (λ b. Standing r.last b whole_one) (sym (touches-all before text left_text letters right_text whole_text)) r.stands;
    })

either-compared : (comparison : Comparison) (left right : Tree) (layers : List Open) (before : Bool) (text : List Placed) → IsLogical (Compared comparison left right) text →
    LogicalLead layers (Compared comparison left right) before text
either-compared comparison left right layers before text (inl j) =
    compared-lead comparison false left right layers before text j.left j.letters j.right j.all j.apart_left j.named (number-lead left j.left layers false false refl j.first)
    (right_number-lead right j.right (record { comparison = comparison; left = left }) layers (touches_behind (touches_behind before j.left) j.letters) true j.apart_right j.second)
either-compared comparison left right layers before text (inr j) =
    compared-lead comparison true left right layers before text j.left j.letters j.right j.all j.apart_left j.named (text-lead left j.left layers false false refl j.first)
    (right_text-lead right j.right (record { comparison = comparison; left = left }) layers (touches_behind (touches_behind before j.left) j.letters) true j.apart_right j.second)

closing-logical : (operand : Operand) (above : List Open) (top : Tree) → truth_of operand ≡ Some top → IsLogicalOne operand above →
    closing operand above ≡ grouped (logic_fold 0 top above).tree (logic_fold 0 top above).layers
closing-logical (TruthOne tree) above top is l = let same : tree ≡ top = cc in ap (λ t. grouped (logic_fold 0 t above).tree (logic_fold 0 t above).layers) same
closing-logical (NumberOne tree) (Negation ∷ layers) top is l =
    let same : tree ≡ top = cc in ap (λ t. grouped (logic_fold 0 t (Negation ∷ layers)).tree (logic_fold 0 t (Negation ∷ layers)).layers) same
closing-logical (NumberOne tree) (LeftOperand operator left ∷ layers) top is l =
    let same : tree ≡ top = cc in ap (λ t. grouped (logic_fold 0 t (LeftOperand operator left ∷ layers)).tree (logic_fold 0 t (LeftOperand operator left ∷ layers)).layers) same
closing-logical (NumberOne tree) [] top is l = absurd l
closing-logical (NumberOne tree) (Group ∷ layers) top is l = absurd l
closing-logical (TextOne tree) above top is l = absurd l

group-lead : (inner : Tree) (layers : List Open) (before : Bool) (text : List Placed) → (e : Enclosed (IsLogical inner) text) → LogicalLead (Group ∷ layers) inner false e.inner → LogicalLead layers (Paren inner) before text
group-lead inner layers before text e m =
    let l = m.lead in
    let start : LogicState = at_point layers (Want false) in
    let whole_tree : Tree = Paren inner in
    let rest : List Placed = e.closing ∷ e.behind in
    let g = gap-behind layers (BehindTruth whole_tree) (BehindTruth whole_tree) (TruthOne whole_tree) false (behind-truth-stands whole_tree) (behind-truth-stands whole_tree)
    (λ p k. behind-truth-blank whole_tree p layers k) (λ p k. behind-truth-blank whole_tree p layers k) e.behind e.blank_behind in
    let touched : touches_behind before text ≡ touches_behind false e.behind =
    touches-all before text e.before (e.opening ∷ e.inner) rest e.all ∙ ap (λ b. touches_behind b e.behind) (kind-apart e.closing.code kind.Close e.closes refl) in
    truth-one layers whole_tree before text (record {
      last = g.last;
      runs = ap (logic_run start) e.all ∙ want-gap layers e.before (e.opening ∷ (e.inner ++ rest)) e.blank_before
          ∙ point-steps (Want false) layers (at_point (Group ∷ layers) (Want false)) e.opening (e.inner ++ rest) (ap (λ k. truth_apart k e.opening layers) e.opens)
          ∙ logic_run-append e.inner rest (at_point (Group ∷ layers) (Want false)) (at_point l.above l.last) l.runs
          ∙ point-steps l.last l.above (at_point layers (BehindTruth whole_tree)) e.closing e.behind
          (l.stands.closes e.closing l.above e.closes ∙ closing-logical l.operand l.above l.top l.is m.logical
          ∙ ap (λ (folded : LogicFolded). grouped folded.tree folded.layers) (l.folds 0 (omega arith)))
          ∙ g.runs;
      stands = subst (λ b. Standing g.last b (TruthOne whole_tree)) (sym touched) g.stands;
    })

logical-lead : (tree : Tree) (layers : List Open) (before : Bool) (text : List Placed) → Takes layers (rank tree) → IsLogical tree text → LogicalLead layers tree before text
logical-lead (Pair operator left right) layers before text t i =
    pair-lead operator left right layers before text t i
    (λ b part j. logical-lead left layers b part (takes-more layers (strength operator) (rank left) i.1 t) j)
    (λ b part j. logical-lead right (LeftOperand operator left ∷ layers) b part i.2 j)
logical-lead (Not operand) layers before text t i = not-lead operand layers before text i (λ b part j. logical-lead operand (Negation ∷ layers) b part i.0 j)
logical-lead (Compared comparison left right) layers before text t i = either-compared comparison left right layers before text i
logical-lead (Paren inner) layers before text t i = group-lead inner layers before text i (logical-lead inner (Group ∷ layers) false i.inner tt i.is)
logical-lead _ layers before text t i = absurd i

-- the state in which a text ends, and its tree
pub record LogicAccepted (text : List Placed) (tree : Tree) : Type 0 where
  pub last : LogicState
  pub runs : logic_run (at_point [] (Want false)) text ≡ Some last
  pub accepts : logic_accept last ≡ Some tree

lead-accepts : (tree : Tree) (before : Bool) (text : List Placed) (l : TruthLead [] false tree before text) → logic_accept (at_point l.above l.last) ≡ Some tree
unfolding logic_accept
lead-accepts tree before text l =
    ap (λ found. option_and_then (whole l.above) (option_and_then truth_of found)) l.stands.settles ∙ ap (option_and_then (whole l.above)) l.is
    ∙ ap (λ (folded : LogicFolded). whole_over folded.tree folded.layers) (l.folds 0 (omega arith))

-- each text of a truth is read, and its tree is that
pub logic_accepted : (tree : Tree) (text : List Placed) → IsTruth tree text → LogicAccepted text tree
logic_accepted tree text i =
    let l = either-truth [] tree false false text refl i (λ j. logical-lead tree [] false text tt j) in
    record { last = at_point l.above l.last; runs = l.runs; accepts = lead-accepts tree false text l }
