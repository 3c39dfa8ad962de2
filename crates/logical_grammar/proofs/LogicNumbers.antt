-- The reader of logical expressions follows the reader of arithmetic over a number. A parenthesis where a truth is wanted
-- is open for both, and is closed by both.
use Rattle.std.proofs.Common.{◌≡◌, ℕ, suc, zero, Bool, true, false, List, [], ◌∷◌, ◌++◌, refl, sym, ap, ◌∙◌, subst}
use Rattle.std.specs.Prelude.{◌==◌, ◌&&◌, nat_le, Option, Some, None, is_some, option_and_then, option_map, if◌then◌else◌}
use Rattle.std.specs.Char.{to_ascii_uppercase}
use Rattle.hl_base.specs.Symbols.{is_symbol_character}
use Rattle.expression_grammar.specs.declared.character.Grammar.TheVariants.{Arithmetic}
use Rattle.expression_grammar.specs.declared.character.Kind.{Kind}
use Rattle.expression_grammar.specs.declared.character.Kind.TheVariants as kind
use Rattle.expression_grammar.specs.declared.tree.Operator.TheVariants.{Add, Subtract, Multiply}
use Rattle.expression_grammar.specs.declared.tree.Attribute.TheVariants as attribute
use Rattle.expression_grammar.specs.declared.part.Part.{Part}
use Rattle.expression_grammar.specs.declared.part.Part.TheVariants.{Asked, Word}
use Rattle.expression_grammar.specs.declared.part.Move.{Move}
use Rattle.expression_grammar.specs.declared.part.Move.TheVariants.{To, Done, Begins, Over}
use Rattle.expression_grammar.specs.Characters.{kind_of, strength}
use Rattle.expression_grammar.specs.Spelling.{Placed}
use Rattle.expression_grammar.specs.Trees.{Tree, Signed, Pair, Paren, Compared}
use Rattle.expression_grammar.specs.Parts.{after, after_word, finish, opening}
use Rattle.expression_grammar.specs.Reading as reading
use Rattle.expression_grammar.specs.Reading.{Layer, SignLayer, PairLayer, OpenLayer, SubscriptLayer, State, Have, Within, Folded, fold, closed, parted, joined, begun, ended, moved, step, run, whole, whole_over, accept}
use Rattle.logical_grammar.specs.Logics.{touches_behind, touches_ahead, IsNumber}
use Rattle.logical_grammar.specs.LogicReading.{Open, Group, OpenRelation, Point, Want, NotOrAttribute, Number, Right, Closed, LogicState, at_point, Operand, NumberOne, TruthOne, number_side, settled, closing, on_number, text_begun, number_begun, truth_apart, right_apart, after_first, after_closed, point_step, logic_run}
use Rattle.expression_grammar.proofs.Pieces.{append-nil}
use Rattle.expression_grammar.proofs.Leads.{capital-runs}
use Rattle.expression_grammar.proofs.LeadsOf.{accepted}
use Rattle.character_grammar.proofs.TextPlain.{test}
use Rattle.logical_grammar.proofs.LogicLaws.{point-steps, kind-apart, want-apart, right-apart}
use Rattle.logical_grammar.proofs.LogicTouches.{Shows, after-over, next-shows}
use Rattle.logical_grammar.proofs.LogicStands.{Standing, behind-close, number-stands, closed-stands, OperandLead}

-- Parentheses below all else that is open.

abbrev pub opens : ℕ → List Layer
opens zero = []
opens (suc n) = OpenLayer ∷ opens n

abbrev pub groups : ℕ → List Open → List Open
groups zero layers = layers
groups (suc n) layers = Group ∷ groups n layers

-- a state over further layers
abbrev pub over : State → List Layer → State
over (reading.Want layers) below = reading.Want (layers ++ below)
over (Have tree layers) below = Have tree (layers ++ below)
over (Within part layers) below = Within part (layers ++ below)

opens-fold : (floor n : ℕ) (tree : Tree) → fold floor tree (opens n) ≡ record { tree = tree; layers = opens n }
opens-fold floor zero tree = refl
opens-fold floor (suc n) tree = refl

abbrev folded_over : Folded → List Layer → Folded
folded_over folded below = record { tree = folded.tree; layers = folded.layers ++ below }

fold-over : (floor n : ℕ) (tree : Tree) (layers : List Layer) → fold floor tree (layers ++ opens n) ≡ folded_over (fold floor tree layers) (opens n)
fold-over floor n tree [] = opens-fold floor n tree
fold-over floor n tree (SignLayer sign ∷ layers) = fold-over floor n (Signed sign tree) layers
fold-over floor n tree (PairLayer operator left ∷ layers) =
    let short : Folded = record { tree = tree; layers = PairLayer operator left ∷ layers } in
    let long : Folded = record { tree = tree; layers = PairLayer operator left ∷ (layers ++ opens n) } in
    elim (nat_le floor (strength operator)) as
    (λ b. (if b then fold floor (Pair operator left tree) (layers ++ opens n) else long) ≡ folded_over (if b then fold floor (Pair operator left tree) layers else short) (opens n))
    [ true ↦ fold-over floor n (Pair operator left tree) layers | false ↦ refl ]
fold-over floor n tree (OpenLayer ∷ layers) = refl
fold-over floor n tree (SubscriptLayer asked symbol others ∷ layers) = refl

-- One character, in what stands above the parentheses or as the one that closes the last of them.

pub data Above (inner : State) (n : ℕ) (p : Placed) (next : State) : Type 0 where
  stays : (found : State) → step Arithmetic inner p ≡ Some found → next ≡ over found (opens n) → Above inner n p next
  leaves : (fewer : ℕ) (tree : Tree) → n ≡ suc fewer → step Arithmetic inner p ≡ None → accept Arithmetic inner ≡ Some tree → kind_of p.code ≡ kind.Close →
      next ≡ Have (Paren tree) (opens fewer) → Above inner n p next

-- the same, of what a step finds
data Found (found : Option State) (settles : Option Folded) (k : Kind) (n : ℕ) (next : State) : Type 0 where
  found_stays : (one : State) → found ≡ Some one → next ≡ over one (opens n) → Found found settles k n next
  found_leaves : (fewer : ℕ) (tree : Tree) → n ≡ suc fewer → found ≡ None → option_and_then whole settles ≡ Some tree → k ≡ kind.Close →
      next ≡ Have (Paren tree) (opens fewer) → Found found settles k n next

mapped : (found : Option State) (settles : Option Folded) (k : Kind) (n : ℕ) (next : State) → option_map (λ s. over s (opens n)) found ≡ Some next → Found found settles k n next
mapped None settles k n next e = cc
mapped (Some one) settles k n next e = found_stays one refl cc

if-over : (b : Bool) (n : ℕ) (state : State) → (if b then Some (over state (opens n)) else None) ≡ option_map (λ s. over s (opens n)) (if b then Some state else None)
if-over true n state = refl
if-over false n state = refl

begun-over : (k : Kind) (p : Placed) (n : ℕ) (layers : List Layer) → begun Arithmetic k p (layers ++ opens n) ≡ option_map (λ s. over s (opens n)) (begun Arithmetic k p layers)
begun-over kind.Blank p n layers = refl
begun-over (kind.Mark Add) p n layers = refl
begun-over (kind.Mark Subtract) p n layers = refl
begun-over (kind.Mark Multiply) p n layers = refl
begun-over (kind.Mark _) p n layers = refl
begun-over kind.Open p n layers = refl
begun-over kind.Digit p n layers = refl
begun-over kind.Letter p n layers =
    if-over (is_some (opening Arithmetic (to_ascii_uppercase p.code))) n (Within (Word p.at (to_ascii_uppercase p.code ∷ [])) layers)
begun-over kind.Ampersand p n layers = refl
begun-over _ p n layers = refl

closed-over : (tree : Tree) (layers : List Layer) (n : ℕ) (next : State) → closed tree (layers ++ opens n) ≡ Some next → Found (closed tree layers) (Some (record { tree = tree; layers = layers })) kind.Close n next
closed-over tree [] zero next e = cc
closed-over tree [] (suc n) next e = found_leaves n tree refl refl refl refl cc
closed-over tree (SignLayer sign ∷ layers) n next e = cc
closed-over tree (PairLayer operator left ∷ layers) n next e = cc
closed-over tree (OpenLayer ∷ layers) n next e = found_stays (Have (Paren tree) layers) refl cc
closed-over tree (SubscriptLayer asked symbol others ∷ layers) n next e = found_stays _ refl cc

parted-over : (tree : Tree) (layers : List Layer) (n : ℕ) → parted tree (layers ++ opens n) ≡ option_map (λ s. over s (opens n)) (parted tree layers)
parted-over tree [] zero = refl
parted-over tree [] (suc n) = refl
parted-over tree (SignLayer sign ∷ layers) n = refl
parted-over tree (PairLayer operator left ∷ layers) n = refl
parted-over tree (OpenLayer ∷ layers) n = refl
parted-over tree (SubscriptLayer asked symbol others ∷ layers) n = refl

behind-over : (k : Kind) (tree : Tree) (layers : List Layer) (n : ℕ) (next : State) → reading.behind Arithmetic k tree (layers ++ opens n) ≡ Some next →
    Found (reading.behind Arithmetic k tree layers) (Some (fold 0 tree layers)) k n next
behind-over kind.Blank tree layers n next e = found_stays (Have tree layers) refl cc
behind-over (kind.Mark operator) tree layers n next e =
    mapped (reading.behind Arithmetic (kind.Mark operator) tree layers) (Some (fold 0 tree layers)) (kind.Mark operator) n next
    (ap (λ folded. Some (joined operator folded)) (sym (fold-over (strength operator) n tree layers)) ∙ e)
behind-over kind.Close tree layers n next e =
    closed-over (fold 0 tree layers).tree (fold 0 tree layers).layers n next (ap (λ (folded : Folded). closed folded.tree folded.layers) (sym (fold-over 0 n tree layers)) ∙ e)
behind-over kind.Comma tree layers n next e =
    let f : Folded = fold 0 tree layers in
    mapped (parted f.tree f.layers) (Some f) kind.Comma n next
    (sym (parted-over f.tree f.layers n) ∙ ap (λ (folded : Folded). parted folded.tree folded.layers) (sym (fold-over 0 n tree layers)) ∙ e)
behind-over _ tree layers n next e = cc

ended-over : (found : Option Tree) (k : Kind) (layers : List Layer) (n : ℕ) (next : State) → ended Arithmetic found k (layers ++ opens n) ≡ Some next →
    Found (ended Arithmetic found k layers) (option_map (λ t. fold 0 t layers) found) k n next
ended-over None k layers n next e = cc
ended-over (Some tree) k layers n next e = behind-over k tree layers n next e

moved-over : (part : Part) (move : Move) (k : Kind) (layers : List Layer) (n : ℕ) (next : State) → ((other : Part) → move ≡ Over other → other ≡ part) →
    moved Arithmetic move k (layers ++ opens n) ≡ Some next → Found (moved Arithmetic move k layers) (option_map (λ t. fold 0 t layers) (finish Arithmetic part)) k n next
moved-over part (To other) k layers n next same e = found_stays (Within other layers) refl cc
moved-over part (Done form number) k layers n next same e = found_stays _ refl cc
moved-over part (Begins asked symbol) k layers n next same e = found_stays _ refl cc
moved-over part (Over other) k layers n next same e =
    subst (λ x. Found (ended Arithmetic (finish Arithmetic other) k layers) (option_map (λ t. fold 0 t layers) (finish Arithmetic x)) k n next) (same other refl)
    (ended-over (finish Arithmetic other) k layers n next e)

found-above : (inner : State) (n : ℕ) (p : Placed) (next : State) (settles : Option Folded) → accept Arithmetic inner ≡ option_and_then whole settles →
    Found (step Arithmetic inner p) settles (kind_of p.code) n next → Above inner n p next
found-above inner n p next settles a (found_stays one s q) = stays one s q
found-above inner n p next settles a (found_leaves fewer tree m s w k q) = leaves fewer tree m s (a ∙ w) k q

pub above : (inner : State) (n : ℕ) (p : Placed) (next : State) → step Arithmetic (over inner (opens n)) p ≡ Some next → Above inner n p next
unfolding step accept
above (reading.Want layers) n p next e =
    found-above (reading.Want layers) n p next None refl
    (mapped (begun Arithmetic (kind_of p.code) p layers) None (kind_of p.code) n next (sym (begun-over (kind_of p.code) p n layers) ∙ e))
above (Have tree layers) n p next e = found-above (Have tree layers) n p next (Some (fold 0 tree layers)) refl (behind-over (kind_of p.code) tree layers n next e)
above (Within part layers) n p next e =
    found-above (Within part layers) n p next (option_map (λ t. fold 0 t layers) (finish Arithmetic part)) refl
    (moved-over part (after Arithmetic part p) (kind_of p.code) layers n next (λ other s. after-over part other p s) e)

-- The point that follows a state of arithmetic over parentheses.

pub data Follows (n : ℕ) (touch : Bool) (state : State) (point : Point) : Type 0 where
  wanting : state ≡ reading.Want (opens n) → point ≡ Want false → Follows n touch state point
  perhaps : (first : Placed) → state ≡ Within (Word first.at (78 ∷ [])) (opens n) → point ≡ NotOrAttribute first → to_ascii_uppercase first.code ≡ 78 → Follows n touch state point
  numbering : (inner : State) → state ≡ over inner (opens n) → point ≡ Number None inner touch → Shows inner touch → Follows n touch state point
  enclosing : (inner : Tree) → state ≡ Have (Paren inner) (opens n) → point ≡ Closed inner → touch ≡ false → Follows n touch state point

pub record FollowStep (n : ℕ) (layers : List Open) (point : Point) (p : Placed) (next : State) : Type 0 where
  pub to : ℕ
  pub there : Point
  pub steps : point_step point p (groups n layers) ≡ Some (at_point (groups to layers) there)
  pub follows : Follows to (is_symbol_character p.code) next there

-- a number that goes on
goes-on : (n : ℕ) (layers : List Open) (point : Point) (inner : State) (found : Option Operand) (touch : Bool) (p : Placed) (one next : State) → step Arithmetic inner p ≡ Some one → next ≡ over one (opens n) →
    point_step point p (groups n layers) ≡ on_number None (step Arithmetic inner p) found touch p (groups n layers) → FollowStep n layers point p next
goes-on n layers point inner found touch p one next s q same =
    record {
      to = n;
      there = Number None one (is_symbol_character p.code);
      steps = same ∙ ap (λ x. on_number None x found touch p (groups n layers)) s;
      follows = numbering one q refl (next-shows inner one p s);
    }

-- a number that is closed
is-closed : (n fewer : ℕ) (layers : List Open) (point : Point) (inner : State) (found : Option Operand) (touch : Bool) (p : Placed) (tree : Tree) (next : State) →
    n ≡ suc fewer → step Arithmetic inner p ≡ None → found ≡ Some (NumberOne tree) → kind_of p.code ≡ kind.Close → next ≡ Have (Paren tree) (opens fewer) →
    point_step point p (groups n layers) ≡ on_number None (step Arithmetic inner p) found touch p (groups n layers) → FollowStep n layers point p next
is-closed n fewer layers point inner found touch p tree next m s f k q same =
    record {
      to = fewer;
      there = Closed tree;
      steps = same ∙ ap (λ x. on_number None x found touch p (groups n layers)) s ∙ behind-close found (NumberOne tree) touch p (groups n layers) f k
          ∙ ap (λ x. closing (NumberOne tree) (groups x layers)) m;
      follows = enclosing tree q refl (kind-apart p.code kind.Close k refl);
    }

-- Where a number is wanted.

want-none : (tree : Tree) → accept Arithmetic (reading.Want []) ≡ Some tree → ⊥
unfolding accept
want-none tree e = cc

want-above : (n : ℕ) (layers : List Open) (p : Placed) (next : State) → point_step (Want false) p (groups n layers) ≡ number_begun None p (groups n layers) →
    Above (reading.Want []) n p next → FollowStep n layers (Want false) p next
want-above n layers p next same (stays one s q) = goes-on n layers (Want false) (reading.Want []) None false p one next s q same
want-above n layers p next same (leaves fewer tree m s a k q) = absurd (want-none tree a)

want-number : (n : ℕ) (layers : List Open) (p : Placed) (next : State) → step Arithmetic (reading.Want (opens n)) p ≡ Some next →
    point_step (Want false) p (groups n layers) ≡ number_begun None p (groups n layers) → FollowStep n layers (Want false) p next
want-number n layers p next e same = want-above n layers p next same (above (reading.Want []) n p next e)

-- a letter is a term of one letter
letter-begun : (n : ℕ) (p : Placed) (next : State) → kind_of p.code ≡ kind.Letter → step Arithmetic (reading.Want (opens n)) p ≡ Some next →
    (if is_some (opening Arithmetic (to_ascii_uppercase p.code)) then Some (Within (Word p.at (to_ascii_uppercase p.code ∷ [])) (opens n)) else None) ≡ Some next
unfolding step
letter-begun n p next k e = ap (λ x. begun Arithmetic x p (opens n)) (sym k) ∙ e

if-taken : (b : Bool) (state next : State) → (if b then Some state else None) ≡ Some next → next ≡ state
if-taken true state next e = cc
if-taken false state next e = cc

want-word : (n : ℕ) (p : Placed) (next : State) → kind_of p.code ≡ kind.Letter → step Arithmetic (reading.Want (opens n)) p ≡ Some next → next ≡ Within (Word p.at (to_ascii_uppercase p.code ∷ [])) (opens n)
want-word n p next k e =
    if-taken (is_some (opening Arithmetic (to_ascii_uppercase p.code))) (Within (Word p.at (to_ascii_uppercase p.code ∷ [])) (opens n)) next (letter-begun n p next k e)

no-type : (n : ℕ) (p : Placed) (next : State) → kind_of p.code ≡ kind.Letter → to_ascii_uppercase p.code ≡ 84 → step Arithmetic (reading.Want (opens n)) p ≡ Some next → ⊥
unfolding opening
no-type n p next k t e =
    let none : None ≡ Some next =
    ap (λ u. if is_some (opening Arithmetic u) then Some (Within (Word p.at (u ∷ [])) (opens n)) else None) (sym t) ∙ letter-begun n p next k e in
    cc

letter_at : (layers : List Open) (p : Placed) (n_first t_first : Bool) → Option LogicState
letter_at layers p n_first t_first =
    if n_first then Some (at_point layers (NotOrAttribute p)) else (if t_first then text_begun None p layers else number_begun None p layers)

letter-here : (layers : List Open) (p : Placed) (n_first t_first : Bool) → kind_of p.code ≡ kind.Letter → (to_ascii_uppercase p.code == 78) ≡ n_first → (to_ascii_uppercase p.code == 84) ≡ t_first →
    point_step (Want false) p layers ≡ letter_at layers p n_first t_first
unfolding letter_at
letter-here layers p n_first t_first k e f =
    ap (λ x. truth_apart x p layers) k ∙ ap (λ b. letter_at layers p b (to_ascii_uppercase p.code == 84)) e ∙ ap (letter_at layers p n_first) f

want-letter : (n : ℕ) (layers : List Open) (p : Placed) (next : State) → (n_first t_first : Bool) → (to_ascii_uppercase p.code == 78) ≡ n_first → (to_ascii_uppercase p.code == 84) ≡ t_first →
    kind_of p.code ≡ kind.Letter → step Arithmetic (reading.Want (opens n)) p ≡ Some next → FollowStep n layers (Want false) p next
unfolding letter_at
want-letter n layers p next true t_first f g k e =
    let u : to_ascii_uppercase p.code ≡ 78 = test (to_ascii_uppercase p.code) 78 f in
    record {
      to = n;
      there = NotOrAttribute p;
      steps = letter-here (groups n layers) p true t_first k f g;
      follows = perhaps p (want-word n p next k e ∙ ap (λ x. Within (Word p.at (x ∷ [])) (opens n)) u) refl u;
    }
want-letter n layers p next false true f g k e = absurd (no-type n p next k (test (to_ascii_uppercase p.code) 84 g) e)
want-letter n layers p next false false f g k e = want-number n layers p next e (letter-here (groups n layers) p false false k f g)

want-blank : (n : ℕ) (layers : List Open) (p : Placed) (next : State) → kind_of p.code ≡ kind.Blank → step Arithmetic (reading.Want (opens n)) p ≡ Some next → FollowStep n layers (Want false) p next
unfolding step
want-blank n layers p next k e =
    let found : Some (reading.Want (opens n)) ≡ Some next = ap (λ x. begun Arithmetic x p (opens n)) (sym k) ∙ e in
    let same : next ≡ reading.Want (opens n) = cc in
    record { to = n; there = Want false; steps = ap (λ x. truth_apart x p (groups n layers)) k; follows = wanting same refl }

want-open : (n : ℕ) (layers : List Open) (p : Placed) (next : State) → kind_of p.code ≡ kind.Open → step Arithmetic (reading.Want (opens n)) p ≡ Some next → FollowStep n layers (Want false) p next
unfolding step
want-open n layers p next k e =
    let found : Some (reading.Want (opens (suc n))) ≡ Some next = ap (λ x. begun Arithmetic x p (opens n)) (sym k) ∙ e in
    let same : next ≡ reading.Want (opens (suc n)) = cc in
    record { to = suc n; there = Want false; steps = ap (λ x. truth_apart x p (groups n layers)) k; follows = wanting same refl }

want-quote : (n : ℕ) (p : Placed) (next : State) → kind_of p.code ≡ kind.Quote → step Arithmetic (reading.Want (opens n)) p ≡ Some next → ⊥
unfolding step
want-quote n p next k e = let none : None ≡ Some next = ap (λ x. begun Arithmetic x p (opens n)) (sym k) ∙ e in cc

want-follows : (n : ℕ) (layers : List Open) (p : Placed) (next : State) (k : Kind) → kind_of p.code ≡ k → step Arithmetic (reading.Want (opens n)) p ≡ Some next → FollowStep n layers (Want false) p next
want-follows n layers p next kind.Blank k e = want-blank n layers p next k e
want-follows n layers p next kind.Open k e = want-open n layers p next k e
want-follows n layers p next kind.Quote k e = absurd (want-quote n p next k e)
want-follows n layers p next kind.Letter k e = want-letter n layers p next (to_ascii_uppercase p.code == 78) (to_ascii_uppercase p.code == 84) refl refl k e
want-follows n layers p next _ k e = want-number n layers p next e (ap (λ x. truth_apart x p (groups n layers)) k)

-- Behind an N.

opens-number : opening Arithmetic 78 ≡ Some (Asked attribute.Number)
unfolding opening
opens-number = refl

number-asked : (first p : Placed) → to_ascii_uppercase first.code ≡ 78 → kind_of p.code ≡ kind.Quote → run Arithmetic (reading.Want []) (first ∷ p ∷ []) ≡ Some (Within (Asked attribute.Number) [])
number-asked first p u k = capital-runs Arithmetic [] 78 (Asked attribute.Number) first p [] refl opens-number u k

perhaps-kind : (n : ℕ) (layers : List Open) (first p : Placed) (next : State) (k : Kind) → to_ascii_uppercase first.code ≡ 78 → kind_of p.code ≡ k →
    moved Arithmetic (after_word Arithmetic k first.at (78 ∷ []) p.code) k (opens n) ≡ Some next → FollowStep n layers (NotOrAttribute first) p next
unfolding finish opening
perhaps-kind n layers first p next kind.Quote u k e =
    let same : next ≡ Within (Asked attribute.Number) (opens n) = cc in
    record {
      to = n;
      there = Number None (Within (Asked attribute.Number) []) (is_symbol_character p.code);
      steps = ap (λ x. after_first first x p (groups n layers)) k ∙ ap (λ x. on_number None x None false p (groups n layers)) (number-asked first p u k);
      follows = numbering (Within (Asked attribute.Number) []) same refl tt;
    }
perhaps-kind n layers first p next kind.Letter u k e = cc
perhaps-kind n layers first p next kind.Digit u k e = cc
perhaps-kind n layers first p next _ u k e = cc

perhaps-follows : (n : ℕ) (layers : List Open) (first p : Placed) (next : State) → to_ascii_uppercase first.code ≡ 78 → step Arithmetic (Within (Word first.at (78 ∷ [])) (opens n)) p ≡ Some next →
    FollowStep n layers (NotOrAttribute first) p next
unfolding step after
perhaps-follows n layers first p next u e = perhaps-kind n layers first p next (kind_of p.code) u refl e

-- Within a number, and behind one in parentheses.

number-above : (n : ℕ) (layers : List Open) (inner : State) (touch : Bool) (p : Placed) (next : State) → Above inner n p next → FollowStep n layers (Number None inner touch) p next
number-above n layers inner touch p next (stays one s q) = goes-on n layers (Number None inner touch) inner (settled (Number None inner touch)) touch p one next s q refl
number-above n layers inner touch p next (leaves fewer tree m s a k q) =
    is-closed n fewer layers (Number None inner touch) inner (settled (Number None inner touch)) touch p tree next m s (ap (option_map (number_side None)) a) k q refl

paren-quote : (inner one : _) (p : Placed) → kind_of p.code ≡ kind.Quote → step Arithmetic (Have (Paren inner) []) p ≡ Some one → ⊥
unfolding step
paren-quote inner one p k e = let none : None ≡ Some one = ap (λ x. reading.behind Arithmetic x (Paren inner) []) (sym k) ∙ e in cc

closed-kind : (inner : Tree) (p : Placed) (layers : List Open) (k : Kind) → kind_of p.code ≡ k → (k ≡ kind.Quote → ⊥) →
    after_closed inner k p layers ≡ on_number None (step Arithmetic (Have (Paren inner) []) p) (Some (NumberOne (Paren inner))) false p layers
closed-kind inner p layers kind.Quote k other = absurd (other refl)
closed-kind inner p layers _ k other = refl

closed-here : (inner : Tree) (p : Placed) (layers : List Open) → (kind_of p.code ≡ kind.Quote → ⊥) →
    point_step (Closed inner) p layers ≡ on_number None (step Arithmetic (Have (Paren inner) []) p) (Some (NumberOne (Paren inner))) false p layers
closed-here inner p layers other = closed-kind inner p layers (kind_of p.code) refl other

close-quote : (p : Placed) → kind_of p.code ≡ kind.Close → kind_of p.code ≡ kind.Quote → ⊥
close-quote p k q = let e : kind.Close ≡ kind.Quote = sym k ∙ q in cc

paren-accepts : (inner tree : Tree) → accept Arithmetic (Have (Paren inner) []) ≡ Some tree → Paren inner ≡ tree
unfolding accept
paren-accepts inner tree e = let same : Some (Paren inner) ≡ Some tree = e in cc

closed-above : (n : ℕ) (layers : List Open) (inner : Tree) (p : Placed) (next : State) → Above (Have (Paren inner) []) n p next → FollowStep n layers (Closed inner) p next
closed-above n layers inner p next (stays one s q) =
    goes-on n layers (Closed inner) (Have (Paren inner) []) (Some (NumberOne (Paren inner))) false p one next s q (closed-here inner p (groups n layers) (λ k. paren-quote inner one p k s))
closed-above n layers inner p next (leaves fewer tree m s a k q) =
    is-closed n fewer layers (Closed inner) (Have (Paren inner) []) (Some (NumberOne (Paren inner))) false p tree next m s
    (ap (λ t. Some (NumberOne t)) (paren-accepts inner tree a)) k q (closed-here inner p (groups n layers) (close-quote p k))

pub follow : (n : ℕ) (touch : Bool) (layers : List Open) (state next : State) (point : Point) (p : Placed) → Follows n touch state point → step Arithmetic state p ≡ Some next →
    FollowStep n layers point p next
follow n touch layers state next point p (wanting s w) e =
    subst (λ x. FollowStep n layers x p next) (sym w) (want-follows n layers p next (kind_of p.code) refl (ap (λ x. step Arithmetic x p) (sym s) ∙ e))
follow n touch layers state next point p (perhaps first s w u) e =
    subst (λ x. FollowStep n layers x p next) (sym w) (perhaps-follows n layers first p next u (ap (λ x. step Arithmetic x p) (sym s) ∙ e))
follow n touch layers state next point p (numbering inner s w t) e =
    subst (λ x. FollowStep n layers x p next) (sym w) (number-above n layers inner touch p next (above inner n p next (ap (λ x. step Arithmetic x p) (sym s) ∙ e)))
follow n touch layers state next point p (enclosing inner s w t) e =
    subst (λ x. FollowStep n layers x p next) (sym w) (closed-above n layers inner p next (above (Have (Paren inner) []) n p next (ap (λ x. step Arithmetic x p) (sym s) ∙ e)))

-- The end of a number.

over-none : (tree : Tree) (layers : List Layer) (n : ℕ) (whole_tree : Tree) → whole_over tree (layers ++ opens n) ≡ Some whole_tree → n ≡ zero
over-none tree [] zero whole_tree e = refl
over-none tree [] (suc n) whole_tree e = cc
over-none tree (layer ∷ layers) n whole_tree e = cc

folded-none : (top : Tree) (layers : List Layer) (n : ℕ) (tree : Tree) → whole (fold 0 top (layers ++ opens n)) ≡ Some tree → n ≡ zero
folded-none top layers n tree e = over-none (fold 0 top layers).tree (fold 0 top layers).layers n tree (ap whole (sym (fold-over 0 n top layers)) ∙ e)

finished-none : (found : Option Tree) (layers : List Layer) (n : ℕ) (tree : Tree) → option_and_then whole (option_map (λ t. fold 0 t (layers ++ opens n)) found) ≡ Some tree → n ≡ zero
finished-none None layers n tree e = cc
finished-none (Some one) layers n tree e = folded-none one layers n tree e

none-open : (inner : State) (n : ℕ) (tree : Tree) → accept Arithmetic (over inner (opens n)) ≡ Some tree → n ≡ zero
unfolding accept
none-open (reading.Want layers) n tree e = cc
none-open (Have top layers) n tree e = folded-none top layers n tree e
none-open (Within part layers) n tree e = finished-none (finish Arithmetic part) layers n tree e

over-nothing : (inner : State) → over inner [] ≡ inner
over-nothing (reading.Want layers) = ap reading.Want (append-nil layers)
over-nothing (Have tree layers) = ap (Have tree) (append-nil layers)
over-nothing (Within part layers) = ap (Within part) (append-nil layers)

pub record Stood (n : ℕ) (touch : Bool) (point : Point) (tree : Tree) : Type 0 where
  pub none : n ≡ zero
  pub stands : Standing point touch (NumberOne tree)

word-open : (place n : ℕ) (tree : Tree) → accept Arithmetic (Within (Word place (78 ∷ [])) (opens n)) ≡ Some tree → ⊥
unfolding accept finish
word-open place n tree e = cc

wanting-open : (n : ℕ) (tree : Tree) → accept Arithmetic (reading.Want (opens n)) ≡ Some tree → ⊥
unfolding accept
wanting-open n tree e = cc

pub stood : (n : ℕ) (touch : Bool) (state : State) (point : Point) (tree : Tree) → Follows n touch state point → accept Arithmetic state ≡ Some tree → Stood n touch point tree
stood n touch state point tree (wanting s w) a = absurd (wanting-open n tree (ap (accept Arithmetic) (sym s) ∙ a))
stood n touch state point tree (perhaps first s w u) a = absurd (word-open first.at n tree (ap (accept Arithmetic) (sym s) ∙ a))
stood n touch state point tree (numbering inner s w t) a =
    let here : accept Arithmetic (over inner (opens n)) ≡ Some tree = ap (accept Arithmetic) (sym s) ∙ a in
    let none : n ≡ zero = none-open inner n tree here in
    let whole_here : accept Arithmetic inner ≡ Some tree = ap (accept Arithmetic) (sym (over-nothing inner) ∙ ap (λ m. over inner (opens m)) (sym none)) ∙ here in
    record { none = none; stands = subst (λ x. Standing x touch (NumberOne tree)) (sym w) (number-stands None inner touch tree whole_here t) }
stood n touch state point tree (enclosing inner s w t) a =
    let here : accept Arithmetic (over (Have (Paren inner) []) (opens n)) ≡ Some tree = ap (accept Arithmetic) (sym s) ∙ a in
    let none : n ≡ zero = none-open (Have (Paren inner) []) n tree here in
    let same : Paren inner ≡ tree = paren-accepts inner tree (ap (λ m. accept Arithmetic (Have (Paren inner) (opens m))) (sym none) ∙ here) in
    record {
      none = none;
      stands = subst (λ x. Standing point x (NumberOne tree)) (sym t) (subst (λ x. Standing x false (NumberOne tree)) (sym w) (subst (λ x. Standing (Closed inner) false (NumberOne x)) same (closed-stands inner)));
    }

-- Whole numbers.

pub record FollowRun (n : ℕ) (layers : List Open) (point : Point) (ps : List Placed) (touch : Bool) (last : State) : Type 0 where
  pub to : ℕ
  pub there : Point
  pub runs : logic_run (at_point (groups n layers) point) ps ≡ Some (at_point (groups to layers) there)
  pub follows : Follows to (touches_behind touch ps) last there

follow-run_of : (p : Placed) (ps : List Placed) (n : ℕ) (touch : Bool) (layers : List Open) (state last : State) (point : Point) (found : Option State) → step Arithmetic state p ≡ found →
    Follows n touch state point →
    ((m : ℕ) (t : Bool) (s : State) (x : Point) → Follows m t s x → run Arithmetic s ps ≡ Some last → FollowRun m layers x ps t last) →
    option_and_then (λ next. run Arithmetic next ps) found ≡ Some last → FollowRun n layers point (p ∷ ps) touch last
follow-run_of p ps n touch layers state last point None s f go e = cc
follow-run_of p ps n touch layers state last point (Some next) s f go e =
    let one = follow n touch layers state next point p f s in
    let more = go one.to (is_symbol_character p.code) next one.there one.follows e in
    record {
      to = more.to;
      there = more.there;
      runs = point-steps point (groups n layers) (at_point (groups one.to layers) one.there) p ps one.steps ∙ more.runs;
      follows = more.follows;
    }

pub follow-run : (ps : List Placed) (n : ℕ) (touch : Bool) (layers : List Open) (state last : State) (point : Point) → Follows n touch state point → run Arithmetic state ps ≡ Some last →
    FollowRun n layers point ps touch last
follow-run [] n touch layers state last point f e =
    let same : state ≡ last = cc in record { to = n; there = point; runs = refl; follows = subst (λ x. Follows n touch x point) same f }
follow-run (p ∷ ps) n touch layers state last point f e =
    follow-run_of p ps n touch layers state last point (step Arithmetic state p) refl f (λ m t s x g h. follow-run ps m t layers s last x g h) e

-- where nothing was wanted no operand stands
pub want-stands : (layers : List Open) (operand : Operand) (before touch : Bool) (text : List Placed) → (touch && touches_ahead text) ≡ false →
    OperandLead (Want false) layers operand before text → OperandLead (Want touch) layers operand before text
want-stands layers operand before touch [] e l =
    let runs : Some (at_point layers (Want false)) ≡ Some (at_point layers l.last) = l.runs in
    let states : at_point layers (Want false) ≡ at_point layers l.last = cc in
    let same : Want false ≡ l.last = ap (λ (s : LogicState). s.point) states in
    let none : None ≡ Some operand = ap settled same ∙ l.stands.settles in
    cc
want-stands layers operand before touch (p ∷ ps) e l = record { last = l.last; runs = want-apart layers touch p ps e ∙ l.runs; stands = l.stands }

pub number-lead : (tree : Tree) (text : List Placed) (layers : List Open) (before touch : Bool) → (touch && touches_ahead text) ≡ false → IsNumber tree text →
    OperandLead (Want touch) layers (NumberOne tree) before text
number-lead tree text layers before touch apart i =
    let a = accepted Arithmetic tree text i.fits i.reads in
    let r = follow-run text zero before layers (reading.Want []) a.last (Want false) (wanting refl refl) a.runs in
    let s = stood r.to (touches_behind before text) a.last r.there tree r.follows a.accepts in
    want-stands layers (NumberOne tree) before touch text apart
    (record { last = r.there; runs = r.runs ∙ ap (λ n. Some (at_point (groups n layers) r.there)) s.none; stands = s.stands })

-- The right side of a comparison.

record NumberRun (relation : Option OpenRelation) (layers : List Open) (state : State) (ps : List Placed) (touch : Bool) (last : State) : Type 0 where
  runs : logic_run (at_point layers (Number relation state touch)) ps ≡ Some (at_point layers (Number relation last (touches_behind touch ps)))
  shows : Shows last (touches_behind touch ps)

number-on_of : (relation : Option OpenRelation) (layers : List Open) (p : Placed) (ps : List Placed) (state last : State) (touch : Bool) (found : Option State) → step Arithmetic state p ≡ found →
    ((s : State) (t : Bool) → Shows s t → run Arithmetic s ps ≡ Some last → NumberRun relation layers s ps t last) →
    option_and_then (λ next. run Arithmetic next ps) found ≡ Some last → NumberRun relation layers state (p ∷ ps) touch last
number-on_of relation layers p ps state last touch None s go e = cc
number-on_of relation layers p ps state last touch (Some next) s go e =
    let more = go next (is_symbol_character p.code) (next-shows state next p s) e in
    record {
      runs = point-steps (Number relation state touch) layers (at_point layers (Number relation next (is_symbol_character p.code))) p ps
          (ap (λ x. on_number relation x (settled (Number relation state touch)) touch p layers) s)
          ∙ more.runs;
      shows = more.shows;
    }

number-on : (relation : Option OpenRelation) (layers : List Open) (ps : List Placed) (state last : State) (touch : Bool) → Shows state touch → run Arithmetic state ps ≡ Some last →
    NumberRun relation layers state ps touch last
number-on relation layers [] state last touch s e =
    let same : state ≡ last = cc in
    record { runs = ap (λ x. Some (at_point layers (Number relation x touch))) same; shows = subst (λ x. Shows x touch) same s }
number-on relation layers (p ∷ ps) state last touch s e = number-on_of relation layers p ps state last touch (step Arithmetic state p) refl (λ x t g h. number-on relation layers ps x last t g h) e

right-kind : (relation : OpenRelation) (k : Kind) (p : Placed) (layers : List Open) → (k ≡ kind.Blank → ⊥) → right_apart false relation k p layers ≡ number_begun (Some relation) p layers
right-kind relation kind.Blank p layers other = absurd (other refl)
right-kind relation _ p layers other = refl

right-first_of : (relation : OpenRelation) (layers : List Open) (p : Placed) (ps : List Placed) (last : State) (tree : Tree) (before : Bool) (found : Option State) → step Arithmetic (reading.Want []) p ≡ found →
    (kind_of p.code ≡ kind.Blank → ⊥) → option_and_then (λ next. run Arithmetic next ps) found ≡ Some last → accept Arithmetic last ≡ Some tree →
    OperandLead (Right false relation false) layers (TruthOne (Compared relation.comparison relation.left tree)) before (p ∷ ps)
right-first_of relation layers p ps last tree before None s other e a = cc
right-first_of relation layers p ps last tree before (Some next) s other e a =
    let more = number-on (Some relation) layers ps next last (is_symbol_character p.code) (next-shows (reading.Want []) next p s) e in
    record {
      last = Number (Some relation) last (touches_behind before (p ∷ ps));
      runs = point-steps (Right false relation false) layers (at_point layers (Number (Some relation) next (is_symbol_character p.code))) p ps
          (right-kind relation (kind_of p.code) p layers other ∙ ap (λ x. on_number (Some relation) x None false p layers) s)
          ∙ more.runs;
      stands = number-stands (Some relation) last (touches_behind before (p ∷ ps)) tree a more.shows;
    }

want-stays : (p : Placed) → kind_of p.code ≡ kind.Blank → step Arithmetic (reading.Want []) p ≡ Some (reading.Want [])
unfolding step
want-stays p k = ap (λ x. begun Arithmetic x p []) k

right-run_of : (relation : OpenRelation) (layers : List Open) (p : Placed) (ps : List Placed) (last : State) (tree : Tree) (before : Bool) (k : Kind) → kind_of p.code ≡ k →
    (run Arithmetic (reading.Want []) ps ≡ Some last → OperandLead (Right false relation false) layers (TruthOne (Compared relation.comparison relation.left tree)) (is_symbol_character p.code) ps) →
    option_and_then (λ next. run Arithmetic next ps) (step Arithmetic (reading.Want []) p) ≡ Some last → accept Arithmetic last ≡ Some tree →
    OperandLead (Right false relation false) layers (TruthOne (Compared relation.comparison relation.left tree)) before (p ∷ ps)
right-run_of relation layers p ps last tree before kind.Blank k go e a =
    let l = go (sym (ap (option_and_then (λ next. run Arithmetic next ps)) (want-stays p k)) ∙ e) in
    record {
      last = l.last;
      runs = point-steps (Right false relation false) layers (at_point layers (Right false relation false)) p ps (ap (λ x. right_apart false relation x p layers) k) ∙ l.runs;
      stands = l.stands;
    }
right-run_of relation layers p ps last tree before _ k go e a =
    right-first_of relation layers p ps last tree before (step Arithmetic (reading.Want []) p) refl (λ b. let both : kind_of p.code ≡ kind.Blank = b in cc) e a

right-run : (relation : OpenRelation) (layers : List Open) (text : List Placed) (last : State) (tree : Tree) (before : Bool) → run Arithmetic (reading.Want []) text ≡ Some last → accept Arithmetic last ≡ Some tree →
    OperandLead (Right false relation false) layers (TruthOne (Compared relation.comparison relation.left tree)) before text
right-run relation layers [] last tree before e a = let same : reading.Want [] ≡ last = cc in absurd (want-none tree (ap (accept Arithmetic) same ∙ a))
right-run relation layers (p ∷ ps) last tree before e a =
    right-run_of relation layers p ps last tree before (kind_of p.code) refl (λ f. right-run relation layers ps last tree (is_symbol_character p.code) f a) e a

-- where no right side began no operand stands
pub right-stands : (layers : List Open) (is_text : Bool) (relation : OpenRelation) (operand : Operand) (before touch : Bool) (text : List Placed) → (touch && touches_ahead text) ≡ false →
    OperandLead (Right is_text relation false) layers operand before text → OperandLead (Right is_text relation touch) layers operand before text
right-stands layers is_text relation operand before touch [] e l =
    let runs : Some (at_point layers (Right is_text relation false)) ≡ Some (at_point layers l.last) = l.runs in
    let states : at_point layers (Right is_text relation false) ≡ at_point layers l.last = cc in
    let same : Right is_text relation false ≡ l.last = ap (λ (s : LogicState). s.point) states in
    let none : None ≡ Some operand = ap settled same ∙ l.stands.settles in
    cc
right-stands layers is_text relation operand before touch (p ∷ ps) e l = record { last = l.last; runs = right-apart layers is_text relation touch p ps e ∙ l.runs; stands = l.stands }

pub right_number-lead : (tree : Tree) (text : List Placed) (relation : OpenRelation) (layers : List Open) (before touch : Bool) → (touch && touches_ahead text) ≡ false → IsNumber tree text →
    OperandLead (Right false relation touch) layers (TruthOne (Compared relation.comparison relation.left tree)) before text
right_number-lead tree text relation layers before touch apart i =
    let a = accepted Arithmetic tree text i.fits i.reads in
    right-stands layers false relation (TruthOne (Compared relation.comparison relation.left tree)) before touch text apart (right-run relation layers text a.last tree before a.runs a.accepts)
