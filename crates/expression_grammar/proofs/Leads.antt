-- Every text of a tree leads to that tree.
use Rattle.std.proofs.Common.{◌≡◌, ℕ, ◌+◌, ◌*◌, ◌<◌, ◌≤◌, Bool, true, false, List, [], ◌∷◌, ◌++◌, length, refl, sym, ap, ◌∙◌, arith, add-zero, zero-add}
use Rattle.std.specs.Prelude.{nat_le, nat_lt, ◌&&◌, ◌||◌, Option, Some, None, is_some, if◌then◌else◌}
use Rattle.std.specs.List.{list_all}
use Rattle.std.specs.Char.{digit_value, to_ascii_uppercase, is_digit}
use Rattle.std.proofs.lemmas.Bool.Decides.{nat_tests}
use Rattle.hl_base.specs.Symbols.{is_letter}
use Rattle.expression_grammar.specs.declared.character.Grammar.{Grammar}
use Rattle.expression_grammar.specs.declared.character.Kind.{Kind}
use Rattle.expression_grammar.specs.declared.character.Kind.TheVariants as kind
use Rattle.expression_grammar.specs.declared.tree.Form.{Form}
use Rattle.expression_grammar.specs.declared.tree.Form.TheVariants.{Decimal, Hexadecimal, Binary, Character}
use Rattle.expression_grammar.specs.declared.tree.Operator.{Operator}
use Rattle.expression_grammar.specs.declared.part.Part.{Part}
use Rattle.expression_grammar.specs.declared.part.Part.TheVariants.{Figures, Body, BodyQuote, BodyAmpersand, Asked, Sigil, Word, Property, Named}
use Rattle.expression_grammar.specs.declared.part.Move.{Move}
use Rattle.expression_grammar.specs.declared.part.Move.TheVariants.{To, Done, Over}
use Rattle.expression_grammar.specs.Characters.{kind_of}
use Rattle.hl_base.specs.Order.{ebcdic}
use Rattle.expression_grammar.specs.Trees.{Tree}
use Rattle.expression_grammar.specs.Spelling as spelling
use Rattle.expression_grammar.specs.Spelling.{Placed, Piece, Gap, One, IsGap, IsOne, IsRun, IsDigits, IsCharacters, Reads, IsPiece, IsOf, AreOf, codes, figures, bytes_of, doubled, twice, is_figure, base_of, most_of, greatest_of, has_blanks, is_ordinary, may_vary, may_name, asks_of_symbol, rank, spell, spell_subscripts, begin_subscripts, asked_spelled, variable_spelled, number_spelled}
use Rattle.expression_grammar.specs.Parts.{after, after_figures, close_figures, is_quoted, has_room, grow, after_quote, after_word, after_property, after_named, finish, opening, opened}
use Rattle.expression_grammar.specs.Reading.{Layer, State, Want, Have, Within, fold, behind, begun, ended, moved, step, run}
use Rattle.expression_grammar.proofs.CharacterLaws.{digit-kind, letter-kind, kind-quote, upper-letter}
use Rattle.expression_grammar.proofs.Names.{and-left, and-right, and-both}
use Rattle.expression_grammar.proofs.Pieces.{append-nil}
use Rattle.expression_grammar.proofs.Completions.{if-true, run-step, step-to}

-- A tree is there: read, or as a term that may still go on.
pub data IsAtTree (g : Grammar) (state : State) (tree : Tree) (layers : List Layer) : Type 0 where
  as_tree : state ≡ Have tree layers → IsAtTree g state tree layers
  as_part : (part : Part) → state ≡ Within part layers → finish g part ≡ Some tree → IsAtTree g state tree layers

-- From where an operand is wanted the text leads to this tree, and then come these pieces.
pub record Leads (g : Grammar) (layers : List Layer) (tree : Tree) (behind_it : List Piece) (cs : List Placed) : Type 0 where
  pub state : State
  pub rest : List Placed
  pub top : Tree
  pub above : List Layer
  pub runs : run g (Want layers) cs ≡ run g state rest
  pub reads : Reads g behind_it rest
  pub there : IsAtTree g state top above
  pub folds : (floor : ℕ) → floor ≤ rank tree → fold floor top above ≡ fold floor tree layers

-- Characters behind a term.

abbrev pub IsFollower : Kind → Type 0
IsFollower kind.Blank = Unit {0}
IsFollower (kind.Mark operator) = Unit {0}
IsFollower kind.Close = Unit {0}
IsFollower kind.Comma = Unit {0}
IsFollower _ = ⊥

pub all-followers : (F : Kind → Move) (m : Move) → F kind.Blank ≡ m → ((o : Operator) → F (kind.Mark o) ≡ m) → F kind.Close ≡ m → F kind.Comma ≡ m → (k : Kind) → IsFollower k → F k ≡ m
all-followers F m a b c d kind.Blank f = a
all-followers F m a b c d (kind.Mark o) f = b o
all-followers F m a b c d kind.Close f = c
all-followers F m a b c d kind.Comma f = d
all-followers F m a b c d _ f = absurd f

pub follower-no_digit : (k : Kind) → IsFollower k → kind.Digit ≡ k → ⊥
follower-no_digit kind.Blank f e = cc
follower-no_digit (kind.Mark o) f e = cc
follower-no_digit kind.Close f e = cc
follower-no_digit kind.Comma f e = cc
follower-no_digit _ f e = f

pub over-decimal : (n v c : ℕ) (k : Kind) → IsFollower k → kind_of c ≡ k → after_figures Decimal n v c ≡ Over (Figures Decimal n v)
over-decimal n v c k f e =
    let longer : Move = To (Figures Decimal (n + 1) (v * 10 + digit_value c)) in
    let closing : close_figures (kind_of c) Decimal n v ≡ Over (Figures Decimal n v) =
    ap (λ x. close_figures x Decimal n v) e ∙ all-followers (λ x. close_figures x Decimal n v) (Over (Figures Decimal n v)) refl (λ o. refl) refl refl k f in
    let go : (b : Bool) → is_figure Decimal c ≡ b → (if b && has_room Decimal n v (digit_value c) then longer else close_figures (kind_of c) Decimal n v) ≡ Over (Figures Decimal n v) =
    elim [ true ↦ λ t. absurd (follower-no_digit k f (sym (digit-kind c t) ∙ e)) | false ↦ λ t. closing ] in
    go (is_figure Decimal c) refl

pub over : (g : Grammar) (part : Part) (p : Placed) (k : Kind) → IsFollower k → kind_of p.code ≡ k → (found : Tree) → finish g part ≡ Some found → after g part p ≡ Over part
unfolding after finish
over g (Figures Decimal n v) p k f e found h = over-decimal n v p.code k f e
over g (Figures Hexadecimal n v) p k f e found h = cc
over g (Figures Binary n v) p k f e found h = cc
over g (Figures Character n v) p k f e found h = cc
over g (Body n v) p k f e found h = cc
over g (BodyQuote n v) p k f e found h =
    ap (λ x. after_quote x n v p.code) e ∙ all-followers (λ x. after_quote x n v p.code) (Over (BodyQuote n v)) refl (λ o. refl) refl refl k f
over g (BodyAmpersand n v) p k f e found h = cc
over g (Asked asked) p k f e found h = cc
over g (Sigil asked place) p k f e found h = cc
over g (Word place name) p k f e found h =
    ap (λ x. after_word g x place name p.code) e ∙ all-followers (λ x. after_word g x place name p.code) (Over (Word place name)) refl (λ o. refl) refl refl k f
over g (Property asked place name) p k f e found h =
    ap (λ x. after_property x asked place name p.code) e ∙ all-followers (λ x. after_property x asked place name p.code) (Over (Property asked place name)) refl (λ o. refl) refl refl k f
over g (Named asked place name) p k f e found h =
    ap (λ x. after_named x asked place name p.code) e ∙ all-followers (λ x. after_named x asked place name p.code) (Over (Named asked place name)) refl (λ o. refl) refl refl k f

-- a character behind a tree, whether it stands as a tree or as a term
pub step-behind : (g : Grammar) (state : State) (tree : Tree) (layers : List Layer) (p : Placed) (k : Kind) → IsFollower k → kind_of p.code ≡ k →
    IsAtTree g state tree layers → step g state p ≡ behind g k tree layers
unfolding step
step-behind g state tree layers p k f e (as_tree s) = ap (λ x. step g x p) s ∙ ap (λ x. behind g x tree layers) e
step-behind g state tree layers p k f e (as_part part s h) =
    ap (λ x. step g x p) s ∙ ap (λ m. moved g m (kind_of p.code) layers) (over g part p k f e tree h)
    ∙ ap (λ found. ended g found (kind_of p.code) layers) h ∙ ap (λ x. behind g x tree layers) e

pub run-behind : (g : Grammar) (state next : State) (tree : Tree) (layers : List Layer) (p : Placed) (ps : List Placed) (k : Kind) → IsFollower k → kind_of p.code ≡ k →
    IsAtTree g state tree layers → behind g k tree layers ≡ Some next → run g state (p ∷ ps) ≡ run g next ps
run-behind g state next tree layers p ps k f e a b = run-step g state next p ps (step-behind g state tree layers p k f e a ∙ b)

-- Gaps.

pub blank-behind : (g : Grammar) (tree : Tree) (layers : List Layer) → has_blanks g ≡ true → behind g kind.Blank tree layers ≡ Some (Have tree layers)
blank-behind g tree layers e = if-true (has_blanks g) (Some (Have tree layers)) None e

pub blank-want : (g : Grammar) (layers : List Layer) (p : Placed) → has_blanks g ≡ true → kind_of p.code ≡ kind.Blank → step g (Want layers) p ≡ Some (Want layers)
unfolding step
blank-want g layers p b e = ap (λ x. begun g x p layers) e ∙ if-true (has_blanks g) (Some (Want layers)) None b

pub gap-want : (g : Grammar) (layers : List Layer) (front back : List Placed) → IsGap g front → run g (Want layers) (front ++ back) ≡ run g (Want layers) back
gap-want g layers [] back i = refl
gap-want g layers (p ∷ front) back i = run-step g (Want layers) (Want layers) p (front ++ back) (blank-want g layers p i.0 i.1) ∙ gap-want g layers front back i.2

pub gap-have : (g : Grammar) (tree : Tree) (layers : List Layer) (front back : List Placed) → IsGap g front → run g (Have tree layers) (front ++ back) ≡ run g (Have tree layers) back
gap-have g tree layers [] back i = refl
gap-have g tree layers (p ∷ front) back i =
    run-behind g (Have tree layers) (Have tree layers) tree layers p (front ++ back) kind.Blank tt i.1 (as_tree refl) (blank-behind g tree layers i.0)
    ∙ gap-have g tree layers front back i.2

-- blanks behind a tree, and then a character that goes on
pub gap-then : (g : Grammar) (state next : State) (tree : Tree) (layers : List Layer) (front : List Placed) (p : Placed) (back : List Placed) (k : Kind) → IsFollower k → kind_of p.code ≡ k →
    IsGap g front → IsAtTree g state tree layers → behind g k tree layers ≡ Some next → run g state (front ++ p ∷ back) ≡ run g next back
gap-then g state next tree layers [] p back k f e i a b = run-behind g state next tree layers p back k f e a b
gap-then g state next tree layers (q ∷ front) p back k f e i a b =
    run-behind g state (Have tree layers) tree layers q (front ++ p ∷ back) kind.Blank tt i.1 a (blank-behind g tree layers i.0)
    ∙ gap-have g tree layers front (p ∷ back) i.2
    ∙ run-behind g (Have tree layers) next tree layers p back k f e (as_tree refl) b

-- blanks at the end
pub record Ended (g : Grammar) (state : State) (front : List Placed) (tree : Tree) (layers : List Layer) : Type 0 where
  pub last : State
  pub runs : run g state front ≡ Some last
  pub there : IsAtTree g last tree layers

pub gap-end : (g : Grammar) (state : State) (tree : Tree) (layers : List Layer) (front : List Placed) → IsGap g front → IsAtTree g state tree layers → Ended g state front tree layers
gap-end g state tree layers [] i a = record { last = state; runs = refl; there = a }
gap-end g state tree layers (q ∷ front) i a =
    record {
      last = Have tree layers;
      runs = run-behind g state (Have tree layers) tree layers q front kind.Blank tt i.1 a (blank-behind g tree layers i.0)
          ∙ ap (run g (Have tree layers)) (sym (append-nil front)) ∙ gap-have g tree layers front [] i.2;
      there = as_tree refl;
    }

-- Pieces that come first.

-- a text that begins with one character, cut behind it
pub record First (g : Grammar) (k : Kind) (ks : List Piece) (cs : List Placed) : Type 0 where
  pub p : Placed
  pub back : List Placed
  pub both : cs ≡ p ∷ back
  pub kind : kind_of p.code ≡ k
  pub reads : Reads g ks back

pub first : (g : Grammar) (k : Kind) (ks : List Piece) (cs : List Placed) → Reads g (One k ∷ ks) cs → First g k ks cs
first g k ks cs r = record { p = r.3.one; back = r.1; both = r.2 ∙ ap (λ xs. xs ++ r.1) r.3.only; kind = r.3.kind; reads = r.4 }

pub record FirstCapital (g : Grammar) (u : ℕ) (ks : List Piece) (cs : List Placed) : Type 0 where
  pub q : Placed
  pub p : Placed
  pub back : List Placed
  pub both : cs ≡ q ∷ p ∷ back
  pub upper : to_ascii_uppercase q.code ≡ u
  pub kind : kind_of p.code ≡ kind.Quote
  pub reads : Reads g ks back

pub first-capital : (g : Grammar) (u : ℕ) (ks : List Piece) (cs : List Placed) → Reads g (spelling.Capital u ∷ One kind.Quote ∷ ks) cs → FirstCapital g u ks cs
first-capital g u ks cs r =
    let f = first g kind.Quote ks r.1 r.4 in
    record { q = r.3.one; p = f.p; back = f.back; both = r.2 ∙ ap (λ xs. xs ++ r.1) r.3.only ∙ ap (λ xs. r.3.one ∷ xs) f.both; upper = r.3.upper; kind = f.kind; reads = f.reads }

-- a letter and an apostrophe
pub or-some : (a b : Bool) → b ≡ true → (a || b) ≡ true
or-some true b e = refl
or-some false b e = e

pub want-capital : (g : Grammar) (layers : List Layer) (u : ℕ) (part : Part) (q : Placed) → is_letter u ≡ true → opening g u ≡ Some part → to_ascii_uppercase q.code ≡ u →
    step g (Want layers) q ≡ Some (Within (Word q.at (u ∷ [])) layers)
unfolding step
want-capital g layers u part q l o e =
    let k : kind_of q.code ≡ kind.Letter = letter-kind q.code (upper-letter q.code u e l) in
    ap (λ x. begun g x q layers) k
    ∙ if-true (is_ordinary g || is_some (opening g (to_ascii_uppercase q.code))) (Some (Within (Word q.at (to_ascii_uppercase q.code ∷ [])) layers)) None
    (or-some (is_ordinary g) (is_some (opening g (to_ascii_uppercase q.code))) (ap (λ x. is_some (opening g x)) e ∙ ap is_some o))
    ∙ ap (λ x. Some (Within (Word q.at (x ∷ [])) layers)) e

pub after-capital : (g : Grammar) (place u : ℕ) (part : Part) (p : Placed) → opening g u ≡ Some part → kind_of p.code ≡ kind.Quote → after g (Word place (u ∷ [])) p ≡ To part
unfolding after
after-capital g place u part p o e = ap (λ x. after_word g x place (u ∷ []) p.code) e ∙ ap (λ (found : Option Part). opened found (Word place (u ∷ []))) o

pub capital-runs : (g : Grammar) (layers : List Layer) (u : ℕ) (part : Part) (q p : Placed) (back : List Placed) → is_letter u ≡ true → opening g u ≡ Some part →
    to_ascii_uppercase q.code ≡ u → kind_of p.code ≡ kind.Quote → run g (Want layers) (q ∷ p ∷ back) ≡ run g (Within part layers) back
capital-runs g layers u part q p back l o e f =
    run-step g (Want layers) (Within (Word q.at (u ∷ [])) layers) q (p ∷ back) (want-capital g layers u part q l o e)
    ∙ run-step g (Within (Word q.at (u ∷ [])) layers) (Within part layers) p back (step-to g layers (Word q.at (u ∷ [])) part p (after-capital g q.at u part p o f))

-- Digits.

pub base-most : (form : Form) (v : ℕ) → v ≤ v * base_of form
base-most Decimal v = omega arith
base-most Hexadecimal v = omega arith
base-most Binary v = omega arith
base-most Character v = omega arith

pub figures-most : (form : Form) (v : ℕ) (cs : List ℕ) → v ≤ figures form v cs
figures-most form v [] = omega arith
figures-most form v (c ∷ cs) =
    let more = figures-most form (v * base_of form + digit_value c) cs in
    let base : v ≤ v * base_of form = base-most form v in
    omega arith

pub le-test : (a b : ℕ) → a ≤ b → nat_le a b ≡ true
le-test a b h = grind (arith, nat_tests)

pub lt-test : (a b : ℕ) → a < b → nat_lt a b ≡ true
lt-test a b h = grind (arith, nat_tests)

pub after-digit : (g : Grammar) (form : Form) (n v : ℕ) (p : Placed) → is_figure form p.code ≡ true → n < most_of form → v * base_of form + digit_value p.code ≤ greatest_of form →
    after g (Figures form n v) p ≡ To (Figures form (n + 1) (v * base_of form + digit_value p.code))
unfolding after
after-digit g form n v p e f h =
    if-true (is_figure form p.code && has_room form n v (digit_value p.code)) (To (Figures form (n + 1) (v * base_of form + digit_value p.code))) (close_figures (kind_of p.code) form n v)
    (and-both (is_figure form p.code) (has_room form n v (digit_value p.code)) e
    (and-both (nat_lt n (most_of form)) (nat_le (v * base_of form + digit_value p.code) (greatest_of form)) (lt-test n (most_of form) f) (le-test (v * base_of form + digit_value p.code) (greatest_of form) h)))

pub run-digits : (g : Grammar) (layers : List Layer) (form : Form) (n v : ℕ) (ds back : List Placed) → list_all (is_figure form) (codes ds) ≡ true → n + length ds ≤ most_of form →
    figures form v (codes ds) ≤ greatest_of form → run g (Within (Figures form n v) layers) (ds ++ back) ≡ run g (Within (Figures form (n + length ds) (figures form v (codes ds))) layers) back
run-digits g layers form n v [] back a f h = ap (λ m. run g (Within (Figures form m v) layers) back) (sym (add-zero n))
run-digits g layers form n v (p ∷ ds) back a f h =
    let next = v * base_of form + digit_value p.code in
    let more = figures-most form next (codes ds) in
    let figure = and-left (is_figure form p.code) (list_all (is_figure form) (codes ds)) a in
    let others = and-right (is_figure form p.code) (list_all (is_figure form) (codes ds)) a in
    run-step g (Within (Figures form n v) layers) (Within (Figures form (n + 1) next) layers) p (ds ++ back)
    (step-to g layers (Figures form n v) (Figures form (n + 1) next) p (after-digit g form n v p figure (omega arith) (omega arith)))
    ∙ run-digits g layers form (n + 1) next ds back others (omega arith) h
    ∙ ap (λ m. run g (Within (Figures form m (figures form next (codes ds))) layers) back) (omega arith)

pub close-39 : (form : Form) (n v : ℕ) → nat_lt 0 n ≡ true → (is_quoted form && true) ≡ true → close_figures (kind_of 39) form n v ≡ Done form v
unfolding kind_of
close-39 form n v e q = if-true (is_quoted form && nat_lt 0 n) (Done form v) (Over (Figures form n v)) (and-both (is_quoted form) (nat_lt 0 n) (and-left (is_quoted form) true q) e)

-- a decimal term
pub begin-digit : (g : Grammar) (layers : List Layer) (p : Placed) → is_digit p.code 10 ≡ true → step g (Want layers) p ≡ Some (Within (Figures Decimal 1 (digit_value p.code)) layers)
unfolding step
begin-digit g layers p e = ap (λ x. begun g x p layers) (digit-kind p.code e)

pub decimal-runs : (g : Grammar) (layers : List Layer) (count bits : ℕ) (ds back : List Placed) → 0 < count → count ≤ 10 → bits ≤ greatest_of Decimal → IsRun Decimal count bits ds →
    run g (Want layers) (ds ++ back) ≡ run g (Within (Figures Decimal count bits) layers) back
decimal-runs g layers count bits [] back s f h i = let counted = i.counted in absurd (omega arith)
decimal-runs g layers count bits (p ∷ ds) back s f h i =
    let figure = and-left (is_figure Decimal p.code) (list_all (is_figure Decimal) (codes ds)) i.all in
    let others = and-right (is_figure Decimal p.code) (list_all (is_figure Decimal) (codes ds)) i.all in
    let value : figures Decimal (digit_value p.code) (codes ds) ≡ bits = ap (λ v. figures Decimal v (codes ds)) (sym (zero-add (digit_value p.code))) ∙ i.valued in
    let counted = i.counted in
    run-step g (Want layers) (Within (Figures Decimal 1 (digit_value p.code)) layers) p (ds ++ back) (begin-digit g layers p figure)
    ∙ run-digits g layers Decimal 1 (digit_value p.code) ds back others (omega arith) (omega (arith, value))
    ∙ ap (λ m. run g (Within (Figures Decimal m (figures Decimal (digit_value p.code) (codes ds))) layers) back) (omega arith)
    ∙ ap (λ v. run g (Within (Figures Decimal count v) layers) back) value

pub quoted-runs : (g : Grammar) (layers : List Layer) (form : Form) (count bits : ℕ) (ds back : List Placed) → count ≤ most_of form → bits ≤ greatest_of form → IsRun form count bits ds →
    run g (Within (Figures form 0 0) layers) (ds ++ back) ≡ run g (Within (Figures form count bits) layers) back
quoted-runs g layers form count bits ds back f h i =
    let counted = i.counted in let valued = i.valued in
    run-digits g layers form 0 0 ds back i.all (omega arith) (omega arith)
    ∙ ap (λ m. run g (Within (Figures form m (figures form 0 (codes ds))) layers) back) (omega arith)
    ∙ ap (λ v. run g (Within (Figures form count v) layers) back) valued

pub after-close_hexadecimal : (g : Grammar) (n v : ℕ) (p : Placed) → 0 < n → kind_of p.code ≡ kind.Quote → after g (Figures Hexadecimal n v) p ≡ Done Hexadecimal v
unfolding after
after-close_hexadecimal g n v p h e =
    ap (λ c. after_figures Hexadecimal n v c) (kind-quote p.code e) ∙ close-39 Hexadecimal n v (lt-test 0 n h) refl

pub after-close_binary : (g : Grammar) (n v : ℕ) (p : Placed) → 0 < n → kind_of p.code ≡ kind.Quote → after g (Figures Binary n v) p ≡ Done Binary v
unfolding after
after-close_binary g n v p h e =
    ap (λ c. after_figures Binary n v c) (kind-quote p.code e) ∙ close-39 Binary n v (lt-test 0 n h) refl

-- Character terms.

pub bytes-most : (v : ℕ) (cs : List ℕ) → v ≤ bytes_of v cs
bytes-most v [] = omega arith
bytes-most v (c ∷ cs) = let more = bytes-most (v * 256 + ebcdic c) cs in omega arith

pub grow-room : (n v c : ℕ) (part : Part) → n < 4 → v * 256 + ebcdic c ≤ greatest_of Character → grow n v c part ≡ To (Body (n + 1) (v * 256 + ebcdic c))
grow-room n v c part f h =
    if-true (has_room Character n v (ebcdic c)) (To (Body (n + 1) (v * 256 + ebcdic c))) (Over part)
    (and-both (nat_lt n 4) (nat_le (v * 256 + ebcdic c) (greatest_of Character)) (lt-test n 4 f) (le-test (v * 256 + ebcdic c) (greatest_of Character) h))
