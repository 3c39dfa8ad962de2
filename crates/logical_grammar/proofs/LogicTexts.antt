-- The reader of logical expressions follows the reader of character expressions over a text.
use Rattle.std.proofs.Common.{◌≡◌, ℕ, zero, Bool, true, false, List, [], ◌∷◌, ◌++◌, length, refl, sym, ap, ◌∙◌, subst, append_assoc}
use Rattle.std.specs.Prelude.{◌==◌, ◌&&◌, nat_lt, Option, Some, None, option_and_then, option_map, if◌then◌else◌}
use Rattle.std.specs.Char.{to_ascii_uppercase}
use Rattle.hl_base.specs.Symbols.{is_symbol_character}
use Rattle.expression_grammar.specs.declared.character.Grammar.TheVariants.{Arithmetic}
use Rattle.expression_grammar.specs.declared.character.Kind.{Kind}
use Rattle.expression_grammar.specs.declared.character.Kind.TheVariants as kind
use Rattle.expression_grammar.specs.declared.tree.Symbol.{Symbol}
use Rattle.expression_grammar.specs.Characters.{kind_of}
use Rattle.expression_grammar.specs.Spelling.{Placed}
use Rattle.expression_grammar.specs.Trees.{Tree, Items, Compared, NoTrees, Inserted}
use Rattle.expression_grammar.specs.Parts.{symbol_at}
use Rattle.expression_grammar.specs.Reading as reading
use Rattle.expression_grammar.specs.Reading.{State}
use Rattle.logical_grammar.specs.Logics.{touches_behind, touches_ahead, IsCharacters}
use Rattle.character_grammar.specs.TextReading as texts
use Rattle.character_grammar.specs.TextReading.{Opened, Holder, InText, AsType, Frame, Factor, Subscripts, Start, Count, TextState, WantPart, WantQuote, Inside, Lone, Naming, Behind, Within, WantCount, Star, Letter, Asked, Sigil, Word, Done, with_plain, typed, after_part, begin_part, begin_quoted, go_inside, after_lone, after_symbol, after_name, lengthen, go_naming, subscripted, leave, left_by, go_within, is_star, begin_count, after_star, after_letter, after_asked, after_sigil, lengthen_word, go_word, text_step, text_accept, text_run}
use Rattle.logical_grammar.specs.LogicReading.{Open, Group, OpenRelation, Point, Want, Text, BehindText, Right, Closed, BehindTruth, LogicState, at_point, Operand, NumberOne, TruthOne, TextOne, text_side, settled, closing, blanked, behind_one, behind, on_text, text_begun, letter_begun, truth_apart, right_apart, after_closed, point_step, logic_step, logic_run}
use Rattle.expression_grammar.proofs.CharacterLaws.{kind-letter_symbol, kind-digit_symbol}
use Rattle.character_grammar.proofs.TextPlain.{test}
use Rattle.character_grammar.proofs.TextTrees.{text_accepted}
use Rattle.logical_grammar.proofs.LogicLaws.{point-steps, logic_run-append, touches-all, want-gap, right-gap}
use Rattle.logical_grammar.proofs.LogicStands.{Standing, behind-close, behind-letter, behind-text-stands, behind-truth-stands, behind-text-blank, behind-truth-blank, OperandLead, gap-behind}
use Rattle.logical_grammar.proofs.LogicNumbers.{groups, Follows, wanting, follow, stood, want-stands, right-stands}

-- What the last character of a text tells.

abbrev pub TextShows : TextState → Bool → Type 0
TextShows (Naming holder place name) touch = touch ≡ true
TextShows (Word left place name) touch = touch ≡ true
TextShows other touch = Unit {0}

abbrev AllTextShow : Option TextState → Bool → Type 0
AllTextShow None touch = Unit {0}
AllTextShow (Some state) touch = TextShows state touch

if-shows : (touch b : Bool) (state : TextState) → TextShows state touch → AllTextShow (if b then Some state else None) touch
if-shows touch true state s = s
if-shows touch false state s = tt

part-shows : (tree : Tree) (c : ℕ) (touch : Bool) → AllTextShow (after_part tree c) touch
part-shows tree c touch = if-shows touch (c == 46) (WantPart (Some tree)) tt

begin-shows : (left : Option Tree) (k : Kind) (c : ℕ) (touch : Bool) → AllTextShow (begin_part left k c) touch
begin-shows left kind.Quote c touch = tt
begin-shows left kind.Open c touch = tt
begin-shows left kind.Letter c touch = if-shows touch (to_ascii_uppercase c == 84) (Letter left) tt
begin-shows left _ c touch = tt

quoted-shows : (left : Option Tree) (factor : Tree) (k : Kind) (touch : Bool) → AllTextShow (begin_quoted left factor k) touch
quoted-shows left factor kind.Quote touch = tt
quoted-shows left factor _ touch = tt

inside-shows : (opened : Opened) (items : Items) (plain : List ℕ) (k : Kind) (p : Placed) (touch : Bool) → TextShows (go_inside opened items plain k p) touch
inside-shows opened items plain kind.Quote p touch = tt
inside-shows opened items plain kind.Ampersand p touch = tt
inside-shows opened items plain _ p touch = tt

lone-shows : (opened : Opened) (items : Items) (plain : List ℕ) (place : ℕ) (k : Kind) (p : Placed) → kind_of p.code ≡ k → TextShows (after_lone opened items plain place k p) (is_symbol_character p.code)
lone-shows opened items plain place kind.Letter p e = kind-letter_symbol p.code e
lone-shows opened items plain place kind.Ampersand p e = tt
lone-shows opened items plain place kind.Quote p e = tt
lone-shows opened items plain place _ p e = tt

symbol-shows : (opened : Opened) (items : Items) (k : Kind) (p : Placed) (touch : Bool) → TextShows (after_symbol opened items k p) touch
symbol-shows opened items k p touch =
    elim (p.code == 46) as (λ b. TextShows (if b then Inside opened items [] else go_inside opened items [] k p) touch) [ true ↦ tt | false ↦ inside-shows opened items [] k p touch ]

name-shows : (holder : Holder) (symbol : Symbol) (k : Kind) (p : Placed) (touch : Bool) → AllTextShow (after_name holder symbol k p) touch
name-shows (InText opened items) symbol k p touch = symbol-shows opened (Inserted items symbol NoTrees) k p touch
name-shows (AsType left) symbol k p touch = part-shows (typed left symbol NoTrees) p.code touch

lengthen-shows : (holder : Holder) (place : ℕ) (name : List ℕ) (c : ℕ) (touch : Bool) → touch ≡ true → AllTextShow (lengthen holder place name c) touch
lengthen-shows holder place name c touch t = if-shows touch (nat_lt (length name) 63) (Naming holder place (name ++ to_ascii_uppercase c ∷ [])) t

naming-shows : (holder : Holder) (place : ℕ) (name : List ℕ) (k : Kind) (p : Placed) → kind_of p.code ≡ k → AllTextShow (go_naming holder place name k p) (is_symbol_character p.code)
naming-shows holder place name kind.Letter p e = lengthen-shows holder place name p.code (is_symbol_character p.code) (kind-letter_symbol p.code e)
naming-shows holder place name kind.Digit p e = lengthen-shows holder place name p.code (is_symbol_character p.code) (kind-digit_symbol p.code e)
naming-shows holder place name kind.Open p e = tt
naming-shows holder place name k p e = name-shows holder (symbol_at place name) k p (is_symbol_character p.code)

closed-shows : (opened : Opened) (items : Items) (plain : List ℕ) (k : Kind) (c : ℕ) (touch : Bool) → AllTextShow (texts.after_closed opened items plain k c) touch
closed-shows opened items plain kind.Quote c touch = tt
closed-shows opened items plain kind.Open c touch = tt
closed-shows opened items plain _ c touch = part-shows _ c touch

subscripted-shows : (holder : Holder) (symbol : Symbol) (subscripts : _) (touch : Bool) → TextShows (subscripted holder symbol subscripts) touch
subscripted-shows (InText opened items) symbol subscripts touch = tt
subscripted-shows (AsType left) symbol subscripts touch = tt

leave-shows : (frame : Frame) (tree : Tree) (k : Kind) (touch : Bool) → AllTextShow (leave frame tree k) touch
leave-shows (Factor left) tree kind.Close touch = tt
leave-shows (Subscripts holder symbol others) tree kind.Close touch = subscripted-shows holder symbol _ touch
leave-shows (Subscripts holder symbol others) tree kind.Comma touch = tt
leave-shows (Start opened items) tree kind.Comma touch = tt
leave-shows (Count opened items start) tree kind.Close touch = tt
leave-shows (Factor left) tree _ touch = tt
leave-shows (Subscripts holder symbol others) tree _ touch = tt
leave-shows (Start opened items) tree _ touch = tt
leave-shows (Count opened items start) tree _ touch = tt

within-shows : (frame : Frame) (found : Option State) (whole : Option Tree) (k : Kind) (touch : Bool) → AllTextShow (go_within frame found whole k) touch
within-shows frame (Some inner) whole k touch = tt
within-shows frame None None k touch = tt
within-shows frame None (Some tree) k touch = leave-shows frame tree k touch

mapped-shows : (frame : Frame) (found : Option State) (touch : Bool) → AllTextShow (option_map (Within frame) found) touch
mapped-shows frame None touch = tt
mapped-shows frame (Some inner) touch = tt

count-shows : (opened : Opened) (items : Items) (start : Tree) (found : Option State) (k : Kind) (touch : Bool) → AllTextShow (begin_count opened items start found k) touch
count-shows opened items start found kind.Blank touch = tt
count-shows opened items start found k touch =
    elim (is_star k) as (λ b. AllTextShow (if b then Some (Star opened items start) else option_map (Within (Count opened items start)) found) touch)
    [ true ↦ tt | false ↦ mapped-shows (Count opened items start) found touch ]

star-shows : (opened : Opened) (items : Items) (start : Tree) (k : Kind) (touch : Bool) → AllTextShow (after_star opened items start k) touch
star-shows opened items start kind.Blank touch = tt
star-shows opened items start kind.Close touch = tt
star-shows opened items start _ touch = tt

letter-shows : (left : Option Tree) (k : Kind) (touch : Bool) → AllTextShow (after_letter left k) touch
letter-shows left kind.Quote touch = tt
letter-shows left _ touch = tt

asked-shows : (left : Option Tree) (k : Kind) (p : Placed) → kind_of p.code ≡ k → AllTextShow (after_asked left k p) (is_symbol_character p.code)
asked-shows left kind.Ampersand p e = tt
asked-shows left kind.Letter p e = kind-letter_symbol p.code e
asked-shows left _ p e = tt

sigil-shows : (left : Option Tree) (place : ℕ) (k : Kind) (c : ℕ) → kind_of c ≡ k → AllTextShow (after_sigil left place k c) (is_symbol_character c)
sigil-shows left place kind.Letter c e = kind-letter_symbol c e
sigil-shows left place _ c e = tt

longer-shows : (left : Option Tree) (place : ℕ) (name : List ℕ) (c : ℕ) (touch : Bool) → touch ≡ true → AllTextShow (lengthen_word left place name c) touch
longer-shows left place name c touch t = if-shows touch (nat_lt (length name) 63) (Word left place (name ++ to_ascii_uppercase c ∷ [])) t

word-shows : (left : Option Tree) (place : ℕ) (name : List ℕ) (k : Kind) (c : ℕ) → kind_of c ≡ k → AllTextShow (go_word left place name k c) (is_symbol_character c)
word-shows left place name kind.Letter c e = longer-shows left place name c (is_symbol_character c) (kind-letter_symbol c e)
word-shows left place name kind.Digit c e = longer-shows left place name c (is_symbol_character c) (kind-digit_symbol c e)
word-shows left place name _ c e = part-shows _ c (is_symbol_character c)

text_step-shows : (state : TextState) (p : Placed) → AllTextShow (text_step state p) (is_symbol_character p.code)
unfolding text_step
text_step-shows (WantPart left) p = begin-shows left (kind_of p.code) p.code (is_symbol_character p.code)
text_step-shows (WantQuote left factor) p = quoted-shows left factor (kind_of p.code) (is_symbol_character p.code)
text_step-shows (Inside opened items plain) p = inside-shows opened items plain (kind_of p.code) p (is_symbol_character p.code)
text_step-shows (Lone opened items plain place) p = lone-shows opened items plain place (kind_of p.code) p refl
text_step-shows (Naming holder place name) p = naming-shows holder place name (kind_of p.code) p refl
text_step-shows (Behind opened items) p = symbol-shows opened items (kind_of p.code) p (is_symbol_character p.code)
text_step-shows (texts.Closed opened items plain) p = closed-shows opened items plain (kind_of p.code) p.code (is_symbol_character p.code)
text_step-shows (Within frame inner) p = within-shows frame (reading.step Arithmetic inner p) (reading.accept Arithmetic inner) (kind_of p.code) (is_symbol_character p.code)
text_step-shows (WantCount opened items start) p = count-shows opened items start (reading.step Arithmetic (reading.Want []) p) (kind_of p.code) (is_symbol_character p.code)
text_step-shows (Star opened items start) p = star-shows opened items start (kind_of p.code) (is_symbol_character p.code)
text_step-shows (Letter left) p = letter-shows left (kind_of p.code) (is_symbol_character p.code)
text_step-shows (Asked left) p = asked-shows left (kind_of p.code) p refl
text_step-shows (Sigil left place) p = sigil-shows left place (kind_of p.code) p.code refl
text_step-shows (Word left place name) p = word-shows left place name (kind_of p.code) p.code refl
text_step-shows (Done tree) p = part-shows tree p.code (is_symbol_character p.code)

text-shows : (state next : TextState) (p : Placed) → text_step state p ≡ Some next → TextShows next (is_symbol_character p.code)
text-shows state next p e = subst (λ x. AllTextShow x (is_symbol_character p.code)) e (text_step-shows state p)

-- What no whole text goes on with: a blank, a closing parenthesis, a letter where no symbol character stands before it.

abbrev Refuses : Kind → TextState → Type 0
Refuses kind.Blank state = Unit {0}
Refuses kind.Close state = Unit {0}
Refuses kind.Letter state = TextShows state false
Refuses _ state = ⊥

period-kind : kind_of 46 ≡ kind.Other
unfolding kind_of
period-kind = refl

no-period : (c : ℕ) (k : Kind) (state : TextState) → kind_of c ≡ k → Refuses k state → (c == 46) ≡ false
no-period c k state e r =
    let go : (b : Bool) → (c == 46) ≡ b → b ≡ false =
    elim [ true ↦ λ t. absurd (subst (λ x. Refuses x state) (sym e ∙ ap kind_of (test c 46 t) ∙ period-kind) r) | false ↦ λ t. refl ] in
    go (c == 46) refl

part-none : (tree : Tree) (c : ℕ) → (c == 46) ≡ false → after_part tree c ≡ None
part-none tree c e = ap (λ b. if b then Some (WantPart (Some tree)) else None) e

closed-none : (opened : Opened) (items : Items) (plain : List ℕ) (k : Kind) (c : ℕ) → Refuses k (texts.Closed opened items plain) → (c == 46) ≡ false → texts.after_closed opened items plain k c ≡ None
closed-none opened items plain kind.Blank c r e = part-none _ c e
closed-none opened items plain kind.Close c r e = part-none _ c e
closed-none opened items plain kind.Letter c r e = part-none _ c e
closed-none opened items plain _ c r e = absurd r

naming-none : (left : Option Tree) (place : ℕ) (name : List ℕ) (k : Kind) (p : Placed) → Refuses k (Naming (AsType left) place name) → (p.code == 46) ≡ false → go_naming (AsType left) place name k p ≡ None
naming-none left place name kind.Blank p r e = part-none (typed left (symbol_at place name) NoTrees) p.code e
naming-none left place name kind.Close p r e = part-none (typed left (symbol_at place name) NoTrees) p.code e
naming-none left place name kind.Letter p r e = cc
naming-none left place name _ p r e = absurd r

word-none : (left : Option Tree) (place : ℕ) (name : List ℕ) (k : Kind) (c : ℕ) → Refuses k (Word left place name) → (c == 46) ≡ false → go_word left place name k c ≡ None
word-none left place name kind.Blank c r e = part-none _ c e
word-none left place name kind.Close c r e = part-none _ c e
word-none left place name kind.Letter c r e = cc
word-none left place name _ c r e = absurd r

pub text-none : (state : TextState) (tree : Tree) (p : Placed) → text_accept state ≡ Some tree → Refuses (kind_of p.code) state → text_step state p ≡ None
unfolding text_accept text_step
text-none (Naming (AsType left) place name) tree p a r = naming-none left place name (kind_of p.code) p r (no-period p.code (kind_of p.code) (Naming (AsType left) place name) refl r)
text-none (texts.Closed opened items plain) tree p a r =
    closed-none opened items plain (kind_of p.code) p.code r (no-period p.code (kind_of p.code) (texts.Closed opened items plain) refl r)
text-none (Word left place name) tree p a r = word-none left place name (kind_of p.code) p.code r (no-period p.code (kind_of p.code) (Word left place name) refl r)
text-none (Done found) tree p a r = part-none found p.code (no-period p.code (kind_of p.code) (Done found) refl r)
text-none _ tree p a r = cc

refuses : (k : Kind) (state : TextState) (p : Placed) → kind_of p.code ≡ k → Refuses k state → Refuses (kind_of p.code) state
refuses k state p e r = subst (λ x. Refuses x state) (sym e) r

text-stands : (relation : Option OpenRelation) (inner : TextState) (touch : Bool) (tree : Tree) → text_accept inner ≡ Some tree → TextShows inner touch →
    Standing (Text relation inner touch) touch (text_side relation tree)
text-stands relation inner touch tree a s =
    let settles : settled (Text relation inner touch) ≡ Some (text_side relation tree) = ap (option_map (text_side relation)) a in
    record {
      settles = settles;
      closes = λ p layers e.
          ap (λ x. on_text relation x (settled (Text relation inner touch)) touch p layers) (text-none inner tree p a (refuses kind.Close inner p e tt))
          ∙ behind-close (settled (Text relation inner touch)) (text_side relation tree) touch p layers settles e;
      spells = λ t p layers e.
          ap (λ x. on_text relation x (settled (Text relation inner touch)) touch p layers) (text-none inner tree p a (refuses kind.Letter inner p e (subst (TextShows inner) t s)))
          ∙ behind-letter (settled (Text relation inner touch)) (text_side relation tree) touch p layers settles t e;
    }

text-blank : (relation : Option OpenRelation) (inner : TextState) (touch : Bool) (tree : Tree) (p : Placed) (layers : List Open) → text_accept inner ≡ Some tree → kind_of p.code ≡ kind.Blank →
    point_step (Text relation inner touch) p layers ≡ Some (at_point layers (blanked (text_side relation tree)))
text-blank relation inner touch tree p layers a e =
    ap (λ x. on_text relation x (settled (Text relation inner touch)) touch p layers) (text-none inner tree p a (refuses kind.Blank inner p e tt))
    ∙ ap (λ x. behind x touch p layers) (ap (option_map (text_side relation)) a)
    ∙ ap (λ k. behind_one (text_side relation tree) touch k p.code layers) e

-- Within a text.

record TextRun (relation : Option OpenRelation) (layers : List Open) (state : TextState) (ps : List Placed) (touch : Bool) (last : TextState) : Type 0 where
  runs : logic_run (at_point layers (Text relation state touch)) ps ≡ Some (at_point layers (Text relation last (touches_behind touch ps)))
  shows : TextShows last (touches_behind touch ps)

text-on_of : (relation : Option OpenRelation) (layers : List Open) (p : Placed) (ps : List Placed) (state last : TextState) (touch : Bool) (found : Option TextState) → text_step state p ≡ found →
    ((s : TextState) (t : Bool) → TextShows s t → text_run s ps ≡ Some last → TextRun relation layers s ps t last) →
    option_and_then (λ next. text_run next ps) found ≡ Some last → TextRun relation layers state (p ∷ ps) touch last
text-on_of relation layers p ps state last touch None s go e = cc
text-on_of relation layers p ps state last touch (Some next) s go e =
    let more = go next (is_symbol_character p.code) (text-shows state next p s) e in
    record {
      runs = point-steps (Text relation state touch) layers (at_point layers (Text relation next (is_symbol_character p.code))) p ps
          (ap (λ x. on_text relation x (settled (Text relation state touch)) touch p layers) s)
          ∙ more.runs;
      shows = more.shows;
    }

text-on : (relation : Option OpenRelation) (layers : List Open) (ps : List Placed) (state last : TextState) (touch : Bool) → TextShows state touch → text_run state ps ≡ Some last →
    TextRun relation layers state ps touch last
text-on relation layers [] state last touch s e =
    let same : state ≡ last = cc in
    record { runs = ap (λ x. Some (at_point layers (Text relation x touch))) same; shows = subst (λ x. TextShows x touch) same s }
text-on relation layers (p ∷ ps) state last touch s e = text-on_of relation layers p ps state last touch (text_step state p) refl (λ x t g h. text-on relation layers ps x last t g h) e

-- Where a truth is wanted.

data TextFollows (layers : List Open) (touch : Bool) (state : TextState) (logic : LogicState) : Type 0 where
  at_part : state ≡ WantPart None → logic ≡ at_point layers (Want false) → TextFollows layers touch state logic
  at_factor : (n : ℕ) (inner : State) (point : Point) → state ≡ Within (Factor None) inner → logic ≡ at_point (groups n (Group ∷ layers)) point → Follows n touch inner point →
      TextFollows layers touch state logic
  at_quote : (factor : Tree) → state ≡ WantQuote None factor → logic ≡ at_point layers (Closed factor) → TextFollows layers touch state logic
  at_text : logic ≡ at_point layers (Text None state touch) → TextShows state touch → TextFollows layers touch state logic

record TextStep (layers : List Open) (open_layers : List Open) (point : Point) (p : Placed) (next : TextState) : Type 0 where
  there : LogicState
  steps : point_step point p open_layers ≡ Some there
  follows : TextFollows layers (is_symbol_character p.code) next there

begun-text : (layers : List Open) (point : Point) (state next : TextState) (found : Option Operand) (touch : Bool) (p : Placed) → text_step state p ≡ Some next →
    point_step point p layers ≡ on_text None (text_step state p) found touch p layers → TextStep layers layers point p next
begun-text layers point state next found touch p s same =
    record {
      there = at_point layers (Text None next (is_symbol_character p.code));
      steps = same ∙ ap (λ x. on_text None x found touch p layers) s;
      follows = at_text refl (text-shows state next p s);
    }

part-kind : (k : Kind) (p : Placed) (next : TextState) → kind_of p.code ≡ k → text_step (WantPart None) p ≡ Some next → begin_part None k p.code ≡ Some next
unfolding text_step
part-kind k p next e s = ap (λ x. begin_part None x p.code) (sym e) ∙ s

if-letter : (b : Bool) (state next : TextState) → (if b then Some state else None) ≡ Some next → b ≡ true
if-letter true state next e = refl
if-letter false state next e = cc

part-letter : (p : Placed) (next : TextState) → kind_of p.code ≡ kind.Letter → text_step (WantPart None) p ≡ Some next → to_ascii_uppercase p.code ≡ 84
part-letter p next e s = test (to_ascii_uppercase p.code) 84 (if-letter (to_ascii_uppercase p.code == 84) (Letter None) next (part-kind kind.Letter p next e s))

part-follows : (layers : List Open) (p : Placed) (next : TextState) (k : Kind) → kind_of p.code ≡ k → text_step (WantPart None) p ≡ Some next → TextStep layers layers (Want false) p next
part-follows layers p next kind.Quote e s = begun-text layers (Want false) (WantPart None) next None false p s (ap (λ x. truth_apart x p layers) e)
part-follows layers p next kind.Letter e s =
    begun-text layers (Want false) (WantPart None) next None false p s
    (ap (λ x. truth_apart x p layers) e ∙ ap (λ u. letter_begun u p layers) (part-letter p next e s))
part-follows layers p next kind.Open e s =
    let found : Some (Within (Factor None) (reading.Want [])) ≡ Some next = part-kind kind.Open p next e s in
    let same : next ≡ Within (Factor None) (reading.Want []) = cc in
    record {
      there = at_point (Group ∷ layers) (Want false);
      steps = ap (λ x. truth_apart x p layers) e;
      follows = at_factor zero (reading.Want []) (Want false) same refl (wanting refl refl);
    }
part-follows layers p next k e s = let none : begin_part None k p.code ≡ Some next = part-kind k p next e s in cc

-- the duplication factor of the first text
factor-follows : (layers : List Open) (n : ℕ) (touch : Bool) (inner : State) (point : Point) (p : Placed) (next : TextState) (found : Option State) (whole : Option Tree) (k : Kind) →
    Follows n touch inner point → reading.step Arithmetic inner p ≡ found → reading.accept Arithmetic inner ≡ whole → kind_of p.code ≡ k → go_within (Factor None) found whole k ≡ Some next →
    TextStep layers (groups n (Group ∷ layers)) point p next
factor-follows layers n touch inner point p next (Some one) whole k f s a e g =
    let same : next ≡ Within (Factor None) one = cc in
    let t = follow n touch (Group ∷ layers) inner one point p f s in
    record { there = at_point (groups t.to (Group ∷ layers)) t.there; steps = t.steps; follows = at_factor t.to one t.there same refl t.follows }
factor-follows layers n touch inner point p next None (Some tree) kind.Close f s a e g =
    let same : next ≡ WantQuote None tree = cc in
    let t = stood n touch inner point tree f a in
    record {
      there = at_point layers (Closed tree);
      steps = t.stands.closes p (groups n (Group ∷ layers)) e ∙ ap (λ m. closing (NumberOne tree) (groups m (Group ∷ layers))) t.none;
      follows = at_quote tree same refl;
    }
factor-follows layers n touch inner point p next None None k f s a e g = cc
factor-follows layers n touch inner point p next None (Some tree) _ f s a e g = cc

quote-follows : (layers : List Open) (factor : Tree) (p : Placed) (next : TextState) (k : Kind) → kind_of p.code ≡ k → begin_quoted None factor k ≡ Some next → text_step (WantQuote None factor) p ≡ Some next →
    TextStep layers layers (Closed factor) p next
quote-follows layers factor p next kind.Quote e g s = begun-text layers (Closed factor) (WantQuote None factor) next None false p s (ap (λ x. after_closed factor x p layers) e)
quote-follows layers factor p next _ e g s = cc

record TextNext (layers : List Open) (logic : LogicState) (p : Placed) (next : TextState) : Type 0 where
  there : LogicState
  steps : logic_step logic p ≡ Some there
  follows : TextFollows layers (is_symbol_character p.code) next there

stepped : (layers open_layers : List Open) (point : Point) (p : Placed) (next : TextState) → TextStep layers open_layers point p next → TextNext layers (at_point open_layers point) p next
unfolding logic_step
stepped layers open_layers point p next t = record { there = t.there; steps = t.steps; follows = t.follows }

text-follow : (layers : List Open) (touch : Bool) (state next : TextState) (logic : LogicState) (p : Placed) → TextFollows layers touch state logic → text_step state p ≡ Some next → TextNext layers logic p next
unfolding text_step
text-follow layers touch state next logic p (at_part s w) e =
    subst (λ x. TextNext layers x p next) (sym w)
    (stepped layers layers (Want false) p next (part-follows layers p next (kind_of p.code) refl (ap (λ x. text_step x p) (sym s) ∙ e)))
text-follow layers touch state next logic p (at_factor n inner point s w f) e =
    subst (λ x. TextNext layers x p next) (sym w)
    (stepped layers (groups n (Group ∷ layers)) point p next
    (factor-follows layers n touch inner point p next (reading.step Arithmetic inner p) (reading.accept Arithmetic inner) (kind_of p.code) f refl refl refl (ap (λ x. text_step x p) (sym s) ∙ e)))
text-follow layers touch state next logic p (at_quote factor s w) e =
    let here : text_step (WantQuote None factor) p ≡ Some next = ap (λ x. text_step x p) (sym s) ∙ e in
    subst (λ x. TextNext layers x p next) (sym w) (stepped layers layers (Closed factor) p next (quote-follows layers factor p next (kind_of p.code) refl here here))
text-follow layers touch state next logic p (at_text w t) e =
    subst (λ x. TextNext layers x p next) (sym w)
    (stepped layers layers (Text None state touch) p next (begun-text layers (Text None state touch) state next (settled (Text None state touch)) touch p e refl))

record TextEnd (layers : List Open) (touch : Bool) (state : TextState) (logic : LogicState) : Type 0 where
  here : logic ≡ at_point layers (Text None state touch)
  shows : TextShows state touch

text-end : (layers : List Open) (touch : Bool) (state : TextState) (logic : LogicState) (tree : Tree) → TextFollows layers touch state logic → text_accept state ≡ Some tree → TextEnd layers touch state logic
unfolding text_accept
text-end layers touch state logic tree (at_part s w) a = let none : None ≡ Some tree = ap text_accept (sym s) ∙ a in cc
text-end layers touch state logic tree (at_factor n inner point s w f) a = let none : None ≡ Some tree = ap text_accept (sym s) ∙ a in cc
text-end layers touch state logic tree (at_quote factor s w) a = let none : None ≡ Some tree = ap text_accept (sym s) ∙ a in cc
text-end layers touch state logic tree (at_text w t) a = record { here = w; shows = t }

record TextReached (layers : List Open) (logic : LogicState) (ps : List Placed) (touch : Bool) (last : TextState) : Type 0 where
  runs : logic_run logic ps ≡ Some (at_point layers (Text None last (touches_behind touch ps)))
  shows : TextShows last (touches_behind touch ps)

text-reached_of : (layers : List Open) (p : Placed) (ps : List Placed) (touch : Bool) (state last : TextState) (logic : LogicState) (found : Option TextState) → text_step state p ≡ found →
    TextFollows layers touch state logic →
    ((s : TextState) (t : Bool) (x : LogicState) → TextFollows layers t s x → text_run s ps ≡ Some last → TextReached layers x ps t last) →
    option_and_then (λ next. text_run next ps) found ≡ Some last → TextReached layers logic (p ∷ ps) touch last
text-reached_of layers p ps touch state last logic None s f go e = cc
text-reached_of layers p ps touch state last logic (Some next) s f go e =
    let one = text-follow layers touch state next logic p f s in
    let more = go next (is_symbol_character p.code) one.there one.follows e in
    record { runs = ap (option_and_then (λ x. logic_run x ps)) one.steps ∙ more.runs; shows = more.shows }

text-reached : (ps : List Placed) (layers : List Open) (touch : Bool) (state last : TextState) (logic : LogicState) (tree : Tree) → text_accept last ≡ Some tree → TextFollows layers touch state logic →
    text_run state ps ≡ Some last → TextReached layers logic ps touch last
text-reached [] layers touch state last logic tree a f e =
    let same : state ≡ last = cc in
    let t = text-end layers touch last logic tree (subst (λ x. TextFollows layers touch x logic) same f) a in
    record { runs = ap Some t.here; shows = t.shows }
text-reached (p ∷ ps) layers touch state last logic tree a f e =
    text-reached_of layers p ps touch state last logic (text_step state p) refl f (λ s t x g h. text-reached ps layers t s last x tree a g h) e

-- Whole texts.

pub text-lead : (tree : Tree) (text : List Placed) (layers : List Open) (before touch : Bool) → (touch && touches_ahead text) ≡ false → IsCharacters tree text →
    OperandLead (Want touch) layers (TextOne tree) before text
text-lead tree text layers before touch apart i =
    let a = text_accepted tree i.core i.fits i.reads in
    let whole_text : text ≡ i.before ++ (i.core ++ i.behind) = i.all ∙ append_assoc i.before i.core i.behind in
    let start : LogicState = at_point layers (Want false) in
    let ahead : Bool = touches_behind before i.before in
    let touched : Bool = touches_behind ahead i.core in
    let r = text-reached i.core layers ahead (WantPart None) a.last start tree a.accepts (at_part refl refl) a.runs in
    let l = gap-behind layers (Text None a.last touched) (BehindText tree) (TextOne tree) touched (text-stands None a.last touched tree a.accepts r.shows) (behind-text-stands tree)
    (λ p e. text-blank None a.last touched tree p layers a.accepts e) (λ p e. behind-text-blank tree p layers e) i.behind i.blank_behind in
    want-stands layers (TextOne tree) before touch text apart (record {
      last = l.last;
      runs = ap (logic_run start) whole_text ∙ want-gap layers i.before (i.core ++ i.behind) i.blank_before
          ∙ logic_run-append i.core i.behind start (at_point layers (Text None a.last touched)) r.runs ∙ l.runs;
      stands = subst (λ b. Standing l.last b (TextOne tree)) (sym (touches-all before text i.before i.core i.behind whole_text)) l.stands;
    })

-- The right side of a comparison.

right-kind : (relation : OpenRelation) (p : Placed) (layers : List Open) (next : TextState) (k : Kind) → begin_part None k p.code ≡ Some next → right_apart true relation k p layers ≡ text_begun (Some relation) p layers
right-kind relation p layers next kind.Blank e = cc
right-kind relation p layers next _ e = refl

record RightRun (layers : List Open) (relation : OpenRelation) (ps : List Placed) (touch : Bool) (last : TextState) : Type 0 where
  runs : logic_run (at_point layers (Right true relation false)) ps ≡ Some (at_point layers (Text (Some relation) last (touches_behind touch ps)))
  shows : TextShows last (touches_behind touch ps)

right-run_of : (layers : List Open) (relation : OpenRelation) (p : Placed) (ps : List Placed) (touch : Bool) (last : TextState) (found : Option TextState) → text_step (WantPart None) p ≡ found →
    option_and_then (λ next. text_run next ps) found ≡ Some last → RightRun layers relation (p ∷ ps) touch last
unfolding text_step
right-run_of layers relation p ps touch last None s e = cc
right-run_of layers relation p ps touch last (Some next) s e =
    let more = text-on (Some relation) layers ps next last (is_symbol_character p.code) (text-shows (WantPart None) next p s) e in
    record {
      runs = point-steps (Right true relation false) layers (at_point layers (Text (Some relation) next (is_symbol_character p.code))) p ps
          (right-kind relation p layers next (kind_of p.code) s ∙ ap (λ x. on_text (Some relation) x None false p layers) s)
          ∙ more.runs;
      shows = more.shows;
    }

right-run : (layers : List Open) (relation : OpenRelation) (ps : List Placed) (touch : Bool) (last : TextState) (tree : Tree) → text_accept last ≡ Some tree → text_run (WantPart None) ps ≡ Some last →
    RightRun layers relation ps touch last
unfolding text_accept
right-run layers relation [] touch last tree a e =
    let same : WantPart None ≡ last = cc in
    let none : None ≡ Some tree = ap text_accept same ∙ a in
    cc
right-run layers relation (p ∷ ps) touch last tree a e = right-run_of layers relation p ps touch last (text_step (WantPart None) p) refl e

pub right_text-lead : (tree : Tree) (text : List Placed) (relation : OpenRelation) (layers : List Open) (before touch : Bool) → (touch && touches_ahead text) ≡ false → IsCharacters tree text →
    OperandLead (Right true relation touch) layers (TruthOne (Compared relation.comparison relation.left tree)) before text
right_text-lead tree text relation layers before touch apart i =
    let a = text_accepted tree i.core i.fits i.reads in
    let whole_text : text ≡ i.before ++ (i.core ++ i.behind) = i.all ∙ append_assoc i.before i.core i.behind in
    let whole : Tree = Compared relation.comparison relation.left tree in
    let start : LogicState = at_point layers (Right true relation false) in
    let ahead : Bool = touches_behind before i.before in
    let touched : Bool = touches_behind ahead i.core in
    let r = right-run layers relation i.core ahead a.last tree a.accepts a.runs in
    let l = gap-behind layers (Text (Some relation) a.last touched) (BehindTruth whole) (TruthOne whole) touched (text-stands (Some relation) a.last touched tree a.accepts r.shows) (behind-truth-stands whole)
    (λ p e. text-blank (Some relation) a.last touched tree p layers a.accepts e) (λ p e. behind-truth-blank whole p layers e) i.behind i.blank_behind in
    right-stands layers true relation (TruthOne whole) before touch text apart (record {
      last = l.last;
      runs = ap (logic_run start) whole_text ∙ right-gap layers true relation i.before (i.core ++ i.behind) i.blank_before
          ∙ logic_run-append i.core i.behind start (at_point layers (Text (Some relation) a.last touched)) r.runs ∙ l.runs;
      stands = subst (λ b. Standing l.last b (TruthOne whole)) (sym (touches-all before text i.before i.core i.behind whole_text)) l.stands;
    })
