-- A number that a letter would go on with ends in a symbol character; and what no whole number or text goes on with.
use Rattle.std.proofs.Common.{◌≡◌, ℕ, ◌+◌, ◌*◌, Bool, true, false, List, [], ◌∷◌, ◌++◌, length, refl, ap, ◌∙◌, subst}
use Rattle.std.specs.Prelude.{◌==◌, ◌&&◌, nat_lt, Option, Some, None, is_some, option_and_then, option_map, if◌then◌else◌}
use Rattle.std.specs.Char.{to_ascii_uppercase, digit_value, is_digit}
use Rattle.hl_base.specs.Symbols.{is_symbol_character}
use Rattle.hl_base.specs.Order.{ebcdic}
use Rattle.expression_grammar.specs.declared.character.Grammar.TheVariants.{Arithmetic}
use Rattle.expression_grammar.specs.declared.character.Kind.{Kind}
use Rattle.expression_grammar.specs.declared.character.Kind.TheVariants as kind
use Rattle.expression_grammar.specs.declared.tree.Form.{Form}
use Rattle.expression_grammar.specs.declared.tree.Form.TheVariants.{Decimal, Hexadecimal, Binary, Character}
use Rattle.expression_grammar.specs.declared.tree.Operator.{Operator}
use Rattle.expression_grammar.specs.declared.tree.Operator.TheVariants.{Add, Subtract, Multiply}
use Rattle.expression_grammar.specs.declared.tree.Attribute.{Attribute}
use Rattle.expression_grammar.specs.declared.tree.Attribute.TheVariants as attribute
use Rattle.expression_grammar.specs.declared.tree.Reference.{Reference}
use Rattle.expression_grammar.specs.declared.tree.Reference.TheVariants.{Of}
use Rattle.expression_grammar.specs.declared.part.Part.{Part}
use Rattle.expression_grammar.specs.declared.part.Part.TheVariants.{Figures, Body, BodyQuote, BodyAmpersand, Asked, Sigil, Word, Property, Named}
use Rattle.expression_grammar.specs.declared.part.Move.{Move}
use Rattle.expression_grammar.specs.declared.part.Move.TheVariants.{To, Done, Begins, Over}
use Rattle.expression_grammar.specs.Characters.{kind_of}
use Rattle.expression_grammar.specs.Spelling.{Placed, base_of, is_figure, may_vary, asks_of_symbol}
use Rattle.expression_grammar.specs.Trees.{Tree}
use Rattle.expression_grammar.specs.Parts.{is_quoted, has_room, close_figures, after_figures, grow, after_body, after_quote, after_ampersand, after_asked, after_sigil, single, opening, opened, open_name, lengthen, after_word, after_property, after_named, after, finish}
use Rattle.expression_grammar.specs.Reading.{Layer, SignLayer, PairLayer, OpenLayer, SubscriptLayer, State, Want, Have, Within, Folded, fold, closed, parted, behind, marked, begun, ended, moved, step, whole, accept}
use Rattle.expression_grammar.proofs.CharacterLaws.{kind-letter_symbol, kind-digit_symbol, digit-kind}
use Rattle.expression_grammar.proofs.Finds.{whole-some}
use Rattle.expression_grammar.proofs.Leads.{IsAtTree, as_tree, as_part, step-behind}

-- What the last character of a term tells.

-- the last character of a name is a symbol character
abbrev pub PartShows : Part → Bool → Type 0
PartShows (Property asked place name) touch = touch ≡ true
PartShows (Named asked place name) touch = touch ≡ true
PartShows other touch = Unit {0}

abbrev pub Shows : State → Bool → Type 0
Shows (Within part layers) touch = PartShows part touch
Shows other touch = Unit {0}

abbrev pub AllShow : Option State → Bool → Type 0
AllShow None touch = Unit {0}
AllShow (Some state) touch = Shows state touch

-- what a character that does this to a term tells
abbrev MoveShows : Part → Bool → Move → Type 0
MoveShows part touch (To next) = PartShows next touch
MoveShows part touch (Over other) = other ≡ part
MoveShows part touch _ = Unit {0}

if-shows : (part : Part) (touch b : Bool) (x y : Move) → MoveShows part touch x → MoveShows part touch y → MoveShows part touch (if b then x else y)
if-shows part touch true x y e f = e
if-shows part touch false x y e f = f

close-shows : (form : Form) (count number : ℕ) (touch : Bool) (k : Kind) → MoveShows (Figures form count number) touch (close_figures k form count number)
close-shows form count number touch kind.Quote =
    if-shows (Figures form count number) touch (is_quoted form && nat_lt 0 count) (Done form number) (Over (Figures form count number)) tt refl
close-shows form count number touch _ = refl

figures-show : (form : Form) (count number : ℕ) (touch : Bool) (c : ℕ) → MoveShows (Figures form count number) touch (after_figures form count number c)
figures-show form count number touch c =
    if-shows (Figures form count number) touch (is_figure form c && has_room form count number (digit_value c))
    (To (Figures form (count + 1) (number * base_of form + digit_value c))) (close_figures (kind_of c) form count number) tt (close-shows form count number touch (kind_of c))

grow-shows : (count number c : ℕ) (part : Part) (touch : Bool) → MoveShows part touch (grow count number c part)
grow-shows count number c part touch =
    if-shows part touch (has_room Character count number (ebcdic c)) (To (Body (count + 1) (number * 256 + ebcdic c))) (Over part) tt refl

body-shows : (k : Kind) (count number c : ℕ) (touch : Bool) → MoveShows (Body count number) touch (after_body k count number c)
body-shows kind.Quote count number c touch = tt
body-shows kind.Ampersand count number c touch =
    if-shows (Body count number) touch (has_room Character count number (ebcdic c)) (To (BodyAmpersand count number)) (Over (Body count number)) tt refl
body-shows _ count number c touch = grow-shows count number c (Body count number) touch

quote-shows : (k : Kind) (count number c : ℕ) (touch : Bool) → MoveShows (BodyQuote count number) touch (after_quote k count number c)
quote-shows kind.Quote count number c touch = grow-shows count number c (BodyQuote count number) touch
quote-shows _ count number c touch = refl

ampersand-shows : (k : Kind) (count number c : ℕ) (touch : Bool) → MoveShows (BodyAmpersand count number) touch (after_ampersand k count number c)
ampersand-shows kind.Ampersand count number c touch = grow-shows count number c (BodyAmpersand count number) touch
ampersand-shows _ count number c touch = refl

asked-shows : (k : Kind) (asked : Attribute) (p : Placed) → kind_of p.code ≡ k → MoveShows (Asked asked) (is_symbol_character p.code) (after_asked Arithmetic k asked p)
asked-shows kind.Ampersand asked p e =
    if-shows (Asked asked) (is_symbol_character p.code) (may_vary Arithmetic (Of asked)) (To (Sigil (Of asked) p.at)) (Over (Asked asked)) tt refl
asked-shows kind.Letter asked p e =
    if-shows (Asked asked) (is_symbol_character p.code) (asks_of_symbol Arithmetic asked) (To (Property asked p.at (to_ascii_uppercase p.code ∷ []))) (Over (Asked asked)) (kind-letter_symbol p.code e) refl
asked-shows _ asked p e = refl

sigil-shows : (k : Kind) (asked : Reference) (place : ℕ) (c : ℕ) → kind_of c ≡ k → MoveShows (Sigil asked place) (is_symbol_character c) (after_sigil k asked place c)
sigil-shows kind.Letter asked place c e = kind-letter_symbol c e
sigil-shows _ asked place c e = refl

abbrev AllPartShow : Option Part → Bool → Type 0
AllPartShow None touch = Unit {0}
AllPartShow (Some part) touch = PartShows part touch

if-begins : (touch b : Bool) (x y : Option Part) → AllPartShow x touch → AllPartShow y touch → AllPartShow (if b then x else y) touch
if-begins touch true x y e f = e
if-begins touch false x y e f = f

opening-shows : (u : ℕ) (touch : Bool) → AllPartShow (opening Arithmetic u) touch
unfolding opening
opening-shows u touch =
    let defined : Option Part = if u == 68 then Some (Asked attribute.Defined) else None in
    let number : Option Part = if u == 78 then Some (Asked attribute.Number) else defined in
    let count : Option Part = if u == 75 then Some (Asked attribute.Count) else number in
    let length_of : Option Part = if u == 76 then Some (Asked attribute.Length) else count in
    let character : Option Part = if u == 67 then Some (Body 0 0) else length_of in
    let binary : Option Part = if u == 66 then Some (Figures Binary 0 0) else character in
    if-begins touch (u == 88) (Some (Figures Hexadecimal 0 0)) binary tt
    (if-begins touch (u == 66) (Some (Figures Binary 0 0)) character tt
    (if-begins touch (u == 67) (Some (Body 0 0)) length_of tt
    (if-begins touch (u == 76) (Some (Asked attribute.Length)) count tt
    (if-begins touch (u == 75) (Some (Asked attribute.Count)) number tt
    (if-begins touch (u == 78) (Some (Asked attribute.Number)) defined tt
    (if-begins touch (u == 68) (Some (Asked attribute.Defined)) None tt tt))))))

opened-shows : (found : Option Part) (part : Part) (touch : Bool) → AllPartShow found touch → MoveShows part touch (opened found part)
opened-shows None part touch e = refl
opened-shows (Some begun) part touch e = e

name-shows : (found : Option ℕ) (part : Part) (touch : Bool) → MoveShows part touch (open_name Arithmetic found part)
name-shows None part touch = refl
name-shows (Some u) part touch = opened-shows (opening Arithmetic u) part touch (opening-shows u touch)

word-shows : (k : Kind) (place : ℕ) (name : List ℕ) (c : ℕ) (touch : Bool) → MoveShows (Word place name) touch (after_word Arithmetic k place name c)
word-shows kind.Letter place name c touch = refl
word-shows kind.Digit place name c touch = refl
word-shows kind.Quote place name c touch = name-shows (single name) (Word place name) touch
word-shows _ place name c touch = refl

lengthen-shows : (make : List ℕ → Part) (name : List ℕ) (c : ℕ) → ((longer : List ℕ) → PartShows (make longer) (is_symbol_character c)) → MoveShows (make name) (is_symbol_character c) (lengthen make name c)
lengthen-shows make name c shows =
    if-shows (make name) (is_symbol_character c) (nat_lt (length name) 63) (To (make (name ++ to_ascii_uppercase c ∷ []))) (Over (make name)) (shows (name ++ to_ascii_uppercase c ∷ [])) refl

property-shows : (k : Kind) (asked : Attribute) (place : ℕ) (name : List ℕ) (c : ℕ) → kind_of c ≡ k → MoveShows (Property asked place name) (is_symbol_character c) (after_property k asked place name c)
property-shows kind.Letter asked place name c e = lengthen-shows (Property asked place) name c (λ longer. kind-letter_symbol c e)
property-shows kind.Digit asked place name c e = lengthen-shows (Property asked place) name c (λ longer. kind-digit_symbol c e)
property-shows _ asked place name c e = refl

named-shows : (k : Kind) (asked : Reference) (place : ℕ) (name : List ℕ) (c : ℕ) → kind_of c ≡ k → MoveShows (Named asked place name) (is_symbol_character c) (after_named k asked place name c)
named-shows kind.Letter asked place name c e = lengthen-shows (Named asked place) name c (λ longer. kind-letter_symbol c e)
named-shows kind.Digit asked place name c e = lengthen-shows (Named asked place) name c (λ longer. kind-digit_symbol c e)
named-shows kind.Open asked place name c e = tt
named-shows _ asked place name c e = refl

after-shows : (part : Part) (p : Placed) → MoveShows part (is_symbol_character p.code) (after Arithmetic part p)
unfolding after
after-shows (Figures form count number) p = figures-show form count number (is_symbol_character p.code) p.code
after-shows (Body count number) p = body-shows (kind_of p.code) count number p.code (is_symbol_character p.code)
after-shows (BodyQuote count number) p = quote-shows (kind_of p.code) count number p.code (is_symbol_character p.code)
after-shows (BodyAmpersand count number) p = ampersand-shows (kind_of p.code) count number p.code (is_symbol_character p.code)
after-shows (Asked asked) p = asked-shows (kind_of p.code) asked p refl
after-shows (Sigil asked place) p = sigil-shows (kind_of p.code) asked place p.code refl
after-shows (Word place name) p = word-shows (kind_of p.code) place name p.code (is_symbol_character p.code)
after-shows (Property asked place name) p = property-shows (kind_of p.code) asked place name p.code refl
after-shows (Named asked place name) p = named-shows (kind_of p.code) asked place name p.code refl

-- a term that ends is the same term
pub after-over : (part other : Part) (p : Placed) → after Arithmetic part p ≡ Over other → other ≡ part
after-over part other p e = subst (MoveShows part (is_symbol_character p.code)) e (after-shows part p)

-- What it tells of a state.

closed-shows : (tree : Tree) (layers : List Layer) (touch : Bool) → AllShow (closed tree layers) touch
closed-shows tree [] touch = tt
closed-shows tree (SignLayer sign ∷ layers) touch = tt
closed-shows tree (PairLayer operator left ∷ layers) touch = tt
closed-shows tree (OpenLayer ∷ layers) touch = tt
closed-shows tree (SubscriptLayer asked symbol others ∷ layers) touch = tt

parted-shows : (tree : Tree) (layers : List Layer) (touch : Bool) → AllShow (parted tree layers) touch
parted-shows tree [] touch = tt
parted-shows tree (SignLayer sign ∷ layers) touch = tt
parted-shows tree (PairLayer operator left ∷ layers) touch = tt
parted-shows tree (OpenLayer ∷ layers) touch = tt
parted-shows tree (SubscriptLayer asked symbol others ∷ layers) touch = tt

behind-shows : (k : Kind) (tree : Tree) (layers : List Layer) (touch : Bool) → AllShow (behind Arithmetic k tree layers) touch
behind-shows kind.Blank tree layers touch = tt
behind-shows (kind.Mark operator) tree layers touch = tt
behind-shows kind.Close tree layers touch = closed-shows (fold 0 tree layers).tree (fold 0 tree layers).layers touch
behind-shows kind.Comma tree layers touch = parted-shows (fold 0 tree layers).tree (fold 0 tree layers).layers touch
behind-shows _ tree layers touch = tt

marked-shows : (operator : Operator) (layers : List Layer) (touch : Bool) → AllShow (marked Arithmetic operator layers) touch
marked-shows Add layers touch = tt
marked-shows Subtract layers touch = tt
marked-shows Multiply layers touch = tt
marked-shows _ layers touch = tt

if-some_shows : (b touch : Bool) (state : State) → Shows state touch → AllShow (if b then Some state else None) touch
if-some_shows true touch state e = e
if-some_shows false touch state e = tt

begun-shows : (k : Kind) (p : Placed) (layers : List Layer) (touch : Bool) → AllShow (begun Arithmetic k p layers) touch
begun-shows kind.Blank p layers touch = tt
begun-shows (kind.Mark operator) p layers touch = marked-shows operator layers touch
begun-shows kind.Open p layers touch = tt
begun-shows kind.Digit p layers touch = tt
begun-shows kind.Letter p layers touch =
    if-some_shows (is_some (opening Arithmetic (to_ascii_uppercase p.code))) touch (Within (Word p.at (to_ascii_uppercase p.code ∷ [])) layers) tt
begun-shows kind.Ampersand p layers touch = tt
begun-shows _ p layers touch = tt

ended-shows : (found : Option Tree) (k : Kind) (layers : List Layer) (touch : Bool) → AllShow (ended Arithmetic found k layers) touch
ended-shows None k layers touch = tt
ended-shows (Some tree) k layers touch = behind-shows k tree layers touch

moved-shows : (part : Part) (move : Move) (k : Kind) (layers : List Layer) (touch : Bool) → MoveShows part touch move → AllShow (moved Arithmetic move k layers) touch
moved-shows part (To next) k layers touch e = e
moved-shows part (Done form number) k layers touch e = tt
moved-shows part (Begins asked symbol) k layers touch e = tt
moved-shows part (Over other) k layers touch e = ended-shows (finish Arithmetic other) k layers touch

step-shows : (state : State) (p : Placed) → AllShow (step Arithmetic state p) (is_symbol_character p.code)
unfolding step
step-shows (Want layers) p = begun-shows (kind_of p.code) p layers (is_symbol_character p.code)
step-shows (Have tree layers) p = behind-shows (kind_of p.code) tree layers (is_symbol_character p.code)
step-shows (Within part layers) p = moved-shows part (after Arithmetic part p) (kind_of p.code) layers (is_symbol_character p.code) (after-shows part p)

pub next-shows : (state next : State) (p : Placed) → step Arithmetic state p ≡ Some next → Shows next (is_symbol_character p.code)
next-shows state next p e = subst (λ x. AllShow x (is_symbol_character p.code)) e (step-shows state p)

-- What no whole number goes on with.

-- a closing parenthesis over nothing
close-over : (state : State) (top : Tree) (layers : List Layer) (tree : Tree) (p : Placed) → IsAtTree Arithmetic state top layers → whole (fold 0 top layers) ≡ Some tree → kind_of p.code ≡ kind.Close →
    step Arithmetic state p ≡ None
close-over state top layers tree p a w e =
    let f : Folded = fold 0 top layers in
    let s = whole-some f.tree f.layers tree w in
    step-behind Arithmetic state top layers p kind.Close tt e a ∙ ap (closed f.tree) s.0

close-part : (part : Part) (layers : List Layer) (tree : Tree) (p : Placed) (found : Option Tree) → finish Arithmetic part ≡ found →
    option_and_then whole (option_map (λ t. fold 0 t layers) found) ≡ Some tree → kind_of p.code ≡ kind.Close → step Arithmetic (Within part layers) p ≡ None
close-part part layers tree p None f w e = cc
close-part part layers tree p (Some one) f w e = close-over (Within part layers) one layers tree p (as_part part refl f) w e

pub close-none : (state : State) (tree : Tree) (p : Placed) → accept Arithmetic state ≡ Some tree → kind_of p.code ≡ kind.Close → step Arithmetic state p ≡ None
unfolding accept
close-none (Want layers) tree p w e = cc
close-none (Have one layers) tree p w e = close-over (Have one layers) one layers tree p (as_tree refl) w e
close-none (Within part layers) tree p w e = close-part part layers tree p (finish Arithmetic part) refl w e

-- a letter, where no symbol character stands before it
ended-letter : (found : Option Tree) (layers : List Layer) → ended Arithmetic found kind.Letter layers ≡ None
ended-letter None layers = refl
ended-letter (Some tree) layers = refl

no-digit : (c : ℕ) → kind_of c ≡ kind.Letter → is_figure Decimal c ≡ false
no-digit c e =
    let go : (b : Bool) → is_digit c 10 ≡ b → b ≡ false = elim [ true ↦ λ t. let d = digit-kind c t in cc | false ↦ λ t. refl ] in
    go (is_digit c 10) refl

decimal-over : (count number c : ℕ) → kind_of c ≡ kind.Letter → after_figures Decimal count number c ≡ Over (Figures Decimal count number)
decimal-over count number c e =
    ap (λ b. if b && has_room Decimal count number (digit_value c) then To (Figures Decimal (count + 1) (number * 10 + digit_value c)) else close_figures (kind_of c) Decimal count number) (no-digit c e)
    ∙ ap (λ k. close_figures k Decimal count number) e

over-letter : (part : Part) (found : Tree) (p : Placed) → finish Arithmetic part ≡ Some found → PartShows part false → kind_of p.code ≡ kind.Letter → after Arithmetic part p ≡ Over part
unfolding after finish
over-letter (Figures Decimal count number) found p f s e = decimal-over count number p.code e
over-letter (BodyQuote count number) found p f s e = ap (λ k. after_quote k count number p.code) e
over-letter (Property asked place name) found p f s e = cc
over-letter (Named asked place name) found p f s e = cc
over-letter (Figures Hexadecimal count number) found p f s e = cc
over-letter (Figures Binary count number) found p f s e = cc
over-letter (Figures Character count number) found p f s e = cc
over-letter (Body count number) found p f s e = cc
over-letter (BodyAmpersand count number) found p f s e = cc
over-letter (Asked asked) found p f s e = cc
over-letter (Sigil asked place) found p f s e = cc
over-letter (Word place name) found p f s e = cc

letter-part : (part : Part) (layers : List Layer) (tree : Tree) (p : Placed) (found : Option Tree) → finish Arithmetic part ≡ found → PartShows part false →
    option_and_then whole (option_map (λ t. fold 0 t layers) found) ≡ Some tree → kind_of p.code ≡ kind.Letter → step Arithmetic (Within part layers) p ≡ None
unfolding step
letter-part part layers tree p None f s w e = cc
letter-part part layers tree p (Some one) f s w e =
    ap (λ m. moved Arithmetic m (kind_of p.code) layers) (over-letter part one p f s e)
    ∙ ap (λ k. ended Arithmetic (finish Arithmetic part) k layers) e ∙ ended-letter (finish Arithmetic part) layers

pub letter-none : (state : State) (tree : Tree) (p : Placed) → accept Arithmetic state ≡ Some tree → Shows state false → kind_of p.code ≡ kind.Letter → step Arithmetic state p ≡ None
unfolding accept step
letter-none (Want layers) tree p w s e = cc
letter-none (Have one layers) tree p w s e = ap (λ k. behind Arithmetic k one layers) e
letter-none (Within part layers) tree p w s e = letter-part part layers tree p (finish Arithmetic part) refl s w e
