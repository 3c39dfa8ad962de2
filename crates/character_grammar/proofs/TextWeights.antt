-- How large each state of a character expression is, beside the one before it.
use Rattle.std.proofs.Common.{◌≡◌, ℕ, ◌+◌, ◌≤◌, Bool, true, false, List, [], ◌∷◌, ◌++◌, refl, subst, arith}
use Rattle.std.specs.Prelude.{◌==◌, length, nat_lt, Option, Some, None, option_and_then, if◌then◌else◌}
use Rattle.std.specs.Char.{to_ascii_uppercase}
use Rattle.expression_grammar.specs.declared.character.Grammar.TheVariants.{Arithmetic}
use Rattle.expression_grammar.specs.declared.character.Kind.{Kind}
use Rattle.expression_grammar.specs.declared.character.Kind.TheVariants as kind
use Rattle.expression_grammar.specs.declared.tree.Operator.TheVariants as operator
use Rattle.expression_grammar.specs.declared.tree.Attribute.TheVariants as attribute
use Rattle.expression_grammar.specs.declared.tree.Reference.TheVariants.{Of}
use Rattle.expression_grammar.specs.declared.tree.Symbol.{Symbol}
use Rattle.expression_grammar.specs.Characters.{kind_of}
use Rattle.expression_grammar.specs.Trees.{Tree, Trees, Items, Ordinary, Variable, Quoted, Substring, SubstringToEnd, NoTrees, More, Inserted, size, size_items}
use Rattle.expression_grammar.specs.Spelling.{Placed}
use Rattle.expression_grammar.specs.Reading as reading
use Rattle.expression_grammar.specs.Reading.{State, Want}
use Rattle.character_grammar.specs.TextReading.{Opened, Holder, InText, AsType, Frame, Factor, Subscripts, Start, Count, TextState, WantPart, WantQuote, Inside, Lone, Naming, Behind, Closed, Within, WantCount, Star, Letter, Asked, Sigil, Word, Done, joined, duplicated, built, with_plain, typed, typed_name, after_part, begin_part, begin_quoted, go_inside, after_lone, after_symbol, after_name, lengthen, go_naming, after_closed, subscripted, leave, left_by, go_within, begin_count, after_star, after_letter, after_asked, after_sigil, lengthen_word, go_word, text_step, text_accept, text_run, left_size, factor_size, opened_size, holder_size, frame_size, text_weight}
use Rattle.expression_grammar.specs.Parts.{symbol_at}
use Rattle.expression_grammar.proofs.Weights.{step-weight, accept-size}

pub joined-size : (left : Option Tree) (tree : Tree) → size (joined left tree) ≡ left_size left + size tree
joined-size None tree = omega arith
joined-size (Some left) tree = refl

pub duplicated-size : (factor : Option Tree) (tree : Tree) → size (duplicated factor tree) ≡ factor_size factor + size tree
duplicated-size None tree = omega arith
duplicated-size (Some factor) tree = refl

pub built-size : (opened : Opened) (tree : Tree) → size (built opened tree) ≡ left_size opened.left + factor_size opened.factor + size tree
built-size opened tree = omega (arith, joined-size opened.left (duplicated opened.factor tree), duplicated-size opened.factor tree)

pub with_plain-size : (items : Items) (plain : List ℕ) → size_items (with_plain items plain) ≡ size_items items
with_plain-size items [] = refl
with_plain-size items (c ∷ cs) = refl

abbrev TextLeast : ℕ → Option TextState → Type 0
TextLeast low None = Unit {0}
TextLeast low (Some state) = low ≤ text_weight state

if-least : (low : ℕ) (b : Bool) (state : TextState) → low ≤ text_weight state → TextLeast low (if b then Some state else None)
if-least low true state h = h
if-least low false state h = tt

part-least : (low : ℕ) (tree : Tree) (c : ℕ) → low ≤ size tree → TextLeast low (after_part tree c)
part-least low tree c h = if-least low (c == 46) (WantPart (Some tree)) (omega arith)

begin_part-least : (left : Option Tree) (k : Kind) (c : ℕ) → TextLeast (left_size left + 1) (begin_part left k c)
begin_part-least left kind.Quote c = omega arith
begin_part-least left kind.Open c = omega arith
begin_part-least left kind.Letter c = if-least (left_size left + 1) (to_ascii_uppercase c == 84) (Letter left) (omega arith)
begin_part-least left _ c = tt

begin_quoted-least : (left : Option Tree) (factor : Tree) (k : Kind) → TextLeast (left_size left + size factor + 2) (begin_quoted left factor k)
begin_quoted-least left factor kind.Quote = omega arith
begin_quoted-least left factor _ = tt

pub inside-least : (opened : Opened) (items : Items) (plain : List ℕ) (k : Kind) (p : Placed) → text_weight (go_inside opened items plain k p) ≡ opened_size opened + size_items items
inside-least opened items plain kind.Quote p = refl
inside-least opened items plain kind.Ampersand p = refl
inside-least opened items plain _ p = refl

lone-least : (opened : Opened) (items : Items) (plain : List ℕ) (place : ℕ) (k : Kind) (p : Placed) → opened_size opened + size_items items ≤ text_weight (after_lone opened items plain place k p)
lone-least opened items plain place kind.Letter p = omega (arith, with_plain-size items plain)
lone-least opened items plain place kind.Ampersand p = omega arith
lone-least opened items plain place kind.Quote p = omega arith
lone-least opened items plain place _ p = omega arith

pub symbol-weight : (opened : Opened) (items : Items) (k : Kind) (p : Placed) → text_weight (after_symbol opened items k p) ≡ opened_size opened + size_items items
symbol-weight opened items k p =
    elim (p.code == 46) as (λ b. text_weight (if b then Inside opened items [] else go_inside opened items [] k p) ≡ opened_size opened + size_items items)
    [ true ↦ refl | false ↦ inside-least opened items [] k p ]

pub typed-size : (left : Option Tree) (symbol : Symbol) (subscripts : Trees) → size (typed left symbol subscripts) ≡ left_size left + size (Variable (Of attribute.Type) symbol subscripts)
typed-size left symbol subscripts = joined-size left (Variable (Of attribute.Type) symbol subscripts)

pub typed_name-size : (left : Option Tree) (place : ℕ) (name : List ℕ) → size (typed_name left place name) ≡ left_size left + 1
typed_name-size left place name = joined-size left (Ordinary (Of attribute.Type) (symbol_at place name))

pub quoted-size : (opened : Opened) (items : Items) (plain : List ℕ) → size (built opened (Quoted (with_plain items plain))) ≡ opened_size opened + size_items items
quoted-size opened items plain = omega (arith, built-size opened (Quoted (with_plain items plain)), with_plain-size items plain)

pub subscripted-weight : (holder : Holder) (symbol : Symbol) (others : Trees) (last : Tree) →
    text_weight (subscripted holder symbol (More others last)) ≡ frame_size (Subscripts holder symbol others) + size last
subscripted-weight (InText opened items) symbol others last = omega arith
subscripted-weight (AsType left) symbol others last = omega (arith, typed-size left symbol (More others last))

pub count-weight : (opened : Opened) (items : Items) (start count : Tree) → size (built opened (Substring (Quoted items) start count)) ≡ frame_size (Count opened items start) + size count
count-weight opened items start count = omega (arith, built-size opened (Substring (Quoted items) start count))

pub star-weight : (opened : Opened) (items : Items) (start : Tree) → size (built opened (SubstringToEnd (Quoted items) start)) ≡ text_weight (Star opened items start)
star-weight opened items start = omega (arith, built-size opened (SubstringToEnd (Quoted items) start))

name-least : (holder : Holder) (symbol : Symbol) (k : Kind) (p : Placed) → TextLeast (holder_size holder) (after_name holder symbol k p)
name-least (InText opened items) symbol k p = omega (arith, symbol-weight opened (Inserted items symbol NoTrees) k p)
name-least (AsType left) symbol k p = part-least (left_size left + 1) (typed left symbol NoTrees) p.code (omega (arith, typed-size left symbol NoTrees))

lengthen-least : (holder : Holder) (place : ℕ) (name : List ℕ) (c : ℕ) → TextLeast (holder_size holder) (lengthen holder place name c)
lengthen-least holder place name c = if-least (holder_size holder) (nat_lt (length name) 63) (Naming holder place (name ++ to_ascii_uppercase c ∷ [])) (omega arith)

naming-least : (holder : Holder) (place : ℕ) (name : List ℕ) (k : Kind) (p : Placed) → TextLeast (holder_size holder) (go_naming holder place name k p)
naming-least holder place name kind.Letter p = lengthen-least holder place name p.code
naming-least holder place name kind.Digit p = lengthen-least holder place name p.code
naming-least holder place name kind.Open p = omega arith
naming-least holder place name k p = name-least holder (symbol_at place name) k p

closed-least : (opened : Opened) (items : Items) (plain : List ℕ) (k : Kind) (c : ℕ) → TextLeast (opened_size opened + size_items items) (after_closed opened items plain k c)
closed-least opened items plain kind.Quote c = omega arith
closed-least opened items plain kind.Open c = omega (arith, with_plain-size items plain)
closed-least opened items plain _ c = part-least (opened_size opened + size_items items) (built opened (Quoted (with_plain items plain))) c (omega (arith, quoted-size opened items plain))

leave-least : (frame : Frame) (tree : Tree) (k : Kind) → TextLeast (frame_size frame + size tree) (leave frame tree k)
leave-least (Factor left) tree kind.Close = omega arith
leave-least (Subscripts holder symbol others) tree kind.Close = omega (arith, subscripted-weight holder symbol others tree)
leave-least (Subscripts holder symbol others) tree kind.Comma = omega arith
leave-least (Start opened items) tree kind.Comma = omega arith
leave-least (Count opened items start) tree kind.Close = omega (arith, count-weight opened items start tree)
leave-least (Factor left) tree _ = tt
leave-least (Subscripts holder symbol others) tree _ = tt
leave-least (Start opened items) tree _ = tt
leave-least (Count opened items start) tree _ = tt

abbrev StateLeast : ℕ → Option State → Type 0
StateLeast low None = Unit {0}
StateLeast low (Some state) = low ≤ reading.weight state

abbrev WholeIs : ℕ → Option Tree → Type 0
WholeIs low None = Unit {0}
WholeIs low (Some tree) = size tree ≡ low

left-least : (frame : Frame) (low : ℕ) (whole : Option Tree) (k : Kind) → WholeIs low whole → TextLeast (frame_size frame + low) (left_by frame whole k)
left-least frame low None k e = tt
left-least frame low (Some tree) k e = subst (λ n. TextLeast (frame_size frame + n) (leave frame tree k)) e (leave-least frame tree k)

within-least : (frame : Frame) (low : ℕ) (found : Option State) (whole : Option Tree) (k : Kind) → ((next : State) → found ≡ Some next → low ≤ reading.weight next) → WholeIs low whole →
    TextLeast (frame_size frame + low) (go_within frame found whole k)
within-least frame low None whole k h e = left-least frame low whole k e
within-least frame low (Some next) whole k h e = let least = h next refl in omega arith

whole-is : (state : State) (found : Option Tree) → reading.accept Arithmetic state ≡ found → WholeIs (reading.weight state) found
whole-is state None e = tt
whole-is state (Some tree) e = accept-size Arithmetic state tree e

count-least : (opened : Opened) (items : Items) (start : Tree) (found : Option State) (k : Kind) → TextLeast (text_weight (WantCount opened items start)) (begin_count opened items start found k)
count-least opened items start None kind.Blank = omega arith
count-least opened items start (Some next) kind.Blank = omega arith
count-least opened items start None (kind.Mark operator.Multiply) = omega arith
count-least opened items start (Some next) (kind.Mark operator.Multiply) = omega arith
count-least opened items start None _ = tt
count-least opened items start (Some next) _ = omega arith

star-least : (opened : Opened) (items : Items) (start : Tree) (k : Kind) → TextLeast (text_weight (Star opened items start)) (after_star opened items start k)
star-least opened items start kind.Blank = omega arith
star-least opened items start kind.Close = omega (arith, star-weight opened items start)
star-least opened items start _ = tt

letter-least : (left : Option Tree) (k : Kind) → TextLeast (left_size left + 1) (after_letter left k)
letter-least left kind.Quote = omega arith
letter-least left _ = tt

asked-least : (left : Option Tree) (k : Kind) (p : Placed) → TextLeast (left_size left + 1) (after_asked left k p)
asked-least left kind.Ampersand p = omega arith
asked-least left kind.Letter p = omega arith
asked-least left _ p = tt

sigil-least : (left : Option Tree) (place : ℕ) (k : Kind) (c : ℕ) → TextLeast (left_size left + 1) (after_sigil left place k c)
sigil-least left place kind.Letter c = omega arith
sigil-least left place _ c = tt

word-longer : (left : Option Tree) (place : ℕ) (name : List ℕ) (c : ℕ) → TextLeast (left_size left + 1) (lengthen_word left place name c)
word-longer left place name c = if-least (left_size left + 1) (nat_lt (length name) 63) (Word left place (name ++ to_ascii_uppercase c ∷ [])) (omega arith)

word-least : (left : Option Tree) (place : ℕ) (name : List ℕ) (k : Kind) (c : ℕ) → TextLeast (left_size left + 1) (go_word left place name k c)
word-least left place name kind.Letter c = word-longer left place name c
word-least left place name kind.Digit c = word-longer left place name c
word-least left place name _ c = part-least (left_size left + 1) (typed_name left place name) c (omega (arith, typed_name-size left place name))

pub text_step-least : (state : TextState) (p : Placed) → TextLeast (text_weight state) (text_step state p)
unfolding text_step
text_step-least (WantPart left) p = begin_part-least left (kind_of p.code) p.code
text_step-least (WantQuote left factor) p = begin_quoted-least left factor (kind_of p.code)
text_step-least (Inside opened items plain) p = omega (arith, inside-least opened items plain (kind_of p.code) p)
text_step-least (Lone opened items plain place) p = lone-least opened items plain place (kind_of p.code) p
text_step-least (Naming holder place name) p = naming-least holder place name (kind_of p.code) p
text_step-least (Behind opened items) p = omega (arith, symbol-weight opened items (kind_of p.code) p)
text_step-least (Closed opened items plain) p = closed-least opened items plain (kind_of p.code) p.code
text_step-least (Within frame inner) p =
    within-least frame (reading.weight inner) (reading.step Arithmetic inner p) (reading.accept Arithmetic inner) (kind_of p.code) (λ next e. step-weight Arithmetic inner next p e)
    (whole-is inner (reading.accept Arithmetic inner) refl)
text_step-least (WantCount opened items start) p = count-least opened items start (reading.step Arithmetic (Want []) p) (kind_of p.code)
text_step-least (Star opened items start) p = star-least opened items start (kind_of p.code)
text_step-least (Letter left) p = letter-least left (kind_of p.code)
text_step-least (Asked left) p = asked-least left (kind_of p.code) p
text_step-least (Sigil left place) p = sigil-least left place (kind_of p.code) p.code
text_step-least (Word left place name) p = word-least left place name (kind_of p.code) p.code
text_step-least (Done tree) p = part-least (size tree) tree p.code (omega arith)

text_run-least_of : (low : ℕ) (found : Option TextState) (ps : List Placed) (last : TextState) → TextLeast low found →
    ((state : TextState) → text_run state ps ≡ Some last → text_weight state ≤ text_weight last) → option_and_then (λ next. text_run next ps) found ≡ Some last → low ≤ text_weight last
text_run-least_of low None ps last h go e = cc
text_run-least_of low (Some state) ps last h go e = let m = go state e in omega arith

-- no state of a run is larger than its last
pub text_run-least : (ps : List Placed) (state last : TextState) → text_run state ps ≡ Some last → text_weight state ≤ text_weight last
text_run-least [] state last e = let same : state ≡ last = cc in subst (λ x. text_weight state ≤ text_weight x) same (omega arith)
text_run-least (p ∷ ps) state last e = text_run-least_of (text_weight state) (text_step state p) ps last (text_step-least state p) (λ next f. text_run-least ps next last f) e

sized : (found tree : Tree) (low : ℕ) → size found ≡ low → Some found ≡ Some tree → size tree ≡ low
sized found tree low h e = let same : found ≡ tree = cc in subst (λ x. size x ≡ low) same h

-- the tree of the whole text is as large as the last state
pub text_accept-size : (state : TextState) (tree : Tree) → text_accept state ≡ Some tree → size tree ≡ text_weight state
unfolding text_accept
text_accept-size (Naming (AsType left) place name) tree e = sized (typed left (symbol_at place name) NoTrees) tree (left_size left + 1) (typed-size left (symbol_at place name) NoTrees) e
text_accept-size (Closed opened items plain) tree e = sized (built opened (Quoted (with_plain items plain))) tree (opened_size opened + size_items items) (quoted-size opened items plain) e
text_accept-size (Word left place name) tree e = sized (typed_name left place name) tree (left_size left + 1) (typed_name-size left place name) e
text_accept-size (Done found) tree e = sized found tree (size found) refl e
text_accept-size _ tree e = cc
