-- Every text of a quoted text leads to its items.
use Rattle.std.proofs.Common.{◌≡◌, ℕ, Bool, true, false, List, [], ◌∷◌, ◌++◌, refl, sym, ap, ◌∙◌, subst, append_assoc, inl, inr}
use Rattle.std.specs.Prelude.{◌==◌, ◌&&◌, ◌||◌, Some, if◌then◌else◌}
use Rattle.std.specs.Char.{to_ascii_uppercase}
use Rattle.hl_base.specs.Symbols.{is_letter, is_symbol_character}
use Rattle.expression_grammar.specs.declared.character.Grammar.TheVariants.{Arithmetic}
use Rattle.expression_grammar.specs.declared.character.Kind.{Kind}
use Rattle.expression_grammar.specs.declared.character.Kind.TheVariants as kind
use Rattle.expression_grammar.specs.declared.tree.Symbol.{Symbol}
use Rattle.expression_grammar.specs.Characters.{kind_of}
use Rattle.expression_grammar.specs.Spelling as spelling
use Rattle.expression_grammar.specs.Spelling.{Placed, Piece, One, Letters, Plainly, Join, Reads, AreOf, codes, quoted, quoted_one, spell_subscripts}
use Rattle.expression_grammar.specs.Trees.{Tree, Trees, Items, NoTrees, More, NoItems, Plain, Inserted}
use Rattle.expression_grammar.specs.Parts.{symbol_at}
use Rattle.character_grammar.specs.Texts.{spell_items, needs_period, belongs, is_lone, has_symbol, ends_plain, ends_lone, is_filled, AreItems}
use Rattle.character_grammar.specs.TextReading.{Opened, Holder, InText, TextState, Inside, Lone, Naming, Behind, Closed, with_plain, go_inside, after_lone, after_symbol, after_name, go_naming, after_closed, text_step, text_run}
use Rattle.expression_grammar.proofs.CharacterLaws.{kind-letter, kind-quote, kind-ampersand}
use Rattle.expression_grammar.proofs.Pieces.{append-nil}
use Rattle.expression_grammar.proofs.Leads.{first}
use Rattle.character_grammar.proofs.TextPlain.{is_plain, is_name, no-codes, lone-true, lone-false, lone-past, plain-code, name-free, period-free}
use Rattle.character_grammar.proofs.TextLeads.{text_run-step, Reached, reached-letters, naming-grows, reached-subscripts}

-- Steps within a quoted text.

step-inside : (opened : Opened) (items : Items) (plain : List ℕ) (p : Placed) (k : Kind) → kind_of p.code ≡ k → text_step (Inside opened items plain) p ≡ Some (go_inside opened items plain k p)
unfolding text_step
step-inside opened items plain p k e = ap (λ x. Some (go_inside opened items plain x p)) e

step-lone : (opened : Opened) (items : Items) (plain : List ℕ) (place : ℕ) (p : Placed) (k : Kind) → kind_of p.code ≡ k → text_step (Lone opened items plain place) p ≡ Some (after_lone opened items plain place k p)
unfolding text_step
step-lone opened items plain place p k e = ap (λ x. Some (after_lone opened items plain place x p)) e

step-again : (opened : Opened) (items : Items) (plain : List ℕ) (p : Placed) → kind_of p.code ≡ kind.Quote → text_step (Closed opened items plain) p ≡ Some (Inside opened items (plain ++ p.code ∷ []))
unfolding text_step
step-again opened items plain p e = ap (λ x. after_closed opened items plain x p.code) e

-- Plain characters.

-- the plain characters so far, the last of which may be an ampersand that is still alone
data AtPlain (opened : Opened) (items : Items) (plain : List ℕ) (lone : Bool) (state : TextState) : Type 0 where
  at_plain : state ≡ Inside opened items plain → lone ≡ false → is_lone false plain ≡ false → AtPlain opened items plain lone state
  at_half : (before : List ℕ) (place : ℕ) → state ≡ Lone opened items before place → before ++ 38 ∷ [] ≡ plain → lone ≡ true → is_lone false before ≡ false → AtPlain opened items plain lone state

record PlainLead (opened : Opened) (items : Items) (plain : List ℕ) (lone : Bool) (from : TextState) (cs back : List Placed) : Type 0 where
  state : TextState
  runs : text_run from (cs ++ back) ≡ text_run state back
  there : AtPlain opened items plain lone state

-- the first of some characters
record Front (c : ℕ) (cs : List ℕ) (ds : List Placed) : Type 0 where
  p : Placed
  others : List Placed
  both : ds ≡ p ∷ others
  code : p.code ≡ c
  rest : codes others ≡ cs

front : (c : ℕ) (cs : List ℕ) (ds : List Placed) → codes ds ≡ c ∷ cs → Front c cs ds
front c cs [] e = cc
front c cs (p ∷ ds) e = record { p = p; others = ds; both = refl; code = cc; rest = cc }

-- the state behind one character, as it is written
record OneLead (opened : Opened) (items : Items) (plain : List ℕ) (lone : Bool) (from : TextState) (cs : List ℕ) (ds : List Placed) : Type 0 where
  state : TextState
  others : List Placed
  written : codes others ≡ cs
  runs : (back : List Placed) → text_run from (ds ++ back) ≡ text_run state (others ++ back)
  there : AtPlain opened items plain lone state

-- a character that is written once
once : (opened : Opened) (items : Items) (plain : List ℕ) (lone : Bool) (from to : TextState) (c : ℕ) (cs : List ℕ) (ds : List Placed) → codes ds ≡ c ∷ cs →
    ((p : Placed) → p.code ≡ c → text_step from p ≡ Some to) → AtPlain opened items plain lone to → OneLead opened items plain lone from cs ds
once opened items plain lone from to c cs ds e steps there =
    let f = front c cs ds e in
    record {
      state = to;
      others = f.others;
      written = f.rest;
      runs = λ back. ap (λ xs. text_run from (xs ++ back)) f.both ∙ text_run-step from to f.p (f.others ++ back) (steps f.p f.code);
      there = there;
    }

-- an apostrophe, which is written twice
doubled : (opened : Opened) (items : Items) (before plain : List ℕ) (from : TextState) (c : ℕ) (cs : List ℕ) (ds : List Placed) → kind_of c ≡ kind.Quote → codes ds ≡ c ∷ c ∷ cs → before ++ c ∷ [] ≡ plain → is_lone false plain ≡ false →
    ((p : Placed) → kind_of p.code ≡ kind.Quote → text_step from p ≡ Some (Closed opened items before)) → OneLead opened items plain false from cs ds
doubled opened items before plain from c cs ds k e w l steps =
    let f = front c (c ∷ cs) ds e in
    let g = front c cs f.others f.rest in
    let again : text_step (Closed opened items before) g.p ≡ Some (Inside opened items plain) =
    step-again opened items before g.p (ap kind_of g.code ∙ k) ∙ ap (λ x. Some (Inside opened items (before ++ x ∷ []))) g.code ∙ ap (λ xs. Some (Inside opened items xs)) w in
    record {
      state = Inside opened items plain;
      others = g.others;
      written = g.rest;
      runs = λ back. ap (λ xs. text_run from (xs ++ back)) (f.both ∙ ap (λ xs. f.p ∷ xs) g.both)
          ∙ text_run-step from (Closed opened items before) f.p (g.p ∷ g.others ++ back) (steps f.p (ap kind_of f.code ∙ k))
          ∙ text_run-step (Closed opened items before) (Inside opened items plain) g.p (g.others ++ back) again;
      there = at_plain refl refl l;
    }

-- one character from within
from-plain : (opened : Opened) (items : Items) (plain : List ℕ) (c : ℕ) (cs : List ℕ) (ds : List Placed) → is_lone false plain ≡ false → (k : Kind) → kind_of c ≡ k → codes ds ≡ quoted_one k c cs →
    OneLead opened items (plain ++ c ∷ []) (c == 38) (Inside opened items plain) cs ds
from-plain opened items plain c cs ds l kind.Quote e w =
    let not : (c == 38) ≡ false = ap (λ x. x == 38) (kind-quote c e) in
    subst (λ b. OneLead opened items (plain ++ c ∷ []) b (Inside opened items plain) cs ds) (sym not)
    (doubled opened items plain (plain ++ c ∷ []) (Inside opened items plain) c cs ds e w refl (lone-false plain c not) (λ p f. step-inside opened items plain p kind.Quote f))
from-plain opened items plain c cs ds l kind.Ampersand e w =
    let code : c ≡ 38 = kind-ampersand c e in
    let f = front c cs ds w in
    record {
      state = Lone opened items plain f.p.at;
      others = f.others;
      written = f.rest;
      runs = λ back. ap (λ xs. text_run (Inside opened items plain) (xs ++ back)) f.both
          ∙ text_run-step (Inside opened items plain) (Lone opened items plain f.p.at) f.p (f.others ++ back) (step-inside opened items plain f.p kind.Ampersand (ap kind_of f.code ∙ e));
      there = at_half plain f.p.at refl (ap (λ x. plain ++ x ∷ []) (sym code)) (ap (λ x. x == 38) code) l;
    }
from-plain opened items plain c cs ds l k e w =
    let not : (c == 38) ≡ false = plain-code c (ap is_plain e) in
    once opened items (plain ++ c ∷ []) (c == 38) (Inside opened items plain) (Inside opened items (plain ++ c ∷ [])) c cs ds w
    (λ p f. step-inside opened items plain p k (ap kind_of f ∙ e) ∙ ap (λ x. Some (Inside opened items (plain ++ x ∷ []))) f) (at_plain refl not (lone-false plain c not))

-- one character behind an ampersand
from-half : (opened : Opened) (items : Items) (before : List ℕ) (place c : ℕ) (cs : List ℕ) (ds : List Placed) → is_lone false before ≡ false → is_letter c ≡ false → (k : Kind) → kind_of c ≡ k → codes ds ≡ quoted_one k c cs →
    OneLead opened items ((before ++ 38 ∷ []) ++ c ∷ []) false (Lone opened items before place) cs ds
from-half opened items before place c cs ds l n kind.Letter e w = let yes : is_letter c ≡ true = kind-letter c e in cc
from-half opened items before place c cs ds l n kind.Quote e w =
    doubled opened items (before ++ 38 ∷ []) ((before ++ 38 ∷ []) ++ c ∷ []) (Lone opened items before place) c cs ds e w refl (lone-past (before ++ 38 ∷ []) c (lone-true before l)) (λ p f. step-lone opened items before place p kind.Quote f)
from-half opened items before place c cs ds l n k e w =
    once opened items ((before ++ 38 ∷ []) ++ c ∷ []) false (Lone opened items before place) (Inside opened items ((before ++ 38 ∷ []) ++ c ∷ [])) c cs ds w
    (λ p f. step-lone opened items before place p k (ap kind_of f ∙ e) ∙ ap (λ x. Some (Inside opened items ((before ++ 38 ∷ []) ++ x ∷ []))) f)
    (at_plain refl refl (lone-past (before ++ 38 ∷ []) c (lone-true before l)))

from-any : (opened : Opened) (items : Items) (plain : List ℕ) (lone : Bool) (from : TextState) (c : ℕ) (cs : List ℕ) (ds : List Placed) → (lone && is_letter c) ≡ false → AtPlain opened items plain lone from →
    codes ds ≡ quoted_one (kind_of c) c cs → OneLead opened items (plain ++ c ∷ []) (if lone then false else c == 38) from cs ds
from-any opened items plain lone from c cs ds n (at_plain s f l) w =
    subst (λ b. OneLead opened items (plain ++ c ∷ []) (if b then false else c == 38) from cs ds) (sym f)
    (subst (λ x. OneLead opened items (plain ++ c ∷ []) (c == 38) x cs ds) (sym s) (from-plain opened items plain c cs ds l (kind_of c) refl w))
from-any opened items plain lone from c cs ds n (at_half before place s q t l) w =
    let letter : is_letter c ≡ false = ap (λ b. b && is_letter c) (sym t) ∙ n in
    subst (λ b. OneLead opened items (plain ++ c ∷ []) (if b then false else c == 38) from cs ds) (sym t)
    (subst (λ x. OneLead opened items (plain ++ c ∷ []) false x cs ds) (sym s)
    (subst (λ (xs : List ℕ). OneLead opened items (xs ++ c ∷ []) false (Lone opened items before place) cs ds) q (from-half opened items before place c cs ds l letter (kind_of c) refl w)))

or-left : (a b : Bool) → (a || b) ≡ false → a ≡ false
or-left true b e = e
or-left false b e = refl

or-right : (a b : Bool) → (a || b) ≡ false → b ≡ false
or-right true b e = cc
or-right false b e = e

plain-runs : (opened : Opened) (items : Items) (cs : List ℕ) (plain : List ℕ) (lone : Bool) (from : TextState) (ds back : List Placed) → has_symbol lone cs ≡ false → AtPlain opened items plain lone from →
    codes ds ≡ quoted cs → PlainLead opened items (plain ++ cs) (is_lone lone cs) from ds back
plain-runs opened items [] plain lone from [] back n a w =
    record { state = from; runs = refl; there = subst (λ (xs : List ℕ). AtPlain opened items xs lone from) (sym (append-nil plain)) a }
plain-runs opened items [] plain lone from (p ∷ ds) back n a w = cc
plain-runs opened items (c ∷ cs) plain lone from ds back n a w =
    let next : Bool = if lone then false else c == 38 in
    let o = from-any opened items plain lone from c (quoted cs) ds (or-left (lone && is_letter c) (has_symbol next cs) n) a w in
    let r = plain-runs opened items cs (plain ++ c ∷ []) next o.state o.others back (or-right (lone && is_letter c) (has_symbol next cs) n) o.there o.written in
    record { state = r.state; runs = o.runs back ∙ r.runs; there = subst (λ (xs : List ℕ). AtPlain opened items xs (is_lone next cs) r.state) (append_assoc plain (c ∷ []) cs) r.there }

-- Items.

-- where a text stands behind items
data AtItems (opened : Opened) (items : Items) (must : Bool) (state : TextState) : Type 0 where
  at_inside : (before : Items) (plain : List ℕ) → state ≡ Inside opened before plain → with_plain before plain ≡ items → AtItems opened items must state
  at_lone : (before : Items) (plain : List ℕ) (place : ℕ) → state ≡ Lone opened before plain place → Plain before (plain ++ 38 ∷ []) ≡ items → is_lone false plain ≡ false → AtItems opened items must state
  at_symbol : (others : Items) (symbol : Symbol) (subscripts : Trees) → items ≡ Inserted others symbol subscripts → must ≡ false →
      ((p : Placed) → belongs subscripts p.code ≡ false → text_step state p ≡ Some (go_inside opened items [] (kind_of p.code) p)) → AtItems opened items must state

pub record ItemsLead (opened : Opened) (items : Items) (must : Bool) (ks : List Piece) (cs : List Placed) : Type 0 where
  state : TextState
  rest : List Placed
  runs : text_run (Inside opened NoItems []) cs ≡ text_run state rest
  reads : Reads Arithmetic ks rest
  there : AtItems opened items must state

plain-same : (before items : Items) (plain : List ℕ) → with_plain before plain ≡ items → ends_plain items ≡ false → (plain ≡ []) × (before ≡ items)
plain-same before items [] w e = (refl, w)
plain-same before items (c ∷ plain) w e = let yes : true ≡ false = ap ends_plain w ∙ e in cc

-- the first character of plain characters
record FirstCode (c : ℕ) (ds : List Placed) : Type 0 where
  p : Placed
  others : List Placed
  both : ds ≡ p ∷ others
  code : p.code ≡ c

first-front : (c : ℕ) (cs : List ℕ) (ds : List Placed) → codes ds ≡ c ∷ cs → FirstCode c ds
first-front c cs ds e = let f = front c cs ds e in record { p = f.p; others = f.others; both = f.both; code = f.code }

first-code : (k : Kind) (c : ℕ) (cs : List ℕ) (ds : List Placed) → codes ds ≡ quoted_one k c cs → FirstCode c ds
first-code kind.Quote c cs ds e = first-front c (c ∷ cs) ds e
first-code _ c cs ds e = first-front c cs ds e

-- plain characters behind items that do not end in some
from-items : (opened : Opened) (items : Items) (state : TextState) (c : ℕ) (cs : List ℕ) (ds back : List Placed) → ends_plain items ≡ false → AtItems opened items (needs_period items (c ∷ cs)) state → codes ds ≡ quoted (c ∷ cs) →
    text_run state (ds ++ back) ≡ text_run (Inside opened items []) (ds ++ back)
from-items opened items state c cs ds back e (at_inside before plain s w) q =
    let b = plain-same before items plain w e in
    ap (λ x. text_run x (ds ++ back)) (s ∙ ap (λ (xs : List ℕ). Inside opened before xs) b.0 ∙ ap (λ (x : Items). Inside opened x []) b.1)
from-items opened items state c cs ds back e (at_lone before plain place s w l) q = let yes : true ≡ false = ap ends_plain w ∙ e in cc
from-items opened items state c cs ds back e (at_symbol others symbol subscripts i m steps) q =
    let f = first-code (kind_of c) c (quoted cs) ds q in
    let free : belongs subscripts c ≡ false = ap (λ x. needs_period x (c ∷ cs)) (sym i) ∙ m in
    let next : TextState = go_inside opened items [] (kind_of f.p.code) f.p in
    ap (λ xs. text_run state (xs ++ back)) f.both
    ∙ text_run-step state next f.p (f.others ++ back) (steps f.p (ap (belongs subscripts) f.code ∙ free))
    ∙ sym (text_run-step (Inside opened items []) next f.p (f.others ++ back) (step-inside opened items [] f.p (kind_of f.p.code) refl))
    ∙ ap (λ xs. text_run (Inside opened items []) (xs ++ back)) (sym f.both)

filled-plain : (opened : Opened) (items : Items) (cs : List ℕ) (lone must : Bool) (state : TextState) → is_filled cs ≡ true → AtPlain opened items cs lone state → AtItems opened (Plain items cs) must state
filled-plain opened items [] lone must state f a = cc
filled-plain opened items (c ∷ cs) lone must state f (at_plain s t l) = at_inside items (c ∷ cs) s refl
filled-plain opened items (c ∷ cs) lone must state f (at_half before place s q t l) = at_lone items before place s (ap (Plain items) q) l

-- the `&` of a symbol behind items
record AtSigil (opened : Opened) (items : Items) (state : TextState) (p : Placed) : Type 0 where
  before : Items
  plain : List ℕ
  same : with_plain before plain ≡ items
  steps : text_step state p ≡ Some (Lone opened before plain p.at)

no-ampersand : (subscripts : Trees) (c : ℕ) → c ≡ 38 → belongs subscripts c ≡ false
no-ampersand NoTrees c e = ap (λ x. (x == 46) || ((x == 40) || is_symbol_character x)) e
no-ampersand (More others last) c e = ap (λ x. x == 46) e

no-quote : (subscripts : Trees) (c : ℕ) → c ≡ 39 → belongs subscripts c ≡ false
no-quote NoTrees c e = ap (λ x. (x == 46) || ((x == 40) || is_symbol_character x)) e
no-quote (More others last) c e = ap (λ x. x == 46) e

at-sigil : (opened : Opened) (items : Items) (state : TextState) (p : Placed) → ends_lone items ≡ false → AtItems opened items false state → kind_of p.code ≡ kind.Ampersand → AtSigil opened items state p
at-sigil opened items state p n (at_inside before plain s w) e =
    record { before = before; plain = plain; same = w; steps = ap (λ x. text_step x p) s ∙ step-inside opened before plain p kind.Ampersand e }
at-sigil opened items state p n (at_lone before plain place s w l) e = let yes : true ≡ false = sym (lone-true plain l) ∙ ap ends_lone w ∙ n in cc
at-sigil opened items state p n (at_symbol others symbol subscripts i m steps) e =
    record { before = items; plain = []; same = refl; steps = steps p (no-ampersand subscripts p.code (kind-ampersand p.code e)) ∙ ap (λ k. Some (go_inside opened items [] k p)) e }

-- a symbol whose end is open
record AtSymbol (opened : Opened) (items : Items) (subscripts : Trees) (state : TextState) : Type 0 where
  period : (p : Placed) → p.code ≡ 46 → text_step state p ≡ Some (Inside opened items [])
  others : (p : Placed) → belongs subscripts p.code ≡ false → text_step state p ≡ Some (go_inside opened items [] (kind_of p.code) p)

join-lead : (opened : Opened) (others : Items) (symbol : Symbol) (subscripts : Trees) (must : Bool) (state : TextState) (ks : List Piece) (all cs : List Placed) → AtSymbol opened (Inserted others symbol subscripts) subscripts state →
    text_run (Inside opened NoItems []) all ≡ text_run state cs → Reads Arithmetic (Join must ∷ ks) cs → ItemsLead opened (Inserted others symbol subscripts) must ks all
join-lead opened others symbol subscripts must state ks all cs a e r = joins must r.3
  where
    items : Items
    items = Inserted others symbol subscripts

    period-lead : (b : Bool) → codes r.0 ≡ 46 ∷ [] → ItemsLead opened items b ks all
    period-lead b w =
        let f = front 46 [] r.0 w in
        record {
          state = Inside opened items [];
          rest = r.1;
          runs = e ∙ ap (text_run state) (r.2 ∙ ap (λ xs. xs ++ r.1) (f.both ∙ ap (λ xs. f.p ∷ xs) (no-codes f.others f.rest))) ∙ text_run-step state (Inside opened items []) f.p r.1 (a.period f.p f.code);
          reads = r.4;
          there = at_inside items [] refl refl;
        }

    joins : (b : Bool) → spelling.IsJoin b (codes r.0) → ItemsLead opened items b ks all
    joins true w = period-lead true w
    joins false (inr w) = period-lead false w
    joins false (inl w) =
        record {
          state = state;
          rest = r.1;
          runs = e ∙ ap (text_run state) (r.2 ∙ ap (λ xs. xs ++ r.1) (no-codes r.0 w));
          reads = r.4;
          there = at_symbol others symbol subscripts refl refl a.others;
        }

if-none : {A : Type 0} (b : Bool) (x y : A) → b ≡ false → (if b then x else y) ≡ y
if-none true x y e = cc
if-none false x y e = refl

free-period : (subscripts : Trees) (c : ℕ) → belongs subscripts c ≡ false → (c == 46) ≡ false
free-period NoTrees c e = or-left (c == 46) ((c == 40) || is_symbol_character c) e
free-period (More others last) c e = e

after-symbol : (opened : Opened) (items : Items) (subscripts : Trees) (p : Placed) → belongs subscripts p.code ≡ false → after_symbol opened items (kind_of p.code) p ≡ go_inside opened items [] (kind_of p.code) p
after-symbol opened items subscripts p e = if-none (p.code == 46) (Inside opened items []) (go_inside opened items [] (kind_of p.code) p) (free-period subscripts p.code e)

after-period : (opened : Opened) (items : Items) (k : Kind) (p : Placed) → p.code ≡ 46 → after_symbol opened items k p ≡ Inside opened items []
after-period opened items k p e = ap (λ c. if c == 46 then Inside opened items [] else go_inside opened items [] k p) e

free-kind : (c : ℕ) → belongs NoTrees c ≡ false → is_name (kind_of c) ≡ false
free-kind c e =
    let rest = or-right (c == 46) ((c == 40) || is_symbol_character c) e in
    name-free c (or-left (c == 40) (is_symbol_character c) rest) (or-right (c == 40) (is_symbol_character c) rest)

name-other : (holder : Holder) (place : ℕ) (name : List ℕ) (k : Kind) (p : Placed) → is_name k ≡ false → go_naming holder place name k p ≡ after_name holder (symbol_at place name) k p
name-other holder place name kind.Letter p e = cc
name-other holder place name kind.Digit p e = cc
name-other holder place name kind.Open p e = cc
name-other holder place name _ p e = refl

named-symbol : (opened : Opened) (others : Items) (symbol : Symbol) → AtSymbol opened (Inserted others symbol NoTrees) NoTrees (Naming (InText opened others) symbol.at symbol.name)
unfolding text_step
named-symbol opened others symbol =
    record {
      period = λ p e. name-other (InText opened others) symbol.at symbol.name (kind_of p.code) p (period-free p.code e) ∙ ap Some (after-period opened (Inserted others symbol NoTrees) (kind_of p.code) p e);
      others = λ p e. name-other (InText opened others) symbol.at symbol.name (kind_of p.code) p (free-kind p.code e) ∙ ap Some (after-symbol opened (Inserted others symbol NoTrees) NoTrees p e);
    }

behind-symbol : (opened : Opened) (others : Items) (symbol : Symbol) (before : Trees) (last : Tree) →
    AtSymbol opened (Inserted others symbol (More before last)) (More before last) (Behind opened (Inserted others symbol (More before last)))
unfolding text_step
behind-symbol opened others symbol before last =
    record {
      period = λ p e. ap Some (after-period opened (Inserted others symbol (More before last)) (kind_of p.code) p e);
      others = λ p e. ap Some (after-symbol opened (Inserted others symbol (More before last)) (More before last) p e);
    }

lone-letter : (opened : Opened) (before items : Items) (plain : List ℕ) (place : ℕ) (p : Placed) → with_plain before plain ≡ items → kind_of p.code ≡ kind.Letter →
    text_step (Lone opened before plain place) p ≡ Some (Naming (InText opened items) place (to_ascii_uppercase p.code ∷ []))
lone-letter opened before items plain place p w e = step-lone opened before plain place p kind.Letter e ∙ ap (λ x. Some (Naming (InText opened x) place (to_ascii_uppercase p.code ∷ []))) w

-- the name of a symbol behind items
at-name : (opened : Opened) (items : Items) (symbol : Symbol) (ks : List Piece) (state : TextState) (cs : List Placed) → ends_lone items ≡ false → AtItems opened items false state →
    Reads Arithmetic (spelling.Sigil symbol.at ∷ Letters symbol.name ∷ ks) cs → Reached state (Naming (InText opened items) symbol.at symbol.name) ks cs
at-name opened items symbol ks state cs n a r =
    let p : Placed = r.3.one in
    let s = at-sigil opened items state p n a r.3.kind in
    record {
      rest = r.4.1;
      runs = ap (text_run state) (r.2 ∙ ap (λ xs. xs ++ r.1) r.3.only)
          ∙ text_run-step state (Lone opened s.before s.plain symbol.at) p r.1 (s.steps ∙ ap (λ x. Some (Lone opened s.before s.plain x)) r.3.here)
          ∙ ap (text_run (Lone opened s.before s.plain symbol.at)) r.4.2
          ∙ reached-letters (Naming (InText opened items) symbol.at) (Lone opened s.before s.plain symbol.at) (naming-grows (InText opened items) symbol.at)
          (λ q e. lone-letter opened s.before items s.plain symbol.at q s.same e) r.4.0 r.4.1 symbol.name r.4.3;
      reads = r.4.4;
    }

pub lead-items : (opened : Opened) (items : Items) (must : Bool) (ks : List Piece) (cs : List Placed) → AreItems items → Reads Arithmetic (spell_items items must ks) cs → ItemsLead opened items must ks cs
lead-items opened NoItems must ks cs a r = record { state = Inside opened NoItems []; rest = cs; runs = refl; reads = r; there = at_inside NoItems [] refl refl }
lead-items opened (Plain others []) must ks cs a r = let no : false ≡ true = a.2 in cc
lead-items opened (Plain others (c ∷ characters)) must ks cs a r =
    let l = lead-items opened others (needs_period others (c ∷ characters)) (Plainly (c ∷ characters) ∷ ks) cs a.0 r in
    let q = l.reads in
    let m = plain-runs opened others (c ∷ characters) [] false (Inside opened others []) q.0 q.1 a.3 (at_plain refl refl refl) q.3 in
    record {
      state = m.state;
      rest = q.1;
      runs = l.runs ∙ ap (text_run l.state) q.2 ∙ from-items opened others l.state c characters q.0 q.1 a.1 l.there q.3 ∙ m.runs;
      reads = q.4;
      there = filled-plain opened others (c ∷ characters) (is_lone false (c ∷ characters)) must m.state refl m.there;
    }
lead-items opened (Inserted others symbol NoTrees) must ks cs a r =
    let l = lead-items opened others false (spelling.Sigil symbol.at ∷ Letters symbol.name ∷ Join must ∷ ks) cs a.0 r in
    let n = at-name opened others symbol (Join must ∷ ks) l.state l.rest a.1 l.there l.reads in
    join-lead opened others symbol NoTrees must (Naming (InText opened others) symbol.at symbol.name) ks cs n.rest (named-symbol opened others symbol) (l.runs ∙ n.runs) n.reads
lead-items opened (Inserted others symbol (More before last)) must ks cs a r =
    let l = lead-items opened others false (spelling.Sigil symbol.at ∷ Letters symbol.name ∷ spell_subscripts (More before last) (Join must ∷ ks)) cs a.0 r in
    let n = at-name opened others symbol (spell_subscripts (More before last) (Join must ∷ ks)) l.state l.rest a.1 l.there l.reads in
    let b = reached-subscripts before last (InText opened others) symbol (Join must ∷ ks) n.rest a.2 n.reads in
    join-lead opened others symbol (More before last) must (Behind opened (Inserted others symbol (More before last))) ks cs b.rest (behind-symbol opened others symbol before last) (l.runs ∙ n.runs ∙ b.runs) b.reads

-- the apostrophe behind items
pub record Closes (opened : Opened) (items : Items) (from : TextState) (ks : List Piece) (cs : List Placed) : Type 0 where
  pub before : Items
  pub plain : List ℕ
  pub same : with_plain before plain ≡ items
  pub rest : List Placed
  pub runs : text_run from cs ≡ text_run (Closed opened before plain) rest
  pub reads : Reads Arithmetic ks rest

record AtClose (opened : Opened) (items : Items) (state : TextState) (p : Placed) : Type 0 where
  before : Items
  plain : List ℕ
  same : with_plain before plain ≡ items
  steps : text_step state p ≡ Some (Closed opened before plain)

with_plain-last : (before : Items) (plain : List ℕ) (c : ℕ) → with_plain before (plain ++ c ∷ []) ≡ Plain before (plain ++ c ∷ [])
with_plain-last before [] c = refl
with_plain-last before (d ∷ plain) c = refl

at-close : (opened : Opened) (items : Items) (state : TextState) (p : Placed) → AtItems opened items false state → kind_of p.code ≡ kind.Quote → AtClose opened items state p
at-close opened items state p (at_inside before plain s w) e =
    record { before = before; plain = plain; same = w; steps = ap (λ x. text_step x p) s ∙ step-inside opened before plain p kind.Quote e }
at-close opened items state p (at_lone before plain place s w l) e =
    record { before = before; plain = plain ++ 38 ∷ []; same = with_plain-last before plain 38 ∙ w; steps = ap (λ x. text_step x p) s ∙ step-lone opened before plain place p kind.Quote e }
at-close opened items state p (at_symbol others symbol subscripts i m steps) e =
    record { before = items; plain = []; same = refl; steps = steps p (no-quote subscripts p.code (kind-quote p.code e)) ∙ ap (λ k. Some (go_inside opened items [] k p)) e }

pub lead-closed : (opened : Opened) (items : Items) (from : TextState) (ks : List Piece) (cs : List Placed) → AreItems items → ((p : Placed) → kind_of p.code ≡ kind.Quote → text_step from p ≡ Some (Inside opened NoItems [])) →
    Reads Arithmetic (One kind.Quote ∷ spell_items items false (One kind.Quote ∷ ks)) cs → Closes opened items from ks cs
lead-closed opened items from ks cs a begins r =
    let f = first Arithmetic kind.Quote (spell_items items false (One kind.Quote ∷ ks)) cs r in
    let l = lead-items opened items false (One kind.Quote ∷ ks) f.back a f.reads in
    let q = first Arithmetic kind.Quote ks l.rest l.reads in
    let c = at-close opened items l.state q.p l.there q.kind in
    record {
      before = c.before;
      plain = c.plain;
      same = c.same;
      rest = q.back;
      runs = ap (text_run from) f.both ∙ text_run-step from (Inside opened NoItems []) f.p f.back (begins f.p f.kind) ∙ l.runs ∙ ap (text_run l.state) q.both ∙ text_run-step l.state (Closed opened c.before c.plain) q.p q.back c.steps;
      reads = q.reads;
    }
