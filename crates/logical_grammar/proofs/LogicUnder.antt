-- What is open, and what stands above it: ends of texts, words, and how it grows at its end.
use Rattle.std.proofs.Common.{◌≡◌, ℕ, ◌≤◌, Bool, false, true, List, [], ◌∷◌, ◌++◌, refl, ap, ◌∙◌, arith, append_assoc}
use Rattle.std.specs.Prelude.{IsTrue}
use Rattle.std.specs.Char.{to_ascii_uppercase}
use Rattle.std.proofs.lemmas.Bool.Decides.{nat_tests}
use Rattle.hl_base.specs.Symbols.{is_symbol_character}
use Rattle.expression_grammar.specs.declared.character.Kind.TheVariants as kind
use Rattle.expression_grammar.specs.declared.tree.Comparison.{Comparison}
use Rattle.expression_grammar.specs.declared.tree.Comparison.TheVariants.{Eq, Ne, Lt, Le, Gt, Ge}
use Rattle.expression_grammar.specs.declared.tree.Operator.{Operator}
use Rattle.expression_grammar.specs.declared.tree.Operator.TheVariants.{And, Or, Xor}
use Rattle.expression_grammar.specs.Characters.{kind_of, strength}
use Rattle.expression_grammar.specs.Spelling.{Placed}
use Rattle.logical_grammar.specs.Logics.{IsTruth, Joined, Negated, operator_word, comparison_word, is_logical, capitals, touches_behind, touches_ahead}
use Rattle.logical_grammar.specs.LogicReading.{Open, Negation, LeftOperand, Group}
use Rattle.logical_grammar.specs.LogicStanding.{Takes, AreOpen, Opened, Under, behind_word, is_empty, Partly}

-- Ends of texts.

pub ahead-some : (u v : List Placed) → is_empty u ≡ false → touches_ahead (u ++ v) ≡ touches_ahead u
ahead-some [] v e = cc
ahead-some (p ∷ u) v e = refl

pub behind-append : (b : Bool) (u v : List Placed) → touches_behind b (u ++ v) ≡ touches_behind (touches_behind b u) v
behind-append b [] v = refl
behind-append b (p ∷ u) v = behind-append (is_symbol_character p.code) u v

behind-some : (b c : Bool) (v : List Placed) → is_empty v ≡ false → touches_behind b v ≡ touches_behind c v
behind-some b c [] e = cc
behind-some b c (p ∷ v) e = refl

pub behind-last : (u : List Placed) (p : Placed) → touches_behind false (u ++ p ∷ []) ≡ is_symbol_character p.code
behind-last u p = behind-append false u (p ∷ [])

pub behind-tail : (u v : List Placed) → is_empty v ≡ false → touches_behind false (u ++ v) ≡ touches_behind false v
behind-tail u v e = behind-append false u v ∙ behind-some (touches_behind false u) false v e

pub some-left : (u v : List Placed) → is_empty u ≡ false → is_empty (u ++ v) ≡ false
some-left [] v e = cc
some-left (p ∷ u) v e = refl

pub some-right : (u v : List Placed) → is_empty v ≡ false → is_empty (u ++ v) ≡ false
some-right [] v e = e
some-right (p ∷ u) v e = refl

pub some-last : (u : List Placed) (p : Placed) → is_empty (u ++ p ∷ []) ≡ false
some-last u p = some-right u (p ∷ []) refl

pub blank-apart : (c : ℕ) → kind_of c ≡ kind.Blank → is_symbol_character c ≡ false
unfolding kind_of
blank-apart c e = grind (arith, nat_tests)

pub close-apart : (c : ℕ) → kind_of c ≡ kind.Close → is_symbol_character c ≡ false
unfolding kind_of
close-apart c e = grind (arith, nat_tests)

pub open-apart : (c : ℕ) → kind_of c ≡ kind.Open → is_symbol_character c ≡ false
unfolding kind_of
open-apart c e = grind (arith, nat_tests)

-- behind a text one character more, which is no symbol character
pub ahead-apart : (u : List Placed) (p : Placed) → is_symbol_character p.code ≡ false → touches_ahead u ≡ false → touches_ahead (u ++ p ∷ []) ≡ false
ahead-apart [] p e a = e
ahead-apart (q ∷ u) p e a = a

pub ahead-kept : (u v : List Placed) → is_empty u ≡ false → touches_ahead u ≡ false → touches_ahead (u ++ v) ≡ false
ahead-kept u v e a = ahead-some u v e ∙ a

-- Words.

capitals-some : (u : List Placed) (c : ℕ) (cs : List ℕ) → capitals u ≡ c ∷ cs → is_empty u ≡ false
capitals-some [] c cs e = cc
capitals-some (p ∷ u) c cs e = refl

pub capitals-append : (u v : List Placed) → capitals (u ++ v) ≡ capitals u ++ capitals v
capitals-append [] v = refl
capitals-append (p ∷ u) v = ap (λ cs. to_ascii_uppercase p.code ∷ cs) (capitals-append u v)

pub word-some : (operator : Operator) (u : List Placed) → IsTrue (is_logical operator) → capitals u ≡ operator_word operator → is_empty u ≡ false
word-some And u t e = capitals-some u 65 (78 ∷ 68 ∷ []) e
word-some Or u t e = capitals-some u 79 (82 ∷ []) e
word-some Xor u t e = capitals-some u 88 (79 ∷ 82 ∷ []) e
word-some _ u t e = cc

pub comparison-some : (comparison : Comparison) (u : List Placed) → capitals u ≡ comparison_word comparison → is_empty u ≡ false
comparison-some Eq u e = capitals-some u 69 (81 ∷ []) e
comparison-some Ne u e = capitals-some u 78 (69 ∷ []) e
comparison-some Lt u e = capitals-some u 76 (84 ∷ []) e
comparison-some Le u e = capitals-some u 76 (69 ∷ []) e
comparison-some Gt u e = capitals-some u 71 (84 ∷ []) e
comparison-some Ge u e = capitals-some u 71 (69 ∷ []) e

pub logical-strength : (operator : Operator) → IsTrue (is_logical operator) → strength operator ≤ 2
logical-strength And t = omega arith
logical-strength Or t = omega arith
logical-strength Xor t = omega arith
logical-strength _ t = let no : ⊥ = cc in absurd no

-- What words make is not empty.

pub joined-some : (IsLeft IsPart : List Placed → Type 0) (word : List ℕ) (text : List Placed) (j : Joined IsLeft word IsPart text) → is_empty j.letters ≡ false → is_empty text ≡ false
joined-some IsLeft IsPart word text j e = ap is_empty j.all ∙ some-left (j.left ++ j.letters) j.right (some-right j.left j.letters e)

pub negated-some : (IsPart : List Placed → Type 0) (text : List Placed) → Negated IsPart text → is_empty text ≡ false
negated-some IsPart text n = ap is_empty n.all ∙ some-left (n.before ++ n.letters) n.operand (some-right n.before n.letters (capitals-some n.letters 78 (79 ∷ 84 ∷ []) n.named))

pub opened-some : (IsPart : List Placed → Type 0) (text : List Placed) → Opened IsPart text → is_empty text ≡ false
opened-some IsPart text o = ap is_empty o.all ∙ some-right o.before (o.opening ∷ o.inner) refl

pub partly-some : (IsLeft : List Placed → Type 0) (word rest : List ℕ) (text : List Placed) → Partly IsLeft word rest text → is_empty text ≡ false
partly-some IsLeft word rest text q = ap is_empty q.all ∙ some-right q.left q.letters q.some

-- What stands in what is open, with more behind.

pub negated-more : (IsPart IsOther : List Placed → Type 0) (text more : List Placed) (n : Negated IsPart text) → IsOther (n.operand ++ more) →
    (touches_ahead n.operand ≡ false → touches_ahead (n.operand ++ more) ≡ false) → Negated IsOther (text ++ more)
negated-more IsPart IsOther text more n i k =
    record {
      before = n.before;
      letters = n.letters;
      operand = n.operand ++ more;
      all = ap (λ xs. xs ++ more) n.all ∙ append_assoc (n.before ++ n.letters) n.operand more;
      blank = n.blank;
      named = n.named;
      is = i;
      apart = k n.apart;
    }

pub joined-more : (IsLeft IsPart IsOther : List Placed → Type 0) (word : List ℕ) (text more : List Placed) (j : Joined IsLeft word IsPart text) → IsOther (j.right ++ more) →
    (touches_ahead j.right ≡ false → touches_ahead (j.right ++ more) ≡ false) → Joined IsLeft word IsOther (text ++ more)
joined-more IsLeft IsPart IsOther word text more j i k =
    record {
      left = j.left;
      letters = j.letters;
      right = j.right ++ more;
      all = ap (λ xs. xs ++ more) j.all ∙ append_assoc (j.left ++ j.letters) j.right more;
      first = j.first;
      second = i;
      named = j.named;
      apart_left = j.apart_left;
      apart_right = k j.apart_right;
    }

pub opened-more : (IsPart IsOther : List Placed → Type 0) (text more : List Placed) (o : Opened IsPart text) → IsOther (o.inner ++ more) → Opened IsOther (text ++ more)
opened-more IsPart IsOther text more o i =
    record {
      before = o.before;
      opening = o.opening;
      inner = o.inner ++ more;
      all = ap (λ xs. xs ++ more) o.all ∙ append_assoc o.before (o.opening ∷ o.inner) more;
      blank = o.blank;
      opens = o.opens;
      is = i;
    }

-- the innermost part, and how another with more text takes its place, which touches no word
pub record Innermost (layers : List Open) (IsPart : List Placed → Type 0) (text : List Placed) : Type 1 where
  pub part : List Placed
  pub is : IsPart part
  pub back : (IsOther : List Placed → Type 0) (more : List Placed) → IsOther (part ++ more) → (behind_word layers ≡ true → touches_ahead part ≡ false → touches_ahead (part ++ more) ≡ false) →
      Under layers IsOther (text ++ more)

pub innermost : (layers : List Open) (IsPart : List Placed → Type 0) (text : List Placed) → AreOpen layers → Under layers IsPart text → Innermost layers IsPart text
innermost [] IsPart text a h = record { part = text; is = h; back = λ IsOther more q k. q }
innermost (Negation ∷ layers) IsPart text a h =
    let i = innermost layers (Negated IsPart) text a h in
    record {
      part = i.is.operand;
      is = i.is.is;
      back = λ IsOther more q k. i.back (Negated IsOther) more (negated-more IsPart IsOther i.part more i.is q (k refl)) (λ w. ahead-kept i.part more (negated-some IsPart i.part i.is));
    }
innermost (LeftOperand operator left ∷ layers) IsPart text a h =
    let i = innermost layers (Joined (IsTruth left) (operator_word operator) IsPart) text a.3 h in
    record {
      part = i.is.right;
      is = i.is.second;
      back = λ IsOther more q k. i.back (Joined (IsTruth left) (operator_word operator) IsOther) more
          (joined-more (IsTruth left) IsPart IsOther (operator_word operator) i.part more i.is q (k refl))
          (λ w. ahead-kept i.part more (joined-some (IsTruth left) IsPart (operator_word operator) i.part i.is (word-some operator i.is.letters a.0 i.is.named)));
    }
innermost (Group ∷ layers) IsPart text a h =
    let i = innermost layers (Opened IsPart) text a h in
    record {
      part = i.is.inner;
      is = i.is.is;
      back = λ IsOther more q k. i.back (Opened IsOther) more (opened-more IsPart IsOther i.part more i.is q) (λ w. ahead-kept i.part more (opened-some IsPart i.part i.is));
    }

pub under-grows : (layers : List Open) (IsPart IsOther : List Placed → Type 0) (text ds : List Placed) → AreOpen layers → ((u : List Placed) → IsPart u → IsOther (u ++ ds)) →
    (behind_word layers ≡ true → (u : List Placed) → IsPart u → touches_ahead u ≡ false → touches_ahead (u ++ ds) ≡ false) → Under layers IsPart text → Under layers IsOther (text ++ ds)
under-grows layers IsPart IsOther text ds a g h r =
    let i = innermost layers IsPart text a r in
    i.back IsOther ds (g i.part i.is) (λ w. h w i.part i.is)

-- something else of the same text
pub under-became : (layers : List Open) (IsPart IsOther : List Placed → Type 0) (text : List Placed) → ((u : List Placed) → IsPart u → IsOther u) → Under layers IsPart text → Under layers IsOther text
under-became [] IsPart IsOther text f r = f text r
under-became (Negation ∷ layers) IsPart IsOther text f r =
    under-became layers (Negated IsPart) (Negated IsOther) text
    (λ u n. record { before = n.before; letters = n.letters; operand = n.operand; all = n.all; blank = n.blank; named = n.named; is = f n.operand n.is; apart = n.apart }) r
under-became (LeftOperand operator left ∷ layers) IsPart IsOther text f r =
    under-became layers (Joined (IsTruth left) (operator_word operator) IsPart) (Joined (IsTruth left) (operator_word operator) IsOther) text
    (λ u j. record { left = j.left; letters = j.letters; right = j.right; all = j.all; first = j.first; second = f j.right j.second; named = j.named; apart_left = j.apart_left; apart_right = j.apart_right }) r
under-became (Group ∷ layers) IsPart IsOther text f r =
    under-became layers (Opened IsPart) (Opened IsOther) text
    (λ u o. record { before = o.before; opening = o.opening; inner = o.inner; all = o.all; blank = o.blank; opens = o.opens; is = f o.inner o.is }) r

-- every tree that binds as strongly as NOT may stand above what is open
pub takes-high : (layers : List Open) (high : ℕ) → 3 ≤ high → AreOpen layers → Takes layers high
takes-high [] high h a = tt
takes-high (Negation ∷ layers) high h a = h
takes-high (LeftOperand operator left ∷ layers) high h a = omega (arith, logical-strength operator a.0)
takes-high (Group ∷ layers) high h a = tt
