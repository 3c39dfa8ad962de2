-- Plain characters of quoted texts: apostrophes twice, ampersands alone and in pairs, and the period behind a symbol.
use Rattle.std.proofs.Common.{◌≡◌, ℕ, Bool, true, false, List, [], ◌∷◌, ◌++◌, refl, sym, ap, ◌∙◌, subst, arith}
use Rattle.std.specs.Prelude.{◌||◌, ◌&&◌, ◌==◌, if◌then◌else◌}
use Rattle.std.proofs.lemmas.Bool.Decides.{nat_tests}
use Rattle.hl_base.specs.Symbols.{is_letter, is_symbol_character}
use Rattle.expression_grammar.specs.declared.character.Kind.{Kind}
use Rattle.expression_grammar.specs.declared.character.Kind.TheVariants as kind
use Rattle.expression_grammar.specs.Characters.{kind_of}
use Rattle.expression_grammar.specs.Spelling.{Placed, codes, quoted, quoted_one}
use Rattle.expression_grammar.specs.Trees.{Items, NoTrees, More, NoItems, Plain, Inserted}
use Rattle.character_grammar.specs.Texts.{is_lone, has_symbol, belongs, needs_period, ends_plain, ends_lone, AreItems}
use Rattle.character_grammar.specs.TextReading.{with_plain}
use Rattle.character_grammar.specs.TextStanding.{parted}
use Rattle.expression_grammar.proofs.CharacterLaws.{letter-kind, kind-letter_symbol, kind-digit_symbol, kind-open, IsNaming, by_letter, by_digit, symbol-kind}
use Rattle.expression_grammar.proofs.Pieces.{codes-append}

pub test : (u v : ℕ) → (u == v) ≡ true → u ≡ v
test u v e = grind (arith, nat_tests)

pub same-test : (u v : ℕ) → u ≡ v → (u == v) ≡ true
same-test u v e = grind (arith, nat_tests)

-- Kinds.

abbrev pub is_plain : Kind → Bool
is_plain kind.Quote = false
is_plain kind.Ampersand = false
is_plain _ = true

abbrev pub is_letter_kind : Kind → Bool
is_letter_kind kind.Letter = true
is_letter_kind _ = false

-- what goes on with the name of a symbol
abbrev pub is_name : Kind → Bool
is_name kind.Letter = true
is_name kind.Digit = true
is_name kind.Open = true
is_name _ = false

pub plain-code : (c : ℕ) → is_plain (kind_of c) ≡ true → (c == 38) ≡ false
unfolding kind_of
plain-code c i =
    let go : (b : Bool) → (c == 38) ≡ b → b ≡ false =
    elim [ true ↦ λ t. let e : is_plain (kind_of 38) ≡ true = subst (λ x. is_plain (kind_of x) ≡ true) (test c 38 t) i in cc | false ↦ λ t. refl ] in
    go (c == 38) refl

pub quoted-plain : (k : Kind) (c : ℕ) (cs : List ℕ) → is_plain k ≡ true → quoted_one k c cs ≡ c ∷ cs
quoted-plain kind.Quote c cs i = cc
quoted-plain _ c cs i = refl

pub no-letter : (c : ℕ) → is_letter_kind (kind_of c) ≡ false → is_letter c ≡ false
no-letter c i =
    let go : (b : Bool) → is_letter c ≡ b → b ≡ false =
    elim [ true ↦ λ t. let e : true ≡ false = ap is_letter_kind (sym (letter-kind c t)) ∙ i in cc | false ↦ λ t. refl ] in
    go (is_letter c) refl

naming-name : (c : ℕ) → IsNaming c → is_name (kind_of c) ≡ true
naming-name c (by_letter e) = ap is_name e
naming-name c (by_digit e) = ap is_name e

or-false : (a b : Bool) → a ≡ false → b ≡ false → (a || b) ≡ false
or-false true b e f = cc
or-false false b e f = f

open-name : (c : ℕ) → (c == 40) ≡ true → is_name (kind_of c) ≡ true
unfolding kind_of
open-name c t = subst (λ x. is_name (kind_of x) ≡ true) (sym (test c 40 t)) refl

-- what neither goes on with a name nor is a period belongs to no symbol
pub belongs-none : (c : ℕ) → is_name (kind_of c) ≡ false → (c == 46) ≡ false → belongs NoTrees c ≡ false
belongs-none c i f =
    let paren : (b : Bool) → (c == 40) ≡ b → b ≡ false = elim [ true ↦ λ t. let e : true ≡ false = sym (open-name c t) ∙ i in cc | false ↦ λ t. refl ] in
    let name : (b : Bool) → is_symbol_character c ≡ b → b ≡ false = elim [ true ↦ λ t. let e : true ≡ false = sym (naming-name c (symbol-kind c t)) ∙ i in cc | false ↦ λ t. refl ] in
    or-false (c == 46) ((c == 40) || is_symbol_character c) f (or-false (c == 40) (is_symbol_character c) (paren (c == 40) refl) (name (is_symbol_character c) refl))

-- Longer by a character.

quoted_one-append : (k : Kind) (c : ℕ) (cs ds : List ℕ) → quoted_one k c (cs ++ ds) ≡ quoted_one k c cs ++ ds
quoted_one-append kind.Quote c cs ds = refl
quoted_one-append _ c cs ds = refl

pub quoted-append : (cs : List ℕ) (c : ℕ) → quoted (cs ++ c ∷ []) ≡ quoted cs ++ quoted_one (kind_of c) c []
quoted-append [] c = refl
quoted-append (d ∷ cs) c = ap (quoted_one (kind_of d) d) (quoted-append cs c) ∙ quoted_one-append (kind_of d) d (quoted cs) (quoted_one (kind_of c) c [])

pub plain-longer : (plain : List ℕ) (c : ℕ) (a ds : List Placed) → codes ds ≡ quoted_one (kind_of c) c [] → codes a ≡ quoted plain → codes (a ++ ds) ≡ quoted (plain ++ c ∷ [])
plain-longer plain c a ds e i = codes-append a ds ∙ ap (λ xs. xs ++ codes ds) i ∙ ap (λ xs. quoted plain ++ xs) e ∙ sym (quoted-append plain c)

pub lone-append : (lone : Bool) (cs : List ℕ) (c : ℕ) → is_lone lone (cs ++ c ∷ []) ≡ (if is_lone lone cs then false else c == 38)
lone-append lone [] c = refl
lone-append lone (d ∷ cs) c = lone-append (if lone then false else d == 38) cs c

or-assoc : (a b c : Bool) → (a || (b || c)) ≡ ((a || b) || c)
or-assoc true b c = refl
or-assoc false b c = refl

or-none : (a : Bool) → (a || false) ≡ a
or-none true = refl
or-none false = refl

pub symbol-append : (lone : Bool) (cs : List ℕ) (c : ℕ) → has_symbol lone (cs ++ c ∷ []) ≡ (has_symbol lone cs || (is_lone lone cs && is_letter c))
symbol-append lone [] c = or-none (lone && is_letter c)
symbol-append lone (d ∷ cs) c =
    let next : Bool = if lone then false else d == 38 in
    ap (λ b. (lone && is_letter d) || b) (symbol-append next cs c) ∙ or-assoc (lone && is_letter d) (has_symbol next cs) (is_lone next cs && is_letter c)

pub and-none : (a b : Bool) → a ≡ false → (a && b) ≡ false
and-none true b e = cc
and-none false b e = refl

pub and-last : (a b : Bool) → b ≡ false → (a && b) ≡ false
and-last true b e = e
and-last false b e = refl

pub no-symbol : (cs : List ℕ) (c : ℕ) → has_symbol false cs ≡ false → (is_lone false cs && is_letter c) ≡ false → has_symbol false (cs ++ c ∷ []) ≡ false
no-symbol cs c e f = symbol-append false cs c ∙ or-false (has_symbol false cs) (is_lone false cs && is_letter c) e f

pub lone-false : (cs : List ℕ) (c : ℕ) → (c == 38) ≡ false → is_lone false (cs ++ c ∷ []) ≡ false
lone-false cs c f =
    lone-append false cs c ∙ (elim (is_lone false cs) as (λ b. (if b then false else c == 38) ≡ false) [ true ↦ refl | false ↦ f ])

pub lone-true : (cs : List ℕ) → is_lone false cs ≡ false → is_lone false (cs ++ 38 ∷ []) ≡ true
lone-true cs e = lone-append false cs 38 ∙ ap (λ b. if b then false else true) e

pub lone-past : (cs : List ℕ) (c : ℕ) → is_lone false cs ≡ true → is_lone false (cs ++ c ∷ []) ≡ false
lone-past cs c e = lone-append false cs c ∙ ap (λ b. if b then false else c == 38) e

-- The period behind a symbol.

pub period-none : (items : Items) → needs_period items [] ≡ false
period-none NoItems = refl
period-none (Plain others characters) = refl
period-none (Inserted others symbol subscripts) = refl

pub period-first : (items : Items) (c : ℕ) (cs ds : List ℕ) → needs_period items (c ∷ cs) ≡ needs_period items (c ∷ ds)
period-first NoItems c cs ds = refl
period-first (Plain others characters) c cs ds = refl
period-first (Inserted others symbol subscripts) c cs ds = refl

period-ampersand : (items : Items) → needs_period items (38 ∷ []) ≡ false
period-ampersand NoItems = refl
period-ampersand (Plain others characters) = refl
period-ampersand (Inserted others symbol NoTrees) = refl
period-ampersand (Inserted others symbol (More before last)) = refl

period-quote : (items : Items) → needs_period items (39 ∷ []) ≡ false
period-quote NoItems = refl
period-quote (Plain others characters) = refl
period-quote (Inserted others symbol NoTrees) = refl
period-quote (Inserted others symbol (More before last)) = refl

pub parted-ampersand : (items : Items) (plain : List ℕ) → parted items (plain ++ 38 ∷ []) ≡ needs_period items plain
parted-ampersand items [] = period-ampersand items ∙ sym (period-none items)
parted-ampersand items (c ∷ cs) = period-first items c (cs ++ 38 ∷ []) cs

pub parted-quote : (items : Items) (plain : List ℕ) → parted items (plain ++ 39 ∷ []) ≡ needs_period items plain
parted-quote items [] = period-quote items ∙ sym (period-none items)
parted-quote items (c ∷ cs) = period-first items c (cs ++ 39 ∷ []) cs

-- Plain characters as an item.

pub with_plain-are : (items : Items) (plain : List ℕ) → AreItems items → ends_plain items ≡ false → has_symbol false plain ≡ false → AreItems (with_plain items plain)
with_plain-are items [] a e s = a
with_plain-are items (c ∷ cs) a e s = (a, e, refl, s)

plain-lone : (items : Items) → ends_plain items ≡ false → ends_lone items ≡ false
plain-lone NoItems e = refl
plain-lone (Plain others characters) e = cc
plain-lone (Inserted others symbol subscripts) e = refl

pub with_plain-lone : (items : Items) (plain : List ℕ) → ends_plain items ≡ false → is_lone false plain ≡ false → ends_lone (with_plain items plain) ≡ false
with_plain-lone items [] e l = plain-lone items e
with_plain-lone items (c ∷ cs) e l = l

pub ampersand-once : 38 ∷ [] ≡ quoted_one (kind_of 38) 38 []
unfolding kind_of
ampersand-once = refl

pub no-codes : (a : List Placed) → codes a ≡ [] → a ≡ []
no-codes [] e = refl
no-codes (p ∷ a) e = cc

pub period-free : (c : ℕ) → c ≡ 46 → is_name (kind_of c) ≡ false
unfolding kind_of
period-free c e = ap (λ x. is_name (kind_of x)) e

-- what is neither a symbol character nor a parenthesis does not go on with a name
pub name-free : (c : ℕ) → (c == 40) ≡ false → is_symbol_character c ≡ false → is_name (kind_of c) ≡ false
name-free c f s = names (kind_of c) refl
  where
    names : (k : Kind) → kind_of c ≡ k → is_name k ≡ false
    names kind.Letter e = let yes : is_symbol_character c ≡ true = kind-letter_symbol c e in cc
    names kind.Digit e = let yes : is_symbol_character c ≡ true = kind-digit_symbol c e in cc
    names kind.Open e = let yes : (c == 40) ≡ true = same-test c 40 (kind-open c e) in cc
    names _ e = refl
