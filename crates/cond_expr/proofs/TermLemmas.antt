-- A text is a self-defining term exactly where it is an ordinary expression that is a number.
use Rattle.std.proofs.Common.{◌≡◌, ℕ, suc, ◌+◌, ◌-◌, ◌==◌, ◌&&◌, ◌||◌, Bool, true, false, List, [], ◌∷◌, ◌++◌, length, take, drop, Option, Some, None, length-append, append-nil, refl, sym, ap, ◌∙◌, subst, cond, arith, nat_lt, nat_le, nat_eq}
use Rattle.std.proofs.lemmas.Bool.{and_left, eqb-true}
use Rattle.std.proofs.lemmas.Bool.Decides.{nat_tests}
use Rattle.std.proofs.Math.Seq.{take-append_seam}
use Rattle.std.specs.List.{list_all}
use Rattle.std.specs.Cmp.Lexicographic.{pointwise}
use Rattle.std.specs.Int.{cast_signed, w32}
use Rattle.std.specs.Option.{option_map}
use Rattle.std.specs.Char.{to_ascii_uppercase}
use Rattle.expression_grammar.specs.declared.character.Grammar.TheVariants.{Ordinary as OrdinaryOne}
use Rattle.expression_grammar.specs.declared.character.Kind.{Kind}
use Rattle.expression_grammar.specs.declared.character.Kind.TheVariants.{Quote, Ampersand}
use Rattle.expression_grammar.specs.declared.tree.Form.{Form}
use Rattle.expression_grammar.specs.declared.tree.Form.TheVariants.{Decimal, Hexadecimal, Binary, Character}
use Rattle.expression_grammar.specs.Characters.{kind_of}
use Rattle.expression_grammar.specs.Trees.{Tree, Number}
use Rattle.expression_grammar.specs.Spelling.{Placed, placed, codes, Piece, Gap, One, Capital, Digits, Characters, Reads, IsPiece, IsGap, IsDigits, IsCharacters, Spells, number_spelled, is_figure, figures, most_of, greatest_of, bytes_of, doubled, twice}
use Rattle.cond_expr.specs.Terms.{are_figures, number_of_figures, halved, are_characters, number_of_characters, inside, number_behind, number_quoted, bits_of, term, number_in}

and-left : (a b : Bool) → (a && b) ≡ true → a ≡ true
and-left true b is = refl
and-left false b is = is

and-right : (a b : Bool) → (a && b) ≡ true → b ≡ true
and-right true b is = is
and-right false b is = cc

and-both : (a b : Bool) → a ≡ true → b ≡ true → (a && b) ≡ true
and-both true b one two = two
and-both false b one two = one

if-true : {A : Type 0} (b : Bool) (x y : A) → b ≡ true → cond b x y ≡ x
if-true true x y is = refl
if-true false x y is = cc

if-false : {A : Type 0} (b : Bool) (x y : A) → b ≡ false → cond b x y ≡ y
if-false true x y is = cc
if-false false x y is = refl

codes-placed : (at : ℕ) (text : List ℕ) → codes (placed at text) ≡ text
codes-placed at [] = refl
codes-placed at (c ∷ text) = ap (λ cs. c ∷ cs) (codes-placed (at + 1) text)

length-placed : (at : ℕ) (text : List ℕ) → length (placed at text) ≡ length text
length-placed at [] = refl
length-placed at (c ∷ text) = ap suc (length-placed (at + 1) text)

length-codes : (ps : List Placed) → length (codes ps) ≡ length ps
length-codes [] = refl
length-codes (p ∷ ps) = ap suc (length-codes ps)

codes-append : (ps qs : List Placed) → codes (ps ++ qs) ≡ codes ps ++ codes qs
codes-append [] qs = refl
codes-append (p ∷ ps) qs = ap (λ cs. p.code ∷ cs) (codes-append ps qs)

placed-append : (at : ℕ) (a b : List ℕ) → placed at (a ++ b) ≡ placed at a ++ placed (at + length a) b
placed-append at [] b = ap (λ n. placed n b) (omega arith)
placed-append at (c ∷ a) b =
    ap (λ ps. record { at = at; code = c } ∷ ps) (placed-append (at + 1) a b ∙ ap (λ n. placed (at + 1) a ++ placed n b) (omega arith))

pointwise-same : (text : List ℕ) → pointwise nat_eq text text ≡ true
pointwise-same [] = refl
pointwise-same (c ∷ text) = and-both (nat_eq c c) (pointwise nat_eq text text) (grind (arith, nat_tests)) (pointwise-same text)

pointwise-true : (a b : List ℕ) → pointwise nat_eq a b ≡ true → a ≡ b
pointwise-true [] [] is = refl
pointwise-true [] (d ∷ b) is = cc
pointwise-true (c ∷ a) [] is = cc
pointwise-true (c ∷ a) (d ∷ b) is =
    let one : c ≡ d = (let head = and-left (nat_eq c d) (pointwise nat_eq a b) is in grind (arith, nat_tests)) in
    let rest = pointwise-true a b (and-right (nat_eq c d) (pointwise nat_eq a b) is) in cc

kind-quote : (c : ℕ) → kind_of c ≡ Quote → c ≡ 39
unfolding kind_of
kind-quote c is = grind (arith, nat_tests)

quote-kind : kind_of 39 ≡ Quote
unfolding kind_of
quote-kind = refl

kind-ampersand : (c : ℕ) → kind_of c ≡ Ampersand → c ≡ 38
unfolding kind_of
kind-ampersand c is = grind (arith, nat_tests)

ampersand-kind : kind_of 38 ≡ Ampersand
unfolding kind_of
ampersand-kind = refl

no-gap : (front : List Placed) → IsGap OrdinaryOne front → front ≡ []
no-gap [] gap = refl
no-gap (p ∷ ps) gap = let no : false ≡ true = gap.0 in cc

inside-append : (a : ℕ) (body : List ℕ) (b : ℕ) → inside (a ∷ (body ++ b ∷ [])) ≡ body
inside-append a body b =
    let few : length (a ∷ (body ++ b ∷ [])) - 1 ≡ suc (length body) = omega (arith, length-append body (b ∷ [])) in
    ap (λ n. drop 1 (take n (a ∷ (body ++ b ∷ [])))) few ∙ take-append_seam body (b ∷ [])

-- whether a character is written twice
abbrev doubles : ℕ → Bool
doubles c = (c == 39) || (c == 38)

not-doubled : (b : Bool) (c : ℕ) (k : Kind) → doubles c ≡ b → kind_of c ≡ k → (k ≡ Quote → ⊥) → (k ≡ Ampersand → ⊥) → b ≡ false
not-doubled false c k both is quote ampersand = refl
not-doubled true c k both is quote ampersand = absurd (by (c == 39) refl both)
  where
    by : (t : Bool) → (c == 39) ≡ t → (t || (c == 38)) ≡ true → ⊥
    by true one or_other = quote (sym is ∙ ap kind_of (eqb-true c 39 one) ∙ quote-kind)
    by false one or_other = ampersand (sym is ∙ ap kind_of (eqb-true c 38 or_other) ∙ ampersand-kind)

halved-plain : (c : ℕ) (text : List ℕ) → doubles c ≡ false → halved (c ∷ text) ≡ c ∷ halved text
halved-plain c [] is = refl
halved-plain c (d ∷ rest) is = if-false (doubles c && (c == d)) (c ∷ halved rest) (c ∷ halved (d ∷ rest)) (and_left (doubles c) (c == d) is)

-- one apostrophe for two that are written, and one ampersand
halved-one : (k : Kind) (c : ℕ) (text : List ℕ) → kind_of c ≡ k → halved (twice k c text) ≡ c ∷ halved text
halved-one Quote c text is = subst (λ (d : ℕ). halved (d ∷ d ∷ text) ≡ d ∷ halved text) (sym (kind-quote c is)) refl
halved-one Ampersand c text is = subst (λ (d : ℕ). halved (d ∷ d ∷ text) ≡ d ∷ halved text) (sym (kind-ampersand c is)) refl
halved-one k c text is = halved-plain c text (not-doubled (doubles c) c k refl is (λ e. cc) (λ e. cc))

halved-doubled : (text : List ℕ) → halved (doubled text) ≡ text
halved-doubled [] = refl
halved-doubled (c ∷ text) = halved-one (kind_of c) c (doubled text) refl ∙ ap (λ cs. c ∷ cs) (halved-doubled text)

-- The numbers of pieces.

figures-sound : (form : Form) (bits : ℕ) (ds : List Placed) → IsDigits form bits ds → number_of_figures form (codes ds) ≡ Some bits
figures-sound form bits ds is =
    let run = is.run in
    let size : length (codes ds) ≡ is.count = length-codes ds ∙ run.counted in
    let some : nat_lt 0 (length (codes ds)) ≡ true = (let s = is.some in grind (arith, nat_tests)) in
    let few : nat_le (length (codes ds)) (most_of form) ≡ true = (let f = is.few in grind (arith, nat_tests)) in
    let small : nat_le (figures form 0 (codes ds)) (greatest_of form) ≡ true = (let v = run.valued in let m = is.small in grind (arith, nat_tests)) in
    if-true (are_figures form (codes ds) && nat_le (figures form 0 (codes ds)) (greatest_of form)) (Some (figures form 0 (codes ds))) None
    (and-both (are_figures form (codes ds)) (nat_le (figures form 0 (codes ds)) (greatest_of form))
    (and-both (list_all (is_figure form) (codes ds)) (nat_lt 0 (length (codes ds)) && nat_le (length (codes ds)) (most_of form)) run.all
    (and-both (nat_lt 0 (length (codes ds))) (nat_le (length (codes ds)) (most_of form)) some few)) small)
    ∙ ap Some run.valued

characters-sound : (bits : ℕ) (ds : List Placed) → IsCharacters bits ds → number_of_characters (codes ds) ≡ Some bits
characters-sound bits ds is =
    let body = is.body in
    let half : halved (codes ds) ≡ body.characters = ap halved body.written ∙ halved-doubled body.characters in
    let same : pointwise nat_eq (codes ds) (doubled (halved (codes ds))) ≡ true =
    subst (λ (t : List ℕ). pointwise nat_eq (codes ds) t ≡ true) (body.written ∙ sym (ap doubled half)) (pointwise-same (codes ds)) in
    let size : length (halved (codes ds)) ≡ is.count = ap length half ∙ body.counted in
    let value : bytes_of 0 (halved (codes ds)) ≡ bits = ap (bytes_of 0) half ∙ body.valued in
    let some : nat_lt 0 (length (halved (codes ds))) ≡ true = (let s = is.some in grind (arith, nat_tests)) in
    let few : nat_le (length (halved (codes ds))) 4 ≡ true = (let f = is.few in grind (arith, nat_tests)) in
    let small : nat_le (bytes_of 0 (halved (codes ds))) (greatest_of Character) ≡ true = (let m = is.small in grind (arith, nat_tests)) in
    if-true (are_characters (codes ds) && nat_le (bytes_of 0 (halved (codes ds))) (greatest_of Character)) (Some (bytes_of 0 (halved (codes ds)))) None
    (and-both (are_characters (codes ds)) (nat_le (bytes_of 0 (halved (codes ds))) (greatest_of Character))
    (and-both (pointwise nat_eq (codes ds) (doubled (halved (codes ds)))) (nat_lt 0 (length (halved (codes ds))) && nat_le (length (halved (codes ds))) 4) same
    (and-both (nat_lt 0 (length (halved (codes ds)))) (nat_le (length (halved (codes ds))) 4) some few)) small)
    ∙ ap Some value

some-of : (b : Bool) (v n : ℕ) → cond b (Some v) None ≡ Some n → (b ≡ true) × (v ≡ n)
some-of true v n is = (refl, (cc))
some-of false v n is = cc

figures-complete : (form : Form) (bits at : ℕ) (text : List ℕ) → number_of_figures form text ≡ Some bits → IsDigits form bits (placed at text)
figures-complete form bits at text is =
    let found = some-of (are_figures form text && nat_le (figures form 0 text) (greatest_of form)) (figures form 0 text) bits is in
    let all = and-left (are_figures form text) (nat_le (figures form 0 text) (greatest_of form)) found.0 in
    let small = and-right (are_figures form text) (nat_le (figures form 0 text) (greatest_of form)) found.0 in
    let each = and-left (list_all (is_figure form) text) (nat_lt 0 (length text) && nat_le (length text) (most_of form)) all in
    let counts = and-right (list_all (is_figure form) text) (nat_lt 0 (length text) && nat_le (length text) (most_of form)) all in
    let some = and-left (nat_lt 0 (length text)) (nat_le (length text) (most_of form)) counts in
    let few = and-right (nat_lt 0 (length text)) (nat_le (length text) (most_of form)) counts in
    record {
      count = length text;
      some = grind (arith, nat_tests);
      few = grind (arith, nat_tests);
      small = (let v = found.1 in grind (arith, nat_tests));
      run = record {
        all = ap (list_all (is_figure form)) (codes-placed at text) ∙ each;
        counted = length-placed at text;
        valued = ap (figures form 0) (codes-placed at text) ∙ found.1;
      };
    }

characters-complete : (bits at : ℕ) (text : List ℕ) → number_of_characters text ≡ Some bits → IsCharacters bits (placed at text)
characters-complete bits at text is =
    let found = some-of (are_characters text && nat_le (bytes_of 0 (halved text)) (greatest_of Character)) (bytes_of 0 (halved text)) bits is in
    let all = and-left (are_characters text) (nat_le (bytes_of 0 (halved text)) (greatest_of Character)) found.0 in
    let small = and-right (are_characters text) (nat_le (bytes_of 0 (halved text)) (greatest_of Character)) found.0 in
    let same = and-left (pointwise nat_eq text (doubled (halved text))) (nat_lt 0 (length (halved text)) && nat_le (length (halved text)) 4) all in
    let counts = and-right (pointwise nat_eq text (doubled (halved text))) (nat_lt 0 (length (halved text)) && nat_le (length (halved text)) 4) all in
    let some = and-left (nat_lt 0 (length (halved text))) (nat_le (length (halved text)) 4) counts in
    let few = and-right (nat_lt 0 (length (halved text))) (nat_le (length (halved text)) 4) counts in
    record {
      count = length (halved text);
      some = grind (arith, nat_tests);
      few = grind (arith, nat_tests);
      small = (let v = found.1 in grind (arith, nat_tests));
      body = record {
        characters = halved text;
        written = codes-placed at text ∙ pointwise-true text (doubled (halved text)) same;
        counted = refl;
        valued = found.1;
      };
    }

-- Gaps are empty.

gap-first : (ks : List Piece) (cs : List Placed) → Reads OrdinaryOne (Gap ∷ ks) cs → Reads OrdinaryOne ks cs
gap-first ks cs r = subst (Reads OrdinaryOne ks) (sym (r.2 ∙ ap (λ f. f ++ r.1) (no-gap r.0 r.3))) r.4

gap-last : (cs : List Placed) → Reads OrdinaryOne (Gap ∷ []) cs → cs ≡ []
gap-last cs r = gap-first [] cs r

-- What is read as a number has these bits.

decimal-digits : (bits : ℕ) (ds : List Placed) → IsDigits Decimal bits ds → bits_of (codes ds) ≡ Some bits
decimal-digits bits [] is = let some = is.some in let counted = is.run.counted in absurd (omega arith)
decimal-digits bits (p ∷ ds) is =
    if-true (is_figure Decimal p.code) (number_of_figures Decimal (codes (p ∷ ds))) (number_quoted (to_ascii_uppercase p.code) (codes ds))
    (and-left (is_figure Decimal p.code) (list_all (is_figure Decimal) (codes ds)) is.run.all)
    ∙ figures-sound Decimal bits (p ∷ ds) is

decimal-sound : (text : List ℕ) (bits : ℕ) → Reads OrdinaryOne (Gap ∷ Digits Decimal bits ∷ Gap ∷ []) (placed 0 text) → bits_of text ≡ Some bits
decimal-sound text bits r =
    let d = gap-first (Digits Decimal bits ∷ Gap ∷ []) (placed 0 text) r in
    let whole : text ≡ codes d.0 = sym (codes-placed 0 text) ∙ ap codes (d.2 ∙ ap (λ b. d.0 ++ b) (gap-last d.1 d.4) ∙ append-nil d.0) in
    subst (λ (t : List ℕ). bits_of t ≡ Some bits) (sym whole) (decimal-digits bits d.0 d.3)

record InQuotes (text : List ℕ) (letter : ℕ) (body : Piece) : Type 0 where
  first : ℕ
  within : List Placed
  whole : text ≡ first ∷ 39 ∷ (codes within ++ 39 ∷ [])
  upper : to_ascii_uppercase first ≡ letter
  piece : IsPiece OrdinaryOne body within

in-quotes : (text : List ℕ) (letter : ℕ) (body : Piece) →
    Reads OrdinaryOne (Gap ∷ Capital letter ∷ One Quote ∷ body ∷ One Quote ∷ Gap ∷ []) (placed 0 text) → InQuotes text letter body
in-quotes text letter body r =
    let a = gap-first (Capital letter ∷ One Quote ∷ body ∷ One Quote ∷ Gap ∷ []) (placed 0 text) r in
    let q = a.4 in
    let b = q.4 in
    let z = b.4 in
    let last : b.1 ≡ z.3.one ∷ [] = z.2 ∙ ap (λ e. z.0 ++ e) (gap-last z.1 z.4) ∙ ap (λ f. f ++ []) z.3.only in
    let behind : q.1 ≡ b.0 ++ z.3.one ∷ [] = b.2 ∙ ap (λ e. b.0 ++ e) last in
    let quoted : a.1 ≡ q.3.one ∷ (b.0 ++ z.3.one ∷ []) = q.2 ∙ ap (λ e. q.0 ++ e) behind ∙ ap (λ f. f ++ (b.0 ++ z.3.one ∷ [])) q.3.only in
    let all : placed 0 text ≡ a.3.one ∷ q.3.one ∷ (b.0 ++ z.3.one ∷ []) =
    a.2 ∙ ap (λ e. a.0 ++ e) quoted ∙ ap (λ f. f ++ q.3.one ∷ (b.0 ++ z.3.one ∷ [])) a.3.only in
    record {
      first = a.3.one.code;
      within = b.0;
      whole = sym (codes-placed 0 text)
          ∙ ap codes all
          ∙ ap (λ cs. a.3.one.code ∷ q.3.one.code ∷ cs) (codes-append b.0 (z.3.one ∷ []))
          ∙ ap (λ c. a.3.one.code ∷ c ∷ (codes b.0 ++ z.3.one.code ∷ [])) (kind-quote q.3.one.code q.3.kind)
          ∙ ap (λ c. a.3.one.code ∷ 39 ∷ (codes b.0 ++ c ∷ [])) (kind-quote z.3.one.code z.3.kind);
      upper = a.3.upper;
      piece = b.3;
    }

quoted-bits : (c letter n : ℕ) (cs : List ℕ) → to_ascii_uppercase c ≡ letter → is_figure Decimal c ≡ false → number_behind letter cs ≡ Some n →
    bits_of (c ∷ 39 ∷ (cs ++ 39 ∷ [])) ≡ Some n
quoted-bits c letter n cs upper plain is =
    let rest = 39 ∷ (cs ++ 39 ∷ []) in
    let body : inside rest ≡ cs = inside-append 39 cs 39 in
    let same : pointwise nat_eq rest (39 ∷ (inside rest ++ 39 ∷ [])) ≡ true =
    subst (λ (b : List ℕ). pointwise nat_eq rest (39 ∷ (b ++ 39 ∷ [])) ≡ true) (sym body) (pointwise-same rest) in
    if-false (is_figure Decimal c) (number_of_figures Decimal (c ∷ rest)) (number_quoted (to_ascii_uppercase c) rest) plain
    ∙ if-true (pointwise nat_eq rest (39 ∷ (inside rest ++ 39 ∷ []))) (number_behind (to_ascii_uppercase c) (inside rest)) None same
    ∙ ap (λ b. number_behind (to_ascii_uppercase c) b) body
    ∙ ap (λ l. number_behind l cs) upper
    ∙ is

quoted-sound : (text : List ℕ) (letter n : ℕ) (body : Piece) → InQuotes text letter body →
    ((c : ℕ) → to_ascii_uppercase c ≡ letter → is_figure Decimal c ≡ false) →
    ((ds : List Placed) → IsPiece OrdinaryOne body ds → number_behind letter (codes ds) ≡ Some n) → bits_of text ≡ Some n
quoted-sound text letter n body quoted plain numbered =
    subst (λ (t : List ℕ). bits_of t ≡ Some n) (sym quoted.whole)
    (quoted-bits quoted.first letter n (codes quoted.within) quoted.upper (plain quoted.first quoted.upper) (numbered quoted.within quoted.piece))

plain-x : (c : ℕ) → to_ascii_uppercase c ≡ 88 → is_figure Decimal c ≡ false
plain-x c is = grind (arith, nat_tests)

plain-b : (c : ℕ) → to_ascii_uppercase c ≡ 66 → is_figure Decimal c ≡ false
plain-b c is = grind (arith, nat_tests)

plain-c : (c : ℕ) → to_ascii_uppercase c ≡ 67 → is_figure Decimal c ≡ false
plain-c c is = grind (arith, nat_tests)

sound : (form : Form) (bits : ℕ) (text : List ℕ) → Reads OrdinaryOne (Gap ∷ number_spelled form bits (Gap ∷ [])) (placed 0 text) → bits_of text ≡ Some bits
sound Decimal bits text r = decimal-sound text bits r
sound Hexadecimal bits text r =
    quoted-sound text 88 bits (Digits Hexadecimal bits) (in-quotes text 88 (Digits Hexadecimal bits) r) plain-x (figures-sound Hexadecimal bits)
sound Binary bits text r = quoted-sound text 66 bits (Digits Binary bits) (in-quotes text 66 (Digits Binary bits) r) plain-b (figures-sound Binary bits)
sound Character bits text r = quoted-sound text 67 bits (Characters bits) (in-quotes text 67 (Characters bits) r) plain-c (characters-sound bits)

-- What has bits is read as a number.

pub record IsNumber (text : List ℕ) (bits : ℕ) : Type 0 where
  pub form : Form
  pub reads : Reads OrdinaryOne (Gap ∷ number_spelled form bits (Gap ∷ [])) (placed 0 text)

quotes-read : (c letter : ℕ) (body : Piece) (ds : List ℕ) → to_ascii_uppercase c ≡ letter → IsPiece OrdinaryOne body (placed 2 ds) →
    Reads OrdinaryOne (Gap ∷ Capital letter ∷ One Quote ∷ body ∷ One Quote ∷ Gap ∷ []) (placed 0 (c ∷ 39 ∷ (ds ++ 39 ∷ [])))
quotes-read c letter body ds upper piece =
    let p : Placed = record { at = 0; code = c } in
    let q : Placed = record { at = 1; code = 39 } in
    let z : Placed = record { at = 2 + length ds; code = 39 } in
    let whole = placed 2 (ds ++ 39 ∷ []) in (
      [],
      p ∷ q ∷ whole,
      refl,
      tt,
      (
        p ∷ [],
        q ∷ whole,
        refl,
        record { one = p; only = refl; upper = upper },
        (
          q ∷ [],
          whole,
          refl,
          record { one = q; only = refl; kind = quote-kind },
          (
            placed 2 ds,
            z ∷ [],
            placed-append 2 ds (39 ∷ []),
            piece,
            (z ∷ [], [], refl, record { one = z; only = refl; kind = quote-kind }, ([], [], refl, tt, refl)),
          ),
        ),
      ),
    )

letter-complete : (c bits : ℕ) (ds : List ℕ) → number_behind (to_ascii_uppercase c) ds ≡ Some bits → IsNumber (c ∷ 39 ∷ (ds ++ 39 ∷ [])) bits
letter-complete c bits ds is = hexadecimal (to_ascii_uppercase c == 88) refl is
  where
    character : (b : Bool) → (to_ascii_uppercase c == 67) ≡ b → cond b (number_of_characters ds) None ≡ Some bits → IsNumber (c ∷ 39 ∷ (ds ++ 39 ∷ [])) bits
    character true one known =
        record { form = Character; reads = quotes-read c 67 (Characters bits) ds (eqb-true (to_ascii_uppercase c) 67 one) (characters-complete bits 2 ds known) }
    character false one known = cc

    binary : (b : Bool) → (to_ascii_uppercase c == 66) ≡ b →
        cond b (number_of_figures Binary ds) (cond (to_ascii_uppercase c == 67) (number_of_characters ds) None) ≡ Some bits → IsNumber (c ∷ 39 ∷ (ds ++ 39 ∷ [])) bits
    binary true one known =
        record { form = Binary; reads = quotes-read c 66 (Digits Binary bits) ds (eqb-true (to_ascii_uppercase c) 66 one) (figures-complete Binary bits 2 ds known) }
    binary false one known = character (to_ascii_uppercase c == 67) refl known

    hexadecimal : (b : Bool) → (to_ascii_uppercase c == 88) ≡ b →
        cond b (number_of_figures Hexadecimal ds)
        (cond (to_ascii_uppercase c == 66) (number_of_figures Binary ds) (cond (to_ascii_uppercase c == 67) (number_of_characters ds) None))
        ≡ Some bits →
        IsNumber (c ∷ 39 ∷ (ds ++ 39 ∷ [])) bits
    hexadecimal true one known =
        record { form = Hexadecimal; reads = quotes-read c 88 (Digits Hexadecimal bits) ds (eqb-true (to_ascii_uppercase c) 88 one) (figures-complete Hexadecimal bits 2 ds known) }
    hexadecimal false one known = binary (to_ascii_uppercase c == 66) refl known

quoted-complete : (c bits : ℕ) (rest : List ℕ) (b : Bool) → pointwise nat_eq rest (39 ∷ (inside rest ++ 39 ∷ [])) ≡ b →
    cond b (number_behind (to_ascii_uppercase c) (inside rest)) None ≡ Some bits → IsNumber (c ∷ rest) bits
quoted-complete c bits rest true same known =
    subst (λ (t : List ℕ). IsNumber (c ∷ t) bits) (sym (pointwise-true rest (39 ∷ (inside rest ++ 39 ∷ [])) same)) (letter-complete c bits (inside rest) known)
quoted-complete c bits rest false same known = cc

complete-by : (c bits : ℕ) (rest : List ℕ) (b : Bool) → is_figure Decimal c ≡ b →
    cond b (number_of_figures Decimal (c ∷ rest)) (number_quoted (to_ascii_uppercase c) rest) ≡ Some bits → IsNumber (c ∷ rest) bits
complete-by c bits rest true figure known =
    record {
      form = Decimal;
      reads = (
        [],
        placed 0 (c ∷ rest),
        refl,
        tt,
        (placed 0 (c ∷ rest), [], sym (append-nil (placed 0 (c ∷ rest))), figures-complete Decimal bits 0 (c ∷ rest) known, ([], [], refl, tt, refl)),
      );
    }
complete-by c bits rest false figure known = quoted-complete c bits rest (pointwise nat_eq rest (39 ∷ (inside rest ++ 39 ∷ []))) refl known

complete : (text : List ℕ) (bits : ℕ) → bits_of text ≡ Some bits → IsNumber text bits
complete [] bits known = cc
complete (c ∷ rest) bits known = complete-by c bits rest (is_figure Decimal c) refl known

-- What reading a text as an ordinary expression tells.

no-bits : (o : Option ℕ) → ((bits : ℕ) → o ≡ Some bits → ⊥) → option_map (cast_signed w32) o ≡ None
no-bits None never = refl
no-bits (Some bits) never = absurd (never bits refl)

spelled-number : (text : List ℕ) (bits : ℕ) → bits_of text ≡ Some bits → (form : Form) × Spells OrdinaryOne text (Number form bits)
spelled-number text bits known = let is = complete text bits known in (is.form, record { fits = tt; reads = is.reads })

-- the tree of a text says whether it is a term
pub term-tree : (text : List ℕ) (tree : Tree) → Spells OrdinaryOne text tree → ((other : Tree) → Spells OrdinaryOne text other → tree ≡ other) →
    number_in tree ≡ term text
term-tree text (Number form bits) spells one = sym (ap (option_map (cast_signed w32)) (sound form bits text spells.reads))
term-tree text tree spells one =
    sym (no-bits (bits_of text) (λ bits known. let is = spelled-number text bits known in let same : tree ≡ Number is.0 bits = one (Number is.0 bits) is.1 in cc))

-- a text that no number is written as is no term
pub term-none : (text : List ℕ) → ((form : Form) (bits : ℕ) → Spells OrdinaryOne text (Number form bits) → ⊥) → term text ≡ None
term-none text never = no-bits (bits_of text) (λ bits known. let is = spelled-number text bits known in never is.0 bits is.1)
