-- What is read of a text that is a self-defining term between apostrophes.
use Rattle.std.proofs.Common.{◌≡◌, ℕ, zero, suc, ◌+◌, ◌-◌, ◌<◌, ◌≤◌, ◌&&◌, true, List, [], ◌∷◌, ◌++◌, length, get_or, take, drop, refl, sym, ap, subst, ◌∙◌, arith, zero-add}
use Rattle.std.specs.Prelude.{Ok, Option, Some, None, IfSome}
use Rattle.std.specs.Char.{digit_value, to_ascii_uppercase}
use Rattle.std.specs.List.{list_all}
use Rattle.std.specs.Str.{chars, IsAscii}
use Rattle.std.proofs.lemmas.Bool.Decides.{nat_tests}
use Rattle.std.proofs.lemmas.Str.{chars-IsAscii, IsAscii-append}
use Rattle.std.proofs.lemmas.Str.Ascii.{IsAscii-nil}
use Rattle.plain_terms.proofs.ExpressionLaws.{reads_ordinary}
use Rattle.expression_grammar.specs.declared.character.Grammar.TheVariants.{Ordinary}
use Rattle.expression_grammar.specs.declared.character.Kind.TheVariants.{Quote}
use Rattle.expression_grammar.specs.declared.tree.Expr.{Expr}
use Rattle.expression_grammar.specs.declared.tree.Form.TheVariants.{Hexadecimal, Character}
use Rattle.expression_grammar.specs.Characters.{kind_of}
use Rattle.expression_grammar.specs.Readings.{read}
use Rattle.expression_grammar.specs.Spelling.{Placed, Piece, Gap, One, Capital, Digits, Characters, IsPiece, Reads, codes, placed, figures, is_figure, doubled, most_parts}
use Rattle.expression_grammar.specs.Trees.{Tree, Number, size}
use Rattle.expression_grammar.specs.Views.{tree_of}
use Rattle.expression_grammar.proofs.Completions.{placed-append}
use Rattle.expression_grammar.proofs.Leads.{lt-test}
use Rattle.expression_grammar.proofs.Names.{and-left, and-right}
use Rattle.hl_base.specs.Order.{ebcdic}
use Rattle.plain_terms.specs.Quoted.{IsHexadecimal, IsCharacter, is_single, IsTermOf, hexadecimal, character, IsQuoted}

-- Digits, one after the other.

pub digits_next : (digit : ℕ) (rest : List ℕ) → digit_value digit < 16 → list_all (is_figure Hexadecimal) (digit ∷ rest) ≡ list_all (is_figure Hexadecimal) rest
digits_next digit rest is = ap (λ b. b && list_all (is_figure Hexadecimal) rest) (lt-test (digit_value digit) 16 is)

pub digits_end : (left text : List ℕ) (bits : ℕ) → left ≡ [] → 0 < length text → length text ≤ 8 →
    list_all (is_figure Hexadecimal) left ≡ list_all (is_figure Hexadecimal) text → figures Hexadecimal bits left ≡ figures Hexadecimal 0 text → bits ≤ 4294967295 → IsHexadecimal text bits
digits_end left text bits none some few all valued small = record {
  some = some;
  few = few;
  all = sym all ∙ ap (list_all (is_figure Hexadecimal)) none;
  valued = sym valued ∙ ap (figures Hexadecimal bits) none;
  small = small;
}

-- Its characters are its bytes.

ascii_letter : (c upper : ℕ) → to_ascii_uppercase c ≡ upper → upper < 128 → c < 128
ascii_letter c upper is small = grind (arith, nat_tests)

ascii_figure : (c : ℕ) → is_figure Hexadecimal c ≡ true → c < 128
ascii_figure c is = grind (arith, nat_tests)

ascii_single : (c : ℕ) → is_single c ≡ true → c < 128
ascii_single c is = grind (arith, nat_tests)

pub ascii_more : (c : ℕ) (text : List ℕ) → c < 128 → IsAscii text → IsAscii (c ∷ text)
ascii_more c text small rest = λ i. by i
  where
    by : (i : ℕ) → get_or (c ∷ text) i 0 < 128
    by zero = small
    by (suc i) = rest i

pub ascii_none : IsAscii []
ascii_none = IsAscii-nil

ascii_figures : (text : List ℕ) → list_all (is_figure Hexadecimal) text ≡ true → IsAscii text
ascii_figures [] all = ascii_none
ascii_figures (c ∷ text) all =
    ascii_more c text (ascii_figure c (and-left (is_figure Hexadecimal c) (list_all (is_figure Hexadecimal) text) all))
    (ascii_figures text (and-right (is_figure Hexadecimal c) (list_all (is_figure Hexadecimal) text) all))

ascii_between : (letter : ℕ) (inner : List ℕ) → letter < 128 → IsAscii inner → IsAscii (letter ∷ 39 ∷ inner ++ 39 ∷ [])
ascii_between letter inner small is =
    ascii_more letter (39 ∷ inner ++ 39 ∷ []) small
    (ascii_more 39 (inner ++ 39 ∷ []) (omega arith) (IsAscii-append inner (39 ∷ []) is (ascii_more 39 [] (omega arith) ascii_none)))

ascii_term : (letter : ℕ) (inner : List ℕ) (tree : Tree) → IsTermOf letter inner tree → IsAscii (letter ∷ 39 ∷ inner ++ 39 ∷ [])
ascii_term letter inner tree (hexadecimal bits upper is same) =
    ascii_between letter inner (ascii_letter letter 88 upper (omega arith)) (ascii_figures inner is.all)
ascii_term letter inner tree (character bits upper is same) =
    ascii_between letter inner (ascii_letter letter 67 upper (omega arith))
    (subst IsAscii (sym is.only) (ascii_more is.one [] (ascii_single is.one is.single) ascii_none))

-- Its pieces.

pub codes-placed : (at : ℕ) (text : List ℕ) → codes (placed at text) ≡ text
codes-placed at [] = refl
codes-placed at (c ∷ text) = ap (λ cs. c ∷ cs) (codes-placed (at + 1) text)

pub length-placed : (at : ℕ) (text : List ℕ) → length (placed at text) ≡ length text
length-placed at [] = refl
length-placed at (c ∷ text) = ap suc (length-placed (at + 1) text)

quote-kind : kind_of 39 ≡ Quote
unfolding kind_of
quote-kind = refl

-- a letter, and a piece between apostrophes
between : (letter upper : ℕ) (inner : List ℕ) (piece : Piece) → to_ascii_uppercase letter ≡ upper → IsPiece Ordinary piece (placed 2 inner) →
    Reads Ordinary (Gap ∷ Capital upper ∷ One Quote ∷ piece ∷ One Quote ∷ Gap ∷ []) (placed 0 (letter ∷ 39 ∷ inner ++ 39 ∷ []))
between letter upper inner piece is fits =
    let last : Placed = record { at = 2 + length inner; code = 39 } in
    let first : Placed = record { at = 0; code = letter } in
    let second : Placed = record { at = 1; code = 39 } in (
      [],
      placed 0 (letter ∷ 39 ∷ inner ++ 39 ∷ []),
      refl,
      tt,
      (
        first ∷ [],
        placed 1 (39 ∷ inner ++ 39 ∷ []),
        refl,
        record { one = first; only = refl; upper = is },
        (
          second ∷ [],
          placed 2 (inner ++ 39 ∷ []),
          refl,
          record { one = second; only = refl; kind = quote-kind },
          (
            placed 2 inner,
            last ∷ [],
            placed-append 2 inner (39 ∷ []),
            fits,
            (last ∷ [], [], refl, record { one = last; only = refl; kind = quote-kind }, ([], [], refl, tt, refl)),
          ),
        ),
      ),
    )

one_part : 1 ≤ most_parts
one_part = omega arith

hexadecimal_reads : (letter : ℕ) (inner : List ℕ) (bits : ℕ) → to_ascii_uppercase letter ≡ 88 → IsHexadecimal inner bits →
    read Ordinary (letter ∷ 39 ∷ inner ++ 39 ∷ []) ≡ Ok (Number Hexadecimal bits)
hexadecimal_reads letter inner bits upper is = reads_ordinary (letter ∷ 39 ∷ inner ++ 39 ∷ []) (Number Hexadecimal bits) (record {
  spells = record {
    fits = tt;
    reads = between letter 88 inner (Digits Hexadecimal bits) upper (record {
      count = length inner;
      some = is.some;
      few = is.few;
      small = is.small;
      run = record {
        all = ap (list_all (is_figure Hexadecimal)) (codes-placed 2 inner) ∙ is.all;
        counted = length-placed 2 inner;
        valued = ap (figures Hexadecimal 0) (codes-placed 2 inner) ∙ is.valued;
      };
    });
  };
  small = one_part;
})

doubled-single : (c : ℕ) → is_single c ≡ true → doubled (c ∷ []) ≡ c ∷ []
unfolding kind_of
doubled-single c is = grind (arith, nat_tests)

character_reads : (letter : ℕ) (inner : List ℕ) (bits : ℕ) → to_ascii_uppercase letter ≡ 67 → IsCharacter inner bits →
    read Ordinary (letter ∷ 39 ∷ inner ++ 39 ∷ []) ≡ Ok (Number Character bits)
character_reads letter inner bits upper is = reads_ordinary (letter ∷ 39 ∷ inner ++ 39 ∷ []) (Number Character bits) (record {
  spells = record {
    fits = tt;
    reads = between letter 67 inner (Characters bits) upper (record {
      count = 1;
      some = omega arith;
      few = omega arith;
      small = is.small;
      body = record {
        characters = is.one ∷ [];
        written = codes-placed 2 inner ∙ is.only ∙ sym (doubled-single is.one is.single);
        counted = refl;
        valued = zero-add (ebcdic is.one) ∙ sym is.valued;
      };
    });
  };
  small = one_part;
})

term_reads : (letter : ℕ) (inner : List ℕ) (tree : Tree) → IsTermOf letter inner tree → read Ordinary (letter ∷ 39 ∷ inner ++ 39 ∷ []) ≡ Ok tree
term_reads letter inner tree (hexadecimal bits upper is same) = hexadecimal_reads letter inner bits upper is ∙ ap Ok (sym same)
term_reads letter inner tree (character bits upper is same) = character_reads letter inner bits upper is ∙ ap Ok (sym same)

term_small : (letter : ℕ) (inner : List ℕ) (tree : Tree) → IsTermOf letter inner tree → size tree ≤ most_parts
term_small letter inner tree (hexadecimal bits upper is same) = subst (λ t. size t ≤ most_parts) (sym same) one_part
term_small letter inner tree (character bits upper is same) = subst (λ t. size t ≤ most_parts) (sym same) one_part

pub quoted_reads : (text : List ℕ) (tree : Tree) → IsQuoted text tree → read Ordinary (chars text) ≡ Ok tree
quoted_reads text tree is =
    ap (read Ordinary) (ap chars is.written ∙ chars-IsAscii (is.letter ∷ 39 ∷ is.inner ++ 39 ∷ []) (ascii_term is.letter is.inner tree is.term))
    ∙ term_reads is.letter is.inner tree is.term

pub quoted_small : (text : List ℕ) (tree : Tree) → IsQuoted text tree → size tree ≤ most_parts
quoted_small text tree is = term_small is.letter is.inner tree is.term

-- Its parts.

front_and_last : (x : ℕ) (xs : List ℕ) → x ∷ xs ≡ take (length xs) (x ∷ xs) ++ get_or (x ∷ xs) (length xs) 0 ∷ []
front_and_last x [] = refl
front_and_last x (y ∷ xs) = ap (λ ys. x ∷ ys) (front_and_last y xs)

-- a letter, an apostrophe, what stands between, and an apostrophe
pub parts_between : (bytes : List ℕ) → 3 ≤ length bytes → get_or bytes 1 0 ≡ 39 → get_or bytes (length bytes - 1) 0 ≡ 39 →
    bytes ≡ get_or bytes 0 0 ∷ 39 ∷ take (length bytes - 1 - 2) (drop 2 bytes) ++ 39 ∷ []
parts_between [] some second last = absurd (omega (arith, some))
parts_between (a ∷ []) some second last = absurd (omega (arith, some))
parts_between (a ∷ b ∷ []) some second last = absurd (omega (arith, some))
parts_between (a ∷ b ∷ c ∷ rest) some second last =
    let at : length (a ∷ b ∷ c ∷ rest) - 1 ≡ suc (suc (length rest)) = omega arith in
    let few : length (a ∷ b ∷ c ∷ rest) - 1 - 2 ≡ length rest = omega arith in
    let end : get_or (c ∷ rest) (length rest) 0 ≡ 39 = ap (λ i. get_or (a ∷ b ∷ c ∷ rest) i 0) (sym at) ∙ last in
    ap (λ xs. a ∷ b ∷ xs)
    (front_and_last c rest ∙ ap (λ e. take (length rest) (c ∷ rest) ++ e ∷ []) end ∙ ap (λ n. take n (c ∷ rest) ++ 39 ∷ []) (sym few))
    ∙ ap (λ s. a ∷ s ∷ take (length (a ∷ b ∷ c ∷ rest) - 1 - 2) (c ∷ rest) ++ 39 ∷ []) second

pub quoted_found : (text : List ℕ) (letter : ℕ) (inner : List ℕ) (found : Option Expr) → text ≡ letter ∷ 39 ∷ inner ++ 39 ∷ [] →
    IfSome found (λ tree. IsTermOf letter inner (tree_of tree)) → IfSome found (λ tree. IsQuoted text (tree_of tree))
quoted_found text letter inner None written is = is
quoted_found text letter inner (Some tree) written is = record { letter = letter; inner = inner; written = written; term = is }
