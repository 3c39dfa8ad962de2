-- What is read of a text that is a sum of a place and a decimal number.
use Rattle.std.proofs.Common.{◌≡◌, ℕ, ◌+◌, ◌<◌, ◌≤◌, List, [], ◌∷◌, ◌++◌, length, refl, sym, ap, subst, ◌∙◌, arith, append-nil}
use Rattle.std.specs.Prelude.{Ok, Option, Some, None, IfSome}
use Rattle.std.specs.List.{list_all}
use Rattle.std.specs.Str.{chars, IsAscii}
use Rattle.std.proofs.lemmas.Str.{chars-IsAscii, IsAscii-append}
use Rattle.plain_terms.proofs.ExpressionLaws.{reads_ordinary}
use Rattle.expression_grammar.specs.declared.character.Grammar.TheVariants.{Ordinary}
use Rattle.expression_grammar.specs.declared.character.Kind.TheVariants.{Mark}
use Rattle.expression_grammar.specs.declared.tree.Expr.{Expr}
use Rattle.expression_grammar.specs.declared.tree.Form.TheVariants.{Decimal}
use Rattle.expression_grammar.specs.declared.tree.Operator.{Operator}
use Rattle.expression_grammar.specs.declared.tree.Operator.TheVariants.{Add, Subtract, Multiply}
use Rattle.expression_grammar.specs.Characters.{kind_of, strength}
use Rattle.expression_grammar.specs.Readings.{read}
use Rattle.expression_grammar.specs.Spelling.{Placed, Piece, Gap, One, Digits, Word, IsPiece, IsOne, IsWord, IsDigits, IsExpression, Reads, Spells, placed, figures, is_figure, most_parts}
use Rattle.expression_grammar.specs.Trees.{Tree, Number, Pair, size}
use Rattle.expression_grammar.specs.Views.{tree_of}
use Rattle.expression_grammar.proofs.Completions.{placed-append}
use Rattle.hl_base.specs.Symbols.{symbol_of}
use Rattle.plain_terms.specs.Sums.{IsPlace, here, named, IsSumOf, IsSum, added, taken}
use Rattle.plain_terms.specs.Terms.{IsDecimal}
use Rattle.plain_terms.proofs.Fronts.{decimal_small, symbol_small}
use Rattle.plain_terms.proofs.QuotedLaws.{ascii_more, ascii_none, codes-placed, length-placed}

-- Its characters are its bytes.

ascii_place : (text : List ℕ) (tree : Tree) → IsPlace text tree → IsAscii text
ascii_place text tree (here only same) = subst IsAscii (sym only) (ascii_more 42 [] (omega arith) ascii_none)
ascii_place text tree (named name is same) = symbol_small text name is

ascii_sum : (operator : Operator) (left right : List ℕ) (c : ℕ) (tree : Tree) → c < 128 → IsSumOf operator left right tree → IsAscii (left ++ c ∷ right)
ascii_sum operator left right c tree small is =
    IsAscii-append left (c ∷ right) (ascii_place left is.place is.stands) (ascii_more c right small (decimal_small right is.bits is.number))

-- Its pieces.

star : (text : List ℕ) → text ≡ 42 ∷ [] → IsOne (Mark Multiply) (placed 0 text)
unfolding kind_of
star text is = subst (λ t. IsOne (Mark Multiply) (placed 0 t)) (sym is) (record { one = record { at = 0; code = 42 }; only = refl; kind = refl })

word : (text name : List ℕ) → symbol_of text ≡ Some name → IsWord 0 name (placed 0 text)
word [] name is = absurd cc
word (c ∷ cs) name is = record {
  first = record { at = 0; code = c };
  others = placed 1 cs;
  both = refl;
  here = refl;
  named = ap symbol_of (codes-placed 0 (c ∷ cs)) ∙ is;
}

digits : (at : ℕ) (text : List ℕ) (bits : ℕ) → IsDecimal text bits → IsDigits Decimal bits (placed at text)
digits at text bits is = record {
  count = length text;
  some = is.some;
  few = is.few;
  small = is.small;
  run = record {
    all = ap (list_all (is_figure Decimal)) (codes-placed at text) ∙ is.all;
    counted = length-placed at text;
    valued = ap (figures Decimal 0) (codes-placed at text) ∙ is.valued;
  };
}

-- a piece, an operator and digits
joined : (left right : List ℕ) (c : ℕ) (operator : Operator) (piece : Piece) (bits : ℕ) → kind_of c ≡ Mark operator → IsPiece Ordinary piece (placed 0 left) → IsDecimal right bits →
    Reads Ordinary (Gap ∷ piece ∷ Gap ∷ One (Mark operator) ∷ Gap ∷ Digits Decimal bits ∷ Gap ∷ []) (placed 0 (left ++ c ∷ right))
joined left right c operator piece bits kind fits number =
    let at = 0 + length left in
    let sign : Placed = record { at = at; code = c } in
    let behind = placed (at + 1) right in (
      [],
      placed 0 (left ++ c ∷ right),
      refl,
      tt,
      (
        placed 0 left,
        placed at (c ∷ right),
        placed-append 0 left (c ∷ right),
        fits,
        (
          [],
          placed at (c ∷ right),
          refl,
          tt,
          (
            sign ∷ [],
            behind,
            refl,
            record { one = sign; only = refl; kind = kind },
            ([], behind, refl, tt, (behind, [], sym (append-nil behind), digits (at + 1) right bits number, ([], [], refl, tt, refl))),
          ),
        ),
      ),
    )

three : 3 ≤ most_parts
three = omega arith

pair_spelled : (operator : Operator) (left right : List ℕ) (c : ℕ) (place : Tree) (bits : ℕ) → kind_of c ≡ Mark operator → strength operator ≡ 5 → IsPlace left place → IsDecimal right bits →
    IsExpression (Spells Ordinary) most_parts (left ++ c ∷ right) (Pair operator place (Number Decimal bits))
pair_spelled operator left right c place bits kind weak (here only same) number =
    subst (λ p. IsExpression (Spells Ordinary) most_parts (left ++ c ∷ right) (Pair operator p (Number Decimal bits))) (sym same)
    (record {
      spells = record {
        fits = (refl, tt, omega (arith, weak), omega (arith, weak));
        reads = joined left right c operator (One (Mark Multiply)) bits kind (star left only) number;
      };
      small = three;
    })
pair_spelled operator left right c place bits kind weak (named name is same) number =
    subst (λ p. IsExpression (Spells Ordinary) most_parts (left ++ c ∷ right) (Pair operator p (Number Decimal bits))) (sym same)
    (record {
      spells = record {
        fits = (refl, tt, omega (arith, weak), omega (arith, weak));
        reads = joined left right c operator (Word 0 name) bits kind (word left name is) number;
      };
      small = three;
    })

-- What is read.

expression : (operator : Operator) (left right : List ℕ) (c : ℕ) (tree : Tree) → kind_of c ≡ Mark operator → strength operator ≡ 5 → IsSumOf operator left right tree →
    IsExpression (Spells Ordinary) most_parts (left ++ c ∷ right) tree
expression operator left right c tree kind weak is =
    subst (IsExpression (Spells Ordinary) most_parts (left ++ c ∷ right)) (sym is.pair)
    (pair_spelled operator left right c is.place is.bits kind weak is.stands is.number)

plus-kind : kind_of 43 ≡ Mark Add
unfolding kind_of
plus-kind = refl

minus-kind : kind_of 45 ≡ Mark Subtract
unfolding kind_of
minus-kind = refl

sum_spelled : (text : List ℕ) (tree : Tree) → IsSum text tree → IsAscii text × IsExpression (Spells Ordinary) most_parts text tree
sum_spelled text tree (added left right written is) =
    subst (λ t. IsAscii t × IsExpression (Spells Ordinary) most_parts t tree) (sym written)
    (ascii_sum Add left right 43 tree (omega arith) is, expression Add left right 43 tree plus-kind refl is)
sum_spelled text tree (taken left right written is) =
    subst (λ t. IsAscii t × IsExpression (Spells Ordinary) most_parts t tree) (sym written)
    (ascii_sum Subtract left right 45 tree (omega arith) is, expression Subtract left right 45 tree minus-kind refl is)

pub sum_reads : (text : List ℕ) (tree : Tree) → IsSum text tree → read Ordinary (chars text) ≡ Ok tree
sum_reads text tree is =
    let both = sum_spelled text tree is in
    ap (read Ordinary) (chars-IsAscii text both.0) ∙ reads_ordinary text tree both.1

pub sum_small : (text : List ℕ) (tree : Tree) → IsSum text tree → size tree ≤ most_parts
sum_small text tree is = let both = sum_spelled text tree is in both.1.small

-- What was found of its parts.

pub added_found : (text left right : List ℕ) (found : Option Expr) → text ≡ left ++ 43 ∷ right →
    IfSome found (λ tree. IsSumOf Add left right (tree_of tree)) → IfSome found (λ tree. IsSum text (tree_of tree))
added_found text left right None written is = is
added_found text left right (Some tree) written is = added left right written is

pub taken_found : (text left right : List ℕ) (found : Option Expr) → text ≡ left ++ 45 ∷ right →
    IfSome found (λ tree. IsSumOf Subtract left right (tree_of tree)) → IfSome found (λ tree. IsSum text (tree_of tree))
taken_found text left right None written is = is
taken_found text left right (Some tree) written is = taken left right written is
