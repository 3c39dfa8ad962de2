-- What is seen at a glance is what is read.
use Rattle.std.proofs.Common.{◌≡◌, ◌∙◌, ℕ, List, [], ◌∷◌, refl, ap, arith}
use Rattle.std.specs.Prelude.{Option, Some, None, IfSome}
use Rattle.std.specs.Str.{chars}
use Rattle.std.proofs.lemmas.Str.{chars-IsAscii}
use Rattle.expression_grammar.specs.declared.character.Grammar.TheVariants.{Ordinary}
use Rattle.expression_grammar.specs.declared.character.Kind.TheVariants.{Mark}
use Rattle.expression_grammar.specs.declared.tree.Expr.{Expr}
use Rattle.expression_grammar.specs.declared.tree.Operator.TheVariants.{Multiply}
use Rattle.expression_grammar.specs.Characters.{kind_of}
use Rattle.expression_grammar.specs.Readings.{read}
use Rattle.expression_grammar.specs.Spelling.{IsExpression, Spells, Placed, most_parts}
use Rattle.expression_grammar.specs.Trees.{Tree, Here}
use Rattle.expression_grammar.specs.Views.{tree_of}
use Rattle.plain_terms.specs.Glances.{IsRead}
use Rattle.plain_terms.specs.Quoted.{IsQuoted}
use Rattle.plain_terms.specs.Sums.{IsSum}
use Rattle.plain_terms.specs.Terms.{IsTerm}
use Rattle.plain_terms.proofs.ExpressionLaws.{reads_ordinary}
use Rattle.plain_terms.proofs.Fronts.{begins_alone}
use Rattle.plain_terms.proofs.QuotedLaws.{ascii_more, ascii_none, quoted_reads, quoted_small}
use Rattle.plain_terms.proofs.SumLaws.{sum_reads, sum_small}

star : kind_of 42 ≡ Mark Multiply
unfolding kind_of
star = refl

star_spelled : IsExpression (Spells Ordinary) most_parts (42 ∷ []) Here
star_spelled =
    let one : Placed = record { at = 0; code = 42 } in
    record {
      spells = record {
        fits = refl;
        reads = ([], one ∷ [], refl, tt, (one ∷ [], [], refl, record { one = one; only = refl; kind = star }, ([], [], refl, tt, refl)));
      };
      small = omega arith;
    }

-- `*` alone
pub star_read : (text : List ℕ) → text ≡ 42 ∷ [] → IsRead (chars text) Here
star_read text is = record {
  whole = ap (λ t. read Ordinary (chars t)) is ∙ ap (read Ordinary) (chars-IsAscii (42 ∷ []) (ascii_more 42 [] (omega arith) ascii_none)) ∙ reads_ordinary (42 ∷ []) Here star_spelled;
  small = omega arith;
}

pub quoted_seen : (text : List ℕ) (found : Option Expr) → IfSome found (λ tree. IsQuoted text (tree_of tree)) → IfSome found (λ tree. IsRead (chars text) (tree_of tree))
quoted_seen text None is = is
quoted_seen text (Some tree) is = record { whole = quoted_reads text (tree_of tree) is; small = quoted_small text (tree_of tree) is }

term_read : (text : List ℕ) (tree : Tree) → IsTerm text tree → IsRead (chars text) tree
term_read text tree is = let whole = begins_alone text tree is in record { whole = whole.whole; small = whole.small }

pub term_found : (text : List ℕ) (found : Option Expr) → IfSome found (λ tree. IsTerm text (tree_of tree)) → IfSome found (λ tree. IsRead (chars text) (tree_of tree))
term_found text None is = is
term_found text (Some tree) is = term_read text (tree_of tree) is

pub sum_found : (text : List ℕ) (found : Option Expr) → IfSome found (λ tree. IsSum text (tree_of tree)) → IfSome found (λ tree. IsRead (chars text) (tree_of tree))
sum_found text None is = is
sum_found text (Some tree) is = record { whole = sum_reads text (tree_of tree) is; small = sum_small text (tree_of tree) is }
