-- What is read of a text, in the words of its reader.
use Rattle.std.proofs.Common.{◌≡◌, ℕ, List}
use Rattle.std.specs.Prelude.{Ok, Err}
use Rattle.expression_grammar.specs.declared.character.Grammar.TheVariants.{Ordinary}
use Rattle.expression_grammar.specs.declared.fault.SyntaxFault.{SyntaxFault}
use Rattle.expression_grammar.specs.declared.fault.SyntaxFault.TheVariants.{At, OutOfMemory}
use Rattle.expression_grammar.specs.Answers.{IsFault}
use Rattle.expression_grammar.specs.Readings.{Tells, read}
use Rattle.expression_grammar.specs.Spelling.{IsExpression, Spells, most_parts}
use Rattle.expression_grammar.specs.Trees.{Tree}
use Rattle.expression_grammar.proofs.Finds.{one-tree}
use Rattle.expression_grammar.proofs.FrontLaws.{read-finds}
use Rattle.expression_grammar.proofs.ReadLaws.{read-tree, read-fault}

-- what is read is the tree that is written
pub reads_ordinary : (text : List ℕ) (tree : Tree) → IsExpression (Spells Ordinary) most_parts text tree → read Ordinary text ≡ Ok tree
reads_ordinary text tree is = (read-tree (Spells Ordinary) text (read Ordinary text) (read-finds Ordinary text) (one-tree Ordinary) tree).1 is

-- and how far the text goes that is none
pub fails_ordinary : (text : List ℕ) (fault : SyntaxFault) → IsFault (Spells Ordinary) text fault → Tells (read Ordinary text) (Err fault)
fails_ordinary text (At count) is = (read-fault (Spells Ordinary) text (read Ordinary text) (read-finds Ordinary text) count).1 is
fails_ordinary text OutOfMemory is = tt
